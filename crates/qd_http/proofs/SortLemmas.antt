-- Bytes begin with a request, or wait for more, or are refused, and never two of these.
use Rattle.std.proofs.Common.{◌≡◌, ℕ, ◌<◌, ◌≤◌, ◌⊎◌, inl, inr, List, [], ◌∷◌, ◌++◌, length, take, drop, refl, sym, ap, ◌∙◌, subst, arith, append_assoc, length-append, Option, Some, None}
use Rattle.std.proofs.lemmas.Bool.{cases_lt}
use Rattle.std.proofs.lemmas.List.{append-nil, append_cancel_left, take-append-drop, length-take}
use Rattle.httparse.specs.Grammar.{RequestHead, print_request, ReadsRequest, NeverHasRequest}
use Rattle.httparse.proofs.GrammarLemmas.{ReadsRequest-append, request_unique}
use Rattle.qd_http.specs.declared.limits.TheConstants.{MAX_FIELDS, MAX_HEAD_BYTES}
use Rattle.qd_http.specs.Heads.{BeginsHead, BeginsNoHead}
use Rattle.qd_http.specs.Fields.{body_size, pairs_of}
use Rattle.qd_http.specs.Steps.{BeginsNone, BeginsRequest, IsNoHead, IsUnfinished, LacksHead}
use Rattle.qd_http.specs.declared.lines.Lines.TheVariants as lines
use Rattle.qd_http.specs.Reading.{lines_of}
use Rattle.qd_http.proofs.EndLemmas.{done_with_empty_line, empty_line_there, empty_more, ends_or_open, first_end, split_le}
use Rattle.qd_http.proofs.HeadLemmas.{reads_all}
use Rattle.qd_http.proofs.DecideLemmas.{HasHead, decide_head}

-- bytes begin with a request
abbrev pub HasRequest : List ℕ → Type 0
HasRequest bytes = (head : RequestHead) × (body : List ℕ) × (rest : List ℕ) × BeginsRequest bytes head body rest

abbrev pub Sort : List ℕ → Type 0
Sort bytes = IsUnfinished bytes ⊎ BeginsNone bytes ⊎ HasRequest bytes

-- ---- one head

same_head : (bytes : List ℕ) (a b : RequestHead) (r q : List ℕ) → BeginsHead bytes a r → BeginsHead bytes b q → (a ≡ b) × (r ≡ q)
same_head bytes a b r q x y = request_unique bytes a b r q x.reads y.reads

same_size : (bytes : List ℕ) (a b : RequestHead) (r q : List ℕ) → BeginsHead bytes a r → BeginsHead bytes b q → body_size (pairs_of a) ≡ body_size (pairs_of b)
same_size bytes a b r q x y = ap (λ (h : RequestHead). body_size (pairs_of h)) (same_head bytes a b r q x y).0

some_is : (n m : ℕ) → Some n ≡ Some m → n ≡ m
some_is n m e = cc

some_none : (n : ℕ) → Some n ≡ None → ⊥
some_none n e = cc

-- ---- never two

pub never_both : (bytes : List ℕ) → IsUnfinished bytes → BeginsNone bytes → ⊥
never_both bytes (inl a) (inl b) = neither b.hopeless
  where
    neither : (MAX_HEAD_BYTES < length bytes) ⊎ IsNoHead bytes → ⊥
    neither (inl full) = absurd (omega (arith, a.room))
    neither (inr none) = a.possible none
never_both bytes (inl a) (inr b) = a.none b.head b.rest b.begins
never_both bytes (inr a) (inl b) = b.none a.head a.rest a.begins
never_both bytes (inr a) (inr b) =
    some_none a.size (sym a.told ∙ (same_size bytes a.head b.head a.rest b.rest a.begins b.begins ∙ b.untold))

pub request_is_whole : (bytes : List ℕ) → HasRequest bytes → IsUnfinished bytes → ⊥
request_is_whole bytes h (inl a) = a.none h.0 (h.1 ++ h.2) h.3.begins
request_is_whole bytes h (inr a) =
    let same = same_head bytes a.head h.0 a.rest (h.1 ++ h.2) a.begins h.3.begins in
    let size : a.size ≡ length h.1 = some_is a.size (length h.1) (sym a.told ∙ (same_size bytes a.head h.0 a.rest (h.1 ++ h.2) a.begins h.3.begins ∙ h.3.whole)) in
    absurd (omega (arith, a.missing, ap length same.1, length-append h.1 h.2))

pub request_is_some : (bytes : List ℕ) → HasRequest bytes → BeginsNone bytes → ⊥
request_is_some bytes h (inl b) = b.none h.0 (h.1 ++ h.2) h.3.begins
request_is_some bytes h (inr b) =
    some_none (length h.1) (sym h.3.whole ∙ (same_size bytes h.0 b.head (h.1 ++ h.2) b.rest h.3.begins b.begins ∙ b.untold))

-- the request with which bytes begin is one
pub request_one : (bytes : List ℕ) (a b : RequestHead) (body body' rest rest' : List ℕ) → BeginsRequest bytes a body rest → BeginsRequest bytes b body' rest' → (a ≡ b) × (body ≡ body') × (rest ≡ rest')
request_one bytes a b body body' rest rest' x y =
    let same = same_head bytes a b (body ++ rest) (body' ++ rest') x.begins y.begins in
    let size : length body ≡ length body' = some_is (length body) (length body') (sym x.whole ∙ (same_size bytes a b (body ++ rest) (body' ++ rest') x.begins y.begins ∙ y.whole)) in
    let split = split_le body rest body' rest' same.1 (omega arith) in
    let none : split.0 ≡ [] = empty split.0 (omega (arith, ap length split.1, length-append body split.0)) in
    let bodies : body ≡ body' = sym (split.1 ∙ (ap (λ t. body ++ t) none ∙ append-nil body)) in
    (same.0, bodies, append_cancel_left body' rest rest' (ap (λ t. t ++ rest) (sym bodies) ∙ same.1))
  where
    empty : (m : List ℕ) → length m ≡ 0 → m ≡ []
    empty [] e = refl
    empty (x ∷ m) e = absurd (omega arith)

-- ---- always one

-- of a body at least n bytes came, or fewer
part_or_less : (n : ℕ) (rest : List ℕ) → ((body : List ℕ) × (more : List ℕ) × (length body ≡ n) × (rest ≡ body ++ more)) ⊎ (length rest < n)
part_or_less n rest =
    elim (cases_lt (length rest) n) [
      | inl less ↦ inr less
      | inr enough ↦ inl (take n rest, drop n rest, omega (arith, length-take n rest), sym (take-append-drop n rest))
    ]

option_or_none : {A : Type 0} (o : Option A) → ((x : A) × (o ≡ Some x)) ⊎ (o ≡ None)
option_or_none None = inr refl
option_or_none (Some x) = inl (x, refl)

sort_head : (bytes : List ℕ) (head : RequestHead) (rest : List ℕ) → BeginsHead bytes head rest → Sort bytes
sort_head bytes head rest h =
    elim (option_or_none (body_size (pairs_of head))) [
      | inl some ↦ elim (part_or_less some.0 rest) [
        | inl p ↦ inr (inr (
          head,
          p.0,
          p.1,
          record {
            begins = record { reads = subst (ReadsRequest bytes head) p.3 h.reads; short = h.short; few = h.few };
            whole = some.1 ∙ ap (λ n. Some n) (sym p.2);
          },
        ))
        | inr less ↦ inl (inr (record { head = head; rest = rest; size = some.0; begins = h; told = some.1; missing = less }))
      ]
      | inr none ↦ inr (inl (inr (record { head = head; rest = rest; begins = h; untold = none })))
    ]

-- a head that is past the limits
sort_past : (bytes : List ℕ) (head : RequestHead) (rest : List ℕ) → ReadsRequest bytes head rest → (BeginsHead bytes head rest → ⊥) → Sort bytes
sort_past bytes head rest reads past =
    elim (cases_lt MAX_HEAD_BYTES (length bytes)) [
      | inl full ↦ inr (inl (inl (record { none = none; hopeless = inl full })))
      | inr room ↦ inl (inl (record { none = none; room = room; possible = λ no_head. no_head.1 [] head (rest ++ []) (ReadsRequest-append bytes head rest [] reads) }))
    ]
  where
    none : BeginsNoHead bytes
    none head' rest' x =
        let same = request_unique bytes head' head rest' rest x.reads reads in
        past (record {
          reads = reads;
          short = subst (λ (h : RequestHead). length (print_request h) ≤ MAX_HEAD_BYTES) same.0 x.short;
          few = subst (λ (h : RequestHead). length h.fields ≤ MAX_FIELDS) same.0 x.few;
        })

-- no head, as far as the bytes go
sort_none : (bytes : List ℕ) → (HasHead bytes → ⊥) → Sort bytes
sort_none bytes no_head =
    elim (cases_lt MAX_HEAD_BYTES (length bytes)) [
      | inl full ↦ inr (inl (inl (record { none = none; hopeless = inl full })))
      | inr room ↦ elim (ends_or_open bytes) [
        | inl done ↦ inr (inl (inl (record { none = none; hopeless = inr (empty_line_there bytes done, never done) })))
        | inr open_ ↦ inl (inl (record { none = none; room = room; possible = λ h. open_ (done_with_empty_line bytes h.0) }))
      ]
    ]
  where
    none : BeginsNoHead bytes
    none head rest x = no_head (head, rest, x.reads)

    never : lines_of bytes ≡ lines.Done → NeverHasRequest bytes
    never done more head rest x =
        let end = first_end bytes done in
        let all : ReadsRequest (end.0 ++ (end.1 ++ more)) head rest = subst (λ t. ReadsRequest t head rest) (ap (λ t. t ++ more) end.3 ∙ append_assoc end.0 end.1 more) x in
        let front = reads_all end.0 (end.1 ++ more) head rest end.2 all in
        no_head (head, end.1, subst (λ t. ReadsRequest t head end.1) (sym end.3) (ReadsRequest-append end.0 head [] end.1 front))

pub sort_of : (bytes : List ℕ) → Sort bytes
sort_of bytes =
    elim (decide_head bytes) [
      | inl h ↦ elim (cases_lt MAX_HEAD_BYTES (length (print_request h.0))) [
        | inl long ↦ sort_past bytes h.0 h.1 h.2 (λ x. absurd (omega (arith, x.short)))
        | inr short ↦ elim (cases_lt MAX_FIELDS (length h.0.fields)) [
          | inl many ↦ sort_past bytes h.0 h.1 h.2 (λ x. absurd (omega (arith, x.few)))
          | inr few ↦ sort_head bytes h.0 h.1 (record { reads = h.2; short = short; few = few })
        ]
      ]
      | inr none ↦ sort_none bytes none
    ]

-- ---- more bytes

head_more : (bytes more : List ℕ) (head : RequestHead) (rest : List ℕ) → BeginsHead bytes head rest → BeginsHead (bytes ++ more) head (rest ++ more)
head_more bytes more head rest h = record { reads = ReadsRequest-append bytes head rest more h.reads; short = h.short; few = h.few }

pub request_more : (bytes more : List ℕ) (head : RequestHead) (body rest : List ℕ) → BeginsRequest bytes head body rest → BeginsRequest (bytes ++ more) head body (rest ++ more)
request_more bytes more head body rest h = record {
  begins = subst (BeginsHead (bytes ++ more) head) (append_assoc body rest more) (head_more bytes more head (body ++ rest) h.begins);
  whole = h.whole;
}

-- bytes that are refused are, however they go on
pub none_more : (bytes more : List ℕ) → BeginsNone bytes → BeginsNone (bytes ++ more)
none_more bytes more (inr b) = inr (record { head = b.head; rest = b.rest ++ more; begins = head_more bytes more b.head b.rest b.begins; untold = b.untold })
none_more bytes more (inl b) = inl (longer b.hopeless)
  where
    longer : (MAX_HEAD_BYTES < length bytes) ⊎ IsNoHead bytes → LacksHead (bytes ++ more)
    longer (inr h) = record {
      none = λ head rest x. h.1 more head rest x.reads;
      hopeless = inr (empty_more bytes more h.0, (λ after head rest x. h.1 (more ++ after) head rest (subst (λ t. ReadsRequest t head rest) (append_assoc bytes more after) x)));
    }
    longer (inl full) = record {
      none = λ head rest x.
          let front = split_le (print_request head) rest bytes more (sym x.reads.1) (omega (arith, x.short)) in
          b.none head front.0 (record { reads = (x.reads.0, front.1); short = x.short; few = x.few });
      hopeless = inl (omega (arith, length-append bytes more));
    }
