-- What bytes begin with: prefixes of requests, bytes that begin none, and whole headers.
use Rattle.std.proofs.Common.{◌≡◌, ◌≢◌, ℕ, ◌+◌, ◌-◌, ◌<◌, ◌≤◌, inl, inr, List, [], ◌∷◌, ◌++◌, length, drop, get_or, take, refl, sym, ap, ◌∙◌, subst, arith, append_assoc, length-append, lit<}
use Rattle.std.specs.Fmt.{decimal}
use Rattle.std.proofs.Math.ListN.{replicate}
use Rattle.std.proofs.lemmas.List.{length-replicate, take_all}
use Rattle.qd_base.specs.declared.request.Request.TheVariants as request
use Rattle.qd_frames.specs.declared.head.Kind.{Kind}
use Rattle.qd_frames.specs.declared.head.Kind.TheVariants as kind
use Rattle.qd_frames.specs.declared.head.Number.TheVariants as number
use Rattle.qd_frames.specs.Frames.{frame, IsFramed, IsUnfinished, BeginsNone}
use Rattle.qd_frames.specs.Heads.{letter, limit, header, request_of, ReadsNumber, ReadsLineEnd, ReadsHead}
use Rattle.qd_frames.specs.declared.head.Head.{Head}
use Rattle.qd_frames.specs.declared.head.Head.TheVariants as head
use Rattle.std.proofs.lemmas.Bool.{cases_eq}

-- a list that isn't empty is its first item and the rest
pub first_and_rest : (bytes : List ℕ) (b : ℕ) → 1 ≤ length bytes → get_or bytes 0 0 ≡ b → b ∷ take (length bytes - 1) (drop 1 bytes) ≡ bytes
first_and_rest [] b some first = absurd (omega arith)
first_and_rest (x ∷ xs) b some first =
    let all : take (length (x ∷ xs) - 1) xs ≡ xs = take_all (length (x ∷ xs) - 1) xs (omega arith) in
    ap (λ ys. b ∷ ys) all ∙ ap (λ y. y ∷ xs) (sym first)

pub apart_up : (a b : ℕ) (xs ys : List ℕ) → a < b → a ∷ xs ≡ b ∷ ys → ⊥
apart_up a b xs ys less e = let same : a ≡ b = cc in omega arith

pub apart_down : (a b : ℕ) (xs ys : List ℕ) → b < a → a ∷ xs ≡ b ∷ ys → ⊥
apart_down a b xs ys less e = let same : a ≡ b = cc in omega arith

pub wrong_letter : (b : ℕ) (bytes : List ℕ) → b ≢ 87 → b ≢ 81 → b ≢ 65 → b ≢ 88 → BeginsNone (b ∷ bytes)
wrong_letter b bytes w q a x (request.Write text) more tail fits e = w (cc)
wrong_letter b bytes w q a x (request.Sql text) more tail fits e = q (cc)
wrong_letter b bytes w q a x request.Apply more tail fits e = a (cc)
wrong_letter b bytes w q a x request.End more tail fits e = x (cc)

-- no text of the other kind begins with a text's letter, nor does a request without a text
pub wrong_space : (k : Kind) (b : ℕ) (bytes : List ℕ) → b ≢ 32 → BeginsNone (letter k ∷ b ∷ bytes)
wrong_space kind.Write b bytes other (request.Write text) more tail fits e = other (cc)
wrong_space kind.Write b bytes other (request.Sql text) more tail fits e = apart_down 87 81 _ _ (lit< tt) e
wrong_space kind.Write b bytes other request.Apply more tail fits e = apart_down 87 65 _ _ (lit< tt) e
wrong_space kind.Write b bytes other request.End more tail fits e = apart_up 87 88 _ _ (lit< tt) e
wrong_space kind.Sql b bytes other (request.Write text) more tail fits e = apart_up 81 87 _ _ (lit< tt) e
wrong_space kind.Sql b bytes other (request.Sql text) more tail fits e = other (cc)
wrong_space kind.Sql b bytes other request.Apply more tail fits e = apart_down 81 65 _ _ (lit< tt) e
wrong_space kind.Sql b bytes other request.End more tail fits e = apart_up 81 88 _ _ (lit< tt) e

pub wrong_number : (k : Kind) (bytes : List ℕ) → ReadsNumber (limit k) bytes number.Wrong → BeginsNone (letter k ∷ 32 ∷ bytes)
wrong_number kind.Write bytes none (request.Write text) more tail fits e =
    let rest : bytes ++ more ≡ (decimal (length text) ++ 10 ∷ text) ++ tail = cc in
    none (length text) more (text ++ tail) fits (rest ∙ append_assoc (decimal (length text)) (10 ∷ text) tail)
wrong_number kind.Write bytes none (request.Sql text) more tail fits e = apart_down 87 81 _ _ (lit< tt) e
wrong_number kind.Write bytes none request.Apply more tail fits e = apart_down 87 65 _ _ (lit< tt) e
wrong_number kind.Write bytes none request.End more tail fits e = apart_up 87 88 _ _ (lit< tt) e
wrong_number kind.Sql bytes none (request.Write text) more tail fits e = apart_up 81 87 _ _ (lit< tt) e
wrong_number kind.Sql bytes none (request.Sql text) more tail fits e =
    let rest : bytes ++ more ≡ (decimal (length text) ++ 10 ∷ text) ++ tail = cc in
    none (length text) more (text ++ tail) fits (rest ∙ append_assoc (decimal (length text)) (10 ∷ text) tail)
wrong_number kind.Sql bytes none request.Apply more tail fits e = apart_down 81 65 _ _ (lit< tt) e
wrong_number kind.Sql bytes none request.End more tail fits e = apart_up 81 88 _ _ (lit< tt) e

pub wrong_apply : (b : ℕ) (bytes : List ℕ) → b ≢ 10 → BeginsNone (65 ∷ b ∷ bytes)
wrong_apply b bytes other (request.Write text) more tail fits e = apart_up 65 87 _ _ (lit< tt) e
wrong_apply b bytes other (request.Sql text) more tail fits e = apart_up 65 81 _ _ (lit< tt) e
wrong_apply b bytes other request.Apply more tail fits e = other (cc)
wrong_apply b bytes other request.End more tail fits e = apart_up 65 88 _ _ (lit< tt) e

pub wrong_end : (b : ℕ) (bytes : List ℕ) → b ≢ 10 → BeginsNone (88 ∷ b ∷ bytes)
wrong_end b bytes other (request.Write text) more tail fits e = apart_down 88 87 _ _ (lit< tt) e
wrong_end b bytes other (request.Sql text) more tail fits e = apart_down 88 81 _ _ (lit< tt) e
wrong_end b bytes other request.Apply more tail fits e = apart_down 88 65 _ _ (lit< tt) e
wrong_end b bytes other request.End more tail fits e = other (cc)

pub short_nothing : IsUnfinished []
short_nothing = (request.Apply, 65 ∷ 10 ∷ [], tt, omega arith, refl)

pub short_apply : IsUnfinished (65 ∷ [])
short_apply = (request.Apply, 10 ∷ [], tt, omega arith, refl)

pub short_end : IsUnfinished (88 ∷ [])
short_end = (request.End, 10 ∷ [], tt, omega arith, refl)

-- a text's frame is its header and the text
pub frame_of_text : (k : Kind) (text : List ℕ) → frame (request_of k text) ≡ header k (length text) ++ text
frame_of_text kind.Write text = ap (λ xs. 87 ∷ 32 ∷ xs) (sym (append_assoc (decimal (length text)) (10 ∷ []) text))
frame_of_text kind.Sql text = ap (λ xs. 81 ∷ 32 ∷ xs) (sym (append_assoc (decimal (length text)) (10 ∷ []) text))

pub IsFramed-text : (k : Kind) (text : List ℕ) → length text ≤ limit k → IsFramed (request_of k text)
IsFramed-text kind.Write text fits = fits
IsFramed-text kind.Sql text fits = fits

-- a header and less of the text than it says is a prefix of a request
pub short_payload : (k : Kind) (n : ℕ) (payload : List ℕ) → n ≤ limit k → length payload < n → IsUnfinished (header k n ++ payload)
short_payload k n payload fits less =
    let missing = replicate (n - length payload) 0 in
    let len : length (payload ++ missing) ≡ n = omega (arith, length-append payload missing, length-replicate {A = ℕ} (n - length payload) 0) in (
      request_of k (payload ++ missing),
      missing,
      IsFramed-text k (payload ++ missing) (omega arith),
      omega (arith, length-replicate {A = ℕ} (n - length payload) 0),
      frame_of_text k (payload ++ missing) ∙ (ap (λ m. header k m ++ (payload ++ missing)) len ∙ sym (append_assoc (header k n) payload missing)),
    )

-- a prefix of a header is a prefix of a request
pub short_header : (k : Kind) (n : ℕ) (prefix more : List ℕ) → n ≤ limit k → 0 < length more → header k n ≡ prefix ++ more → IsUnfinished prefix
short_header k n prefix more fits some e =
    let text = replicate n 0 in
    let len : length text ≡ n = length-replicate {A = ℕ} n 0 in (
      request_of k text,
      more ++ text,
      IsFramed-text k text (omega arith),
      omega (arith, length-append more text),
      frame_of_text k text ∙ (ap (λ m. header k m ++ text) len ∙ (ap (λ xs. xs ++ text) e ∙ append_assoc prefix more text)),
    )

pub short_letter : (k : Kind) → IsUnfinished (letter k ∷ [])
short_letter k = short_header k 0 (letter k ∷ []) (32 ∷ (decimal 0 ++ 10 ∷ [])) (omega arith) (omega arith) refl

pub short_number : (k : Kind) (bytes : List ℕ) → ReadsNumber (limit k) bytes number.Short → IsUnfinished (letter k ∷ 32 ∷ bytes)
short_number k bytes h =
    short_header k h.0 (letter k ∷ 32 ∷ bytes) (h.1 ++ 10 ∷ []) h.2 (omega (arith, length-append h.1 (10 ∷ [])))
    (ap (λ xs. letter k ∷ 32 ∷ xs) (ap (λ xs. xs ++ 10 ∷ []) h.3 ∙ append_assoc bytes h.1 (10 ∷ [])))

-- a header stands before these bytes
pub whole_header : (k : Kind) (n : ℕ) (bytes rest : List ℕ) → bytes ≡ decimal n ++ 10 ∷ rest → letter k ∷ 32 ∷ bytes ≡ header k n ++ rest
whole_header k n bytes rest e = ap (λ xs. letter k ∷ 32 ∷ xs) (e ∙ sym (append_assoc (decimal n) (10 ∷ []) rest))

-- LF, nothing or another byte behind the letter of a request without a text
line_end : (first : ℕ) (whole found : Head) → IsUnfinished (first ∷ [])
    → ((bytes : List ℕ) → ReadsHead (first ∷ 10 ∷ bytes) whole)
    → ((b : ℕ) (bytes : List ℕ) → b ≢ 10 → BeginsNone (first ∷ b ∷ bytes))
    → (rest : List ℕ) → ReadsLineEnd rest whole found → ReadsHead (first ∷ rest) found
line_end first whole found short lf wrong [] e = subst (ReadsHead (first ∷ [])) (sym e) short
line_end first whole found short lf wrong (b ∷ bytes) h =
    elim (cases_eq b 10) [
      | inl is ↦ subst (ReadsHead (first ∷ b ∷ bytes)) (sym (h.0 is)) (subst (λ x. ReadsHead (first ∷ x ∷ bytes) whole) (sym is) (lf bytes))
      | inr other ↦ subst (ReadsHead (first ∷ b ∷ bytes)) (sym (h.1 other)) (wrong b bytes other)
    ]

pub line_end_of_apply : (rest : List ℕ) (found : Head) → ReadsLineEnd rest head.Apply found → ReadsHead (65 ∷ rest) found
line_end_of_apply rest found h = line_end 65 head.Apply found short_apply (λ bytes. (bytes, refl)) wrong_apply rest h

pub line_end_of_end : (rest : List ℕ) (found : Head) → ReadsLineEnd rest head.End found → ReadsHead (88 ∷ rest) found
line_end_of_end rest found h = line_end 88 head.End found short_end (λ bytes. (bytes, refl)) wrong_end rest h

-- the first byte is none that a request begins with
pub wrong_first : (bytes : List ℕ) → 1 ≤ length bytes → get_or bytes 0 0 ≢ 87 → get_or bytes 0 0 ≢ 81 → get_or bytes 0 0 ≢ 65 → get_or bytes 0 0 ≢ 88 → BeginsNone bytes
wrong_first [] some w q a x = absurd (omega arith)
wrong_first (b ∷ bytes) some w q a x = wrong_letter b bytes w q a x

-- no space stands behind the letter of a text
pub wrong_second : (k : Kind) (bytes : List ℕ) → 1 ≤ length bytes → get_or bytes 0 0 ≢ 32 → BeginsNone (letter k ∷ bytes)
wrong_second k [] some other = absurd (omega arith)
wrong_second k (b ∷ bytes) some other = wrong_space k b bytes other

-- what a number behind a letter and a space says
pub short_behind : (k : Kind) (bytes rest : List ℕ) → 32 ∷ rest ≡ bytes → ReadsNumber (limit k) rest number.Short → IsUnfinished (letter k ∷ bytes)
short_behind k bytes rest e h = subst (λ xs. IsUnfinished (letter k ∷ xs)) e (short_number k rest h)

pub wrong_behind : (k : Kind) (bytes rest : List ℕ) → 32 ∷ rest ≡ bytes → ReadsNumber (limit k) rest number.Wrong → BeginsNone (letter k ∷ bytes)
wrong_behind k bytes rest e h = subst (λ xs. BeginsNone (letter k ∷ xs)) e (wrong_number k rest h)

pub whole_behind : (k : Kind) (bytes rest : List ℕ) (n taken : ℕ) → 32 ∷ rest ≡ bytes → ReadsNumber (limit k) rest (number.Whole n taken) → ReadsHead (letter k ∷ bytes) (head.Text (record { kind = k; size = n; head = 2 + taken }))
whole_behind k bytes rest n taken e h =
    (h.0, h.1, ap (λ xs. letter k ∷ xs) (sym e) ∙ whole_header k n rest h.0 h.2, omega (arith, h.3, length-append (decimal n) (10 ∷ [])))
