-- Where a head ends: where its empty line does, and only there.
use Rattle.std.proofs.Common.{◌≡◌, ◌≢◌, ℕ, ◌+◌, ◌≤◌, ◌==◌, ◌⊎◌, inl, inr, Bool, true, false, if◌then◌else◌, List, [], ◌∷◌, ◌++◌, length, refl, sym, ap, ◌∙◌, subst, arith, append_assoc, length-append}
use Rattle.std.proofs.lemmas.Bool.{cases_lt, ne_eqb}
use Rattle.std.proofs.lemmas.Bool.Decides.{nat_tests}
use Rattle.std.proofs.lemmas.List.{append-nil, append_cancel_left}
use Rattle.httparse.specs.Grammar.{LineEnd, crlf, lf, print_end}
use Rattle.qd_http.specs.declared.lines.Lines.{Lines}
use Rattle.qd_http.specs.declared.lines.Lines.TheVariants as lines
use Rattle.qd_http.specs.Heads.{HasContent, HasEmptyLine}
use Rattle.qd_http.specs.Reading.{EndsWithHead, lines_after, lines_from, lines_of}
use Rattle.qd_http.proofs.LineLemmas.{IsContent, after_content, lines_from-append, lines_of-push, sort_of, stays_done}

-- ---- two texts in one

-- the shorter of two fronts is a front of the longer one
pub split_le : (a b c d : List ℕ) → a ++ b ≡ c ++ d → length a ≤ length c → (m : List ℕ) × (c ≡ a ++ m) × (b ≡ m ++ d)
split_le [] b c d e le = (c, refl, e)
split_le (x ∷ a) b [] d e le = absurd (omega arith)
split_le (x ∷ a) b (y ∷ c) d e le =
    let first : x ≡ y = cc in
    let rest : a ++ b ≡ c ++ d = cc in
    let h = split_le a b c d rest (omega arith) in
    (h.0, cc (h.1), h.2)

-- a text that ends with a head has no proper front that does
no_front : (a b m : List ℕ) → EndsWithHead a → EndsWithHead b → b ≡ a ++ m → m ≡ []
no_front a b [] ha hb e = refl
no_front a b (x ∷ m) ha hb e =
    let len : length b ≡ length a + length (x ∷ m) = ap length e ∙ length-append a (x ∷ m) in
    let len' : length b ≡ length hb.before + 1 = ap length hb.is ∙ length-append hb.before (hb.last ∷ []) in
    let h = split_le a (x ∷ m) hb.before (hb.last ∷ []) (sym e ∙ hb.is) (omega arith) in
    absurd (hb.open_ (ap lines_of h.1 ∙ (lines_from-append lines.Before a h.0 ∙ (ap (λ s. lines_from s h.0) ha.done ∙ stays_done h.0))))

pub unique_end : (a b more rest : List ℕ) → EndsWithHead a → EndsWithHead b → a ++ more ≡ b ++ rest → (a ≡ b) × (more ≡ rest)
unique_end a b more rest ha hb e =
    elim (cases_lt (length b) (length a)) [
      | inl less ↦
          let h = split_le b rest a more (sym e) (omega arith) in
          let none = no_front b a h.0 hb ha h.1 in
          let same : a ≡ b = h.1 ∙ (ap (λ t. b ++ t) none ∙ append-nil b) in
          (same, append_cancel_left a more rest (e ∙ ap (λ t. t ++ rest) (sym same)))
      | inr le ↦
          let h = split_le a more b rest e le in
          let none = no_front a b h.0 ha hb h.1 in
          let same : b ≡ a = h.1 ∙ (ap (λ t. a ++ t) none ∙ append-nil a) in
          (sym same, append_cancel_left a more rest (e ∙ ap (λ t. t ++ rest) same))
    ]

-- ---- the first end

-- a state is the last one, or not
open_or_done : (s : Lines) → (s ≡ lines.Done) ⊎ (s ≢ lines.Done)
open_or_done lines.Before = inr (λ e. cc)
open_or_done lines.Inside = inr (λ e. cc)
open_or_done lines.AfterLine = inr (λ e. cc)
open_or_done lines.AfterReturn = inr (λ e. cc)
open_or_done lines.Done = inl refl

pub ends_or_open : (bytes : List ℕ) → (lines_of bytes ≡ lines.Done) ⊎ (lines_of bytes ≢ lines.Done)
ends_or_open bytes = open_or_done (lines_of bytes)

-- the head ends somewhere in bytes
abbrev pub HasEnd : List ℕ → Type 0
HasEnd bytes = (front : List ℕ) × (rest : List ℕ) × EndsWithHead front × (bytes ≡ front ++ rest)

end_behind : (front bytes : List ℕ) → lines_of front ≢ lines.Done → lines_from (lines_of front) bytes ≡ lines.Done → HasEnd (front ++ bytes)
end_behind front [] open_ done = absurd (open_ done)
end_behind front (b ∷ bytes) open_ done =
    let push = lines_of-push front b in
    let same : (front ++ b ∷ []) ++ bytes ≡ front ++ b ∷ bytes = append_assoc front (b ∷ []) bytes in
    elim (open_or_done (lines_of (front ++ b ∷ []))) [
      | inl is ↦ (front ++ b ∷ [], bytes, record { before = front; last = b; is = refl; open_ = open_; done = is }, sym same)
      | inr more ↦ subst HasEnd same (end_behind (front ++ b ∷ []) bytes more (ap (λ s. lines_from s bytes) push ∙ done))
    ]

pub first_end : (bytes : List ℕ) → lines_of bytes ≡ lines.Done → HasEnd bytes
first_end bytes done = end_behind [] bytes (λ e. cc) done

-- ---- the empty line

-- what bytes are in each state
abbrev Means : Lines → List ℕ → Type 0
Means lines.Before bytes = Unit {0}
Means lines.Inside bytes = HasContent bytes
Means lines.AfterLine bytes = (l : List ℕ) × HasContent l × (bytes ≡ l ++ 10 ∷ [])
Means lines.AfterReturn bytes = (l : List ℕ) × HasContent l × (bytes ≡ l ++ 10 ∷ 13 ∷ [])
Means lines.Done bytes = HasEmptyLine bytes

content_more : (bytes more : List ℕ) → HasContent bytes → HasContent (bytes ++ more)
content_more bytes more h = record {
  before = h.before;
  byte = h.byte;
  after = h.after ++ more;
  is = ap (λ t. t ++ more) h.is ∙ append_assoc h.before (h.byte ∷ h.after) more;
  no_return = h.no_return;
  no_feed = h.no_feed;
}

not_equal : (b c : ℕ) → (b == c) ≡ false → b ≢ c
not_equal b c differs e = let same : (c == c) ≡ false = subst (λ v. (v == c) ≡ false) e differs in grind (arith, nat_tests)

content_last : (bytes : List ℕ) (b : ℕ) → IsContent b → HasContent (bytes ++ b ∷ [])
content_last bytes b h = record { before = bytes; byte = b; after = []; is = refl; no_return = not_equal b 13 h.1; no_feed = not_equal b 10 h.0 }

pub empty_more : (bytes more : List ℕ) → HasEmptyLine bytes → HasEmptyLine (bytes ++ more)
empty_more bytes more h = record {
  lines = h.lines;
  end = h.end;
  after = h.after ++ more;
  content = h.content;
  is = ap (λ t. t ++ more) h.is ∙ (append_assoc h.lines (10 ∷ (print_end h.end ++ h.after)) more ∙ ap (λ t. h.lines ++ 10 ∷ t) (append_assoc (print_end h.end) h.after more));
}

-- content came before
has_content : (s : Lines) (bytes : List ℕ) → s ≢ lines.Before → s ≢ lines.Done → Means s bytes → HasContent bytes
has_content lines.Before bytes begun open_ m = absurd (begun refl)
has_content lines.Inside bytes begun open_ m = m
has_content lines.AfterLine bytes begun open_ m = subst HasContent (sym m.2) (content_more m.0 (10 ∷ []) m.1)
has_content lines.AfterReturn bytes begun open_ m = subst HasContent (sym m.2) (content_more m.0 (10 ∷ 13 ∷ []) m.1)
has_content lines.Done bytes begun open_ m = absurd (open_ refl)

means_content : (s : Lines) (bytes : List ℕ) (b : ℕ) → IsContent b → Means s bytes → Means (lines_after s b) (bytes ++ b ∷ [])
means_content lines.Done bytes b h m = empty_more bytes (b ∷ []) m
means_content lines.Before bytes b h m = subst (λ s. Means s (bytes ++ b ∷ [])) (sym (after_content lines.Before b h (λ e. cc))) (content_last bytes b h)
means_content lines.Inside bytes b h m = subst (λ s. Means s (bytes ++ b ∷ [])) (sym (after_content lines.Inside b h (λ e. cc))) (content_last bytes b h)
means_content lines.AfterLine bytes b h m = subst (λ s. Means s (bytes ++ b ∷ [])) (sym (after_content lines.AfterLine b h (λ e. cc))) (content_last bytes b h)
means_content lines.AfterReturn bytes b h m = subst (λ s. Means s (bytes ++ b ∷ [])) (sym (after_content lines.AfterReturn b h (λ e. cc))) (content_last bytes b h)

means_feed : (s : Lines) (bytes : List ℕ) → Means s bytes → Means (lines_after s 10) (bytes ++ 10 ∷ [])
means_feed lines.Before bytes m = tt
means_feed lines.Inside bytes m = (bytes, m, refl)
means_feed lines.AfterLine bytes m = record { lines = m.0; end = lf; after = []; content = m.1; is = ap (λ t. t ++ 10 ∷ []) m.2 ∙ append_assoc m.0 (10 ∷ []) (10 ∷ []) }
means_feed lines.AfterReturn bytes m = record { lines = m.0; end = crlf; after = []; content = m.1; is = ap (λ t. t ++ 10 ∷ []) m.2 ∙ append_assoc m.0 (10 ∷ 13 ∷ []) (10 ∷ []) }
means_feed lines.Done bytes m = empty_more bytes (10 ∷ []) m

means_return : (s : Lines) (bytes : List ℕ) → Means s bytes → Means (lines_after s 13) (bytes ++ 13 ∷ [])
means_return lines.Before bytes m = tt
means_return lines.Inside bytes m = content_more bytes (13 ∷ []) m
means_return lines.AfterLine bytes m = (m.0, m.1, ap (λ t. t ++ 13 ∷ []) m.2 ∙ append_assoc m.0 (10 ∷ []) (13 ∷ []))
means_return lines.AfterReturn bytes m = content_more bytes (13 ∷ []) (has_content lines.AfterReturn bytes (λ e. cc) (λ e. cc) m)
means_return lines.Done bytes m = empty_more bytes (13 ∷ []) m

means_after : (s : Lines) (bytes : List ℕ) (b : ℕ) → Means s bytes → Means (lines_after s b) (bytes ++ b ∷ [])
means_after s bytes b m =
    elim (sort_of b) [
      | inl feed ↦ subst (λ v. Means (lines_after s v) (bytes ++ v ∷ [])) (sym feed) (means_feed s bytes m)
      | inr (inl return) ↦ subst (λ v. Means (lines_after s v) (bytes ++ v ∷ [])) (sym return) (means_return s bytes m)
      | inr (inr other) ↦ means_content s bytes b other m
    ]

means_from : (s : Lines) (front bytes : List ℕ) → Means s front → Means (lines_from s bytes) (front ++ bytes)
means_from s front [] m = subst (Means s) (sym (append-nil front)) m
means_from s front (b ∷ bytes) m =
    subst (Means (lines_from (lines_after s b) bytes)) (append_assoc front (b ∷ []) bytes) (means_from (lines_after s b) (front ++ b ∷ []) bytes (means_after s front b m))

pub empty_line_there : (bytes : List ℕ) → lines_of bytes ≡ lines.Done → HasEmptyLine bytes
empty_line_there bytes done = subst (λ s. Means s bytes) done (means_from lines.Before [] bytes tt)

-- and the other way round

abbrev IsBegun : Lines → Type 0
IsBegun lines.Before = ⊥
IsBegun lines.Inside = Unit {0}
IsBegun lines.AfterLine = Unit {0}
IsBegun lines.AfterReturn = Unit {0}
IsBegun lines.Done = Unit {0}

begun_test : (x y : Bool) (a b c : Lines) → IsBegun a → IsBegun b → IsBegun c → IsBegun (if x then a else (if y then b else c))
begun_test true y a b c p q r = p
begun_test false true a b c p q r = q
begun_test false false a b c p q r = r

begun_after : (s : Lines) (b : ℕ) → IsBegun s → IsBegun (lines_after s b)
begun_after lines.Before b m = absurd m
begun_after lines.Inside b m = begun_test (b == 10) true lines.AfterLine lines.Inside lines.Inside tt tt tt
begun_after lines.AfterLine b m = begun_test (b == 10) (b == 13) lines.Done lines.AfterReturn lines.Inside tt tt tt
begun_after lines.AfterReturn b m = begun_test (b == 10) true lines.Done lines.Inside lines.Inside tt tt tt
begun_after lines.Done b m = tt

begun_from : (s : Lines) (bytes : List ℕ) → IsBegun s → IsBegun (lines_from s bytes)
begun_from s [] m = m
begun_from s (b ∷ bytes) m = begun_from (lines_after s b) bytes (begun_after s b m)

begun_content : (s : Lines) (b : ℕ) → b ≢ 13 → b ≢ 10 → IsBegun (lines_after s b)
begun_content lines.Before b no_return no_feed = subst IsBegun (sym (after_content lines.Before b (ne_eqb b 10 no_feed, ne_eqb b 13 no_return) (λ e. cc))) tt
begun_content lines.Inside b no_return no_feed = begun_after lines.Inside b tt
begun_content lines.AfterLine b no_return no_feed = begun_after lines.AfterLine b tt
begun_content lines.AfterReturn b no_return no_feed = begun_after lines.AfterReturn b tt
begun_content lines.Done b no_return no_feed = tt

begun_of : (bytes : List ℕ) → HasContent bytes → IsBegun (lines_of bytes)
begun_of bytes h =
    let split = lines_from-append lines.Before h.before (h.byte ∷ h.after) in
    subst IsBegun (sym (ap lines_of h.is ∙ split)) (begun_from (lines_after (lines_of h.before) h.byte) h.after (begun_content (lines_of h.before) h.byte h.no_return h.no_feed))

-- an empty line behind a line with content
ends_empty : (s : Lines) (end : LineEnd) → IsBegun s → lines_from (lines_after s 10) (print_end end) ≡ lines.Done
ends_empty lines.Before end m = absurd m
ends_empty lines.Inside crlf m = refl
ends_empty lines.Inside lf m = refl
ends_empty lines.AfterLine end m = stays_done (print_end end)
ends_empty lines.AfterReturn end m = stays_done (print_end end)
ends_empty lines.Done end m = stays_done (print_end end)

pub done_with_empty_line : (bytes : List ℕ) → HasEmptyLine bytes → lines_of bytes ≡ lines.Done
done_with_empty_line bytes h =
    let tail = print_end h.end ++ h.after in
    ap lines_of h.is
    ∙ lines_from-append lines.Before h.lines (10 ∷ tail)
    ∙ lines_from-append (lines_after (lines_of h.lines) 10) (print_end h.end) h.after
    ∙ ap (λ s. lines_from s h.after) (ends_empty (lines_of h.lines) h.end (begun_of h.lines h.content))
    ∙ stays_done h.after
