-- The lines of a head, byte by byte.
use Rattle.std.proofs.Common.{◌≡◌, ◌≢◌, ℕ, ◌+◌, ◌<◌, ◌==◌, ◌||◌, ◌⊎◌, inl, inr, Bool, true, false, if◌then◌else◌, IsTrue, List, [], ◌∷◌, ◌++◌, length, take, get_or, refl, sym, ap, ◌∙◌, subst, arith, append_assoc, All}
use Rattle.std.proofs.lemmas.Bool.{cases_eq, false≢true, ne_eqb}
use Rattle.std.proofs.lemmas.List.{take_more}
use Rattle.std.proofs.lemmas.List.Elements.{All-head, All-tail, All-append, All-weaker}
use Rattle.httparse.specs.Grammar.{is_token_byte, AllPass, LineEnd, crlf, lf, print_end, print_blank}
use Rattle.httparse.proofs.PieceLemmas.{token_is_no_newline}
use Rattle.qd_http.specs.declared.lines.Lines.{Lines}
use Rattle.qd_http.specs.declared.lines.Lines.TheVariants as lines
use Rattle.qd_http.specs.declared.lines.Found.TheVariants as found
use Rattle.qd_http.specs.Reading.{Finds, lines_after, lines_from, lines_of}

pub lines_from-append : (s : Lines) (a b : List ℕ) → lines_from s (a ++ b) ≡ lines_from (lines_from s a) b
lines_from-append s [] b = refl
lines_from-append s (x ∷ a) b = lines_from-append (lines_after s x) a b

-- one byte more
pub lines_of-push : (a : List ℕ) (b : ℕ) → lines_of (a ++ b ∷ []) ≡ lines_after (lines_of a) b
lines_of-push a b = lines_from-append lines.Before a (b ∷ [])

pub lines_of-more : (bytes : List ℕ) (i b : ℕ) → i < length bytes → b ≡ get_or bytes i 0 → lines_of (take (i + 1) bytes) ≡ lines_after (lines_of (take i bytes)) b
lines_of-more bytes i b within is = ap lines_of (take_more bytes i 0 within) ∙ (lines_of-push (take i bytes) (get_or bytes i 0) ∙ ap (lines_after (lines_of (take i bytes))) (sym is))

-- the head ends with a byte more
pub done_at : (bytes : List ℕ) (i : ℕ) (was now : Lines) → i < length bytes → was ≡ lines_of (take i bytes) → was ≢ lines.Done → now ≡ lines_after was (get_or bytes i 0) → now ≡ lines.Done → Finds bytes (found.End (i + 1))
done_at bytes i was now within is open_ step done =
    let more = take_more bytes i 0 within in
    let last = lines_of-push (take i bytes) (get_or bytes i 0) ∙ (ap (λ s. lines_after s (get_or bytes i 0)) (sym is) ∙ (sym step ∙ done)) in
    (take i bytes, get_or bytes i 0, more, omega arith, (λ e. open_ (is ∙ e)), last)

-- ---- bytes

-- a byte that doesn't end a line
abbrev pub IsNoFeed : ℕ → Type 0
IsNoFeed b = (b == 10) ≡ false

-- a byte that is neither CR nor LF
abbrev pub IsContent : ℕ → Type 0
IsContent b = IsNoFeed b × ((b == 13) ≡ false)

abbrev pub Sort : ℕ → Type 0
Sort b = (b ≡ 10) ⊎ (b ≡ 13) ⊎ IsContent b

pub sort_of : (b : ℕ) → Sort b
sort_of b =
    elim (cases_eq b 10) [
      | inl feed ↦ inl feed
      | inr other ↦ elim (cases_eq b 13) [
        | inl return ↦ inr (inl return)
        | inr none ↦ inr (inr (ne_eqb b 10 other, ne_eqb b 13 none))
      ]
    ]

pub no_feed : (test : ℕ → Bool) → test 10 ≡ false → (bytes : List ℕ) → AllPass test bytes → All IsNoFeed bytes
no_feed test fails bytes all =
    All-weaker (λ b. IsTrue (test b)) IsNoFeed (λ b pass. ne_eqb b 10 (λ e. false≢true (sym fails ∙ subst (λ v. test v ≡ true) e pass))) bytes all

-- LF is in no token
pub feed_is_no_token : is_token_byte 10 ≡ false
unfolding is_token_byte
feed_is_no_token = refl

pub token_content : (b : ℕ) → is_token_byte b ≡ true → IsContent b
token_content b token =
    let none = token_is_no_newline b token in
    ((neither (b == 13) (b == 10) none).1, (neither (b == 13) (b == 10) none).0)
  where
    neither : (x y : Bool) → (x || y) ≡ false → (x ≡ false) × (y ≡ false)
    neither true y h = absurd (cc)
    neither false y h = (refl, h)

-- ---- states

pub after_content : (s : Lines) (b : ℕ) → IsContent b → s ≢ lines.Done → lines_after s b ≡ lines.Inside
after_content lines.Before b h open_ = rw (h.0, h.1) refl
after_content lines.Inside b h open_ = rw (h.0) refl
after_content lines.AfterLine b h open_ = rw (h.0, h.1) refl
after_content lines.AfterReturn b h open_ = rw (h.0) refl
after_content lines.Done b h open_ = absurd (open_ refl)

pub stays_inside : (bytes : List ℕ) → All IsNoFeed bytes → lines_from lines.Inside bytes ≡ lines.Inside
stays_inside [] all = refl
stays_inside (b ∷ bytes) all =
    ap (λ v. lines_from (if v then lines.AfterLine else lines.Inside) bytes) (All-head IsNoFeed b bytes all) ∙ stays_inside bytes (All-tail IsNoFeed b bytes all)

pub stays_done : (bytes : List ℕ) → lines_from lines.Done bytes ≡ lines.Done
stays_done [] = refl
stays_done (b ∷ bytes) = stays_done bytes

pub stays_before : (ends : List LineEnd) → lines_from lines.Before (print_blank ends) ≡ lines.Before
stays_before [] = refl
stays_before (crlf ∷ ends) = stays_before ends
stays_before (lf ∷ ends) = stays_before ends

ends_line : (end : LineEnd) → lines_from lines.Inside (print_end end) ≡ lines.AfterLine
ends_line crlf = refl
ends_line lf = refl

-- a line that begins with a token
pub line : (s : Lines) → s ≢ lines.Done → (word text : List ℕ) (end : LineEnd) → 0 < length word → AllPass is_token_byte word → All IsNoFeed text → lines_from s (word ++ (text ++ print_end end)) ≡ lines.AfterLine
line s open_ [] text end some token free = absurd (omega arith)
line s open_ (b ∷ word) text end some token free =
    let P : ℕ → Type 0 = λ v. is_token_byte v ≡ true in
    let first = after_content s b (token_content b (All-head P b word token)) open_ in
    let rest : All IsNoFeed (word ++ text) = All-append IsNoFeed word text (no_feed is_token_byte feed_is_no_token word (All-tail P b word token)) free in
    ap (λ t. lines_from t (word ++ (text ++ print_end end))) first
    ∙ ap (λ t. lines_from lines.Inside t) (sym (append_assoc word text (print_end end)))
    ∙ lines_from-append lines.Inside (word ++ text) (print_end end)
    ∙ ap (λ t. lines_from t (print_end end)) (stays_inside (word ++ text) rest)
    ∙ ends_line end
