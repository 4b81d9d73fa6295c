-- Lines: what is read is spelled so, what is spelled so is read, and each line takes bytes.
use Rattle.std.proofs.Common.{◌≡◌, ℕ, zero, suc, ◌+◌, ◌-◌, ◌<◌, ◌≤◌, Bool, true, false, List, [], ◌∷◌, ◌++◌, length, length-append, take, refl, sym, ap, subst, ◌∙◌, Option, Some, None, inl, inr, arith}
use Rattle.std.specs.Prelude.{◌||◌, ◌==◌, if◌then◌else◌}
use Rattle.std.specs.Str.{is_utf8}
use Rattle.std.proofs.lemmas.Bool.{cases_Bool}
use Rattle.qd_ilp.specs.Cut.{◌>>=◌, begins, at_end, stops}
use Rattle.qd_ilp.specs.Value.{Moment}
use Rattle.qd_ilp.specs.Line.{Item, Row, Line, Blank, Gives, after_spaces, behind_end, row_at, to_end, line_at, read_line}
use Rattle.qd_ilp.specs.Grammar.{IsSome, spaces, Spaced, EndsLine, Tail, Fields, IsRow, Comment, IsLine, ReadsLine}
use Rattle.qd_ilp.proofs.Grammars.{chosen, some, none, bound, no_some, some_both}
use Rattle.qd_ilp.proofs.Listed.{name_takes, word_takes, items_take, parted_takes}
use Rattle.qd_ilp.proofs.Tails.{end_here, no_end, nothing_left}
use Rattle.qd_ilp.proofs.Tailed.{spaced_of, spaced_is, ends_spelled, ends_is, ends_there, no_space}
use Rattle.qd_ilp.proofs.Spelled.{row_spelled, row_is, name_goes}
use Rattle.qd_ilp.proofs.Numerals.{both_ways}

-- ---- comments

abbrev Commented : List ℕ → List ℕ → Type 0
Commented text rest = (comment : List ℕ) × Comment text comment rest

comment_of : (text : List ℕ) → Commented text (to_end text)
comment_of [] = let P : List ℕ → Type 0 = λ l. Commented [] l in subst P (sym nothing_left) ([], (refl, refl))
comment_of (b ∷ bs) =
    let P : List ℕ → Type 0 = λ l. Commented (b ∷ bs) l in
    elim (cases_Bool (at_end (b ∷ bs))) [
      | inl ends ↦ subst P (sym (end_here b bs ends)) ([], (refl, ends))
      | inr goes ↦ let again = comment_of bs in subst P (sym (no_end b bs goes)) (b ∷ again.0, (bs, refl, goes, again.1))
    ]

comment_is : (text comment rest : List ℕ) → Comment text comment rest → to_end text ≡ rest
comment_is [] [] rest spelled = nothing_left ∙ spelled.0
comment_is (x ∷ xs) [] rest spelled = end_here x xs spelled.1 ∙ spelled.0
comment_is text (b ∷ bs) rest spelled =
    let goes : at_end (b ∷ spelled.0) ≡ false = ap at_end (sym spelled.1) ∙ spelled.2 in
    ap to_end spelled.1 ∙ no_end b spelled.0 goes ∙ comment_is spelled.0 bs rest spelled.3

comment_ends : (text comment rest : List ℕ) → Comment text comment rest → at_end rest ≡ true
comment_ends text [] rest spelled = ap at_end (sym spelled.0) ∙ spelled.1
comment_ends text (b ∷ bs) rest spelled = comment_ends spelled.0 bs rest spelled.3

comment_takes : (text comment rest : List ℕ) → Comment text comment rest → length rest ≤ length text
comment_takes text [] rest spelled = let size = ap length spelled.0 in omega (arith, size)
comment_takes text (b ∷ bs) rest spelled =
    let again = comment_takes spelled.0 bs rest spelled.3 in
    let size = ap length spelled.1 in
    omega (arith, size, again)

-- ---- lines

abbrev pub lined : Line → List ℕ → Line × List ℕ
lined line rest = (line, rest)

line_same : (text : List ℕ) (a b : Line) (rest rest' : List ℕ) → a ≡ b → rest ≡ rest' → IsLine text a rest → IsLine text b rest'
line_same text a b rest rest' same back spelled =
    let P : Line → Type 0 = λ l. IsLine text l rest in
    let Q : List ℕ → Type 0 = λ r. IsLine text b r in
    subst Q back (subst P same spelled)

abbrev line_behind : List ℕ → List ℕ → Option (Line × List ℕ)
line_behind text blank = if at_end blank then behind_end blank >>= (λ r. Some (lined Blank r)) else row_at text >>= (λ r. Some (lined (Gives r.0) r.1))

line_is_behind : (text : List ℕ) → line_at text ≡ line_behind text (if begins 35 text then to_end text else after_spaces text)
unfolding line_at
line_is_behind text = refl

line_commented : (text : List ℕ) → begins 35 text ≡ true → line_at text ≡ line_behind text (to_end text)
line_commented text comment = line_is_behind text ∙ ap (λ (b : Bool). line_behind text (if b then to_end text else after_spaces text)) comment

line_spaced : (text : List ℕ) → begins 35 text ≡ false → line_at text ≡ line_behind text (after_spaces text)
line_spaced text plain = line_is_behind text ∙ ap (λ (b : Bool). line_behind text (if b then to_end text else after_spaces text)) plain

behind_blank : (text blank rest : List ℕ) → EndsLine blank rest → line_behind text blank ≡ some (lined Blank rest)
behind_blank text blank rest ends = rw (ends_there blank rest ends, ends_is blank rest ends) refl

behind_row : (text blank : List ℕ) (row : Row) (rest : List ℕ) → at_end blank ≡ false → IsRow text row rest → line_behind text blank ≡ some (lined (Gives row) rest)
behind_row text blank row rest goes spelled = rw (goes, row_is text row rest spelled) refl

pub line_spelled : (text : List ℕ) (line : Line) (rest : List ℕ) → line_at text ≡ some (lined line rest) → IsLine text line rest
line_spelled text line rest e =
    elim (cases_Bool (begins 35 text)) [
      | inl comment ↦
          let e' : line_behind text (to_end text) ≡ some (lined line rest) = sym (line_commented text comment) ∙ e in
          let spelled = comment_of text in
          let there = comment_ends text spelled.0 (to_end text) spelled.1 in
          elim (chosen (at_end (to_end text)) (behind_end (to_end text) >>= (λ r. Some (lined Blank r))) (row_at text >>= (λ r. Some (lined (Gives r.0) r.1))) (some (lined line rest)) e') [
            | inl ends ↦
                let found = bound (behind_end (to_end text)) (λ r. Some (lined Blank r)) (lined line rest) ends.1 in
                let both = some_both Blank line found.0 rest found.2 in
                line_same text Blank line found.0 rest both.0 both.1 (inr (spelled.0, to_end text, comment, spelled.1, ends_spelled (to_end text) found.0 found.1))
            | inr goes ↦ absurd (both_ways (at_end (to_end text)) there goes.0)
          ]
      | inr plain ↦
          let e' : line_behind text (after_spaces text) ≡ some (lined line rest) = sym (line_spaced text plain) ∙ e in
          elim (chosen (at_end (after_spaces text)) (behind_end (after_spaces text) >>= (λ r. Some (lined Blank r))) (row_at text >>= (λ r. Some (lined (Gives r.0) r.1))) (some (lined line rest)) e') [
            | inl ends ↦
                let found = bound (behind_end (after_spaces text)) (λ r. Some (lined Blank r)) (lined line rest) ends.1 in
                let both = some_both Blank line found.0 rest found.2 in
                line_same text Blank line found.0 rest both.0 both.1 (inl (after_spaces text, spaced_of text, ends_spelled (after_spaces text) found.0 found.1))
            | inr goes ↦
                let found = bound (row_at text) (λ r. Some (lined (Gives r.0) r.1)) (lined line rest) goes.1 in
                let both = some_both (Gives found.0.0) line found.0.1 rest found.2 in
                line_same text (Gives found.0.0) line found.0.1 rest both.0 both.1 (plain, row_spelled text found.0.0 found.0.1 found.1)
          ]
    ]

no_comment : (n : ℕ) (text end rest : List ℕ) → text ≡ spaces n ++ end → EndsLine end rest → begins 35 text ≡ false
no_comment zero text end rest whole ends =
    ap (begins 35) whole ∙ elim ends as (λ _. begins 35 end ≡ false) [
      | inl over ↦ ap (begins 35) over.0
      | inr line ↦ elim line as (λ _. begins 35 end ≡ false) [ inl lf ↦ ap (begins 35) lf | inr cr ↦ ap (begins 35) cr ]
    ]
no_comment (suc n) text end rest whole ends = ap (begins 35) whole

or_last : (p q : Bool) → q ≡ true → (p || q) ≡ true
or_last true q h = refl
or_last false q h = h

spaced_stops : (b : ℕ) (bs : List ℕ) → (b == 32) ≡ true → stops (b ∷ bs) ≡ true
spaced_stops b bs h =
    let comma_or : (b == 44 || b == 32) ≡ true = or_last (b == 44) (b == 32) h in
    rw comma_or refl

blank_stops : (text : List ℕ) → at_end (after_spaces text) ≡ true → stops text ≡ true
blank_stops [] h = refl
blank_stops (b ∷ bs) h =
    elim (cases_Bool (b == 32)) [
      | inl space ↦ spaced_stops b bs space
      | inr other ↦
          let ends : at_end (b ∷ bs) ≡ true = ap at_end (sym (no_space b bs other)) ∙ h in
          or_last (b == 44 || b == 32 || b == 61) (at_end (b ∷ bs)) ends
    ]

row_goes : (text : List ℕ) (row : Row) (rest : List ℕ) → IsRow text row rest → at_end (after_spaces text) ≡ false
row_goes text row rest spelled =
    elim (cases_Bool (at_end (after_spaces text))) [
      | inl ends ↦ absurd (both_ways (stops text) (blank_stops text ends) (name_goes text row.table spelled.2 spelled.4 spelled.5))
      | inr goes ↦ goes
    ]

pub line_is : (text : List ℕ) (line : Line) (rest : List ℕ) → IsLine text line rest → line_at text ≡ some (lined line rest)
line_is text Blank rest spelled =
    elim spelled [
      | inl spaced ↦ line_spaced text (no_comment spaced.1.0 text spaced.0 rest spaced.1.1 spaced.2) ∙ ap (line_behind text) (spaced_is text spaced.0 spaced.1) ∙ behind_blank text spaced.0 rest spaced.2
      | inr comment ↦ line_commented text comment.2 ∙ ap (line_behind text) (comment_is text comment.0 comment.1 comment.3) ∙ behind_blank text comment.1 rest comment.4
    ]
line_is text (Gives row) rest spelled = line_spaced text spelled.0 ∙ behind_row text (after_spaces text) row rest (row_goes text row rest spelled.1) spelled.1

pub read_spelled : (text : List ℕ) (line : Line) (rest : List ℕ) → read_line text ≡ some (lined line rest) → ReadsLine text line rest
unfolding read_line
read_spelled text line rest e =
    let found = bound (line_at text) (λ l. if is_utf8 (take (length text - length l.1) text) then Some l else None) (lined line rest) e in
    elim (chosen (is_utf8 (take (length text - length found.0.1) text)) (some found.0) none (some (lined line rest)) found.2) [
      | inl good ↦
          let both = some_both found.0.0 line found.0.1 rest good.1 in
          let P : List ℕ → Type 0 = λ r. is_utf8 (take (length text - length r) text) ≡ true in
          (line_same text found.0.0 line found.0.1 rest both.0 both.1 (line_spelled text found.0.0 found.0.1 found.1), subst P both.1 good.0)
      | inr bad ↦ absurd (no_some (lined line rest) bad.1)
    ]

pub read_is : (text : List ℕ) (line : Line) (rest : List ℕ) → ReadsLine text line rest → read_line text ≡ some (lined line rest)
unfolding read_line
read_is text line rest spelled = rw (line_is text line rest spelled.0, spelled.1) refl

-- ---- each line takes bytes

spaced_takes : (text rest : List ℕ) → Spaced text rest → length rest ≤ length text
spaced_takes text rest spelled =
    let size : length text ≡ length (spaces spelled.0) + length rest = ap length spelled.1 ∙ length-append (spaces spelled.0) rest in
    omega (arith, size)

ends_takes : (text rest : List ℕ) → EndsLine text rest → length rest ≤ length text
ends_takes text rest spelled =
    elim spelled [
      | inl over ↦ let a = ap length over.0 in let b = ap length over.1 in omega (arith, a, b)
      | inr line ↦
          elim line [
            | inl lf ↦ let a = ap length lf in omega (arith, a)
            | inr cr ↦ let a = ap length cr in omega (arith, a)
          ]
    ]

ends_take_more : (text end rest : List ℕ) → EndsLine end rest → length end ≤ length text → 0 < length text → length rest < length text
ends_take_more text end rest spelled short some =
    elim spelled [
      | inl over ↦ let a = ap length over.0 in let b = ap length over.1 in omega (arith, a, b, some)
      | inr line ↦
          elim line [
            | inl lf ↦ let a = ap length lf in omega (arith, a, short)
            | inr cr ↦ let a = ap length cr in omega (arith, a, short)
          ]
    ]

tail_takes : (text : List ℕ) (moment : Option Moment) (rest : List ℕ) → Tail text moment rest → length rest ≤ length text
tail_takes text None rest spelled =
    let a = spaced_takes text spelled.0 spelled.1 in
    let b = ends_takes spelled.0 rest spelled.2 in
    omega (arith, a, b)
tail_takes text (Some moment) rest spelled =
    let a = spaced_takes text spelled.0 spelled.5 in
    let b = word_takes spelled.0 spelled.1 spelled.2 spelled.6 in
    let c = spaced_takes spelled.2 spelled.3 spelled.9 in
    let d = ends_takes spelled.3 rest spelled.10 in
    omega (arith, a, b, c, d)

fields_take : (text : List ℕ) (fields : List Item) (moment : Option Moment) (rest : List ℕ) → Fields text fields moment rest → length rest ≤ length text
fields_take text [] moment rest spelled = tail_takes text moment rest spelled
fields_take text (f ∷ fs) moment rest spelled =
    let a = spaced_takes text spelled.0 spelled.3 in
    let b = parted_takes false spelled.0 (f ∷ fs) spelled.1 spelled.4 in
    let c = tail_takes spelled.1 moment rest spelled.5 in
    omega (arith, a, b, c)

not_nothing : (w : List ℕ) → IsSome w → 0 < length w
not_nothing [] some = absurd cc
not_nothing (x ∷ xs) some = omega arith

pub line_takes : (text : List ℕ) (line : Line) (rest : List ℕ) → 0 < length text → IsLine text line rest → length rest < length text
line_takes text Blank rest some spelled =
    elim spelled [
      | inl spaced ↦ ends_take_more text spaced.0 rest spaced.2 (spaced_takes text spaced.0 spaced.1) some
      | inr comment ↦ ends_take_more text comment.1 rest comment.4 (comment_takes text comment.0 comment.1 comment.3) some
    ]
line_takes text (Gives row) rest some spelled =
    let r = spelled.1 in
    let a = name_takes text row.table r.2 r.4 in
    let b = not_nothing row.table r.5 in
    let c = items_take true r.2 r.0 r.3 r.6 in
    let d = fields_take r.3 r.1 row.moment rest r.7 in
    omega (arith, a, b, c, d)
