-- Rows and lines: what is read is spelled so, and what is spelled so is read.
use Rattle.std.proofs.Common.{◌≡◌, ℕ, ◌≤◌, Bool, true, false, List, [], ◌∷◌, ◌++◌, length, drop, get_or, refl, sym, ap, subst, ◌∙◌, Option, Some, None, inl, inr, arith}
use Rattle.std.specs.Prelude.{◌||◌, ◌==◌, if◌then◌else◌}
use Rattle.std.specs.List.{list_all}
use Rattle.std.proofs.lemmas.Bool.{cases_Bool, eqb-true, ne_eqb}
use Rattle.qd_ilp.specs.Cut.{◌>>=◌, begins, at_end, ends_word, stops, cut, word}
use Rattle.qd_ilp.specs.Value.{Moment, is_stamp, is_empty, is_digit, is_numeral}
use Rattle.qd_ilp.specs.Line.{Item, Row, Rest, after_spaces, stamp_at, tail_at, items_at, tags_at, fields_at, rest_at, row_at}
use Rattle.qd_ilp.specs.Grammar.{Name, Word, IsSome, IsItem, Parted, Spaced, Tail, Fields, IsRow}
use Rattle.qd_ilp.proofs.Numerals.{stamp_numerals, both_ways}
use Rattle.qd_ilp.proofs.Numbers.{and_true, digit_low}
use Rattle.qd_ilp.proofs.Cuts.{or_false, goes_on}
use Rattle.qd_ilp.proofs.Grammars.{chosen, some, none, bound, no_some, some_is, some_both, name_of_text, name_is, word_of_text}
use Rattle.qd_ilp.proofs.Listed.{items_spelled, items_are, parted_takes, tags_spelled, tags_are}
use Rattle.qd_ilp.proofs.Tailed.{spaced_of, spaced_is, tail_spelled, tail_is}
use Rattle.qd_ilp.proofs.Rows.{rest_of, rest_tail, rest_fields}

-- ---- no stamp is a field

pub numeral_low : (b : ℕ) → is_numeral b ≡ true → (45 ≤ b) × (b ≤ 57)
numeral_low b h =
    elim (cases_Bool (b == 45)) [
      | inl minus ↦ let same = eqb-true b 45 minus in (omega (arith, same), omega (arith, same))
      | inr other ↦
          let digit : is_digit b ≡ true = ap (λ (p : Bool). p || is_digit b) (sym other) ∙ h in
          let low = digit_low b digit in
          (omega (arith, low), omega (arith, low))
    ]

numeral_goes : (b : ℕ) (bs : List ℕ) → is_numeral b ≡ true → stops (b ∷ bs) ≡ false
numeral_goes b bs h =
    let low = numeral_low b h in
    let comma : (b == 44) ≡ false = ne_eqb b 44 (λ e. absurd (omega (arith, e, low))) in
    let space : (b == 32) ≡ false = ne_eqb b 32 (λ e. absurd (omega (arith, e, low))) in
    let equals : (b == 61) ≡ false = ne_eqb b 61 (λ e. absurd (omega (arith, e, low))) in
    let lf : (b == 10) ≡ false = ne_eqb b 10 (λ e. absurd (omega (arith, e, low))) in
    let cr : (b == 13) ≡ false = ne_eqb b 13 (λ e. absurd (omega (arith, e, low))) in
    goes_on b bs (rw (comma, space, equals) refl) lf cr

ends_stops : (text : List ℕ) → ends_word text ≡ true → stops text ≡ true
ends_stops [] h = refl
ends_stops (b ∷ bs) h =
    elim (cases_Bool (stops (b ∷ bs))) [
      | inl yea ↦ yea
      | inr nay ↦
          let parts = or_false (b == 44 || b == 32 || b == 61) (at_end (b ∷ bs)) nay in
          let two = or_false (b == 44 || b == 32) (b == 61) parts.0 in
          let none : ends_word (b ∷ bs) ≡ false = rw (two.0, parts.1) refl in
          absurd (both_ways (ends_word (b ∷ bs)) h none)
    ]

numeral_name : (text w behind name rest : List ℕ) → Word text w behind → list_all is_numeral w ≡ true → Name text name rest → rest ≡ behind
numeral_name text [] behind [] rest spelled all name = sym name.0 ∙ spelled.0
numeral_name text [] behind (c ∷ cs) rest spelled all name =
    let yea = ends_stops text spelled.1 in
    elim name.1 [
      | inl escaped ↦ let nay : stops text ≡ false = ap stops escaped.0 in absurd (both_ways (stops text) yea nay)
      | inr plain ↦ absurd (both_ways (stops text) yea plain.1)
    ]
numeral_name text (b ∷ w) behind [] rest spelled all name =
    let both = and_true (is_numeral b) (list_all is_numeral w) all in
    let nay : stops text ≡ false = ap stops spelled.1 ∙ numeral_goes b spelled.0 both.0 in
    absurd (both_ways (stops text) name.1 nay)
numeral_name text (b ∷ w) behind (c ∷ cs) rest spelled all name =
    let both = and_true (is_numeral b) (list_all is_numeral w) all in
    elim name.1 [
      | inl escaped ↦
          let head : b ≡ 92 = ap (λ (l : List ℕ). get_or l 0 0) (sym spelled.1 ∙ escaped.0) in
          let low = numeral_low b both.0 in
          absurd (omega (arith, head, low))
      | inr plain ↦
          let same : name.0 ≡ spelled.0 = ap (drop 1) (sym plain.0 ∙ spelled.1) in
          let P : List ℕ → Type 0 = λ l. Name l cs rest in
          numeral_name spelled.0 w behind cs rest spelled.3 both.1 (subst P same name.2)
    ]

word_ended : (text w behind : List ℕ) → Word text w behind → ends_word behind ≡ true
word_ended text [] behind spelled = ap ends_word (sym spelled.0) ∙ spelled.1
word_ended text (b ∷ w) behind spelled = word_ended spelled.0 w behind spelled.3

pub no_stamp : (text : List ℕ) (i : Item) (next : List ℕ) → IsItem false text i next → stamp_at text ≡ none
unfolding stamp_at
no_stamp text i next item =
    elim (cases_Bool (is_stamp (word text).0)) [
      | inl stamped ↦
          let spelled = word_of_text text in
          let same = numeral_name text (word text).0 (word text).1 i.name (61 ∷ item.0) spelled (stamp_numerals (word text).0 stamped) item.1 in
          let yea = word_ended text (word text).0 (word text).1 spelled in
          let nay : ends_word (word text).1 ≡ false = ap ends_word (sym same) in
          absurd (both_ways (ends_word (word text).1) yea nay)
      | inr other ↦ rw other refl
    ]

pub name_goes : (text name rest : List ℕ) → Name text name rest → IsSome name → stops text ≡ false
name_goes text [] rest spelled some = absurd cc
name_goes text (b ∷ name) rest spelled some = elim spelled.1 [ inl escaped ↦ ap stops escaped.0 | inr plain ↦ plain.1 ]

stops_not : (text : List ℕ) → stops text ≡ false → at_end text ≡ false
stops_not [] h = h
stops_not (b ∷ bs) h = (or_false (b == 44 || b == 32 || b == 61) (at_end (b ∷ bs)) h).1

no_tail : (text more : List ℕ) (i : Item) (next : List ℕ) → begins 32 text ≡ true → Spaced text more → IsItem false more i next → tail_at text ≡ none
unfolding tail_at
no_tail text more i next space spaced item = rw (spaced_is text more spaced, stops_not more (name_goes more i.name (61 ∷ item.0) item.1 item.2), space, no_stamp more i next item) refl

-- ---- fields

fields_from : (text more next : List ℕ) (fields : List Item) (moment : Option Moment) (rest : List ℕ) → begins 32 text ≡ true → Spaced text more → Parted false more fields next → Tail next moment rest → Fields text fields moment rest
fields_from text more next [] moment rest space spaced parted tail = absurd parted
fields_from text more next (f ∷ fs) moment rest space spaced parted tail = (more, next, space, spaced, parted, tail)

fields_same : (text : List ℕ) (a : Rest) (b : Rest) → a ≡ b → Fields text a.fields a.moment a.after → Fields text b.fields b.moment b.after
fields_same text a b same spelled = let P : Rest → Type 0 = λ r. Fields text r.fields r.moment r.after in subst P same spelled

fields_spelled : (text : List ℕ) (r : Rest) → fields_at text ≡ some r → Fields text r.fields r.moment r.after
unfolding fields_at
fields_spelled text r e =
    elim (chosen (begins 32 text) (items_at false (length (after_spaces text)) (after_spaces text) >>= (λ i. tail_at i.1 >>= (λ t. Some (rest_of i.0 t.0 t.1)))) none (some r) e) [
      | inl space ↦
          let items = bound (items_at false (length (after_spaces text)) (after_spaces text)) (λ i. tail_at i.1 >>= (λ t. Some (rest_of i.0 t.0 t.1))) r space.1 in
          let tail = bound (tail_at items.0.1) (λ t. Some (rest_of items.0.0 t.0 t.1)) r items.2 in
          let whole = fields_from text (after_spaces text) items.0.1 items.0.0 tail.0.0 tail.0.1 space.0 (spaced_of text) (items_spelled false (length (after_spaces text)) (after_spaces text) items.0.0 items.0.1 items.1) (tail_spelled items.0.1 tail.0.0 tail.0.1 tail.1) in
          fields_same text (rest_of items.0.0 tail.0.0 tail.0.1) r (some_is (rest_of items.0.0 tail.0.0 tail.0.1) r tail.2) whole
      | inr bad ↦ absurd (no_some r bad.1)
    ]

rest_by : (text : List ℕ) (r : Rest) (o : Option (Option Moment × List ℕ)) → tail_at text ≡ o → rest_at text ≡ some r → Fields text r.fields r.moment r.after
rest_by text r (Some t) found e =
    let same = some_is (rest_of [] t.0 t.1) r (sym (rest_tail text t.1 t.0 (sym found)) ∙ e) in
    fields_same text (rest_of [] t.0 t.1) r same (tail_spelled text t.0 t.1 found)
rest_by text r None found e = fields_spelled text r (sym (rest_fields text found) ∙ e)

pub rest_spelled : (text : List ℕ) (r : Rest) → rest_at text ≡ some r → Fields text r.fields r.moment r.after
rest_spelled text r e = rest_by text r (tail_at text) refl e

fields_are : (text : List ℕ) (f : Item) (fs : List Item) (moment : Option Moment) (rest : List ℕ) → Fields text (f ∷ fs) moment rest → fields_at text ≡ some (rest_of (f ∷ fs) moment rest)
unfolding fields_at
fields_are text f fs moment rest spelled =
    let few = parted_takes false spelled.0 (f ∷ fs) spelled.1 spelled.4 in
    rw (spelled.2, spaced_is text spelled.0 spelled.3, items_are false (length spelled.0) spelled.0 (f ∷ fs) spelled.1 spelled.4 (omega (arith, few)))
    (rw (tail_is spelled.1 moment rest spelled.5) refl)

pub rest_is : (text : List ℕ) (fields : List Item) (moment : Option Moment) (rest : List ℕ) → Fields text fields moment rest → rest_at text ≡ some (rest_of fields moment rest)
rest_is text [] moment rest spelled = rest_tail text rest moment (sym (tail_is text moment rest spelled))
rest_is text (f ∷ fs) moment rest spelled = rest_fields text (no_tail text spelled.0 f spelled.4.0 spelled.2 spelled.3 spelled.4.1) ∙ fields_are text f fs moment rest spelled

-- ---- rows

abbrev rowed : Row → List ℕ → Row × List ℕ
rowed row rest = (row, rest)

abbrev row_with : List ℕ → List Item → Option Moment → Row
row_with table items moment = record { table = table; items = items; moment = moment }

row_same : (text : List ℕ) (a b : Row) (rest rest' : List ℕ) → a ≡ b → rest ≡ rest' → IsRow text a rest → IsRow text b rest'
row_same text a b rest rest' same back spelled =
    let P : Row → Type 0 = λ r. IsRow text r rest in
    let Q : List ℕ → Type 0 = λ l. IsRow text b l in
    subst Q back (subst P same spelled)

abbrev finish : List ℕ → List Item → Rest → Option (Row × List ℕ)
finish table tags r = if is_empty (tags ++ r.fields) then None else Some (rowed (row_with table (tags ++ r.fields) r.moment) r.after)

pub row_spelled : (text : List ℕ) (row : Row) (rest : List ℕ) → row_at text ≡ some (rowed row rest) → IsRow text row rest
unfolding row_at
row_spelled text row rest e =
    elim (chosen (is_empty (cut false text).0) none (tags_at (cut false text).1 >>= (λ t. rest_at t.1 >>= (λ r. finish (cut false text).0 t.0 r))) (some (rowed row rest)) e) [
      | inl bad ↦ absurd (no_some (rowed row rest) bad.1)
      | inr named ↦
          let tags = bound (tags_at (cut false text).1) (λ t. rest_at t.1 >>= (λ r. finish (cut false text).0 t.0 r)) (rowed row rest) named.1 in
          let r = bound (rest_at tags.0.1) (λ r. finish (cut false text).0 tags.0.0 r) (rowed row rest) tags.2 in
          elim (chosen (is_empty (tags.0.0 ++ r.0.fields)) none (some (rowed (row_with (cut false text).0 (tags.0.0 ++ r.0.fields) r.0.moment) r.0.after)) (some (rowed row rest)) r.2) [
            | inl bad ↦ absurd (no_some (rowed row rest) bad.1)
            | inr good ↦
                let both = some_both (row_with (cut false text).0 (tags.0.0 ++ r.0.fields) r.0.moment) row r.0.after rest good.1 in
                let whole : IsRow text (row_with (cut false text).0 (tags.0.0 ++ r.0.fields) r.0.moment) r.0.after =
                (tags.0.0, r.0.fields, (cut false text).1, tags.0.1, name_of_text text, named.0, tags_spelled (cut false text).1 tags.0.0 tags.0.1 tags.1, rest_spelled tags.0.1 r.0 r.1, refl, good.0) in
                row_same text (row_with (cut false text).0 (tags.0.0 ++ r.0.fields) r.0.moment) row r.0.after rest both.0 both.1 whole
          ]
    ]

pub row_is : (text : List ℕ) (row : Row) (rest : List ℕ) → IsRow text row rest → row_at text ≡ some (rowed row rest)
unfolding row_at
row_is text row rest spelled =
    rw (name_is text row.table spelled.2 spelled.4, spelled.5, tags_are spelled.2 spelled.0 spelled.3 spelled.6)
    (rw (rest_is spelled.3 spelled.1 row.moment rest spelled.7) (rw (spelled.9) (ap (λ (is : List Item). some (rowed (row_with row.table is row.moment) rest)) (sym spelled.8))))
