-- A row that is written as a line with its escapes is read back.
use Rattle.std.proofs.Common.{◌≡◌, ℕ, Bool, true, false, List, [], ◌∷◌, ◌++◌, refl, sym, ap, subst, ◌∙◌, append_assoc, Option, Some, None, inl, inr, arith}
use Rattle.std.specs.Prelude.{not, ◌||◌, ◌==◌}
use Rattle.std.specs.List.{list_all}
use Rattle.std.proofs.lemmas.Bool.{cases_Bool, ne_eqb}
use Rattle.qd_ilp.specs.Cut.{begins, is_separator, is_special, stops, ends_word}
use Rattle.qd_ilp.specs.Value.{Moment, is_numeral}
use Rattle.qd_ilp.specs.Line.{Item, Row}
use Rattle.qd_ilp.specs.Grammar.{IsSome, Items, Tail, Fields, IsRow}
use Rattle.qd_ilp.specs.Printed.{escaped, is_word, ItemIn, ItemsIn, FieldsIn, StampIn, RowIn}
use Rattle.qd_ilp.proofs.Numbers.{and_true}
use Rattle.qd_ilp.proofs.Numerals.{stamp_numerals, and_both}
use Rattle.qd_ilp.proofs.Cuts.{or_false}
use Rattle.qd_ilp.proofs.Spelled.{numeral_low}
use Rattle.qd_ilp.proofs.Escapes.{name_again, item_again, word_again, escaped_first, plain_first}

items_stop : (tag : Bool) (items : List Item) (bytes rest : List ℕ) → ItemsIn tag items bytes → stops rest ≡ true → stops (bytes ++ rest) ≡ true
items_stop tag [] bytes rest spelled stop = ap (λ (l : List ℕ). stops (l ++ rest)) spelled ∙ stop
items_stop tag (i ∷ is) bytes rest spelled stop = ap (λ (l : List ℕ). stops (l ++ rest)) spelled.2

items_end : (tag : Bool) (items : List Item) (bytes rest : List ℕ) → ItemsIn tag items bytes → ends_word rest ≡ true → ends_word (bytes ++ rest) ≡ true
items_end tag [] bytes rest spelled ends = ap (λ (l : List ℕ). ends_word (l ++ rest)) spelled ∙ ends
items_end tag (i ∷ is) bytes rest spelled ends = ap (λ (l : List ℕ). ends_word (l ++ rest)) spelled.2

items_again : (tag : Bool) (items : List Item) (bytes rest : List ℕ) → ItemsIn tag items bytes → stops rest ≡ true → ends_word rest ≡ true → begins 44 rest ≡ false → Items tag (bytes ++ rest) items rest
items_again tag [] bytes rest spelled stop ends comma =
    let whole : bytes ++ rest ≡ rest = ap (λ (l : List ℕ). l ++ rest) spelled in
    (whole, ap (begins 44) whole ∙ comma)
items_again tag (i ∷ is) bytes rest spelled stop ends comma =
    let whole : bytes ++ rest ≡ 44 ∷ (spelled.0 ++ (spelled.1 ++ rest)) = ap (λ (l : List ℕ). l ++ rest) spelled.2 ∙ ap (λ (l : List ℕ). let k : List ℕ = 44 ∷ l in k) (append_assoc spelled.0 spelled.1 rest) in (
      spelled.0 ++ (spelled.1 ++ rest),
      spelled.1 ++ rest,
      whole,
      item_again tag i spelled.0 (spelled.1 ++ rest) spelled.3 (items_stop tag is spelled.1 rest spelled.4 stop) (items_end tag is spelled.1 rest spelled.4 ends),
      items_again tag is spelled.1 rest spelled.4 stop ends comma,
    )

name_no_space : (name more : List ℕ) → IsSome name → begins 32 (escaped is_special name ++ more) ≡ false
name_no_space [] more some = absurd cc
name_no_space (b ∷ bs) more some =
    elim (cases_Bool (is_special b)) [
      | inl special ↦ ap (λ (l : List ℕ). begins 32 (l ++ more)) (escaped_first is_special b bs special)
      | inr plain ↦
          let parts = or_false (is_separator b) (b == 92) plain in
          let two = or_false (b == 44 || b == 32) (b == 61) parts.0 in
          ap (λ (l : List ℕ). begins 32 (l ++ more)) (plain_first is_special b bs plain) ∙ (or_false (b == 44) (b == 32) two.0).1
    ]

item_no_space : (tag : Bool) (item : Item) (bytes more : List ℕ) → ItemIn tag item bytes → begins 32 (bytes ++ more) ≡ false
item_no_space tag item bytes more spelled =
    ap (λ (l : List ℕ). begins 32 (l ++ more)) spelled.1 ∙ ap (begins 32) (append_assoc (escaped is_special item.name) (61 ∷ spelled.0) more) ∙ name_no_space item.name (61 ∷ (spelled.0 ++ more)) spelled.2

numerals_word : (w : List ℕ) → list_all is_numeral w ≡ true → is_word w ≡ true
numerals_word [] all = refl
numerals_word (b ∷ bs) all =
    let both = and_true (is_numeral b) (list_all is_numeral bs) all in
    let low = numeral_low b both.0 in
    let comma : (b == 44) ≡ false = ne_eqb b 44 (λ e. absurd (omega (arith, e, low))) in
    let space : (b == 32) ≡ false = ne_eqb b 32 (λ e. absurd (omega (arith, e, low))) in
    let lf : (b == 10) ≡ false = ne_eqb b 10 (λ e. absurd (omega (arith, e, low))) in
    let cr : (b == 13) ≡ false = ne_eqb b 13 (λ e. absurd (omega (arith, e, low))) in
    and_both (not (b == 44 || b == 32 || b == 10 || b == 13)) (is_word bs) (rw (comma, space, lf, cr) refl) (numerals_word bs both.1)

numerals_no_space : (w more : List ℕ) → list_all is_numeral w ≡ true → begins 32 more ≡ false → begins 32 (w ++ more) ≡ false
numerals_no_space [] more all other = other
numerals_no_space (b ∷ bs) more all other =
    let low = numeral_low b (and_true (is_numeral b) (list_all is_numeral bs) all).0 in
    ne_eqb b 32 (λ e. absurd (omega (arith, e, low)))

tail_again : (moment : Option Moment) (bytes rest : List ℕ) → StampIn moment bytes → Tail (bytes ++ 10 ∷ rest) moment rest
tail_again None bytes rest spelled = (10 ∷ rest, (0, ap (λ (l : List ℕ). l ++ 10 ∷ rest) spelled, refl), inr (inl refl))
tail_again (Some moment) bytes rest spelled =
    let whole : bytes ++ 10 ∷ rest ≡ 32 ∷ (spelled.0 ++ 10 ∷ rest) = ap (λ (l : List ℕ). l ++ 10 ∷ rest) spelled.1 in
    let numerals = stamp_numerals spelled.0 spelled.3 in (
      spelled.0 ++ 10 ∷ rest,
      spelled.0,
      10 ∷ rest,
      10 ∷ rest,
      ap (begins 32) whole,
      (1, whole, numerals_no_space spelled.0 (10 ∷ rest) numerals refl),
      word_again spelled.0 (10 ∷ rest) (numerals_word spelled.0 numerals) refl,
      spelled.3,
      spelled.2,
      (0, refl, refl),
      inr (inl refl),
    )

stamp_stops : (moment : Option Moment) (bytes rest : List ℕ) → StampIn moment bytes → stops (bytes ++ 10 ∷ rest) ≡ true
stamp_stops None bytes rest spelled = ap (λ (l : List ℕ). stops (l ++ 10 ∷ rest)) spelled
stamp_stops (Some moment) bytes rest spelled = ap (λ (l : List ℕ). stops (l ++ 10 ∷ rest)) spelled.1

stamp_ends : (moment : Option Moment) (bytes rest : List ℕ) → StampIn moment bytes → ends_word (bytes ++ 10 ∷ rest) ≡ true
stamp_ends None bytes rest spelled = ap (λ (l : List ℕ). ends_word (l ++ 10 ∷ rest)) spelled
stamp_ends (Some moment) bytes rest spelled = ap (λ (l : List ℕ). ends_word (l ++ 10 ∷ rest)) spelled.1

stamp_no_comma : (moment : Option Moment) (bytes rest : List ℕ) → StampIn moment bytes → begins 44 (bytes ++ 10 ∷ rest) ≡ false
stamp_no_comma None bytes rest spelled = ap (λ (l : List ℕ). begins 44 (l ++ 10 ∷ rest)) spelled
stamp_no_comma (Some moment) bytes rest spelled = ap (λ (l : List ℕ). begins 44 (l ++ 10 ∷ rest)) spelled.1

fields_again : (fields : List Item) (moment : Option Moment) (fielded stamped rest : List ℕ) → FieldsIn fields fielded → StampIn moment stamped → Fields (fielded ++ (stamped ++ 10 ∷ rest)) fields moment rest
fields_again [] moment fielded stamped rest spelled stamp_in =
    let P : List ℕ → Type 0 = λ l. Tail (l ++ (stamped ++ 10 ∷ rest)) moment rest in
    subst P (sym spelled) (tail_again moment stamped rest stamp_in)
fields_again (f ∷ fs) moment fielded stamped rest spelled stamp_in =
    let behind : List ℕ = stamped ++ 10 ∷ rest in
    let whole : fielded ++ (stamped ++ 10 ∷ rest) ≡ 32 ∷ (spelled.0 ++ (spelled.1 ++ (stamped ++ 10 ∷ rest))) =
    ap (λ (l : List ℕ). l ++ (stamped ++ 10 ∷ rest)) spelled.2 ∙ ap (λ (l : List ℕ). let k : List ℕ = 32 ∷ l in k) (append_assoc spelled.0 spelled.1 (stamped ++ 10 ∷ rest)) in
    let stop = stamp_stops moment stamped rest stamp_in in
    let ends = stamp_ends moment stamped rest stamp_in in (
      spelled.0 ++ (spelled.1 ++ (stamped ++ 10 ∷ rest)),
      stamped ++ 10 ∷ rest,
      ap (begins 32) whole,
      (1, whole, item_no_space false f spelled.0 (spelled.1 ++ (stamped ++ 10 ∷ rest)) spelled.3),
      (
        spelled.1 ++ (stamped ++ 10 ∷ rest),
        item_again false f spelled.0 (spelled.1 ++ (stamped ++ 10 ∷ rest)) spelled.3 (items_stop false fs spelled.1 (stamped ++ 10 ∷ rest) spelled.4 stop) (items_end false fs spelled.1 (stamped ++ 10 ∷ rest) spelled.4 ends),
        items_again false fs spelled.1 (stamped ++ 10 ∷ rest) spelled.4 stop ends (stamp_no_comma moment stamped rest stamp_in),
      ),
      tail_again moment stamped rest stamp_in,
    )

fields_stop : (fields : List Item) (moment : Option Moment) (fielded stamped rest : List ℕ) → FieldsIn fields fielded → StampIn moment stamped → stops (fielded ++ (stamped ++ 10 ∷ rest)) ≡ true
fields_stop [] moment fielded stamped rest spelled stamp_in = ap (λ (l : List ℕ). stops (l ++ (stamped ++ 10 ∷ rest))) spelled ∙ stamp_stops moment stamped rest stamp_in
fields_stop (f ∷ fs) moment fielded stamped rest spelled stamp_in = ap (λ (l : List ℕ). stops (l ++ (stamped ++ 10 ∷ rest))) spelled.2

fields_end : (fields : List Item) (moment : Option Moment) (fielded stamped rest : List ℕ) → FieldsIn fields fielded → StampIn moment stamped → ends_word (fielded ++ (stamped ++ 10 ∷ rest)) ≡ true
fields_end [] moment fielded stamped rest spelled stamp_in = ap (λ (l : List ℕ). ends_word (l ++ (stamped ++ 10 ∷ rest))) spelled ∙ stamp_ends moment stamped rest stamp_in
fields_end (f ∷ fs) moment fielded stamped rest spelled stamp_in = ap (λ (l : List ℕ). ends_word (l ++ (stamped ++ 10 ∷ rest))) spelled.2

fields_no_comma : (fields : List Item) (moment : Option Moment) (fielded stamped rest : List ℕ) → FieldsIn fields fielded → StampIn moment stamped → begins 44 (fielded ++ (stamped ++ 10 ∷ rest)) ≡ false
fields_no_comma [] moment fielded stamped rest spelled stamp_in = ap (λ (l : List ℕ). begins 44 (l ++ (stamped ++ 10 ∷ rest))) spelled ∙ stamp_no_comma moment stamped rest stamp_in
fields_no_comma (f ∷ fs) moment fielded stamped rest spelled stamp_in = ap (λ (l : List ℕ). begins 44 (l ++ (stamped ++ 10 ∷ rest))) spelled.2

pub row_again : (row : Row) (bytes rest : List ℕ) → RowIn row bytes → IsRow (bytes ++ 10 ∷ rest) row rest
row_again row bytes rest r =
    let line : List ℕ = 10 ∷ rest in
    let back : List ℕ = r.3 ++ (r.4 ++ 10 ∷ rest) in
    let tail_whole : (r.3 ++ r.4) ++ 10 ∷ rest ≡ r.3 ++ (r.4 ++ 10 ∷ rest) = append_assoc r.3 r.4 (10 ∷ rest) in
    let tag_whole : (r.2 ++ (r.3 ++ r.4)) ++ 10 ∷ rest ≡ r.2 ++ (r.3 ++ (r.4 ++ 10 ∷ rest)) = append_assoc r.2 (r.3 ++ r.4) (10 ∷ rest) ∙ ap (λ (l : List ℕ). r.2 ++ l) tail_whole in
    let whole : bytes ++ 10 ∷ rest ≡ escaped is_special row.table ++ (r.2 ++ (r.3 ++ (r.4 ++ 10 ∷ rest))) =
    ap (λ (l : List ℕ). l ++ 10 ∷ rest) r.5 ∙ append_assoc (escaped is_special row.table) (r.2 ++ (r.3 ++ r.4)) (10 ∷ rest) ∙ ap (λ (l : List ℕ). escaped is_special row.table ++ l) tag_whole in
    let stop = fields_stop r.1 row.moment r.3 r.4 rest r.9 r.10 in
    let ends = fields_end r.1 row.moment r.3 r.4 rest r.9 r.10 in
    let comma = fields_no_comma r.1 row.moment r.3 r.4 rest r.9 r.10 in
    let named = name_again row.table (r.2 ++ (r.3 ++ (r.4 ++ 10 ∷ rest))) r.7 (items_stop true r.0 r.2 (r.3 ++ (r.4 ++ 10 ∷ rest)) r.8 stop) in
    let spelled : IsRow (escaped is_special row.table ++ (r.2 ++ (r.3 ++ (r.4 ++ 10 ∷ rest)))) row rest =
    (r.0, r.1, r.2 ++ (r.3 ++ (r.4 ++ 10 ∷ rest)), r.3 ++ (r.4 ++ 10 ∷ rest), named, r.6, items_again true r.0 r.2 (r.3 ++ (r.4 ++ 10 ∷ rest)) r.8 stop ends comma, fields_again r.1 row.moment r.3 r.4 rest r.9 r.10, r.11, r.12) in
    let P : List ℕ → Type 0 = λ l. IsRow l row rest in
    subst P (sym whole) spelled
