-- What is written with its escapes is read back.
use Rattle.std.proofs.Common.{◌≡◌, ℕ, Bool, true, false, List, [], ◌∷◌, ◌++◌, refl, sym, ap, subst, ◌∙◌, append_assoc, inl, inr}
use Rattle.std.specs.Prelude.{not, ◌||◌, ◌==◌}
use Rattle.std.proofs.lemmas.Bool.{cases_Bool}
use Rattle.qd_ilp.specs.Cut.{is_separator, is_special, is_quoted_special, escapes, stops, ends_word}
use Rattle.qd_ilp.specs.Value.{Value, Tag, Text, Long, Huge, Truth, Other}
use Rattle.qd_ilp.specs.Line.{Item}
use Rattle.qd_ilp.specs.Grammar.{Name, Quoted, Word, FieldValue, HasValue, IsItem}
use Rattle.qd_ilp.specs.Printed.{escaped, is_one_line, is_word, IsBare, FieldIn, ValueIn, ItemIn}
use Rattle.qd_ilp.proofs.Numbers.{and_true}
use Rattle.qd_ilp.proofs.Cuts.{or_false, not_true, goes_on, no_escape, no_quoted_escape}

pub escaped_first : (special : ℕ → Bool) (b : ℕ) (bs : List ℕ) → special b ≡ true → escaped special (b ∷ bs) ≡ 92 ∷ b ∷ escaped special bs
escaped_first special b bs h = rw h refl

pub plain_first : (special : ℕ → Bool) (b : ℕ) (bs : List ℕ) → special b ≡ false → escaped special (b ∷ bs) ≡ b ∷ escaped special bs
plain_first special b bs h = rw h refl

pub name_again : (name rest : List ℕ) → is_one_line name ≡ true → stops rest ≡ true → Name (escaped is_special name ++ rest) name rest
name_again [] rest line ends = (refl, ends)
name_again (b ∷ bs) rest line ends =
    let both = and_true (not (b == 10 || b == 13)) (is_one_line bs) line in
    let again = name_again bs rest both.1 ends in
    let more : List ℕ = escaped is_special bs ++ rest in
    elim (cases_Bool (is_special b)) [
      | inl special ↦ (escaped is_special bs ++ rest, inl (ap (λ (l : List ℕ). l ++ rest) (escaped_first is_special b bs special), special), again)
      | inr plain ↦
          let ends_not = or_false (b == 10) (b == 13) (not_true (b == 10 || b == 13) both.0) in
          let parts = or_false (is_separator b) (b == 92) plain in
          let whole : escaped is_special (b ∷ bs) ++ rest ≡ b ∷ (escaped is_special bs ++ rest) = ap (λ (l : List ℕ). l ++ rest) (plain_first is_special b bs plain) in
          let goes : stops (escaped is_special (b ∷ bs) ++ rest) ≡ false = ap stops whole ∙ goes_on b (escaped is_special bs ++ rest) parts.0 ends_not.0 ends_not.1 in
          let bare_here : escapes is_special (escaped is_special (b ∷ bs) ++ rest) ≡ false = ap (escapes is_special) whole ∙ no_escape b (escaped is_special bs ++ rest) parts.1 in
          (escaped is_special bs ++ rest, inr (whole, goes, bare_here), again)
    ]

pub text_again : (text rest : List ℕ) → Quoted (escaped is_quoted_special text ++ 34 ∷ rest) text rest
text_again [] rest = refl
text_again (b ∷ bs) rest =
    let again = text_again bs rest in
    elim (cases_Bool (is_quoted_special b)) [
      | inl special ↦ (escaped is_quoted_special bs ++ 34 ∷ rest, inl (ap (λ (l : List ℕ). l ++ 34 ∷ rest) (escaped_first is_quoted_special b bs special), special), again)
      | inr plain ↦
          let cr = or_false (b == 34 || b == 92 || b == 10) (b == 13) plain in
          let lf = or_false (b == 34 || b == 92) (b == 10) cr.0 in
          let both = or_false (b == 34) (b == 92) lf.0 in
          let whole : escaped is_quoted_special (b ∷ bs) ++ 34 ∷ rest ≡ b ∷ (escaped is_quoted_special bs ++ 34 ∷ rest) = ap (λ (l : List ℕ). l ++ 34 ∷ rest) (plain_first is_quoted_special b bs plain) in
          let bare_here : escapes is_quoted_special (escaped is_quoted_special (b ∷ bs) ++ 34 ∷ rest) ≡ false = ap (escapes is_quoted_special) whole ∙ no_quoted_escape b (escaped is_quoted_special bs ++ 34 ∷ rest) both.1 in
          (escaped is_quoted_special bs ++ 34 ∷ rest, inr (whole, both.0, bare_here), again)
    ]

word_goes_on : (b : ℕ) (bs : List ℕ) → not (b == 44 || b == 32 || b == 10 || b == 13) ≡ true → ends_word (b ∷ bs) ≡ false
word_goes_on b bs h =
    let cr = or_false (b == 44 || b == 32 || b == 10) (b == 13) (not_true (b == 44 || b == 32 || b == 10 || b == 13) h) in
    let lf = or_false (b == 44 || b == 32) (b == 10) cr.0 in
    rw (lf.0, lf.1, cr.1) refl

pub word_again : (w rest : List ℕ) → is_word w ≡ true → ends_word rest ≡ true → Word (w ++ rest) w rest
word_again [] rest plain ends = (refl, ends)
word_again (b ∷ bs) rest plain ends =
    let both = and_true (not (b == 44 || b == 32 || b == 10 || b == 13)) (is_word bs) plain in
    (bs ++ rest, refl, word_goes_on b (bs ++ rest) both.0, word_again bs rest both.1 ends)

bare_again : (v : Value) (w rest : List ℕ) → IsBare v w → ends_word rest ≡ true → FieldValue (w ++ rest) v rest
bare_again v [] rest spelled ends = absurd cc
bare_again v (b ∷ bs) rest spelled ends = inr (b ∷ bs, spelled.0, word_again (b ∷ bs) rest spelled.2 ends, spelled.1, spelled.3)

field_again : (v : Value) (bytes rest : List ℕ) → FieldIn v bytes → ends_word rest ≡ true → FieldValue (bytes ++ rest) v rest
field_again (Text text) bytes rest spelled ends =
    let whole : bytes ++ rest ≡ 34 ∷ (escaped is_quoted_special text ++ 34 ∷ rest) = ap (λ (l : List ℕ). l ++ rest) spelled ∙ ap (λ (l : List ℕ). let k : List ℕ = 34 ∷ l in k) (append_assoc (escaped is_quoted_special text) (34 ∷ []) rest) in
    inl (text, escaped is_quoted_special text ++ 34 ∷ rest, refl, whole, text_again text rest)
field_again (Tag tag) bytes rest spelled ends = absurd spelled
field_again (Long n) bytes rest spelled ends = bare_again (Long n) bytes rest spelled ends
field_again Huge bytes rest spelled ends = bare_again Huge bytes rest spelled ends
field_again (Truth b) bytes rest spelled ends = bare_again (Truth b) bytes rest spelled ends
field_again Other bytes rest spelled ends = bare_again Other bytes rest spelled ends

value_again : (tag : Bool) (v : Value) (bytes rest : List ℕ) → ValueIn tag v bytes → stops rest ≡ true → ends_word rest ≡ true → HasValue tag (bytes ++ rest) v rest
value_again true (Tag tag) bytes rest spelled stop ends =
    let P : List ℕ → Type 0 = λ l. Name (l ++ rest) tag rest in
    (tag, refl, subst P (sym spelled.0) (name_again tag rest spelled.2 stop), spelled.1)
value_again true (Text text) bytes rest spelled stop ends = absurd spelled
value_again true (Long n) bytes rest spelled stop ends = absurd spelled
value_again true Huge bytes rest spelled stop ends = absurd spelled
value_again true (Truth b) bytes rest spelled stop ends = absurd spelled
value_again true Other bytes rest spelled stop ends = absurd spelled
value_again false v bytes rest spelled stop ends = field_again v bytes rest spelled ends

pub item_again : (tag : Bool) (item : Item) (bytes rest : List ℕ) → ItemIn tag item bytes → stops rest ≡ true → ends_word rest ≡ true → IsItem tag (bytes ++ rest) item rest
item_again tag item bytes rest spelled stop ends =
    let whole : bytes ++ rest ≡ escaped is_special item.name ++ 61 ∷ (spelled.0 ++ rest) = ap (λ (l : List ℕ). l ++ rest) spelled.1 ∙ append_assoc (escaped is_special item.name) (61 ∷ spelled.0) rest in
    let P : List ℕ → Type 0 = λ l. Name l item.name (61 ∷ (spelled.0 ++ rest)) in
    (spelled.0 ++ rest, subst P (sym whole) (name_again item.name (61 ∷ (spelled.0 ++ rest)) spelled.3 refl), spelled.2, value_again tag item.value spelled.0 rest spelled.4 stop ends)
