-- The tests of names are the rules of names.
use Rattle.std.proofs.Common.{◌≡◌, ◌≢◌, ℕ, zero, suc, ◌-◌, ◌<◌, ◌≤◌, Bool, true, false, not, ◌&&◌, if◌then◌else◌, leb, eqb, List, [], ◌∷◌, length, refl, sym, ◌∙◌, subst, true≢false, arith, suc-le-suc, le_of_suc-le-suc}
use Rattle.std.specs.Prelude.{slice_index}
use Rattle.std.specs.List.{list_all}
use Rattle.std.specs.Str.{is_utf8}
use Rattle.std.proofs.lemmas.Bool.{leb-true, le-leb, eqb-true, ne_eqb}
use Rattle.std.proofs.lemmas.Str.{IsUtf8-from_is_utf8, is_utf8-from_IsUtf8}
use Rattle.std.proofs.lemmas.List.Sums.{AllPass-from_list_all, list_all-from_AllPass}
use Rattle.qd_base.specs.declared.limits.TheConstants.{MAX_NAME_BYTES}
use Rattle.qd_base.specs.Names.{is_table_byte, is_column_byte, IsApart, IsColumnName, IsTableName}
use Rattle.qd_meaning.specs.Creating.{has_name_length, dots_apart, is_column_name, is_table_name}
use Rattle.qd_meaning.specs.Laws.{NamesAreJudged}

both : (a b : Bool) → (a && b) ≡ true → (a ≡ true) × (b ≡ true)
both true b e = (refl, e)
both false b e = absurd (true≢false (sym e))

three : (a b c : Bool) → (a && b && c) ≡ true → (a ≡ true) × (b ≡ true) × (c ≡ true)
three true true c e = (refl, refl, e)
three true false c e = absurd (true≢false (sym e))
three false b c e = absurd (true≢false (sym e))

four : (a b c d : Bool) → (a && b && c && d) ≡ true → (a ≡ true) × (b ≡ true) × (c ≡ true) × (d ≡ true)
four true true true d e = (refl, refl, refl, e)
four true true false d e = absurd (true≢false (sym e))
four true false c d e = absurd (true≢false (sym e))
four false b c d e = absurd (true≢false (sym e))

length-true : (name : List ℕ) → has_name_length name ≡ true → (1 ≤ length name) × (length name ≤ MAX_NAME_BYTES)
length-true name e = let h = both (leb 1 (length name)) (leb (length name) MAX_NAME_BYTES) e in (leb-true 1 (length name) h.0, leb-true (length name) MAX_NAME_BYTES h.1)

true-length : (name : List ℕ) → 1 ≤ length name → length name ≤ MAX_NAME_BYTES → has_name_length name ≡ true
true-length name h k = rw (le-leb 1 (length name) h, le-leb (length name) MAX_NAME_BYTES k) refl

-- ---- columns

column-true : (name : List ℕ) → is_column_name name ≡ true → IsColumnName name
column-true name e =
    let h = three (has_name_length name) (is_utf8 name) (list_all is_column_byte name) e in
    let l = length-true name h.0 in
    record { some = l.0; short = l.1; text = IsUtf8-from_is_utf8 name h.1; bytes = AllPass-from_list_all is_column_byte name h.2 }

true-column : (name : List ℕ) → IsColumnName name → is_column_name name ≡ true
true-column name is =
    rw (true-length name is.some is.short, is_utf8-from_IsUtf8 name is.text, list_all-from_AllPass is_column_byte name is.bytes) refl

-- ---- dots

-- no dot stands before the first byte, by this test, nor before another one
abbrev Before : Bool → List ℕ → ℕ → Type 0
Before behind_dot bs zero = behind_dot ≡ false
Before behind_dot bs (suc i) = slice_index bs i ≢ 46

abbrev Last : Bool → List ℕ → Type 0
Last behind_dot [] = behind_dot ≡ false
Last behind_dot (b ∷ bs) = slice_index (b ∷ bs) (length bs) ≢ 46

record Apart (behind_dot : Bool) (bs : List ℕ) : Type 0 where
  each : (i : ℕ) → i < length bs → slice_index bs i ≡ 46 → Before behind_dot bs i
  last : Last behind_dot bs

-- what a byte in front adds
apart-cons : (behind_dot is_dot : Bool) (b : ℕ) (bs : List ℕ) → eqb b 46 ≡ is_dot → (is_dot ≡ true → behind_dot ≡ false) → Apart is_dot bs → Apart behind_dot (b ∷ bs)
apart-cons behind_dot is_dot b bs e front rest = record { each = each; last = last bs rest.last }
  where
    dot : b ≡ 46 → is_dot ≡ true
    dot h = sym e ∙ subst (λ (n : ℕ). eqb n 46 ≡ true) (sym h) refl

    no_dot : is_dot ≡ false → b ≢ 46
    no_dot f h = true≢false (sym (dot h) ∙ f)

    each : (i : ℕ) → i < length (b ∷ bs) → slice_index (b ∷ bs) i ≡ 46 → Before behind_dot (b ∷ bs) i
    each zero lt h = front (dot h)
    each (suc zero) lt h = no_dot (rest.each zero (le_of_suc-le-suc lt) h)
    each (suc (suc i)) lt h = rest.each (suc i) (le_of_suc-le-suc lt) h

    last : (bs : List ℕ) → Last is_dot bs → slice_index (b ∷ bs) (length bs) ≢ 46
    last [] h = no_dot h
    last (c ∷ cs) h = h

not-true : (x : Bool) → not x ≡ true → x ≡ false
not-true true h = absurd (true≢false (sym h))
not-true false h = refl

dots-true : (behind_dot : Bool) (bs : List ℕ) → dots_apart behind_dot bs ≡ true → Apart behind_dot bs
dots-true true [] e = absurd (true≢false (sym e))
dots-true false [] e = record { each = λ i lt h. absurd (omega arith); last = refl }
dots-true behind_dot (b ∷ bs) e = go (eqb b 46) refl (dots-true true bs) (dots-true false bs) e
  where
    go : (t : Bool) → eqb b 46 ≡ t → (dots_apart true bs ≡ true → Apart true bs) → (dots_apart false bs ≡ true → Apart false bs)
        → (if t then not behind_dot && dots_apart true bs else dots_apart false bs) ≡ true → Apart behind_dot (b ∷ bs)
    go true t dot other e = let h = both (not behind_dot) (dots_apart true bs) e in apart-cons behind_dot true b bs t (λ _. not-true behind_dot h.0) (dot h.1)
    go false t dot other e = apart-cons behind_dot false b bs t (λ f. absurd (true≢false (sym f))) (other e)

-- what is left without the first byte
apart-tail : (behind_dot : Bool) (b : ℕ) (bs : List ℕ) → Apart behind_dot (b ∷ bs) → Apart (eqb b 46) bs
apart-tail behind_dot b bs is = record { each = each; last = last bs is.last }
  where
    no_dot : b ≢ 46 → eqb b 46 ≡ false
    no_dot n = ne_eqb b 46 n

    each : (i : ℕ) → i < length bs → slice_index bs i ≡ 46 → Before (eqb b 46) bs i
    each zero lt h = no_dot (is.each 1 (suc-le-suc lt) h)
    each (suc i) lt h = is.each (suc (suc i)) (suc-le-suc lt) h

    last : (bs : List ℕ) → slice_index (b ∷ bs) (length bs) ≢ 46 → Last (eqb b 46) bs
    last [] n = no_dot n
    last (c ∷ cs) n = n

true-dots : (behind_dot : Bool) (bs : List ℕ) → Apart behind_dot bs → dots_apart behind_dot bs ≡ true
true-dots behind_dot [] is = rw is.last refl
true-dots behind_dot (b ∷ bs) is = go (eqb b 46) refl (true-dots (eqb b 46) bs (apart-tail behind_dot b bs is))
  where
    go : (t : Bool) → eqb b 46 ≡ t → dots_apart (eqb b 46) bs ≡ true → (if t then not behind_dot && dots_apart true bs else dots_apart false bs) ≡ true
    go true t e =
        let front : behind_dot ≡ false = is.each 0 (omega arith) (eqb-true b 46 t) in
        let rest : dots_apart true bs ≡ true = subst (λ (x : Bool). dots_apart x bs ≡ true) t e in
        rw front rest
    go false t e = subst (λ (x : Bool). dots_apart x bs ≡ true) t e

before : (i : ℕ) → i ≡ suc i - 1
before i = omega arith

apart-is : (name : List ℕ) → 1 ≤ length name → Apart true name → IsApart name
apart-is [] h is = absurd (omega arith)
apart-is (b ∷ bs) h is = record { each = each; last = subst (λ (n : ℕ). slice_index (b ∷ bs) n ≢ 46) (before (length bs)) is.last }
  where
    each : (i : ℕ) → i < length (b ∷ bs) → slice_index (b ∷ bs) i ≡ 46 → (0 < i) × (slice_index (b ∷ bs) (i - 1) ≢ 46)
    each zero lt e = absurd (true≢false (is.each zero lt e))
    each (suc i) lt e = (omega arith, subst (λ (n : ℕ). slice_index (b ∷ bs) n ≢ 46) (before i) (is.each (suc i) lt e))

is-apart : (name : List ℕ) → 1 ≤ length name → IsApart name → Apart true name
is-apart [] h is = absurd (omega arith)
is-apart (b ∷ bs) h is = record { each = each; last = subst (λ (n : ℕ). slice_index (b ∷ bs) n ≢ 46) (sym (before (length bs))) is.last }
  where
    each : (i : ℕ) → i < length (b ∷ bs) → slice_index (b ∷ bs) i ≡ 46 → Before true (b ∷ bs) i
    each zero lt e = absurd (omega (arith, (is.each zero lt e).0))
    each (suc i) lt e = subst (λ (n : ℕ). slice_index (b ∷ bs) n ≢ 46) (sym (before i)) (is.each (suc i) lt e).1

-- ---- tables

table-true : (name : List ℕ) → is_table_name name ≡ true → IsTableName name
table-true name e =
    let h = four (has_name_length name) (is_utf8 name) (list_all is_table_byte name) (dots_apart true name) e in
    let l = length-true name h.0 in
    record { some = l.0; short = l.1; text = IsUtf8-from_is_utf8 name h.1; bytes = AllPass-from_list_all is_table_byte name h.2; dots = apart-is name l.0 (dots-true true name h.3) }

true-table : (name : List ℕ) → IsTableName name → is_table_name name ≡ true
true-table name is =
    rw (true-length name is.some is.short, is_utf8-from_IsUtf8 name is.text, list_all-from_AllPass is_table_byte name is.bytes, true-dots true name (is-apart name is.some is.dots)) refl

pub names-are-judged : NamesAreJudged
names-are-judged = record { column = λ name. (column-true name, true-column name); table = λ name. (table-true name, true-table name) }
