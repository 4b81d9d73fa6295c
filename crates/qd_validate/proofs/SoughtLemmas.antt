-- What is found by name: columns and tables.
use Rattle.std.proofs.Common.{◌≡◌, ◌↔◌, ℕ, ◌<◌, Bool, true, false, not, eqb, nat_eq, nat_lt, Option, Some, None, IsTrue, IsSomeAnd, IfSome, List, length, get_or, slice_get, position, refl, sym, ap, subst, ◌∙◌, true≢false, arith}
use Rattle.std.specs.List.{IsDistinct}
use Rattle.std.specs.Option.{option_eq}
use Rattle.std.proofs.lemmas.Bool.Decides.{nat_tests}
use Rattle.std.proofs.lemmas.Option.{get_or_from_slice_get}
use Rattle.std.proofs.lemmas.List.Quantifiers.{position-Some}
use Rattle.qd_base.specs.declared.schema.Col.{Col}
use Rattle.qd_base.specs.declared.schema.Schema.{Schema}
use Rattle.qd_base.specs.declared.limits.TheConstants.{MAX_COLUMNS}
use Rattle.qd_base.specs.Schemas.{same_name, schema_of, table_at}
use Rattle.qd_base.proofs.NameIndex.{position-is}
use Rattle.qd_base.proofs.Alike.{names_equal}
use Rattle.qd_base.proofs.Tables.{find-position, not_found}
use Rattle.qd_base.proofs.Taken.{IsDistinct-pair}

same_number : (n i : ℕ) → eqb n i ≡ true → n ≡ i
same_number n i e = grind (arith, nat_tests)

-- an optional number that equals one
pub number_is : (o : Option ℕ) (i : ℕ) → option_eq nat_eq o (Some i) ≡ true → o ≡ Some i
number_is None i e = absurd (true≢false (sym e))
number_is (Some n) i e = ap Some (same_number n i e)

pub is_number : (i : ℕ) → option_eq nat_eq (Some i) (Some i) ≡ true
is_number i = grind (arith, nat_tests)

by_not : (b : Bool) → false ≡ not b → b ≡ true
by_not true e = refl
by_not false e = absurd (true≢false (sym e))

pub turned : (o : Option ℕ) (i : ℕ) → false ≡ not (option_eq nat_eq o (Some i)) → option_eq nat_eq o (Some i) ≡ true
turned o i e = by_not (option_eq nat_eq o (Some i)) e

not_by : (b : Bool) → true ≡ not b → b ≡ true → ⊥
not_by true e h = true≢false e
not_by false e h = true≢false (sym h)

pub unturned : (o : Option ℕ) (i : ℕ) → true ≡ not (option_eq nat_eq o (Some i)) → option_eq nat_eq o (Some i) ≡ true → ⊥
unturned o i e h = not_by (option_eq nat_eq o (Some i)) e h

-- columns of distinct names are found where they stand
pub column_found : (cols : List Col) (i : ℕ) (d : Col) → i < length cols → IsDistinct (λ (a : Col) (b : Col). same_name a.name b.name) cols → position (λ (x : Col). same_name x.name (get_or cols i d).name) cols ≡ Some i
column_found cols i d lt h =
    position-is (λ (x : Col). same_name x.name (get_or cols i d).name) cols i d lt
    (λ k below. IsDistinct-pair (λ (a : Col) (b : Col). same_name a.name b.name) cols h k i d below lt)
    (names_equal.refl (get_or cols i d).name)

module _ (cols items : List Col) (i : ℕ) (d : Col) (name : List ℕ) (o : Option ℕ) (found : o ≡ position (λ (x : Col). same_name x.name name) cols) (named : name ≡ d.name) (item : d ≡ get_or items i d) (all : items ≡ cols) (lt : i < length items) where
  -- the column at a place, of a name that the search was for
  pub its_place : i < length cols
  its_place = let e : length items ≡ length cols = ap length all in omega arith

  its_name : (get_or cols i d).name ≡ name
  its_name = sym (named ∙ ap (λ (x : Col). x.name) (item ∙ ap (λ (l : List Col). get_or l i d) all))

  pub found_there : IsDistinct (λ (a : Col) (b : Col). same_name a.name b.name) cols → option_eq nat_eq o (Some i) ≡ true
  found_there h =
      let p : position (λ (x : Col). same_name x.name name) cols ≡ Some i =
      subst (λ (n : List ℕ). position (λ (x : Col). same_name x.name n) cols ≡ Some i) its_name (column_found cols i d its_place h) in
      rw (found ∙ p) (is_number i)

  pub first_there : option_eq nat_eq o (Some i) ≡ true → (k : ℕ) → k < i → same_name (get_or cols k d).name (get_or cols i d).name ≡ false
  first_there e k below =
      rw its_name ((position-Some (λ (x : Col). same_name x.name name) cols i d (sym found ∙ number_is o i e)).2 k below)

-- the schema of a name is the one at its place
pub schema_found : (schemas : List Schema) (table : List ℕ) (i : ℕ) (s : Schema) → Some i ≡ table_at schemas table → slice_get schemas i ≡ Some s → schema_of schemas table ≡ Some s
schema_found schemas table i s e g = find-position (λ (x : Schema). same_name x.name table) schemas i s (sym e) ∙ ap Some (get_or_from_slice_get schemas i s s g)

-- a count that was found to be below a limit
pub counted : (n m : ℕ) → n ≡ m → (IsTrue (nat_lt n 256) → m < MAX_COLUMNS) × (m < MAX_COLUMNS → IsTrue (nat_lt n 256))
counted n m e = (λ h. grind (arith, nat_tests), λ h. grind (arith, nat_tests))

module _ (Q : Schema → Type 0) where
  of_none : (o : Option Schema) → (IsSomeAnd o (λ s. Unit {0}) → ⊥) → IfSome o Q
  of_none None n = tt
  of_none (Some s) n = absurd (n tt)

  -- where no table has a name, a fact of its schema holds
  pub schema_lacking : (schemas : List Schema) (table : List ℕ) → None ≡ table_at schemas table → IfSome (schema_of schemas table) Q
  schema_lacking schemas table e = of_none (schema_of schemas table) (not_found (λ (s : Schema). same_name s.name table) (λ s. Unit {0}) schemas (sym e))

  -- a test of the schema that is found
  pub schema_tested : (schemas : List Schema) (table : List ℕ) (i : ℕ) (s : Schema) (b : Bool) → Some i ≡ table_at schemas table → slice_get schemas i ≡ Some s → IsTrue b ↔ Q s → (IsTrue b → IfSome (schema_of schemas table) Q) × (IfSome (schema_of schemas table) Q → IsTrue b)
  schema_tested schemas table i s b e g h = rw (schema_found schemas table i s e g) h
