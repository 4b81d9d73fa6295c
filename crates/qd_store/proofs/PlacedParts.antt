-- The parts of tables in one list, each with its table's schema.
use Rattle.std.proofs.Common.{◌≡◌, ◌⊎◌, ℕ, zero, suc, List, [], ◌∷◌, ◌++◌, Some, All, map, slice_get, refl, sym, ap, ap₂, ◌∙◌, subst, inl, inr}
use Rattle.std.specs.List.{AllByRecursion}
use Rattle.std.proofs.lemmas.List.{map-append}
use Rattle.std.proofs.lemmas.List.Elements.{All-cons, All-from_recursion, All-head, All-nil, All-tail, recursion_from_All}
use Rattle.std.proofs.lemmas.Option.{none-some, same_Some}
use Rattle.qd_base.specs.declared.part.Part.{Part}
use Rattle.qd_base.specs.declared.schema.Schema.{Schema}
use Rattle.qd_base.proofs.Lists.{each-from_map}
use Rattle.qd_manifest.specs.declared.shape.TableParts.{TableParts}
use Rattle.qd_manifest.specs.Spelling.{blocks_of}
use Rattle.qd_merge.proofs.Wide.{map-map}
use Rattle.qd_apply.proofs.EachLemmas.{each_append, each_back, each_front, each_map}

pub record Placed : Type 0 where
  pub schema : Schema
  pub part : Part

abbrev pub place : Schema → Part → Placed
place s p = record { schema = s; part = p }

abbrev pub placed : List TableParts → List Placed
placed [] = []
placed (t ∷ ts) = map (place t.schema) t.parts ++ placed ts

-- their numbers are those of the tables
abbrev pub number : Placed → ℕ
number x = x.part.block

pub numbers_are : (shape : List TableParts) → map number (placed shape) ≡ blocks_of shape
numbers_are [] = refl
numbers_are (t ∷ ts) =
    map-append number (map (place t.schema) t.parts) (placed ts)
    ∙ ap₂ (λ (a b : List ℕ). a ++ b) (map-map number (place t.schema) t.parts) (numbers_are ts)

-- ---- what holds of each

module _ (Q : Placed → Type 0) where
  abbrev pub OfTable : TableParts → Type 0
  OfTable t = All (λ (p : Part). Q (place t.schema p)) t.parts

  pub each_placed : (shape : List TableParts) → All OfTable shape → AllByRecursion Q (placed shape)
  each_placed [] h = tt
  each_placed (t ∷ ts) h =
      each_append Q (map (place t.schema) t.parts) (placed ts)
      (each_map Q (place t.schema) t.parts (recursion_from_All (λ (p : Part). Q (place t.schema p)) t.parts (All-head OfTable t ts h)))
      (each_placed ts (All-tail OfTable t ts h))

  pub of_each : (shape : List TableParts) → AllByRecursion Q (placed shape) → All OfTable shape
  of_each [] h = All-nil OfTable
  of_each (t ∷ ts) h =
      All-cons OfTable t ts
      (All-from_recursion (λ (p : Part). Q (place t.schema p)) t.parts (each-from_map (place t.schema) Q t.parts (each_front Q (map (place t.schema) t.parts) (placed ts) h)))
      (of_each ts (each_back Q (map (place t.schema) t.parts) (placed ts) h))

-- ---- one of them

abbrev pub Among : Placed → List Placed → Type 0
Among x [] = ⊥
Among x (y ∷ ys) = (y ≡ x) ⊎ Among x ys

pub among_each : (Q : Placed → Type 0) (x : Placed) (xs : List Placed) → Among x xs → AllByRecursion Q xs → Q x
among_each Q x [] there h = absurd there
among_each Q x (y ∷ ys) (inl same) h = subst Q same h.0
among_each Q x (y ∷ ys) (inr there) h = among_each Q x ys there h.1

among_front : (x : Placed) (xs ys : List Placed) → Among x xs → Among x (xs ++ ys)
among_front x [] ys there = absurd there
among_front x (z ∷ xs) ys (inl same) = inl same
among_front x (z ∷ xs) ys (inr there) = inr (among_front x xs ys there)

among_back : (x : Placed) (xs ys : List Placed) → Among x ys → Among x (xs ++ ys)
among_back x [] ys there = there
among_back x (z ∷ xs) ys there = inr (among_back x xs ys there)

among_parts : (s : Schema) (parts : List Part) (i : ℕ) (p : Part) → slice_get parts i ≡ Some p → Among (place s p) (map (place s) parts)
among_parts s [] i p at = absurd (none-some p at)
among_parts s (q ∷ qs) zero p at = inl (ap (place s) (same_Some q p at))
among_parts s (q ∷ qs) (suc i) p at = inr (among_parts s qs i p at)

-- the one at a table's place, and in it at a part's
pub among_tables : (shape : List TableParts) (table i : ℕ) (t : TableParts) (p : Part) → slice_get shape table ≡ Some t → slice_get t.parts i ≡ Some p
    → Among (place t.schema p) (placed shape)
among_tables [] table i t p at its = absurd (none-some t at)
among_tables (x ∷ xs) zero i t p at its =
    subst (λ (y : TableParts). Among (place t.schema p) (map (place y.schema) y.parts ++ placed xs)) (sym (same_Some x t at))
    (among_front (place t.schema p) (map (place t.schema) t.parts) (placed xs) (among_parts t.schema t.parts i p its))
among_tables (x ∷ xs) (suc table) i t p at its = among_back (place t.schema p) (map (place x.schema) x.parts) (placed xs) (among_tables xs table i t p at its)
