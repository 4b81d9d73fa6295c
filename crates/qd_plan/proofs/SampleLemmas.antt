-- Fills, where there are several or none, and a list that has an element.
use Rattle.std.proofs.Common.{◌≡◌, ◌∙◌, ℕ, zero, suc, ◌<◌, ◌≤◌, not, eqb, List, [], ◌∷◌, ◌++◌, length, get_or, refl, sym, ap, ap₂, arith}
use Rattle.std.proofs.Math.Dec.{eqb-suc-zero}
use Rattle.std.proofs.lemmas.Bool.{le-leb}
use Rattle.std.proofs.lemmas.Slice.Zip.{get_or-zip}
use Rattle.std.specs.Prelude.{nat_le}
use Rattle.std.specs.List.{flat_map, zip}
use Rattle.qd_base.specs.declared.schema.ColType.{ColType}
use Rattle.qd_sql_ast.specs.declared.tree.FillWith.{FillWith}
use Rattle.qd_meaning.specs.Refusals.{least}
use Rattle.qd_meaning.specs.Sampling.{list_faults, none_faults}
use Rattle.qd_plan.specs.Filling.{beside_faults}

-- a fill and the type of the aggregate beside it
pub beside : (fills : List FillWith) (kinds : List ColType) (i : ℕ) (f : FillWith) (k : ColType) → i < length fills → i < length kinds → f ≡ get_or fills i f → k ≡ get_or kinds i k
    → (f, k) ≡ get_or (zip fills kinds) i (f, k)
beside fills kinds i f k lt less e h = ap₂ (λ (x : FillWith) (y : ColType). (x, y)) e h ∙ sym (get_or-zip fills kinds i (f, k) lt less)

pub several : (fills : List FillWith) (kinds : List ColType) → 2 ≤ length fills → least (flat_map none_faults fills ++ flat_map beside_faults (zip fills kinds)) ≡ least (list_faults fills kinds)
several [] kinds lt = absurd (omega arith)
several (f ∷ []) kinds lt = absurd (omega arith)
several (f ∷ g ∷ fs) kinds lt = refl

-- there is one at least
pub some_there : (n : ℕ) → not (eqb n 0) ≡ nat_le 1 n
some_there zero = refl
some_there (suc n) = ap not (eqb-suc-zero n) ∙ sym (le-leb 1 (suc n) (omega arith))
