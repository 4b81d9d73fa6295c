-- Blocks that are kept by the table and the position of their part.
use Rattle.std.specs.Prelude.{◌≡◌, ◌⊎◌, ℕ, List, Contains}
use Rattle.std.specs.Arc.{arc_value}
use Rattle.std.specs.declared.sync.Arc.{Arc}
use Rattle.qd_block.specs.Blocks.{Block}
use Rattle.qd_scan.specs.Sources.{part_at, schema_at, HasRowsOf, IsBlockOf, SourceView}
use Rattle.qd_store_backend.specs.Backs.{source_of, IsParts, Parts}

module _ {Z : Type 0} where
  -- a block is kept for a part of a table
  abbrev pub IsKept : List ((ℕ × ℕ) × Arc Block Z) → (table i : ℕ) → Block → Type 0
  IsKept kept table i b = (e : (ℕ × ℕ) × Arc Block Z) × Contains kept e × (e.0 ≡ (table, i)) × (arc_value e.1 ≡ b)

  -- what is kept now was kept before
  abbrev pub KeepsNoOther : (old new : List ((ℕ × ℕ) × Arc Block Z)) → Type 0
  KeepsNoOther old new = (table i : ℕ) (b : Block) → IsKept new table i b → IsKept old table i b

  -- or it is the block of one part
  abbrev pub KeepsOne : (old new : List ((ℕ × ℕ) × Arc Block Z)) → (table i : ℕ) → Block → Type 0
  KeepsOne old new table i b = (t j : ℕ) (c : Block) → IsKept new t j c → IsKept old t j c ⊎ ((t ≡ table) × (j ≡ i) × (c ≡ b))

  -- each block that is kept is the one that a source would give
  abbrev pub AreOf : SourceView → List ((ℕ × ℕ) × Arc Block Z) → Type 0
  AreOf s kept = (table i : ℕ) (b : Block) → IsKept kept table i b → IsBlockOf (schema_at s table) (part_at s table i) b × HasRowsOf s table i b

  -- what a source that keeps blocks keeps
  pub record IsKeeping (p : Parts) (kept : List ((ℕ × ℕ) × Arc Block Z)) : Type 0 where
    pub parts : IsParts p
    pub blocks : AreOf (source_of p) kept
