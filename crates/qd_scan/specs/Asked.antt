-- Which parts a source was asked for. What a source remembers of that is optional: a list of parts, or nothing.
use Rattle.std.specs.Prelude.{◌≡◌, ℕ, ◌<◌, ◌≤◌, List, [], ◌∷◌, ◌++◌, Option, Some, None, All, length}
use Rattle.qd_base.specs.declared.part.Part.{Part}
use Rattle.qd_scan.specs.Sources.{SourceView, part_at, parts_at}

-- a part, by its table and its position among the table's parts
pub record PartAt : Type 0 where
  pub table : ℕ
  pub i : ℕ

-- what is remembered once a part more was asked for
abbrev pub with_asked : ℕ → ℕ → Option (List PartAt) → Option (List PartAt)
with_asked table i None = None
with_asked table i (Some past) = Some (past ++ record { table = table; i = i } ∷ [])

-- Only parts of a kind were asked for between two moments: where they are remembered, the list has grown by such parts.
abbrev pub AskedOnly : (PartAt → Type 0) → (old new : Option (List PartAt)) → Type 0
AskedOnly P None new = new ≡ None
AskedOnly P (Some past) new = (more : List PartAt) × (new ≡ Some (past ++ more)) × All P more

-- a part has a moment from one to another, both among them
abbrev pub Overlaps : (lo hi : ℕ) → Part → Type 0
Overlaps lo hi p = (t : ℕ) × (lo ≤ t) × (t ≤ hi) × (p.lo ≤ t) × (t ≤ p.hi)

-- a part of a table that has such a moment
pub record IsPartBetween (s : SourceView) (table lo hi : ℕ) (a : PartAt) : Type 0 where
  pub of_table : a.table ≡ table
  pub there : a.i < length (parts_at s table)
  pub overlaps : Overlaps lo hi (part_at s table a.i)
