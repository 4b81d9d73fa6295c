-- Tables as the lines of a batch find them: those that are there, and over them those that the lines before have made or
-- changed.
use Rattle.std.specs.Prelude.{◌≡◌, ℕ, List, Option, Some, None, length, slice_get, All, IfSome}
use Rattle.std.specs.Option.{option_or}
use Rattle.qd_base.specs.declared.schema.Schema.{Schema}
use Rattle.qd_base.specs.Schemas.{schema_of}
use Rattle.qd_lines.specs.declared.overlay.Spot.{Spot}
use Rattle.qd_lines.specs.declared.overlay.Spot.TheVariants as spot
use Rattle.qd_lines.specs.declared.overlay.Overlay.{Overlay}

-- Over the schemas of `base` lie those of `own`. Together they show what `all` do, of which there are as many as `tables`.
pub record Overlays (base own all : List Schema) (tables : ℕ) : Type 0 where
  pub named : (name : List ℕ) → schema_of all name ≡ option_or (schema_of own name) (schema_of base name)
  pub count : length all ≡ tables

-- the table at a spot
abbrev pub spotted : List Schema → List Schema → Option Spot → Option Schema
spotted own base None = None
spotted own base (Some (spot.Own i)) = slice_get own i
spotted own base (Some (spot.Base i)) = slice_get base i

-- a table that is recalled is the one of its name
abbrev pub IsSpot : List Schema → List Schema → List Schema → Option Spot → Type 0
IsSpot own base all spot = IfSome (spotted own base spot) (λ s. schema_of all s.name ≡ Some s)

-- what an overlay shows, and that it recalls tables as they are
pub record Covers (o : Overlay) (all : List Schema) : Type 0 where
  pub shown : Overlays o.base.now o.own all o.tables
  pub recent : IsSpot o.own o.base.now all o.recent
  pub spots : All (IsSpot o.own o.base.now all) o.spots
