-- The columns of a table that may not be there, and columns no two of which have one name.
use Rattle.std.specs.Prelude.{◌≡◌, ℕ, List, [], Option, Some, None, slice_get}
use Rattle.std.specs.Borrow.{Bor}
use Rattle.qd_base.specs.declared.schema.Col.{Col}
use Rattle.qd_base.specs.declared.schema.Schema.{Schema}
use Rattle.qd_base.specs.Schemas.{column_at}

abbrev pub cols_by : Option (Bor Schema) → List Col
cols_by None = []
cols_by (Some s) = s.now.cols

-- each column is the first of its name
abbrev pub AreApart : List Col → Type 0
AreApart cols = (i : ℕ) (c : Col) → slice_get cols i ≡ Some c → column_at cols c.name ≡ Some i
