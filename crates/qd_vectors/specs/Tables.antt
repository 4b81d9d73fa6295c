-- The small table of the tests.
use Rattle.std.specs.Prelude.{◌≡◌, ◌≤◌, List, [], ◌∷◌, length, take, All}
use Rattle.qd_base.specs.declared.schema.ColType.{ColType}
use Rattle.qd_base.specs.declared.schema.ColType.TheVariants as kind
use Rattle.qd_base.specs.declared.schema.Schema.{Schema}
use Rattle.qd_base.specs.Rows.{Row}
use Rattle.qd_block.specs.Blocks.{Block, kinds_in, FitsKinds, IsTimed}
use Rattle.qd_merge.specs.Laws.{AreKeys}

-- its columns before it got names and truth values: a moment and a number
abbrev pub older_kinds : List ColType
older_kinds = kind.Time ∷ kind.Long ∷ []

-- its columns: a moment, a number, a name and a truth value
abbrev pub table_kinds : List ColType
table_kinds = kind.Time ∷ kind.Long ∷ kind.Symbol ∷ kind.Bool ∷ []

-- a row of columns of these kinds, the first of which is the designated one
pub record IsRowOf (kinds : List ColType) (row : Row) : Type 0 where
  pub fits : FitsKinds kinds row
  pub timed : IsTimed 0 row

abbrev pub IsOlderRow : Row → Type 0
IsOlderRow row = IsRowOf older_kinds row

abbrev pub IsTableRow : Row → Type 0
IsTableRow row = IsRowOf table_kinds row

-- the table
pub record IsTable (schema : Schema) : Type 0 where
  pub kinds : kinds_in schema.cols ≡ table_kinds
  pub time_col : schema.time_col ≡ 0
  pub keys : AreKeys 0 schema.keys

-- a block of the table, in its form of today or before
pub record IsOfTable (block : Block) : Type 0 where
  pub kinds : take (length block.kinds) table_kinds ≡ block.kinds
  pub time_col : block.time_col ≡ 0
