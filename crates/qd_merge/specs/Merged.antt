-- What a merge leaves.
use Rattle.std.specs.Prelude.{ℕ, List, ◌++◌, length, map, drop, fold}
use Rattle.qd_base.specs.declared.schema.ColType.{ColType}
use Rattle.qd_base.specs.declared.schema.Schema.{Schema}
use Rattle.qd_base.specs.Database.{missing}
use Rattle.qd_base.specs.Rows.{Row, put}
use Rattle.qd_column.specs.declared.runs.Run.{Run}
use Rattle.qd_column.specs.Runs.{laid}
use Rattle.qd_block.specs.Blocks.{Block, kinds_in}

-- a row as wide as columns of these kinds: what it lacks is false in a BOOLEAN column, else NULL
abbrev pub with_missing : List ColType → Row → Row
with_missing kinds row = row ++ map missing (drop (length row) kinds)

-- the rows of a block from one on, as wide as columns of these kinds
abbrev pub rows_from : List ColType → ℕ → Block → List Row
rows_from kinds skip block = map (with_missing kinds) (drop skip block.rows)

-- the block of a table's rows
abbrev pub block_in : Schema → List Row → Block
block_in schema rows = record { kinds = kinds_in schema.cols; time_col = schema.time_col; rows = rows }

-- the block of a batch, its rows put one after another into those of an old block from one on
abbrev pub merged : List ℕ → Block → ℕ → Block → Block
merged keys old skip batch = record batch { rows = fold (put batch.time_col keys) (rows_from batch.kinds skip old) batch.rows }

-- rows of two blocks, in the order of runs; those of the first are as wide as those of the second
abbrev pub laid_rows : Block → Block → List Run → List Row
laid_rows first second runs = laid (map (with_missing second.kinds) first.rows) second.rows runs
