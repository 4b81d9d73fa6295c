-- Sets of result rows over shared blocks.
use Rattle.std.specs.Prelude.{◌≡◌, ℕ, ◌+◌, ◌-◌, ◌<◌, ◌≤◌, List, [], ◌∷◌, ◌++◌, Option, Some, None, length, map, take, drop, All, slice_index_or}
use Rattle.std.specs.List.{range_with_len}
use Rattle.qd_base.specs.declared.cell.Cell.{Cell}
use Rattle.qd_base.specs.declared.schema.ColType.{ColType}
use Rattle.qd_base.specs.declared.schema.Col.{Col}
use Rattle.qd_base.specs.Database.{missing}
use Rattle.qd_base.specs.Rows.{Row}
use Rattle.qd_block.specs.Blocks.{Block, kinds_in}
use Rattle.qd_rows.specs.declared.runs.Run.{Run}
use Rattle.qd_rows.specs.Runs.{Spot, places_of_run}

-- where a result row's cells lie: the place of its left row, and of its right row, where it has one
abbrev pub Joined : Type 0
Joined = Spot × Option Spot

-- what a set is: the columns of both sides, the right one's where the set is of a join, the blocks, and for each result
-- row where it lies
pub record ResultRows : Type 0 where
  pub left : List Col
  pub right : Option (List Col)
  pub blocks : List Block
  pub places : List Joined

abbrev pub no_block : Block
no_block = record { kinds = []; time_col = 0; rows = [] }

-- the block at a position
abbrev pub block_at : List Block → ℕ → Block
block_at blocks b = slice_index_or blocks b no_block

-- what a row holds that lacks columns
abbrev pub absent : List Col → Row
absent cols = map (λ c. missing c.kind) cols

-- the cells of one side: those of the row, then what a row holds that lacks the columns behind them; all of them are
-- absent where there is no row
abbrev pub side_row : List Block → List Col → Option Spot → Row
side_row blocks cols None = absent cols
side_row blocks cols (Some p) = slice_index_or (block_at blocks p.0).rows p.1 [] ++ absent (drop (length (block_at blocks p.0).kinds) cols)

-- the cells of the right side: none where the set has no right columns
abbrev pub right_row : List Block → Option (List Col) → Option Spot → Row
right_row blocks None p = []
right_row blocks (Some cols) p = side_row blocks cols p

-- the result row of a place: the cells of its left side, then those of its right side
abbrev pub row_of_place : ResultRows → Joined → Row
row_of_place s p = side_row s.blocks s.left (Some p.0) ++ right_row s.blocks s.right p.1

-- the result rows, in order
abbrev pub rows_in : ResultRows → List Row
rows_in s = map (row_of_place s) s.places

-- a row that is there, in a block whose columns are of the kinds of a side's first ones
pub record IsRowAt (blocks : List Block) (cols : List Col) (p : Spot) : Type 0 where
  pub block : p.0 < length blocks
  pub row : p.1 < length (block_at blocks p.0).rows
  pub kinds : (block_at blocks p.0).kinds ≡ take (length (block_at blocks p.0).kinds) (kinds_in cols)

-- a right row that is there, or none
abbrev pub IsSide : List Block → List Col → Option Spot → Type 0
IsSide blocks cols None = Unit {0}
IsSide blocks cols (Some p) = IsRowAt blocks cols p

-- what the right side of a set may be: none where it has no right columns
abbrev pub IsRight : List Block → Option (List Col) → Option Spot → Type 0
IsRight blocks None p = p ≡ None
IsRight blocks (Some cols) p = IsSide blocks cols p

-- a place that a set of these parts may hold
pub record IsPlace (first : List Col) (second : Option (List Col)) (blocks : List Block) (p : Joined) : Type 0 where
  pub left : IsRowAt blocks first p.0
  pub right : IsRight blocks second p.1

abbrev pub IsPlaced : ResultRows → Joined → Type 0
IsPlaced s p = IsPlace s.left s.right s.blocks p

-- neighbouring rows that are there
pub record IsRun (left : List Col) (blocks : List Block) (r : Run) : Type 0 where
  pub block : r.block < length blocks
  pub some : r.from < r.to
  pub within : r.to ≤ length (block_at blocks r.block).rows
  pub kinds : (block_at blocks r.block).kinds ≡ take (length (block_at blocks r.block).kinds) (kinds_in left)

abbrev pub IsRunOf : ResultRows → Run → Type 0
IsRunOf s r = IsRun s.left s.blocks r

-- a set with one row more
abbrev pub with_place : ResultRows → Joined → ResultRows
with_place s p = record s { places = s.places ++ p ∷ [] }

-- places without a right row
abbrev pub alone : List Spot → List Joined
alone ps = map (λ p. (p, None)) ps

-- left places with their right ones; none is none
abbrev pub paired : List Spot → List (Option Spot) → List Joined
paired [] rights = []
paired (p ∷ ps) [] = (p, None) ∷ paired ps []
paired (p ∷ ps) (r ∷ rs) = (p, r) ∷ paired ps rs

-- what a set's parts stand for
abbrev pub set_of : List Col → Option (List Col) → List Block → List Spot → List (Option Spot) → ResultRows
set_of left right blocks lefts rights = record { left = left; right = right; blocks = blocks; places = paired lefts rights }

-- right places are kept exactly where there are right columns
abbrev pub KeepsRights : Option (List Col) → List Spot → List (Option Spot) → Type 0
KeepsRights None lefts rights = rights ≡ []
KeepsRights (Some cols) lefts rights = length rights ≡ length lefts

-- parts of a set, whose places are there
pub record IsSet (left : List Col) (right : Option (List Col)) (blocks : List Block) (lefts : List Spot) (rights : List (Option Spot)) : Type 0 where
  pub kept : KeepsRights right lefts rights
  pub each : All (IsPlace left right blocks) (paired lefts rights)
