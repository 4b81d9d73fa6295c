-- What shares of a batch make of a table's parts where it is at hand, in the order of the shares, what stays of those that rows
-- are merged into, and their rows behind.
use Rattle.std.specs.Prelude.{◌≡◌, ℕ, ◌+◌, ◌-◌, ◌<◌, List, [], ◌∷◌, ◌++◌, drop, length, slice_index_or, slice_range, take}
use Rattle.qd_base.specs.declared.part.Part.{Part}
use Rattle.qd_base.specs.declared.schema.Schema.{Schema}
use Rattle.qd_base.specs.Rows.{Row, time_of}
use Rattle.qd_block.specs.Blocks.{Block, kinds_in}
use Rattle.qd_manifest.specs.Spelling.{no_part}
use Rattle.qd_merge.specs.declared.shares.Share.{Share}
use Rattle.qd_merge.specs.declared.shares.Share.TheVariants as share
use Rattle.qd_merge.specs.Laws.{IsBatch}
use Rattle.qd_merge.specs.Merged.{block_in, merged}
use Rattle.qd_apply.specs.declared.olds.OldPart.{OldPart}
use Rattle.qd_apply.specs.declared.olds.Stay.{Stay}
use Rattle.qd_apply.specs.declared.olds.Stay.TheVariants as stay
use Rattle.qd_apply.specs.Next.{new_piece, Growth}

-- a block of a table's first columns
pub record IsEarlier (s : Schema) (b : Block) : Type 0 where
  pub kinds : take (length b.kinds) (kinds_in s.cols) ≡ b.kinds
  pub time_col : b.time_col ≡ s.time_col

-- an old part whose rows behind are of these
abbrev pub IsOld : Schema → OldPart → Type 0
IsOld s old = IsEarlier s old.rest

-- a batch of a table, with all of its columns
pub record IsBatchBlock (s : Schema) (b : Block) : Type 0 where
  pub kinds : b.kinds ≡ kinds_in s.cols
  pub time_col : b.time_col ≡ s.time_col
  pub batch : IsBatch s.time_col s.keys b.rows

-- a share of one of so many parts, or of a partition without parts
abbrev pub IsShareOf : ℕ → Share → Type 0
IsShareOf parts (share.Keep n) = n < parts
IsShareOf parts (share.Append n from to) = n < parts
IsShareOf parts (share.Merge n from to) = n < parts
IsShareOf parts (share.New from to) = Unit {0}

-- how many old parts shares read, and how many blocks they write
abbrev pub read_by : Share → ℕ
read_by (share.Keep n) = 0
read_by (share.Append n from to) = 0
read_by (share.Merge n from to) = 1
read_by (share.New from to) = 0

abbrev pub reads : List Share → ℕ
reads [] = 0
reads (a ∷ list) = read_by a + reads list

abbrev pub written_by : Share → ℕ
written_by (share.Keep n) = 0
written_by (share.Append n from to) = 0
written_by (share.Merge n from to) = 1
written_by (share.New from to) = 1

abbrev pub writes : List Share → ℕ
writes [] = 0
writes (a ∷ list) = written_by a + writes list

-- ---- one share

-- the first of the old parts at hand, or one of which nothing stays, without rows
abbrev pub first_given : Schema → List OldPart → OldPart
first_given s [] = record { stay = stay.Nothing; rest = block_in s [] }
first_given s (old ∷ olds) = old

-- what stays of a part
abbrev pub staying : Part → Stay → List Part
staying p stay.Nothing = []
staying p (stay.First rows hi) = record p { rows = rows; hi = hi } ∷ []
staying p stay.All = p ∷ []

-- a part with rows of the batch, from one up to another, behind its own
abbrev pub part_with : Schema → Part → List Row → ℕ → ℕ → Part
part_with s p rows from to = record p { rows = p.rows + (to - from); hi = time_of s.time_col (slice_index_or rows (to - 1) []) }

-- rows of the batch, from one up to another, merged into those of a block
abbrev pub merged_into : Schema → Block → List Row → ℕ → ℕ → Block
merged_into s b rows from to = merged s.keys b 0 (block_in s (slice_range rows from to))

-- the parts that a share leaves, the blocks that it writes, and the rows that it puts behind those of its part
abbrev pub parts_left : Schema → List Part → List Row → ℕ → Share → List OldPart → List Part
parts_left s parts rows next (share.Keep n) given = slice_index_or parts n no_part ∷ []
parts_left s parts rows next (share.Append n from to) given = part_with s (slice_index_or parts n no_part) rows from to ∷ []
parts_left s parts rows next (share.Merge n from to) given =
    staying (slice_index_or parts n no_part) (first_given s given).stay ++ (new_piece s next (merged_into s (first_given s given).rest rows from to)).part ∷ []
parts_left s parts rows next (share.New from to) given = (new_piece s next (merged_into s (block_in s []) rows from to)).part ∷ []

abbrev pub made_by : Schema → List Row → Share → List OldPart → List Block
made_by s rows (share.Keep n) given = []
made_by s rows (share.Append n from to) given = []
made_by s rows (share.Merge n from to) given = merged_into s (first_given s given).rest rows from to ∷ []
made_by s rows (share.New from to) given = merged_into s (block_in s []) rows from to ∷ []

abbrev pub grown_by : Schema → List Row → Share → List Growth
grown_by s rows (share.Keep n) = []
grown_by s rows (share.Append n from to) = record { part = n; rows = block_in s (slice_range rows from to) } ∷ []
grown_by s rows (share.Merge n from to) = []
grown_by s rows (share.New from to) = []

-- ---- shares, one after another

abbrev pub parts_by : Schema → List Part → List Row → ℕ → List Share → List OldPart → List Part
parts_by s parts rows next [] given = []
parts_by s parts rows next (a ∷ list) given = parts_left s parts rows next a given ++ parts_by s parts rows (next + written_by a) list (drop (read_by a) given)

abbrev pub all_made_by : Schema → List Row → List Share → List OldPart → List Block
all_made_by s rows [] given = []
all_made_by s rows (a ∷ list) given = made_by s rows a given ++ all_made_by s rows list (drop (read_by a) given)

abbrev pub all_grown_by : Schema → List Row → List Share → List Growth
all_grown_by s rows [] = []
all_grown_by s rows (a ∷ list) = grown_by s rows a ++ all_grown_by s rows list
