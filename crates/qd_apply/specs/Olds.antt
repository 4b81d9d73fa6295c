-- What a merge reads of the parts that rows are merged into: how much of each stays as it lies is known by the times of its
-- rows, and the others are those that it reads. QuestDB documentation: splitting of partitions.
use Rattle.std.specs.Prelude.{ℕ, ◌+◌, ◌-◌, ◌&&◌, List, [], ◌∷◌, ◌++◌, if◌then◌else◌, drop, length, map, nat_eq, nat_le, nat_lt, slice_index_or}
use Rattle.qd_base.specs.declared.part.Part.{Part}
use Rattle.qd_base.specs.Database.{StoredTable}
use Rattle.qd_base.specs.Rows.{time_of}
use Rattle.qd_block.specs.Blocks.{Block}
use Rattle.qd_manifest.specs.declared.shape.TableParts.{TableParts}
use Rattle.qd_manifest.specs.Spelling.{no_part}
use Rattle.qd_merge.specs.declared.shares.Share.{Share}
use Rattle.qd_merge.specs.declared.shares.Share.TheVariants as share
use Rattle.qd_merge.specs.Acts.{before}
use Rattle.qd_apply.specs.declared.olds.Late.{Late}
use Rattle.qd_apply.specs.declared.olds.OldPart.{OldPart}
use Rattle.qd_apply.specs.declared.olds.Stay.{Stay}
use Rattle.qd_apply.specs.declared.olds.Stay.TheVariants as stay
use Rattle.qd_apply.specs.Arrivals.{rest}
use Rattle.qd_apply.specs.Next.{batch_of, first_counts, first_parts, shares_of, times_in}

-- ---- one part

-- What stays of a part whose rows have these times, where the first of those that are merged into it has a time: the rows
-- before that, where there are some, and so many or more; else none.
abbrev pub stay_of : ℕ → ℕ → List ℕ → Stay
stay_of split first times =
    let count = before first times in
    if nat_lt 0 count && nat_le split count then (if nat_eq count (length times) then stay.All else stay.First count (slice_index_or times (count - 1) 0))
    else stay.Nothing

-- how many of so many rows stay
abbrev pub rows_staying : Stay → ℕ → ℕ
rows_staying stay.Nothing all = 0
rows_staying (stay.First rows hi) all = rows
rows_staying stay.All all = all

-- the times of a block's rows
abbrev pub times_of : Block → List ℕ
times_of b = map (time_of b.time_col) b.rows

-- what stays of a part with this block, and the rows behind
abbrev pub cut_at : Stay → Block → OldPart
cut_at stays b = record { stay = stays; rest = record b { rows = drop (rows_staying stays (length b.rows)) b.rows } }

abbrev pub cut : ℕ → ℕ → Block → OldPart
cut split first b = cut_at (stay_of split first (times_of b)) b

-- ---- all parts that rows are merged into

-- those of shares of a batch with these times among the parts of the table of a number, in order
abbrev pub late_by : ℕ → List ℕ → List Share → List Late
late_by table times [] = []
late_by table times (share.Keep n ∷ list) = late_by table times list
late_by table times (share.Append n from to ∷ list) = late_by table times list
late_by table times (share.Merge n from to ∷ list) = record { table = table; part = n; first = slice_index_or times from 0 } ∷ late_by table times list
late_by table times (share.New from to ∷ list) = late_by table times list

-- those of the table of a number
abbrev pub table_late : ℕ → List ℕ → ℕ → List Part → StoredTable → List Late
table_late n counts split parts t = late_by n (times_in t.schema (batch_of t)) (shares_of counts split parts t)

-- those of tables, the first of which has a number, in order
abbrev pub all_late : ℕ → List (List ℕ) → ℕ → List TableParts → List StoredTable → List Late
all_late n written split shape [] = []
all_late n written split shape (t ∷ ts) = table_late n (first_counts written) split (first_parts shape) t ++ all_late (n + 1) (rest written) split (rest shape) ts

-- the block of a part, by the part's number
abbrev pub block_at : (ℕ → Block) → List Part → ℕ → Block
block_at blocks parts p = blocks (slice_index_or parts p no_part).block

-- what is read of one of a table's parts, over blocks by their numbers
abbrev pub part_read : (ℕ → Block) → ℕ → List Part → Late → OldPart
part_read blocks split parts l = cut split l.first (block_at blocks parts l.part)

-- what is read of the parts of tables, in order
abbrev pub old_read : (ℕ → Block) → List (List ℕ) → ℕ → List TableParts → List StoredTable → List OldPart
old_read blocks written split shape [] = []
old_read blocks written split shape (t ∷ ts) =
    map (part_read blocks split (first_parts shape)) (table_late 0 (first_counts written) split (first_parts shape) t) ++ old_read blocks (rest written) split (rest shape) ts
