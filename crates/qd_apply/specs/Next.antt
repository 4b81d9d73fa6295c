-- What the next version is: the parts that the acts of each table's batch leave, the blocks that they write, and the rows
-- that they put behind those of old blocks. A block number names files; each version shows a beginning of their rows.
-- QuestDB documentation: partitions, out-of-order ingestion, splitting of partitions.
use Rattle.std.specs.Prelude.{ℕ, suc, ◌+◌, ◌-◌, List, [], ◌∷◌, ◌++◌, Option, Some, None, if◌then◌else◌, length, map, nat_eq, nat_lt, slice_index_or, slice_range, take}
use Rattle.qd_base.specs.declared.op.Entry.{Entry}
use Rattle.qd_base.specs.declared.part.Part.{Part}
use Rattle.qd_base.specs.declared.schema.Schema.{Schema}
use Rattle.qd_base.specs.Database.{StoredTable}
use Rattle.qd_base.specs.Rows.{Row, time_of}
use Rattle.qd_block.specs.Blocks.{Block}
use Rattle.qd_manifest.specs.declared.shape.Manifest.{Manifest}
use Rattle.qd_manifest.specs.declared.shape.TableParts.{TableParts}
use Rattle.qd_manifest.specs.Spelling.{no_part, schemas_in}
use Rattle.qd_merge.specs.declared.plan.Act.{Act}
use Rattle.qd_merge.specs.declared.plan.Act.TheVariants as act
use Rattle.qd_merge.specs.declared.shares.Rules.{Rules}
use Rattle.qd_merge.specs.declared.shares.Share.{Share}
use Rattle.qd_merge.specs.Batch.{batch}
use Rattle.qd_merge.specs.Merged.{block_in, merged}
use Rattle.qd_merge.specs.Shares.{acts, shares}
use Rattle.qd_rows.specs.Sets.{no_block}
use Rattle.qd_apply.specs.Arrivals.{arrivals, rest}

-- a part with its block
pub record Piece : Type 0 where
  pub part : Part
  pub block : Block

abbrev pub no_piece : Piece
no_piece = record { part = no_part; block = no_block }

-- parts with their blocks, each of which is known by its number
abbrev pub pieces_in : (ℕ → Block) → List Part → List Piece
pieces_in blocks parts = map (λ p. record { part = p; block = blocks p.block }) parts

-- a new part, of all rows and columns of a block: its first time is the first row's, its last time the last one's
abbrev pub new_piece : Schema → ℕ → Block → Piece
new_piece s number b = record {
  part = record {
    block = number;
    rows = length b.rows;
    cols = length b.kinds;
    lo = time_of s.time_col (slice_index_or b.rows 0 []);
    hi = time_of s.time_col (slice_index_or b.rows (length b.rows - 1) []);
  };
  block = b;
}

-- an old part's block, or one without rows
abbrev pub old_block : Schema → List Piece → Option ℕ → Block
old_block s old None = block_in s []
old_block s old (Some i) = (slice_index_or old i no_piece).block

-- the rows of an old block from one on, merged with rows of the batch from one up to another
abbrev pub written : Schema → List Piece → List Row → Option ℕ → ℕ → ℕ → ℕ → Block
written s old rows part skip from to = merged s.keys (old_block s old part) skip (block_in s (slice_range rows from to))

-- an old part that shows its first rows alone
abbrev pub shortened : Schema → List Piece → ℕ → ℕ → Piece
shortened s old part count = let x = slice_index_or old part no_piece in record {
  part = record x.part { rows = count; hi = time_of s.time_col (slice_index_or x.block.rows (count - 1) []) };
  block = record x.block { rows = take count x.block.rows };
}

-- an old part with rows of the batch, from one up to another, behind its own
abbrev pub appended : Schema → List Piece → List Row → ℕ → ℕ → ℕ → Piece
appended s old rows part from to = let x = slice_index_or old part no_piece in record {
  part = record x.part { rows = x.part.rows + (to - from); hi = time_of s.time_col (slice_index_or rows (to - 1) []) };
  block = record x.block { rows = x.block.rows ++ slice_range rows from to };
}

-- The parts that acts leave: those that are kept, that show fewer rows or that get some behind, whose blocks keep their
-- numbers, and new ones, whose blocks are numbered upwards.
abbrev pub pieces_after : Schema → List Piece → List Row → ℕ → List Act → List Piece
pieces_after s old rows next [] = []
pieces_after s old rows next (act.Keep part ∷ acts) = slice_index_or old part no_piece ∷ pieces_after s old rows next acts
pieces_after s old rows next (act.Append part from to ∷ acts) = appended s old rows part from to ∷ pieces_after s old rows next acts
pieces_after s old rows next (act.Shorten part count ∷ acts) = shortened s old part count ∷ pieces_after s old rows next acts
pieces_after s old rows next (act.Write part skip from to ∷ acts) = new_piece s next (written s old rows part skip from to) ∷ pieces_after s old rows (suc next) acts

-- the blocks that acts write, in order
abbrev pub blocks_made : Schema → List Piece → List Row → List Act → List Block
blocks_made s old rows [] = []
blocks_made s old rows (act.Keep part ∷ acts) = blocks_made s old rows acts
blocks_made s old rows (act.Append part from to ∷ acts) = blocks_made s old rows acts
blocks_made s old rows (act.Shorten part count ∷ acts) = blocks_made s old rows acts
blocks_made s old rows (act.Write part skip from to ∷ acts) = written s old rows part skip from to ∷ blocks_made s old rows acts

-- rows that go behind those of a part of a table: the number of the part, and the rows as a block
pub record Growth : Type 0 where
  pub part : ℕ
  pub rows : Block

-- those of acts, in order
abbrev pub growths : Schema → List Row → List Act → List Growth
growths s rows [] = []
growths s rows (act.Keep part ∷ acts) = growths s rows acts
growths s rows (act.Append part from to ∷ acts) = record { part = part; rows = block_in s (slice_range rows from to) } ∷ growths s rows acts
growths s rows (act.Shorten part count ∷ acts) = growths s rows acts
growths s rows (act.Write part skip from to ∷ acts) = growths s rows acts

-- ---- a table: `counts` has for each part how many rows its block's files hold, and so many rows that stand before all
-- late ones stay where they lie, or more

-- what a table's plan goes by
abbrev pub rules_of : ℕ → Schema → Rules
rules_of split s = record { unit = s.unit; keyed = nat_lt 0 (length s.keys); cols = length s.cols; split_rows = split }

-- the batch of the rows that wait
abbrev pub batch_of : StoredTable → List Row
batch_of t = batch t.schema.time_col t.schema.keys t.rows

-- the times of rows of a table
abbrev pub times_in : Schema → List Row → List ℕ
times_in s rows = map (time_of s.time_col) rows

-- how its batch is shared out among a table's parts
abbrev pub shares_of : List ℕ → ℕ → List Part → StoredTable → List Share
shares_of counts split parts t = shares (rules_of split t.schema) parts counts (times_in t.schema (batch_of t))

-- what becomes of the parts, whose rows are known
abbrev pub acts_of : (ℕ → Block) → List ℕ → ℕ → List Part → StoredTable → List Act
acts_of blocks counts split parts t =
    acts (rules_of split t.schema) parts counts (times_in t.schema (batch_of t)) (λ n. times_in t.schema (blocks (slice_index_or parts n no_part).block).rows)

abbrev pub table_after : (ℕ → Block) → ℕ → List ℕ → ℕ → List Part → StoredTable → List Piece
table_after blocks next counts split parts t = pieces_after t.schema (pieces_in blocks parts) (batch_of t) next (acts_of blocks counts split parts t)

abbrev pub table_made : (ℕ → Block) → List ℕ → ℕ → List Part → StoredTable → List Block
table_made blocks counts split parts t = blocks_made t.schema (pieces_in blocks parts) (batch_of t) (acts_of blocks counts split parts t)

abbrev pub table_grown : (ℕ → Block) → List ℕ → ℕ → List Part → StoredTable → List Growth
table_grown blocks counts split parts t = growths t.schema (batch_of t) (acts_of blocks counts split parts t)

-- ---- all tables: `written` has the counts of each; a new table has no parts

-- the parts of the first table, and the counts of the first one; a table that there isn't has none
abbrev pub first_parts : List TableParts → List Part
first_parts [] = []
first_parts (t ∷ ts) = t.parts

abbrev pub first_counts : List (List ℕ) → List ℕ
first_counts [] = []
first_counts (c ∷ cs) = c

-- The tables of the next version: those of this one and new ones behind, with their schemas and parts. New blocks are
-- numbered upwards in the order of the tables.
abbrev pub shape_after : (ℕ → Block) → ℕ → List (List ℕ) → ℕ → List TableParts → List StoredTable → List TableParts
shape_after blocks next written split shape [] = []
shape_after blocks next written split shape (t ∷ ts) =
    record { schema = t.schema; parts = map (λ x. x.part) (table_after blocks next (first_counts written) split (first_parts shape) t) }
    ∷ shape_after blocks (next + length (table_made blocks (first_counts written) split (first_parts shape) t)) (rest written) split (rest shape) ts

-- all its parts with their blocks, in order
abbrev pub all_pieces : (ℕ → Block) → ℕ → List (List ℕ) → ℕ → List TableParts → List StoredTable → List Piece
all_pieces blocks next written split shape [] = []
all_pieces blocks next written split shape (t ∷ ts) =
    table_after blocks next (first_counts written) split (first_parts shape) t
    ++ all_pieces blocks (next + length (table_made blocks (first_counts written) split (first_parts shape) t)) (rest written) split (rest shape) ts

-- the new blocks, in order
abbrev pub all_made : (ℕ → Block) → List (List ℕ) → ℕ → List TableParts → List StoredTable → List Block
all_made blocks written split shape [] = []
all_made blocks written split shape (t ∷ ts) = table_made blocks (first_counts written) split (first_parts shape) t ++ all_made blocks (rest written) split (rest shape) ts

-- rows that go behind those of a part: the numbers of its table, and of the part in that
pub record TableGrowth : Type 0 where
  pub table : ℕ
  pub part : ℕ
  pub rows : Block

abbrev pub in_table : ℕ → Growth → TableGrowth
in_table table g = record { table = table; part = g.part; rows = g.rows }

-- those of all tables, the first of which has a number, in order
abbrev pub grown_from : ℕ → (ℕ → Block) → List (List ℕ) → ℕ → List TableParts → List StoredTable → List TableGrowth
grown_from n blocks written split shape [] = []
grown_from n blocks written split shape (t ∷ ts) =
    map (in_table n) (table_grown blocks (first_counts written) split (first_parts shape) t) ++ grown_from (n + 1) blocks (rest written) split (rest shape) ts

abbrev pub all_grown : (ℕ → Block) → List (List ℕ) → ℕ → List TableParts → List StoredTable → List TableGrowth
all_grown blocks written split shape ts = grown_from 0 blocks written split shape ts

-- Blocks by their numbers as a version shows them: those of its parts. What has another number is as it was; no part of
-- the version names it.
abbrev pub blocks_shown : (ℕ → Block) → List Piece → ℕ → Block
blocks_shown blocks [] n = blocks n
blocks_shown blocks (x ∷ xs) n = if nat_eq x.part.block n then x.block else blocks_shown blocks xs n

-- ---- a version

-- the blocks that transactions write, merged into the parts of a version
abbrev pub made_after : (ℕ → Block) → List (List ℕ) → ℕ → List TableParts → List Entry → List Block
made_after blocks written split shape entries = all_made blocks written split shape (arrivals (schemas_in shape) entries)

-- the rows that they put behind those of its parts
abbrev pub grown_after : (ℕ → Block) → List (List ℕ) → ℕ → List TableParts → List Entry → List TableGrowth
grown_after blocks written split shape entries = all_grown blocks written split shape (arrivals (schemas_in shape) entries)

-- what the next version says: its tables, and a number above those of all blocks so far
abbrev pub manifest_after : (ℕ → Block) → List (List ℕ) → ℕ → Manifest → List Entry → Manifest
manifest_after blocks written split m entries = record {
  next_block = m.next_block + length (made_after blocks written split m.shape entries);
  shape = shape_after blocks m.next_block written split m.shape (arrivals (schemas_in m.shape) entries);
}

-- its blocks by their numbers, as it shows them
abbrev pub versions_blocks : (ℕ → Block) → List (List ℕ) → ℕ → Manifest → List Entry → ℕ → Block
versions_blocks blocks written split m entries = blocks_shown blocks (all_pieces blocks m.next_block written split m.shape (arrivals (schemas_in m.shape) entries))
