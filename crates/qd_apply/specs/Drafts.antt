-- What a draft and its plan show.
use Rattle.std.specs.Prelude.{ℕ, List}
use Rattle.qd_base.specs.Database.{StoredTable}
use Rattle.qd_manifest.specs.declared.shape.TableParts.{TableParts}

-- transactions that are to be merged into the parts of a version
pub record Drafting : Type 0 where
  -- of how many transactions the version is, and the next one so far
  pub base : ℕ
  pub upto : ℕ
  -- the number of the next new block, and the version's tables
  pub next_block : ℕ
  pub shape : List TableParts
  -- its tables and new ones, with the columns that they have by now, and the rows that came
  pub tables : List StoredTable

-- the same where their merge is planned
pub record Planning : Type 0 where
  pub base : ℕ
  pub upto : ℕ
  pub next_block : ℕ
  pub shape : List TableParts
  -- the tables, with the batch of each in place of the rows that came
  pub tables : List StoredTable
  -- for each part of each table of the version how many rows its block's files hold
  pub written : List (List ℕ)
  -- from how many rows on those of a part that stand before all late ones stay where they lie
  pub split_rows : ℕ
