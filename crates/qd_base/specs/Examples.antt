-- Worked examples: what a table holds after some short histories.
use Rattle.std.specs.Prelude.{◌≡◌, ℕ, ◌*◌, pos, false, List, [], ◌∷◌, map, codes}
use Rattle.qd_base.specs.declared.cell.Cell.TheVariants as cell
use Rattle.qd_base.specs.declared.schema.ColType.TheVariants as kind
use Rattle.qd_base.specs.declared.schema.PartUnit.TheVariants as unit
use Rattle.qd_base.specs.declared.schema.Col.{Col}
use Rattle.qd_base.specs.declared.schema.Schema.{Schema}
use Rattle.qd_base.specs.declared.op.Op.TheVariants as op
use Rattle.qd_base.specs.declared.op.Entry.{Entry}
use Rattle.qd_base.specs.Rows.{Row}
use Rattle.qd_base.specs.Replay.{after}

-- transactions of one change each
abbrev pub create : Schema → Entry
create schema = record { ops = op.Create schema ∷ [] }

abbrev pub insert : List ℕ → List Row → Entry
insert table rows = record { ops = op.Insert table rows ∷ [] }

abbrev pub add : List ℕ → Col → Entry
add table col = record { ops = op.AddColumn table col ∷ [] }

abbrev pub set_keys : List ℕ → List ℕ → Entry
set_keys table keys = record { ops = op.SetKeys table keys ∷ [] }

-- a table of readings, `v` and the designated `ts`, without keys
abbrev pub readings : Schema
readings =
    record {
      name = codes "readings";
      cols = record { name = codes "v"; kind = kind.Long } ∷ record { name = codes "ts"; kind = kind.Time } ∷ [];
      time_col = 1;
      unit = unit.Day;
      keys = [];
    }

-- a reading at a second
abbrev pub reading : ℕ → ℕ → Row
reading v second = cell.Long (pos v) ∷ cell.Time (second * 1000000) ∷ []

-- a table of prices, one for each second and name
abbrev pub prices : Schema
prices =
    record {
      name = codes "prices";
      cols = record { name = codes "ts"; kind = kind.Time } ∷ record { name = codes "name"; kind = kind.Symbol } ∷ record { name = codes "price"; kind = kind.Long } ∷ [];
      time_col = 0;
      unit = unit.Hour;
      keys = 0 ∷ 1 ∷ [];
    }

abbrev pub price : ℕ → List ℕ → ℕ → Row
price second name value = cell.Time (second * 1000000) ∷ cell.Text name ∷ cell.Long (pos value) ∷ []

-- the rows of each table
abbrev pub rows_after : List Entry → List (List Row)
rows_after history = map (λ t. t.rows) (after history)

pub record WorkedExamples : Type 0 where
  -- rows that come late find their place by time
  pub late : rows_after (create readings ∷ insert (codes "readings") (reading 3 30 ∷ []) ∷ insert (codes "readings") (reading 1 10 ∷ []) ∷ insert (codes "readings") (reading 2 20 ∷ []) ∷ []) ≡ (reading 1 10 ∷ reading 2 20 ∷ reading 3 30 ∷ []) ∷ []
  -- rows of one time stay in the order in which they came
  pub equal_times : rows_after (create readings ∷ insert (codes "readings") (reading 1 10 ∷ []) ∷ insert (codes "readings") (reading 2 10 ∷ []) ∷ []) ≡ (reading 1 10 ∷ reading 2 10 ∷ []) ∷ []
  -- of rows equal on the keys the last stays, in its place by time behind the others of that time
  pub keys : rows_after (create prices ∷ insert (codes "prices") (price 1 (codes "a") 1 ∷ price 1 (codes "b") 2 ∷ price 1 (codes "a") 3 ∷ []) ∷ []) ≡ (price 1 (codes "b") 2 ∷ price 1 (codes "a") 3 ∷ []) ∷ []
  -- a table is named without regard to ASCII case
  pub any_case : rows_after (create readings ∷ insert (codes "READINGS") (reading 1 10 ∷ []) ∷ []) ≡ (reading 1 10 ∷ []) ∷ []
  -- a column that comes later: the rows that are there hold NULL in it, or false
  pub added :
      rows_after
      (create readings ∷ insert (codes "readings") (reading 1 10 ∷ [])
      ∷ add (codes "readings") (record { name = codes "n"; kind = kind.Long })
      ∷ add (codes "readings") (record { name = codes "note"; kind = kind.Varchar })
      ∷ add (codes "readings") (record { name = codes "ok"; kind = kind.Bool }) ∷ [])
      ≡ ((cell.Long (pos 1) ∷ cell.Time 10000000 ∷ cell.Null ∷ cell.Null ∷ cell.Bool false ∷ []) ∷ []) ∷ []
  -- keys that are set later: rows that are there stay, and each later row takes the place of those with its keys
  pub keys_set :
      rows_after
      (create readings ∷ insert (codes "readings") (reading 1 10 ∷ reading 2 10 ∷ []) ∷ set_keys (codes "Readings") (1 ∷ [])
      ∷ insert (codes "readings") (reading 3 20 ∷ reading 4 20 ∷ []) ∷ [])
      ≡ (reading 1 10 ∷ reading 2 10 ∷ reading 4 20 ∷ []) ∷ []
  pub keys_met :
      rows_after
      (create readings ∷ insert (codes "readings") (reading 1 10 ∷ reading 2 10 ∷ []) ∷ set_keys (codes "readings") (1 ∷ [])
      ∷ insert (codes "readings") (reading 5 10 ∷ []) ∷ [])
      ≡ (reading 5 10 ∷ []) ∷ []
  -- keys that are taken away: later rows take no place, and the other table keeps its keys
  pub keys_dropped :
      rows_after
      (create prices ∷ create readings ∷ insert (codes "prices") (price 1 (codes "a") 1 ∷ []) ∷ set_keys (codes "readings") (1 ∷ [])
      ∷ insert (codes "prices") (price 1 (codes "a") 2 ∷ []) ∷ set_keys (codes "prices") []
      ∷ insert (codes "prices") (price 1 (codes "a") 3 ∷ []) ∷ [])
      ≡ (price 1 (codes "a") 2 ∷ price 1 (codes "a") 3 ∷ []) ∷ [] ∷ []
