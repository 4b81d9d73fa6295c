-- Replay: the database after a list of transactions.
use Rattle.std.specs.Prelude.{ℕ, List, [], fold, take}
use Rattle.qd_base.specs.declared.op.Entry.{Entry}
use Rattle.qd_base.specs.Database.{Database, step}

-- the database after one transaction: its changes, in order
abbrev pub commit : Database → Entry → Database
commit db entry = fold step db entry.ops

-- the database after these transactions, in order, from a database on
abbrev pub replay : Database → List Entry → Database
replay db history = fold commit db history

-- the database after a history
abbrev pub after : List Entry → Database
after history = replay [] history

-- the database after the first n transactions of a history
abbrev pub first : List Entry → ℕ → Database
first history n = after (take n history)
