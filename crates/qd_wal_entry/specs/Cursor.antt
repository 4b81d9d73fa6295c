-- A place in an entry that is read.
use Rattle.std.specs.Prelude.{ℕ, List}

-- the texts of the entry, how many of them the cells so far have used, and the bytes that are still to be read
pub record Cursor : Type 0 where
  pub texts : List (List ℕ)
  pub used : ℕ
  pub rest : List ℕ

-- behind bytes that use no text
abbrev pub moved : Cursor → List ℕ → Cursor
moved at rest = record at { rest = rest }
