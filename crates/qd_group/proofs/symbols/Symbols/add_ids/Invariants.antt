use Rattle.std.proofs.Common.{◌≡◌, ℕ, ◌+◌, ◌-◌, ◌<◌, ◌≤◌, List, length, get_or}
use Rattle.qd_base.specs.declared.cell.Cell.{Cell}
use Rattle.qd_base.specs.declared.cell.Cell.TheVariants as cell
use Rattle.qd_column.specs.Symbols.{texts_in}
use Rattle.qd_group.specs.Numbering.{Stands}
use Rattle.qd_group.proofs.symbols.Symbols.add_ids.Given as goal

-- the rows so far are numbered
abbrev pub invariant-loop-i : goal.invariant-loop-i
invariant-loop-i g l = record {
  next : (texts : ℕ → List (List ℕ)) → texts l.block ≡ texts_in l.column.cells → (cells : List Cell) (n : ℕ) → n + (l.to - l.from) ≤ length cells
      → ((k : ℕ) → k < l.to - l.from → get_or l.column.cells (l.from + k) cell.Null ≡ get_or cells (n + k) cell.Null)
      → Stands texts cells n l.initial.self → Stands texts cells (n + (l.i - l.from)) l.self;
  room : length l.self.table.items ≡ length l.initial.self.table.items;
}
