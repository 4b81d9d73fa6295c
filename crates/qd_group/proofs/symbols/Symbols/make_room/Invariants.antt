use Rattle.std.proofs.Common.{ℕ, ◌+◌, ◌-◌, List, length}
use Rattle.qd_base.specs.declared.cell.Cell.{Cell}
use Rattle.qd_group.specs.Numbering.{Stands}
use Rattle.qd_group.proofs.symbols.Symbols.make_room.Given as goal

-- what is known stays known
abbrev pub invariant-loop-self : goal.invariant-loop-self
invariant-loop-self g l = (texts : ℕ → List (List ℕ)) (cells : List Cell) (n : ℕ) → Stands texts cells n l.initial.self → Stands texts cells n l.self

abbrev pub decreases-loop-self : goal.decreases-loop-self
decreases-loop-self g l = length (g.D.Dictionary.texts l.dictionary) + 1 - length l.self.table.items
