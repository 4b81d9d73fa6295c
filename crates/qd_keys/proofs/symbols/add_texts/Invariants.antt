use Rattle.std.proofs.Common.{◌≡◌, ◌++◌, map, take}
use Rattle.qd_base.specs.declared.cell.Cell.TheVariants as cell
use Rattle.qd_group.specs.Keys.{lent}
use Rattle.qd_keys.proofs.symbols.add_texts.Given as goal

-- the texts so far have been added
abbrev pub invariant-loop-id : goal.invariant-loop-id
invariant-loop-id g l = map lent l.texts.items ≡ map lent l.fn.texts.items ++ map (λ t. cell.Text t) (take l.id (g.D.Dictionary.texts l.dictionary))
