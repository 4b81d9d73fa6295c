use Rattle.std.proofs.Common.{◌≡◌, map, take, get_or}
use Rattle.qd_base.specs.declared.cell.Cell.TheVariants as cell
use Rattle.qd_column.proofs.texts.Texts.gathered.Given as goal

-- the rows at the places so far are copied
abbrev pub invariant-loop-place : goal.invariant-loop-place
invariant-loop-place l = l.texts ≡ map (λ i. get_or l.self i cell.Null) (take l.place-index l.places)
