use Rattle.std.proofs.Common.{◌≡◌, ◌∙◌, List, arith, sym, ap, ap₂, get_or, map, take, rules}
use Rattle.std.specs.Prelude.{pos, fold, ℤ}
use Rattle.std.proofs.lemmas.List.{take_all, take_more, map_push}
use Rattle.std.proofs.lemmas.List.Sums.{fold_push}
use Rattle.std.proofs.lemmas.Int.{to_z-of_z}
use Rattle.std.specs.Int.{w64}
use mir.Val.{SFits, of_z, to_z}
use Rattle.qd_column.specs.Cells.{long_cell}
use Rattle.qd_group.specs.Tallied.{state_of}
use Rattle.qd_group.specs.Tallies.{next}
use Rattle.qd_group.proofs.tallies.Tally.after_each.Goals as goal

pub loop-number-preserved : goal.loop-number-preserved
loop-number-preserved c =
    let i = c.loop-number.number-index in
    let xs = c.args.numbers.now in
    let fits : SFits w64 (get_or c.args.numbers.now c.loop-number.number-index (pos 0)) = search rules in
    let read : long_cell (to_z w64 (of_z w64 (get_or c.args.numbers.now c.loop-number.number-index (pos 0)))) ≡ long_cell (get_or c.args.numbers.now c.loop-number.number-index (pos 0)) = ap long_cell (to_z-of_z w64 (get_or xs i (pos 0)) fits) in
    c.in_ok-tally.ensures.next
    ∙ ap₂ next c.loop-number.invariant (c.of_long.ensures ∙ read)
    ∙ sym (fold_push next (state_of c.args.self) (map long_cell (take i xs)) (long_cell (get_or xs i (pos 0))))
    ∙ ap (fold next (state_of c.args.self)) (sym (ap (map long_cell) (take_more xs i (pos 0) (omega arith)) ∙ map_push long_cell (take i xs) (get_or xs i (pos 0))))

pub returns : goal.returns
returns c = record { next = c.loop-number.invariant ∙ ap (λ (l : List ℤ). fold next (state_of c.args.self) (map long_cell l)) (take_all c.loop-number.number-index c.args.numbers.now (omega arith)) }
