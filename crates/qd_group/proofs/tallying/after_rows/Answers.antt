use Rattle.std.proofs.Common.{◌≡◌, ◌∙◌, ◌-◌, ◌++◌, ◌∷◌, [], ℕ, arith, sym, ap, map}
use Rattle.std.specs.Prelude.{fold}
use Rattle.std.specs.List.{range_with_len}
use Rattle.std.proofs.lemmas.List.Sums.{fold_push}
use Rattle.qd_expr.proofs.CellLemmas.{run_placed}
use Rattle.qd_expr.proofs.ListLemmas.{map-map}
use Rattle.qd_base.specs.declared.cell.Cell.{Cell}
use Rattle.qd_value.specs.Scalars.{cell_of}
use Rattle.qd_group.specs.Tallied.{state_of}
use Rattle.qd_group.specs.Tallies.{next}
use Rattle.qd_group.proofs.SumLemmas.{range_more, taken}
use Rattle.qd_group.proofs.tallying.after_rows.Goals as goal

pub argument-requires : goal.argument-requires
argument-requires g c = run_placed c.args.rows.now c.args.run c.loop-i.i c.requires (omega arith) (omega arith)

pub loop-i-preserved : goal.loop-i-preserved
loop-i-preserved g c =
    let f : ℕ → Cell = λ i. taken c.args.agg.now c.args.rows.now (c.args.run.block, i) in
    let r = c.args.run in
    let st = state_of c.args.tally in
    c.in_ok-after.ensures.next
    ∙ ap (λ s. next s (cell_of c.argument.result)) c.loop-i.invariant
    ∙ sym (fold_push next st (map f (range_with_len r.from (c.loop-i.i - r.from))) (cell_of c.argument.result))
    ∙ ap (fold next st) (sym (range_more f r.from c.loop-i.i (omega arith) ∙ ap (λ x. map f (range_with_len r.from (c.loop-i.i - r.from)) ++ x ∷ []) (sym c.argument.ensures)))

pub returns : goal.returns
returns g c =
    let r = c.args.run in
    let f : ℕ → Cell = λ i. taken c.args.agg.now c.args.rows.now (r.block, i) in
    let done : c.loop-i.i - c.args.run.from ≡ c.args.run.to - c.args.run.from = omega (arith, c.requires.some) in
    record {
      tally = c.loop-i.invariant
          ∙ ap (λ n. fold next (state_of c.args.tally) (map f (range_with_len r.from n))) done
          ∙ ap (fold next (state_of c.args.tally)) (sym (map-map (taken c.args.agg.now c.args.rows.now) (λ i. (r.block, i)) (range_with_len r.from (r.to - r.from))));
    }
