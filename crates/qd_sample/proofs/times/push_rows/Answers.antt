use Rattle.std.proofs.Common.{◌≡◌, ◌∙◌, ◌-◌, ◌++◌, [], ℕ, List, ap, sym, arith, map}
use Rattle.std.specs.List.{range_with_len}
use Rattle.std.proofs.lemmas.List.{append-nil}
use Rattle.qd_expr.proofs.CellLemmas.{run_placed}
use Rattle.qd_sample.proofs.RunTimes.{rows_all, rows_more, time_at}
use Rattle.qd_sample.proofs.times.push_rows.Goals as goal

pub time_at-requires : goal.time_at-requires
time_at-requires g c = run_placed c.args.rows.now c.args.run c.loop-i.i c.requires (omega arith) (omega arith)

pub loop-i-init : goal.loop-i-init
loop-i-init g c =
    let none : c.args.run.from - c.args.run.from ≡ 0 = omega arith in
    sym (ap (λ (n : ℕ). c.args.times.now.items ++ map (λ j. time_at c.args.rows.now c.args.time_col (c.args.run.block, j)) (range_with_len c.args.run.from n)) none ∙ append-nil c.args.times.now.items)

pub loop-i-preserved : goal.loop-i-preserved
loop-i-preserved g c = rows_more c.args.rows.now c.args.time_col c.args.run c.loop-i.i c.args.times.now.items c.loop-i.times.items c.push.new.self.items c.time_at.result (omega arith) c.loop-i.invariant c.time_at.ensures c.in_ok-push.ensures.items

pub returns : goal.returns
returns g c = record { times = c.loop-i.invariant ∙ ap (λ (l : List ℕ). c.args.times.now.items ++ l) (rows_all c.args.rows.now c.args.time_col c.args.run c.loop-i.i (omega (arith, c.requires.some))) }
