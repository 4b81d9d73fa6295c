use Rattle.std.proofs.Common.{◌≡◌, List, IfOk, subst}
use Rattle.std.specs.Prelude.{fold}
use Rattle.qd_base.specs.declared.cell.Cell.{Cell}
use Rattle.qd_group.specs.Tallied.{state_of}
use Rattle.qd_group.specs.Tallies.{next}
use Rattle.qd_group.proofs.SumLemmas.{longs_taken}
use Rattle.qd_group.proofs.tallying.after_run.Goals as goal

pub returns-in-Some : goal.returns-in-Some
returns-in-Some g c = record {
  tally = subst (λ (l : List Cell). IfOk c.after_longs.result (λ t. state_of t ≡ fold next (state_of c.args.tally) l))
      (longs_taken c.args.agg.now c.args.rows.now c.args.at c.args.run c.in-Some.numbers.now c.requires.column c.in-Some.ensures.numbers)
      c.after_longs.ensures.next;
}
