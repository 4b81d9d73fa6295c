use Rattle.std.proofs.Common.{◌∙◌, ap, sym, arith}
use Rattle.std.proofs.lemmas.List.{take_all}
use Rattle.qd_expr.proofs.CellLemmas.{row_found}
use Rattle.qd_rows.specs.Sets.{rows_in}
use Rattle.qd_group.specs.Tallied.{state_of}
use Rattle.qd_group.specs.Tallies.{argument, tallied}
use Rattle.qd_group.proofs.Assembly.{length_rows}
use Rattle.qd_group.proofs.TallyLemmas.{tallied_more}
use Rattle.qd_group.proofs.tallying.tally_by_row.Goals as goal

pub loop-i-preserved : goal.loop-i-preserved
loop-i-preserved g c =
    tallied_more c.args.agg.now (rows_in c.args.rows.now) c.loop-i.i (state_of c.loop-i.tally) (state_of c.in_ok-tally.tally) _ (omega (arith, length_rows c.args.rows.now)) c.loop-i.invariant
    (c.argument.ensures ∙ ap (argument c.args.agg.now) (sym (row_found c.args.rows.now c.loop-i.i c.places.result c.places.ensures.places))) c.in_ok-tally.ensures.next

pub returns : goal.returns
returns g c = record { tally = c.loop-i.invariant ∙ ap (tallied c.args.agg.now) (take_all c.loop-i.i (rows_in c.args.rows.now) (omega (arith, length_rows c.args.rows.now))) }
