use Rattle.std.proofs.Common.{◌∙◌, sym, ap, pos}
use Rattle.std.proofs.lemmas.Result.{IfOk-weaker}
use Rattle.qd_rows.specs.Sets.{rows_in}
use Rattle.qd_group.specs.Tallies.{counted, tallied}
use Rattle.qd_group.proofs.Assembly.{length_rows}
use Rattle.qd_group.proofs.SumLemmas.{counted_all}
use Rattle.qd_group.proofs.tallying.tally_of_all.Goals as goal

pub returns-in-Count : goal.returns-in-Count
returns-in-Count g c = record {
  tally = IfOk-weaker c.count_of.result _ _
      (λ t h. h ∙ ap (λ n. counted (pos n)) (c.len.ensures.count ∙ sym (length_rows c.args.rows.now)) ∙ counted_all (rows_in c.args.rows.now) ∙ ap (λ a. tallied a (rows_in c.args.rows.now)) (sym c.in-Count.is))
      c.count_of.ensures.tally;
}
