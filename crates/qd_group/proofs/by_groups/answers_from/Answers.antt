use Rattle.std.proofs.Common.{◌∙◌, ap, map, length}
use Rattle.std.proofs.lemmas.Result.{IfOk-weaker}
use Rattle.qd_rows.specs.Sets.{rows_in}
use Rattle.qd_group.specs.Tallies.{answer}
use Rattle.qd_group.proofs.TallyLemmas.{column_answers}
use Rattle.qd_group.proofs.by_groups.answers_from.Goals as goal

pub returns : goal.returns
returns g c =
    let state = g.K.Keeping.state in
    record {
      answers = IfOk-weaker c.outcomes.result _ _
          (λ v h. h ∙ ap (map (λ t. answer (state t))) c.as_slice.ensures.value
          ∙ column_answers state c.args.agg.now c.args.groups.now.numbers.items (length c.args.groups.now.firsts.items) (rows_in c.args.rows.now) c.in_ok-tallies.tallies.items c.in_ok-tallies.ensures.tallies)
          c.outcomes.ensures.answers;
    }
