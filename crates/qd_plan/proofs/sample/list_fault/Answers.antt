use Rattle.std.proofs.Common.{◌∙◌, List, rules}
use Rattle.std.specs.List.{flat_map, zip}
use Rattle.qd_base.specs.declared.schema.ColType.{ColType}
use Rattle.qd_sql_ast.specs.declared.tree.FillWith.{FillWith}
use Rattle.qd_meaning.specs.Sampling.{none_faults}
use Rattle.qd_plan.specs.Filling.{beside_faults}
use Rattle.qd_plan.proofs.SampleLemmas.{several}
use Rattle.qd_plan.proofs.sample.list_fault.Goals as goal

pub returns-in-len2-up : goal.returns-in-len2-up
returns-in-len2-up c =
    let fs : List FillWith = c.args.fills.now in
    let ks : List ColType = c.args.kinds.now in
    record {
      least =
          c.both.ensures.least (flat_map none_faults fs) (flat_map beside_faults (zip fs ks)) (c.soonest.ensures.least none_faults (record { judges = search rules })) c.numbers_fault.ensures.least
          ∙ several fs ks c.in-len2-up.len_at_least;
    }
