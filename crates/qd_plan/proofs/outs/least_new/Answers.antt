use Rattle.std.proofs.Common.{◌∙◌, List, sym, ap, arith}
use Rattle.std.proofs.lemmas.List.{length-map}
use Rattle.qd_base.specs.declared.schema.Col.{Col}
use Rattle.qd_base.specs.Schemas.{column_at}
use Rattle.qd_meaning.specs.Outputs.{is_taken}
use Rattle.qd_plan.specs.Names.{names}
use Rattle.qd_plan.proofs.TakenLemmas.{found, missing}
use Rattle.qd_plan.proofs.TriedLemmas.{tried_up}
use Rattle.qd_plan.proofs.outs.least_new.Goals as goal

pub returns-in-None-clause-least : goal.returns-in-None-clause-least
returns-in-None-clause-least c =
    let cols : List Col = c.args.cols.now in
    let size = length-map cols (λ (d : Col). d.name) in
    let count = c.len-before-end.ensures in
    let low = c.loop-before-test.true in
    let text = c.in_ok-made.ensures.text in
    record {
      low = omega arith;
      few = omega arith;
      is_new =
          ap (is_taken (names cols)) (sym text)
          ∙ missing cols c.in_ok-made.made (c.in-None.ensures.position ∙ ap (column_at cols) c.bytes.ensures.same);
      others = λ k a b. c.loop-before.invariant k a (omega arith);
    }

pub loop-before-preserved : goal.loop-before-preserved
loop-before-preserved c =
    let cols : List Col = c.args.cols.now in
    tried_up (names cols) c.args.name.now c.loop-before.before c.loop-before.invariant
    (ap (is_taken (names cols)) (sym c.in_ok-made.ensures.text)
    ∙ found cols c.in_ok-made.made c.in-Some.field-0 (c.in-Some.ensures.position ∙ ap (column_at cols) c.bytes.ensures.same))
