use Rattle.std.proofs.Common.{◌∙◌, ◌<◌, [], ◌∷◌, ℕ, List, None, length, get_or, ap, arith}
use Rattle.std.specs.List.{zip}
use Rattle.std.proofs.lemmas.List.{get_or_default}
use Rattle.std.proofs.lemmas.Slice.Zip.{length-zip}
use Rattle.qd_base.specs.declared.schema.ColType.{ColType}
use Rattle.qd_base.specs.declared.schema.ColType.TheVariants as kind
use Rattle.qd_sql_ast.specs.declared.tree.FillWith.{FillWith}
use Rattle.qd_meaning.specs.Refusals.{sooner}
use Rattle.qd_plan.specs.Filling.{beside_faults}
use Rattle.qd_plan.proofs.FaultLemmas.{all, more}
use Rattle.qd_plan.proofs.SampleLemmas.{beside}
use Rattle.qd_plan.proofs.sample.numbers_fault.Goals as goal

pub loop-i-preserved : goal.loop-i-preserved
loop-i-preserved c =
    let fs : List FillWith = c.args.fills.now in
    let ks : List ColType = c.args.kinds.now in
    let i : ℕ = c.loop-i.i in
    let f : FillWith = c.index-fills-i.result in
    let k : ColType = get_or ks i kind.Long in
    let size = length-zip fs ks in
    let end = c.min-count.ensures in
    let low = c.loop-i-test.true in
    let lt : i < length (zip fs ks) = omega arith in
    let first : i < length fs = omega arith in
    let second : i < length ks = omega arith in
    more beside_faults (zip fs ks) i (f, k) lt (beside fs ks i f k first second c.index-fills-i.is (get_or_default ks i kind.Long k second)) None c.loop-i.found c.sooner-found.result
    c.loop-i.invariant (c.sooner-found.ensures.least ∙ ap (sooner c.loop-i.found) (c.number_fault.ensures.least (k ∷ []) c.is_long.ensures.alone))

pub returns : goal.returns
returns c =
    let fs : List FillWith = c.args.fills.now in
    let ks : List ColType = c.args.kinds.now in
    let size = length-zip fs ks in
    let end = c.min-count.ensures in
    let high = c.loop-i-test.false in
    let most = c.loop-i.auto.i-end in
    record { least = all beside_faults (zip fs ks) c.loop-i.i (omega arith) None c.loop-i.found c.loop-i.invariant }
