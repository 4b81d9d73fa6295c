use Rattle.std.proofs.Common.{◌∙◌, ◌++◌, Bool, not, List, Option, length, ap}
use Rattle.std.specs.Prelude.{nat_le}
use Rattle.qd_base.specs.declared.code.Code.TheVariants as code
use Rattle.qd_base.specs.declared.schema.ColType.{ColType}
use Rattle.qd_sql_ast.specs.declared.tree.Sampled.{Sampled}
use Rattle.qd_meaning.specs.declared.refusal.Refusal.{Refusal}
use Rattle.qd_meaning.specs.Refusals.{least, sooner, unless}
use Rattle.qd_meaning.specs.Sampling.{align_faults, fills_faults}
use Rattle.qd_plan.proofs.FaultLemmas.{step}
use Rattle.qd_plan.proofs.SampleLemmas.{some_there}
use Rattle.qd_plan.proofs.sample.sample_spec.Goals as goal

pub returns-clause-faults : goal.returns-clause-faults
returns-clause-faults c =
    let before : Option Refusal = c.args.faults.now.first in
    let s : Sampled = c.args.sampled.now in
    let kinds : List ColType = c.args.kinds.now in
    let n : List Refusal = unless (nat_le 1 (length kinds)) code.Keys s.at in
    let f : List Refusal = fills_faults s.fills kinds in
    let a : List Refusal = align_faults s.align in
    let some = c.unless.ensures.added ∙ ap (λ (b : Bool). sooner before (least (unless b code.Keys s.at))) (ap not c.is_empty.ensures ∙ some_there (length kinds)) in
    let filled = c.add.ensures.added ∙ ap (sooner c.unless.new.self.first) c.fills_fault.ensures.least in
    let aligned = c.add-2.ensures.added ∙ ap (sooner c.add.new.self.first) c.align_fault.ensures.least in
    step before c.add.new.self.first c.add-2.new.self.first (n ++ f) a (step before c.unless.new.self.first c.add.new.self.first n f some filled) aligned
