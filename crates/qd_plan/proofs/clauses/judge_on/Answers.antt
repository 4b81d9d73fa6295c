use Rattle.std.proofs.Common.{◌∙◌, ℕ, Bool, Option, ap}
use Rattle.qd_base.specs.declared.code.Code.TheVariants as code
use Rattle.qd_bind.specs.Scoped.{scope}
use Rattle.qd_meaning.specs.declared.refusal.Refusal.{Refusal}
use Rattle.qd_meaning.specs.Refusals.{least, sooner, unless}
use Rattle.qd_meaning.specs.Scopes.{Resolved, resolved}
use Rattle.qd_meaning.specs.Planned.{is_column}
use Rattle.qd_plan.proofs.FaultLemmas.{step}
use Rattle.qd_plan.proofs.clauses.judge_on.Goals as goal

pub returns : goal.returns
returns c =
    let before : Option Refusal = c.args.faults.now.first in
    let at : ℕ = c.args.on.now.first.at in
    let r : Resolved = resolved (scope c.args.columns.now) c.args.on.now in
    let is_time = c.is_column-is_time.ensures.column ∙ ap (is_column c.args.time_col) c.resolve-found.ensures.column in
    record {
      faults =
          step before c.add.new.self.first c.unless.new.self.first r.faults (unless (is_column c.args.time_col r.column) code.Keys at)
          (c.add.ensures.added ∙ ap (sooner before) c.resolve-found.ensures.fault)
          (c.unless.ensures.added ∙ ap (λ (b : Bool). sooner c.add.new.self.first (least (unless b code.Keys at))) is_time);
    }
