use Rattle.std.proofs.Common.{◌≡◌, List, fold, unwrap_or, sym, subst}
use Rattle.std.proofs.lemmas.Result.{err_from_is_err_and}
use Rattle.qd_base.specs.declared.schema.Schema.{Schema}
use Rattle.qd_base.specs.Schemas.{schemas_step}
use Rattle.qd_sequencer.specs.declared.fault.CommitFault.{CommitFault}
use Rattle.qd_sequencer.specs.declared.fault.CommitFault.TheVariants as fault
use Rattle.qd_sequencer.specs.declared.fault.Committed.{Committed}
use Rattle.qd_sequencer.specs.Histories.{IsLawfulOver}
use Rattle.qd_sequencer.proofs.CommitLemmas.{accepts_after_told, accepts_settled_told}
use Rattle.qd_sequencer.proofs.sequencer.Sequencer.commit.Goals as goal

pub returns-in_err-repair-clause-told : goal.returns-in_err-repair-clause-told
returns-in_err-repair-clause-told g c = λ e spells over leaves.
    let p = err_from_is_err_and c.from_residual.result c.from_residual.ensures.1 in
    rw p.1 (accepts_settled_told c.args.self.now c.repair.new.self (g.V.Volume.storage c.args.volume.now).disk (g.V.Volume.storage c.repair.new.volume).disk c.repair.ensures.same c.repair.ensures.told Committed CommitFault p.0 (λ x. x ≡ e))

pub returns-clause-told : goal.returns-clause-told
returns-clause-told g c = λ e spells over leaves.
    let same = c.repair.ensures.same in
    let told = c.put.ensures.told e spells
    (subst (λ (s : List Schema). IsLawfulOver s e) (sym same.schemas) over)
    (subst (λ (s : List Schema). unwrap_or c.args.after s ≡ fold schemas_step s e.ops) (sym same.schemas) leaves) in
    accepts_after_told c.args.self.now c.repair.new.self (g.V.Volume.storage c.args.volume.now).disk (g.V.Volume.storage c.repair.new.volume).disk c.repair.ensures.same c.repair.ensures.told
    c.put.result c.put.new.self (λ x. x ≡ e) (g.V.Volume.storage c.put.new.volume).disk c.in_ok-repair.ensures.clean told

pub returns-then-len-limits-clause-told : goal.returns-then-len-limits-clause-told
returns-then-len-limits-clause-told g c = λ e spells over leaves.
    accepts_settled_told c.args.self.now c.repair.new.self (g.V.Volume.storage c.args.volume.now).disk (g.V.Volume.storage c.repair.new.volume).disk c.repair.ensures.same c.repair.ensures.told Committed CommitFault fault.Full (λ x. x ≡ e)
