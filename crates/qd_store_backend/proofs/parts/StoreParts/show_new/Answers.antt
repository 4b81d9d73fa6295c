use Rattle.qd_durable.specs.declared.fault.LogFault.{LogFault}
use Rattle.qd_store_backend.proofs.Leaving.{leaves_both}
use Rattle.qd_store_backend.proofs.Turns.{rounded_next}
use Rattle.qd_store_backend.proofs.parts.StoreParts.show_new.Goals as goal

pub rounds-preserved : goal.rounds-preserved
rounds-preserved g c =
    let e = c.in_ok-show_next.ensures in
    rounded_next c.args.self.now c.rounds.self c.rounds.invariant _ LogFault c.in_ok-show_next.field-0 c.show_next.new.self e.shows e.alone e.stays e.left e.faults

pub returns-in_err-show_next-clause-left : goal.returns-in_err-show_next-clause-left
returns-in_err-show_next-clause-left g c =
    let before = c.rounds.invariant in
    leaves_both c.args.self.now.owned c.rounds.self.owned c.show_next.new.self.owned before.stays before.left c.show_next.ensures.left
