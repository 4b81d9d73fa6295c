use Rattle.std.proofs.Common.{Some, Err, sym, subst}
use Rattle.qd_session.specs.declared.ended.Ended.{Ended}
use Rattle.qd_session.specs.Turns.{Said}
use Rattle.qd_session.proofs.WireLemmas.{said-from_fault, writes-by}
use Rattle.qd_session.proofs.session.say.Goals as goal

pub returns-in-Err-clause-said : goal.returns-in-Err-clause-said
returns-in-Err-clause-said g c =
    subst (λ (how : Ended). Said (g.W.Ends.stream c.args.wire.now) (g.W.Ends.stream c.write_all.new.sink) c.args.bytes.now (Some how))
    (sym c.of_write.ensures)
    (said-from_fault _ _ _ c.in-Err.fault (writes-by {T = Unit {0}} _ _ _ (Err c.in-Err.fault) c.in-Err.ensures.told c.in-Err.ensures.rest))
