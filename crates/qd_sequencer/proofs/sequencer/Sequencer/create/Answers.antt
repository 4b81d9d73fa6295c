use Rattle.std.proofs.lemmas.Result.{err_from_is_err_and}
use Rattle.qd_validate.proofs.FollowLemmas.{no_schemas}
use Rattle.qd_sequencer.proofs.CommitLemmas.{made_told, not_made_told}
use Rattle.qd_sequencer.proofs.WriterLemmas.{none_kept_at}
use Rattle.qd_sequencer.proofs.sequencer.Sequencer.create.Goals as goal

pub returns-in_err-log-clause-told : goal.returns-in_err-log-clause-told
returns-in_err-log-clause-told g c =
    let p = err_from_is_err_and c.from_residual.result c.from_residual.ensures.1 in
    rw p.1 (not_made_told c.in_err-log.field-0.0 p.0 _ _ c.in_err-log.ensures.told)

pub invariant_of-result : goal.invariant_of-result
invariant_of-result g c = (no_schemas c.new.result c.new.ensures.empty, none_kept_at _ c.new-2.result.items c.new-2.ensures.items)

pub returns-clause-told : goal.returns-clause-told
returns-clause-told g c = made_told _ c.in_ok-log.log c.in_ok-log.ensures.empty c.in_ok-log.ensures.clean c.new.ensures.empty c.new-2.ensures.items _ _ c.in_ok-log.ensures.told
