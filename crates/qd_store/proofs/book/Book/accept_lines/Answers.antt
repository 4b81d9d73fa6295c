use Rattle.std.proofs.Common.{ap, ◌∙◌}
use Rattle.std.proofs.lemmas.Result.{err_from_is_err_and}
use Rattle.qd_sequencer.specs.declared.fault.CommitFault.{CommitFault}
use Rattle.qd_sequencer.specs.declared.fault.Committed.{Committed}
use Rattle.qd_store.specs.Arriving.{SaysLines}
use Rattle.qd_store.specs.Stores.{Book}
use Rattle.qd_store.proofs.Settled.{alone_told, ready_told, settled_lines, unsettled}
use Rattle.qd_store.proofs.book.Book.accept_lines.Goals as goal

pub returns-in_err-settle-clause-told : goal.returns-in_err-settle-clause-told
returns-in_err-settle-clause-told g c =
    let p = err_from_is_err_and c.from_residual.result c.from_residual.ensures.1 in
    let old = c.args.self.now in
    rw p.1 (alone_told Committed CommitFault (SaysLines old.sequence.schemas c.args.now c.args.batch.now) p.0 old c.settle.new.self _ _ c.settle.ensures.told)

pub returns-in-Ok-clause-told : goal.returns-in-Ok-clause-told
returns-in-Ok-clause-told g c =
    ready_told c.commit.result c.args.self.now c.settle.new.self c.commit.new.self _ _ _
    c.settle.ensures.same c.in_ok-settle.ensures.clean c.settle.ensures.versions c.settle.ensures.told
    (λ schemas e. SaysLines schemas c.args.now c.args.batch.now e) c.in-Ok.field-0 c.bytes-in-Ok.result.now c.bytes-in-Ok.ensures.same c.commit.ensures.told
    c.schemas.result.now (c.schemas.ensures.schemas ∙ ap (λ (s : Book). s.sequence.schemas) c.self.view_is) c.in-Ok.ensures.prepared

pub returns-in-Err-clause-told : goal.returns-in-Err-clause-told
returns-in-Err-clause-told g c =
    let old = c.args.self.now in
    alone_told Committed CommitFault (SaysLines old.sequence.schemas c.args.now c.args.batch.now) c.of_lines.result old c.settle.new.self _ _ c.settle.ensures.told

pub returns-in_err-settle-clause-settled : goal.returns-in_err-settle-clause-settled
returns-in_err-settle-clause-settled g c =
    let p = err_from_is_err_and c.from_residual.result c.from_residual.ensures.1 in
    rw p.1 (rw p.2 (unsettled Committed c.in_err-settle.field-0.0 c.settle.new.self.sequence))

pub returns-in-Err-clause-settled : goal.returns-in-Err-clause-settled
returns-in-Err-clause-settled g c = rw c.of_lines.ensures.fault (settled_lines Committed _ c.settle.new.self.sequence c.in_ok-settle.ensures.clean)
