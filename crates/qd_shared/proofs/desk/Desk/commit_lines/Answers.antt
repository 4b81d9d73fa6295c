use Rattle.std.proofs.Common.{Ok, subst, sym}
use Rattle.qd_base.specs.declared.limits.Limits.{Limits}
use Rattle.qd_sequencer.specs.declared.fault.CommitFault.{CommitFault}
use Rattle.qd_sequencer.specs.declared.fault.Committed.{Committed}
use Rattle.qd_store.specs.Arriving.{SaysLines}
use Rattle.qd_store_backend.specs.Backs.{AreUsual}
use Rattle.qd_store_backend.proofs.Commits.{next_told, still_told}
use Rattle.qd_shared.specs.Commits.{batch_at, CommitsTo}
use Rattle.qd_shared.specs.Desks.{Desk}
use Rattle.qd_shared.proofs.Desking.{commits_done}
use Rattle.qd_shared.proofs.desk.Desk.commit_lines.Goals as goal

pub invariant_of-self : goal.invariant_of-self
invariant_of-self g c =
    let i = c.self.inside in
    record {
      usual = subst (λ (l : Limits). AreUsual l) (sym c.accept_lines.ensures.limits) c.self.invariant.usual;
      told = still_told Committed CommitFault i.store c.accept_lines.new.self (SaysLines i.store.store.sequence.schemas c.args.now c.args.batch.now) c.in_err-done.field-0.0 c.in_err-done.ensures.told i.telling.history c.self.invariant.told;
    }

pub turn-requires : goal.turn-requires
turn-requires g c =
    let i = c.self.inside in
    next_told Committed CommitFault i.store c.accept_lines.new.self (SaysLines i.store.store.sequence.schemas c.args.now c.args.batch.now) c.in_ok-done.done c.in_ok-done.ensures.told i.telling.history c.self.invariant.told

pub returns : goal.returns
returns g c =
    let i = c.self.inside in
    let old : Desk = record { owned = i.store; history = i.telling.history; removed = i.removed } in
    let new : Desk = record { owned = c.accept_lines.new.self; history = c.turn.new.self.history; removed = i.removed } in
    let e = c.in_ok-done.ensures in
    record {
      commits = subst (λ (d : Desk). CommitsTo (batch_at c.args.now c.args.batch.now) (Ok c.in_ok-done.done) d new) c.self.view_is
          (commits_done (batch_at c.args.now c.args.batch.now) old c.accept_lines.new.self c.self.invariant c.in_ok-done.done c.turn.new.self.history i.writer c.one_entry_is_read.ensures e.place e.count e.versions e.limits e.told c.turn.ensures e.counted);
      sound = c.learn.ensures.sound c.requires.sound;
    }
