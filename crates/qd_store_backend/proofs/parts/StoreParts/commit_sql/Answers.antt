use Rattle.std.proofs.Common.{Err, None, Ok, subst}
use Rattle.qd_sequencer.specs.declared.fault.CommitFault.{CommitFault}
use Rattle.qd_sequencer.specs.declared.fault.Committed.{Committed}
use Rattle.qd_store.specs.Arriving.{SaysStmt}
use Rattle.qd_store_backend.specs.Backs.{CommitsTo, LeavesOwn, Parts}
use Rattle.qd_store_backend.proofs.Commits.{commits_to, next_parts, next_told, still_parts}
use Rattle.qd_store_backend.proofs.KeptLemmas.{kept_behind, kept_still}
use Rattle.qd_store_backend.proofs.Leaving.{committed_leaves}
use Rattle.qd_store_backend.proofs.parts.StoreParts.commit_sql.Goals as goal

pub turn-requires : goal.turn-requires
turn-requires g c =
    let i = c.self.inside in
    next_told Committed CommitFault i.store c.accept_sql.new.self (SaysStmt i.store.store.sequence.schemas c.args.stmt.now) c.in_ok-done.done c.in_ok-done.ensures.told i.telling.history c.self.invariant.parts.told

pub invariant_of-self : goal.invariant_of-self
invariant_of-self g c =
    let i = c.self.inside in
    let old : Parts = record { owned = i.store; history = i.telling.history; schemas = i.schemas; damages = i.damages; last_damage = i.last_damage } in
    record {
      parts = still_parts Committed CommitFault old c.accept_sql.new.self (SaysStmt i.store.store.sequence.schemas c.args.stmt.now) c.in_err-done.field-0.0 c.self.invariant.parts c.accept_sql.ensures.versions c.in_err-done.ensures.told;
      blocks = kept_still old c.accept_sql.new.self i.kept.cache.entries c.accept_sql.ensures.versions c.self.invariant.blocks;
    }

pub invariant_of-self-2 : goal.invariant_of-self-2
invariant_of-self-2 g c =
    let i = c.self.inside in
    let old : Parts = record { owned = i.store; history = i.telling.history; schemas = i.schemas; damages = i.damages; last_damage = i.last_damage } in
    record {
      parts = next_parts old c.accept_sql.new.self c.turn.new.self.history c.self.invariant.parts c.accept_sql.ensures.versions c.turn.ensures;
      blocks = kept_behind old c.accept_sql.new.self i.kept.cache.entries c.accept_sql.ensures.versions c.turn.new.self.history c.self.invariant.parts.told c.turn.ensures c.self.invariant.blocks;
    }

pub returns-clause-commits : goal.returns-clause-commits
returns-clause-commits g c =
    let i = c.self.inside in
    let old : Parts = record { owned = i.store; history = i.telling.history; schemas = i.schemas; damages = i.damages; last_damage = i.last_damage } in
    let owned = c.accept_sql.new.self in
    let then = c.turn.new.self.history in
    let new : Parts = record { owned = owned; history = then; schemas = i.schemas; damages = i.damages; last_damage = None } in
    subst (λ (p : Parts). CommitsTo {T = Committed} {E = CommitFault} (Ok c.in_ok-done.done) p new (SaysStmt p.owned.store.sequence.schemas c.args.stmt.now)) c.self.view_is
    (commits_to Committed CommitFault old owned then (SaysStmt i.store.store.sequence.schemas c.args.stmt.now) c.in_ok-done.done c.args.writer c.one_entry_is_read.ensures c.self.invariant.parts.told
    c.in_ok-done.ensures.place c.accept_sql.ensures.versions c.accept_sql.ensures.limits c.in_ok-done.ensures.told c.turn.ensures)

pub returns-clause-left : goal.returns-clause-left
returns-clause-left g c =
    let i = c.self.inside in
    subst (λ (p : Parts). LeavesOwn p.owned c.accept_sql.new.self (SaysStmt p.owned.store.sequence.schemas c.args.stmt.now)) c.self.view_is
    (committed_leaves Committed CommitFault (Ok c.in_ok-done.done) i.store c.accept_sql.new.self (SaysStmt i.store.store.sequence.schemas c.args.stmt.now) c.in_ok-done.ensures.told)

pub returns-in_err-done-clause-left : goal.returns-in_err-done-clause-left
returns-in_err-done-clause-left g c =
    let i = c.self.inside in
    subst (λ (p : Parts). LeavesOwn p.owned c.accept_sql.new.self (SaysStmt p.owned.store.sequence.schemas c.args.stmt.now)) c.self.view_is
    (committed_leaves Committed CommitFault (Err c.in_err-done.field-0.0) i.store c.accept_sql.new.self (SaysStmt i.store.store.sequence.schemas c.args.stmt.now) c.in_err-done.ensures.told)
