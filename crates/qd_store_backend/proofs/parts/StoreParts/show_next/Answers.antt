use Rattle.std.proofs.Common.{◌≡◌, ◌<◌, inr, None, Err, List, length, sym, subst, ap, rules}
use Rattle.std.proofs.lemmas.Result.{err_from_is_err_and}
use Rattle.qd_base.specs.Lawful.{AreSchemas}
use Rattle.qd_durable.specs.declared.fault.LogFault.{LogFault}
use Rattle.qd_durable.specs.declared.fault.LogFault.TheVariants as log
use Rattle.qd_manifest.specs.declared.shape.TableParts.{TableParts}
use Rattle.qd_manifest.specs.Spelling.{schemas_in}
use Rattle.qd_store.proofs.OldsRead.{same_cause}
use Rattle.qd_store.proofs.MergedVersion.{may_over}
use Rattle.qd_store_backend.specs.Backs.{LeavesNoOther, Parts, current, n_in}
use Rattle.qd_store_backend.specs.Rounds.{StaysTold}
use Rattle.qd_store_backend.proofs.Leaving.{leaves_same, leaves_still, told_next, told_still}
use Rattle.qd_store_backend.proofs.Turns.{draft_damaged, rows_same, shown_next, untold}
use Rattle.qd_store_backend.proofs.parts.StoreParts.show_next.Goals as goal

pub schemas_of-requires : goal.schemas_of-requires
schemas_of-requires g c =
    let m = c.in_ok-merged.merged in
    let may = may_over c.merging_stands.ensures.law c.self.inside.store.store.versions.versions m c.in_ok-merged.ensures.over in
    record { schemas = subst (λ (l : List TableParts). AreSchemas (schemas_in l)) (sym c.shape.ensures.shape) may.sound.schemas }

pub returns-in_err-merged-clause-left : goal.returns-in_err-merged-clause-left
returns-in_err-merged-clause-left g c =
    subst (λ (p : Parts). LeavesNoOther p.owned c.next_of.new.store) c.self.view_is (leaves_still c.self.inside.store c.next_of.new.store c.next_of.ensures.store c.next_of.ensures.stays)

pub returns-in_err-merged-clause-stays : goal.returns-in_err-merged-clause-stays
returns-in_err-merged-clause-stays g c =
    subst (λ (p : Parts). StaysTold p.owned c.next_of.new.store) c.self.view_is (told_still c.self.inside.store c.next_of.new.store c.next_of.ensures.store c.next_of.ensures.stays)

pub returns-in_err-schemas-clause-left : goal.returns-in_err-schemas-clause-left
returns-in_err-schemas-clause-left g c =
    subst (λ (p : Parts). LeavesNoOther p.owned c.next_of.new.store) c.self.view_is (leaves_still c.self.inside.store c.next_of.new.store c.next_of.ensures.store c.next_of.ensures.stays)

pub returns-in_err-schemas-clause-stays : goal.returns-in_err-schemas-clause-stays
returns-in_err-schemas-clause-stays g c =
    subst (λ (p : Parts). StaysTold p.owned c.next_of.new.store) c.self.view_is (told_still c.self.inside.store c.next_of.new.store c.next_of.ensures.store c.next_of.ensures.stays)

pub returns-in_err-turn_to-clause-left : goal.returns-in_err-turn_to-clause-left
returns-in_err-turn_to-clause-left g c =
    subst (λ (p : Parts). LeavesNoOther p.owned c.turn_to.new.store) c.self.view_is (leaves_same c.self.inside.store c.next_of.new.store c.turn_to.new.store c.next_of.ensures.store c.next_of.ensures.stays c.turn_to.ensures.left)

pub returns-in_err-turn_to-clause-stays : goal.returns-in_err-turn_to-clause-stays
returns-in_err-turn_to-clause-stays g c =
    subst (λ (p : Parts). StaysTold p.owned c.turn_to.new.store) c.self.view_is
    (told_next c.self.inside.store c.next_of.new.store c.turn_to.new.store c.in_ok-merged.merged c.in_ok-merged.ensures.told c.next_of.ensures.store c.next_of.ensures.stays c.turn_to.ensures.told)

pub returns-clause-left : goal.returns-clause-left
returns-clause-left g c =
    subst (λ (p : Parts). LeavesNoOther p.owned c.turn_to.new.store) c.self.view_is (leaves_same c.self.inside.store c.next_of.new.store c.turn_to.new.store c.next_of.ensures.store c.next_of.ensures.stays c.turn_to.ensures.left)

pub returns-clause-stays : goal.returns-clause-stays
returns-clause-stays g c =
    subst (λ (p : Parts). StaysTold p.owned c.turn_to.new.store) c.self.view_is
    (told_next c.self.inside.store c.next_of.new.store c.turn_to.new.store c.in_ok-merged.merged c.in_ok-merged.ensures.told c.next_of.ensures.store c.next_of.ensures.stays c.turn_to.ensures.told)

pub returns-in_err-turn_to-clause-damaged : goal.returns-in_err-turn_to-clause-damaged
returns-in_err-turn_to-clause-damaged g c file at damaged =
    let r = c.from_residual-in_err-turn_to.result in
    let p = err_from_is_err_and r c.from_residual-in_err-turn_to.ensures.1 in
    let same = same_cause r c.in_err-turn_to.field-0.0 (log.Damaged file at) (subst (λ (f : LogFault). r ≡ Err f) p.2 p.1) damaged in
    let unwritten = c.in_err-turn_to.ensures.unwritten file at (ap Err same) in
    inr (rows_same c.turn_to.new.store c.next_of.new.store (sym unwritten.1) (sym unwritten.0) file at (c.in_err-turn_to.ensures.damaged file at (ap Err same)))

pub returns-in_err-turn_to-clause-sound : goal.returns-in_err-turn_to-clause-sound
returns-in_err-turn_to-clause-sound g c file at damaged =
    let r = c.from_residual-in_err-turn_to.result in
    let p = err_from_is_err_and r c.from_residual-in_err-turn_to.ensures.1 in
    let same = same_cause r c.in_err-turn_to.field-0.0 (log.Damaged file at) (subst (λ (f : LogFault). r ≡ Err f) p.2 p.1) damaged in
    subst (λ (p : Parts). p.history ≡ None) c.self.view_is
    (untold c.self.inside.telling.history c.self.inside.store c.self.invariant.parts.told
    (λ h told. c.in_err-turn_to.ensures.whole h (told_still c.self.inside.store c.next_of.new.store c.next_of.ensures.store c.next_of.ensures.stays h told) file at (ap Err same)))

pub returns-in_err-merged-clause-damaged : goal.returns-in_err-merged-clause-damaged
returns-in_err-merged-clause-damaged g c file at damaged =
    let r = c.from_residual.result in
    let p = err_from_is_err_and r c.from_residual.ensures.1 in
    let same = same_cause r c.in_err-merged.field-0.0 (log.Damaged file at) (subst (λ (f : LogFault). r ≡ Err f) p.2 p.1) damaged in
    let all : c.args.upto ≡ length c.self.inside.store.store.sequence.refs = subst (λ (p : Parts). c.args.upto ≡ length p.owned.store.sequence.refs) (sym c.self.view_is) c.requires.all in
    draft_damaged c.self.inside.store c.next_of.new.store c.next_of.ensures.store c.next_of.ensures.stays c.args.upto all file at (c.in_err-merged.ensures.damaged file at (ap Err same))

pub returns-clause-shows : goal.returns-clause-shows
returns-clause-shows g c =
    let on : n_in (current c.self.inside.store.store) < n_in (current c.turn_to.new.store.store) =
    shown_next c.self.inside.store.store c.next_of.new.store.store c.turn_to.new.store.store c.in_ok-merged.merged c.in_ok-merged.ensures.upto.0 c.in_ok-turn_to.ensures.turned in
    record {
      shown = subst (λ (p : Parts). n_in (current p.owned.store) < n_in (current c.turn_to.new.store.store)) c.self.view_is on;
      sequence = search rules;
      limits = search rules;
      told = search rules;
      damages = search rules;
    }
