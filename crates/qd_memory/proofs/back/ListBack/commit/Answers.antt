use Rattle.std.proofs.Common.{refl, sym}
use Rattle.qd_memory.proofs.HistoryLemmas.{fits_kept, fits_more}
use Rattle.qd_memory.proofs.back.ListBack.commit.Goals as goal
use Rattle.qd_memory.proofs.back.ListBack.commit.Goals.{then-inserts_only+in_ok-push, else-inserts_only+in_ok-schemas+in_ok-push-2}

pub invariant_of-self-2 : goal.invariant_of-self-2
invariant_of-self-2 c =
    let inside = c.self.inside in
    let lawful = rw (sym c.self.view_is) at c.requires.lawful in
    elim c.if-inserts_only.branch [
      | then-inserts_only+in_ok-push w ↦
          rw w.self-inside-is
          (fits_kept _ _ _ _ _ _ _ _ w.in_ok-push.ensures.ok refl refl refl
          (fits_more inside.history inside.applied inside.schemas inside.schemas inside.parts c.args.entry c.self.invariant lawful c.requires.cells c.requires.alone (sym (rw c.as_slice.ensures.items at w.if-inserts_only.ensures.unchanged inside.schemas))))
      | else-inserts_only+in_ok-schemas+in_ok-push-2 w ↦
          rw w.self-inside-is
          (fits_kept _ _ _ _ _ _ _ _ w.in_ok-push-2.ensures.ok refl refl refl
          (fits_more inside.history inside.applied inside.schemas w.in_ok-schemas.schemas inside.parts c.args.entry c.self.invariant lawful c.requires.cells c.requires.alone (rw w.as_slice-else-inserts_only.ensures.items at w.in_ok-schemas.ensures.after)))
    ]
