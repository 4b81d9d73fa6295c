use Rattle.std.proofs.Common.{refl}
use Rattle.qd_score_model.proofs.Examples.{held_back_may_come, let_go_may_come, too_late_may_come}
use Rattle.qd_score_model.proofs.laws.worked_examples.Goals as goal

pub returns : goal.returns
returns c = record { law = record { held_back_may_come = held_back_may_come; refused = refl; still_live = refl; still_pinned = refl; current = refl; let_go_may_come = let_go_may_come; not_refused = refl; retired = refl; unpinned = refl; too_late_may_come = too_late_may_come; not_pinned = refl; moved_on = refl } }
