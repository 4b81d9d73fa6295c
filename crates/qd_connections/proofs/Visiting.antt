-- A session was held.
use Rattle.std.proofs.Common.{◌≡◌, ◌∙◌, Option, Some, None, sym, ap, subst}
use Rattle.qd_fronts.specs.declared.front.AnyFront.{AnyFront}
use Rattle.qd_fronts.specs.Fronts.{any_protocol, begun}
use Rattle.qd_io.specs.Ends.{Stream}
use Rattle.qd_session.specs.Looks.{Extends}
use Rattle.qd_session.specs.Session.{Faults, Serves, moment}
use Rattle.qd_shared.specs.Passes.{Pass, history_of}
use Rattle.qd_pass.specs.Backs.{back_shown, table_in}
use Rattle.qd_pass.specs.Passed.{GoesStill, IsReady, shown_by}
use Rattle.qd_pass.specs.Shared.{AllowedShared}
use Rattle.qd_connections.specs.Visits.{IsServed, Visit, Visited}

-- of the backend that was made of a visit's pass, and the one that its session left
pub visited : (v : Visit) (o : Visited) (wire : Stream) (first later : AnyFront) (back now : Option Pass) (from : Pass) → o.wire ≡ wire → first ≡ begun v.front → back ≡ Some from → now ≡ Some o.pass
    → GoesStill v.pass from → Serves AllowedShared (moment (any_protocol first) (back_shown back) v.wire v.clock) (moment (any_protocol later) (back_shown now) wire o.clock) o.ended
    → Extends (back_shown back).history (back_shown now).history → Faults v.wire wire (Some o.ended) → IsReady o.pass → table_in now ≡ table_in back → IsServed v o
visited v o wire first later back now from same none started ended looked served history faults ready fixed = record {
  from = from;
  looked = looked;
  later = later;
  served =
      subst (λ (f : AnyFront). Serves AllowedShared (moment (any_protocol f) (shown_by from) v.wire v.clock) (moment (any_protocol later) (shown_by o.pass) o.wire o.clock) o.ended) none
      (subst (λ (b : Option Pass). Serves AllowedShared (moment (any_protocol first) (back_shown b) v.wire v.clock) (moment (any_protocol later) (shown_by o.pass) o.wire o.clock) o.ended) started
      (subst (λ (b : Option Pass). Serves AllowedShared (moment (any_protocol first) (back_shown back) v.wire v.clock) (moment (any_protocol later) (back_shown b) o.wire o.clock) o.ended) ended
      (subst (λ (w : Stream). Serves AllowedShared (moment (any_protocol first) (back_shown back) v.wire v.clock) (moment (any_protocol later) (back_shown now) w o.clock) o.ended) (sym same) served)));
  history = subst (λ (b : Option Pass). Extends (back_shown b).history (history_of o.pass)) started (subst (λ (b : Option Pass). Extends (back_shown back).history (back_shown b).history) ended history);
  faults = subst (λ (w : Stream). Faults v.wire w (Some o.ended)) (sym same) faults;
  ready = ready;
  table =
      let same : Some o.pass.table ≡ Some from.table = sym (ap table_in ended) ∙ fixed ∙ ap table_in started in
      let one : o.pass.table ≡ from.table = cc in
      one ∙ looked.goes.table;
}
