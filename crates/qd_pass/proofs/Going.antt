-- A pass goes on over its holds, and so does what its session shows.
use Rattle.std.proofs.Common.{◌≡◌, ◌∙◌, ℕ, ◌+◌, ◌-◌, ◌≤◌, Bool, true, false, List, [], ◌++◌, length, Option, Some, IfSome, refl, sym, ap, subst, arith, append-nil}
use mathlib.Core.List.{IsPrefix}
use Rattle.qd_base.specs.declared.op.Entry.{Entry}
use Rattle.qd_base.specs.declared.request.Reply.{Reply}
use Rattle.qd_base.specs.declared.request.Request.{Request}
use Rattle.qd_io.specs.Clocks.{Timeline}
use Rattle.qd_score_model.specs.Machine.{behind}
use Rattle.qd_score_model.proofs.Lists.{prefix_length, prefix_refl, prefix_trans}
use Rattle.qd_session.specs.Legal.{Answers, done_in}
use Rattle.qd_session.specs.Looks.{Extends, Grows, look_at}
use Rattle.qd_store_backend.specs.Backs.{current, n_in}
use Rattle.qd_shared.specs.declared.item.Item.{Item}
use Rattle.qd_shared.specs.Desks.{Desk, items_in}
use Rattle.qd_shared.specs.Passes.{Holds, Looks, Pass, history_by, history_of, is_told, view_of}
use Rattle.qd_shared.specs.Rounds.{Passes}
use Rattle.qd_shared.proofs.Items.{entries_grow}
use Rattle.qd_pass.specs.Passed.{GoesOn, GoesStill, IsCounted, shown_by}
use Rattle.qd_pass.specs.Shared.{AllowedShared}

-- ---- what was seen is the beginning of what is seen

extends_by : (told : Bool) (xs ys : List Item) → IsPrefix xs ys → Extends (history_by told xs) (history_by told ys)
extends_by false xs ys pre = refl
extends_by true xs ys pre = let e = entries_grow xs ys pre in (e.0, ap (λ (l : List Entry). Some l) (sym e.1))

pub extends_seen : (old new : Pass) → GoesOn old new → Extends (history_of old) (history_of new)
extends_seen old new g = subst (λ (o : Option Desk). Extends (history_of old) (history_by (is_told o) (view_of new).seen)) (sym g.origin) (extends_by (is_told old.knows.origin) (view_of old).seen (view_of new).seen g.seen)

pub goes_refl : (p : Pass) → GoesOn p p
goes_refl p = record { table = refl; origin = refl; mode = refl; seen = prefix_refl (view_of p).seen; known = omega arith; faults = omega arith }

pub still_refl : (p : Pass) → GoesStill p p
still_refl p = record { goes = goes_refl p; own = refl }

pub goes_both : (a b c : Pass) → GoesOn a b → GoesOn b c → GoesOn a c
goes_both a b c g h = record {
  table = h.table ∙ g.table;
  origin = h.origin ∙ g.origin;
  mode = h.mode ∙ g.mode;
  seen = prefix_trans (view_of a).seen (view_of b).seen (view_of c).seen g.seen h.seen;
  known = let x = g.known in let y = h.known in omega (arith, x, y);
  faults = let x = g.faults in let y = h.faults in omega (arith, x, y);
}

pub still_both : (a b c : Pass) → GoesStill a b → GoesStill b c → GoesStill a c
still_both a b c g h = record { goes = goes_both a b c g.goes h.goes; own = h.own ∙ g.own }

-- ---- holds

module _ (old new : Pass) (found left : Desk) (h : Holds old new found left) (shown : n_in (current found.owned.store) ≤ n_in (current left.owned.store)) where
  pub held_goes : GoesOn old new
  held_goes = record {
    table = h.table;
    origin = h.origin;
    mode = h.mode;
    seen = subst (λ (l : List Item). IsPrefix (view_of old).seen l) (sym h.seen) (prefix_trans (view_of old).seen (items_in found) (items_in left) h.seen_before h.grows);
    known = (let before = h.known_before in let now = h.known in omega (arith, before, now, shown));
    faults = (let before = h.faults_before in let rise = h.rise in let now = h.faults in omega (arith, before, rise, now));
  }

  pub held_still : items_in left ≡ items_in found → GoesStill old new
  held_still same = record { goes = held_goes; own = h.own ∙ (ap (λ (n : ℕ). (view_of old).own ++ behind (length (items_in found)) n) none ∙ append-nil (view_of old).own) }
    where
      none : length (items_in left) - length (items_in found) ≡ 0
      none = let count : length (items_in left) ≡ length (items_in found) = ap length same in omega (arith, count)

-- holds in which nothing was added
pub passed_still : (old new : Pass) → Passes old new → GoesStill old new
passed_still old new p = record {
  goes = record { table = p.table; origin = p.origin; mode = p.mode; seen = p.seen; known = p.known; faults = p.faults };
  own = p.own;
}

pub counted_now : (new : Pass) (left : Desk) → (view_of new).seen ≡ items_in left → history_of new ≡ left.history → IfSome left.history (λ h. length (items_in left) ≡ length h) → IsCounted new
counted_now new left seen told count =
    subst (λ (o : Option (List Entry)). IfSome o (λ h. length (view_of new).seen ≡ length h)) (sym told) (subst (λ (l : List Item). IfSome left.history (λ h. length l ≡ length h)) (sym seen) count)

pub looked_still : (old new : Pass) → Looks old new → GoesStill old new
looked_still old new l = held_still old new l.desk l.desk l.holds (omega arith) refl

pub looked_counted : (old new : Pass) → Looks old new → IsCounted new
looked_counted old new l = counted_now new l.desk l.holds.seen l.history l.count

-- ---- what a session shows

pub grows_shown : (old new : Pass) → GoesOn old new → Grows (shown_by old) (shown_by new)
grows_shown old new g = record {
  history = extends_seen old new g;
  sequenced = prefix_length (view_of old).seen (view_of new).seen g.seen;
  known = g.known;
  faults = g.faults;
}

-- an answer by which nothing is added
pub still_answers : (old new : Pass) (time : ℕ) (asked : Request) (given : Reply) → GoesStill old new → done_in given ≡ []
    → ((clock clock' : Timeline) → AllowedShared (history_of new) (look_at clock (shown_by old)) (look_at clock' (shown_by new)) time asked given) → Answers AllowedShared (shown_by old) (shown_by new) time asked given
still_answers old new time asked given g none allowed = record {
  grows = grows_shown old new g.goes;
  allowed = λ clock clock' later. allowed clock clock';
  own = g.own ∙ (sym (append-nil (view_of old).own) ∙ ap (λ (l : List ℕ). (view_of old).own ++ l) (sym none));
}
