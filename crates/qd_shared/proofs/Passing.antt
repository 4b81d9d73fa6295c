-- A pass goes on over its holds, and adds nothing.
use Rattle.std.proofs.Common.{◌≡◌, ◌∙◌, ℕ, ◌-◌, ◌≤◌, List, ◌++◌, length, Option, IfSome, refl, sym, ap, subst, arith, append-nil, le_refl}
use mathlib.Core.List.{IsPrefix}
use Rattle.qd_base.specs.declared.op.Entry.{Entry}
use Rattle.qd_score_model.specs.Machine.{behind}
use Rattle.qd_score_model.proofs.Lists.{prefix_refl, prefix_trans}
use Rattle.qd_store_backend.specs.Backs.{current, n_in}
use Rattle.qd_shared.specs.declared.item.Item.{Item}
use Rattle.qd_shared.specs.Desks.{Desk, items_in}
use Rattle.qd_shared.specs.Passes.{Holds, Looks, Pass, faults_of, history_of, view_of}
use Rattle.qd_shared.specs.Rounds.{Passes}

pub passes_both : (a b c : Pass) → Passes a b → Passes b c → Passes a c
passes_both a b c g h = record {
  table = h.table ∙ g.table;
  origin = h.origin ∙ g.origin;
  mode = h.mode ∙ g.mode;
  phase = h.phase ∙ g.phase;
  room = h.room ∙ g.room;
  own = h.own ∙ g.own;
  seen = prefix_trans (view_of a).seen (view_of b).seen (view_of c).seen g.seen h.seen;
  known = (let x = g.known in let y = h.known in omega (arith, x, y));
  faults = (let x = g.faults in let y = h.faults in omega (arith, x, y));
  count = h.count;
}

-- by none
pub passes_none : (p : Pass) → IfSome (history_of p) (λ h. length (view_of p).seen ≡ length h) → Passes p p
passes_none p count = record { table = refl; origin = refl; mode = refl; phase = refl; room = refl; own = refl; seen = prefix_refl (view_of p).seen; known = le_refl (view_of p).known; faults = le_refl (faults_of p); count = count }

-- one hold, in which no transaction came
pub held_passes : (old new : Pass) (found left : Desk) → Holds old new found left → n_in (current found.owned.store) ≤ n_in (current left.owned.store) → items_in left ≡ items_in found → history_of new ≡ left.history
    → IfSome left.history (λ h. length (items_in left) ≡ length h) → Passes old new
held_passes old new found left h shown same told count = record {
  table = h.table;
  origin = h.origin;
  mode = h.mode;
  phase = h.phase;
  room = h.room;
  own = h.own ∙ (ap (λ (n : ℕ). (view_of old).own ++ behind (length (items_in found)) n) none ∙ append-nil (view_of old).own);
  seen = subst (λ (l : List Item). IsPrefix (view_of old).seen l) (sym h.seen) (prefix_trans (view_of old).seen (items_in found) (items_in left) h.seen_before h.grows);
  known = (let before = h.known_before in let now = h.known in omega (arith, before, now, shown));
  faults = (let before = h.faults_before in let rise = h.rise in let now = h.faults in omega (arith, before, rise, now));
  count = subst (λ (o : Option (List Entry)). IfSome o (λ h. length (view_of new).seen ≡ length h)) (sym told) (subst (λ (l : List Item). IfSome left.history (λ h. length l ≡ length h)) (sym h.seen) count);
}
  where
    none : length (items_in left) - length (items_in found) ≡ 0
    none = let count : length (items_in left) ≡ length (items_in found) = ap length same in omega (arith, count)

-- a look
pub looked_passes : (old new : Pass) → Looks old new → Passes old new
looked_passes old new l = held_passes old new l.desk l.desk l.holds (le_refl (n_in (current l.desk.owned.store))) refl l.history l.count
