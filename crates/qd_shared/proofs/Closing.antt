-- The store is shared, and taken back.
use Rattle.std.proofs.Common.{◌≡◌, ◌∙◌, ℕ, ◌-◌, ◌≤◌, Bool, true, false, List, length, Option, Some, None, is_some, IfSome, sym, ap, subst, arith}
use mathlib.Core.List.{IsPrefix}
use Rattle.atomic_table.specs.Seated.{TableId}
use Rattle.qd_base.specs.declared.op.Entry.{Entry}
use Rattle.qd_manifest.specs.Spelling.{blocks_of}
use Rattle.qd_score.specs.Rule.{Stands, first_seat}
use Rattle.qd_score_model.specs.declared.limits.TheConstants.{MAX_SPLITS}
use Rattle.qd_score_model.specs.declared.view.Mode.TheVariants.{Sole}
use Rattle.qd_score_model.specs.Kept.{RisesWithin}
use Rattle.qd_score_model.specs.Machine.{behind}
use Rattle.qd_score_model.proofs.Lists.{prefix_length}
use Rattle.qd_store.specs.Owned.{Store}
use Rattle.qd_store_backend.specs.Backs.{IsTold, current, n_in}
use Rattle.qd_shared.specs.declared.item.Fixed.{Fixed}
use Rattle.qd_shared.specs.declared.item.Item.{Item}
use Rattle.qd_shared.specs.Commits.{IsCounted}
use Rattle.qd_shared.specs.Desks.{Desk, IsDesk, book_of, fixed_of, items_in}
use Rattle.qd_shared.specs.Holding.{Begins}
use Rattle.qd_shared.specs.Passes.{Closes, GoesOnTo, HasDesk, Knowing, Pass, history_by, history_of, is_told, view_of, Starts}
use Rattle.qd_shared.proofs.Desking.{counted_of}
use Rattle.qd_shared.proofs.Held.{at_table, comes_fixed}
use Rattle.qd_shared.proofs.Items.{entries_grow, history_is, items_count}

goes_on : (told : Bool) (seen items : List Item) (history : Option (List Entry)) → IsPrefix seen items → history_by told items ≡ history → GoesOnTo (history_by told seen) history
goes_on false seen items history pre is = sym is
goes_on true seen items history pre is = let e = entries_grow seen items pre in (e.0, sym is ∙ ap (λ (l : List Entry). Some l) (sym e.1))

-- whether a history is told is as it was when the store was shared
told_found : (k : Knowing) (found : Desk) → HasDesk k → Begins k found → is_told k.origin ≡ is_some found.history
told_found k found has b =
    let fixed : fixed_of found ≡ fixed_of has.0 = subst (λ (o : Option Desk). IfSome o (λ d. fixed_of found ≡ fixed_of d)) has.1 (comes_fixed k.origin found b.comes) in
    ap is_told has.1 ∙ ap (λ (f : Fixed). f.told) (sym fixed)

-- the history of a desk is that of its items
history_found : (k : Knowing) (found : Desk) → HasDesk k → Begins k found → IsCounted found → history_by (is_told k.origin) (items_in found) ≡ found.history
history_found k found has b counted = ap (λ (t : Bool). history_by t (items_in found)) (told_found k found has b) ∙ history_is found counted

-- what a take of the lock found goes on behind what its pass had seen
pub goes_found : (p : Pass) (table : TableId) (k : Knowing) (found : Desk) → at_table table k ≡ p → HasDesk k → Begins k found → IsCounted found → GoesOnTo (history_of p) found.history
goes_found p table k found is has b counted =
    subst (λ (q : Pass). GoesOnTo (history_of q) found.history) is (goes_on (is_told k.origin) k.view.seen (items_in found) found.history b.seen (history_found k found has b counted))

-- and is that, where the pass is a Sole one
all_found : (p : Pass) (table : TableId) (k : Knowing) (found : Desk) → at_table table k ≡ p → HasDesk k → Begins k found → IsCounted found → (view_of p).mode ≡ Sole → found.history ≡ history_of p
all_found p table k found is has b counted sole =
    let mine : k.view.mode ≡ Sole = ap (λ (q : Pass). (view_of q).mode) is ∙ sole in
    sym (history_found k found has b counted) ∙ (ap (history_by (is_told k.origin)) (b.sole mine) ∙ ap history_of is)

-- what a view has seen of a desk is no more than there is
within : (seen : List Item) (d : Desk) → IsPrefix seen (items_in d) → IsDesk d → IfSome d.history (λ h. length seen ≤ length h)
within seen d pre desk = by d.history (counted_of d desk).count where
  by : (history : Option (List Entry)) → IfSome history (λ h. length d.owned.store.sequence.refs ≡ length h) → IfSome history (λ h. length seen ≤ length h)
  by None count = tt
  by (Some h) count = let le = prefix_length seen (items_in d) pre in let all = items_count d.owned.store.sequence.refs d.history in omega (arith, le, all, count)

-- as many items as a desk has are transactions of its history
whole : (origin : Option Desk) (own : List ℕ) (d : Desk) → IsDesk d → IfSome origin (λ o. own ≡ behind (length (items_in o)) (length (items_in d) - length (items_in o))) → IfSome origin (λ o. IfSome d.history (λ h. own ≡ behind (length (items_in o)) (length h - length (items_in o))))
whole None own d desk all = tt
whole (Some o) own d desk all = by d.history (counted_of d desk).count
  where
    by : (history : Option (List Entry)) → IfSome history (λ h. length d.owned.store.sequence.refs ≡ length h) → IfSome history (λ h. own ≡ behind (length (items_in o)) (length h - length (items_in o)))
    by None count = tt
    by (Some h) count = all ∙ ap (λ (n : ℕ). behind (length (items_in o)) (n - length (items_in o))) (items_count d.owned.store.sequence.refs d.history ∙ count)

-- the positions of a view's own items rise
own_rises : (k : Knowing) → Stands blocks_of k.view → RisesWithin 0 (length k.view.seen) k.view.own
own_rises k stands = (stands.2.history.seats stands.1 k.view stands.3).own

pub closed : (p : Pass) (table : TableId) (k : Knowing) (found book : Desk) (owned : Store) → at_table table k ≡ p → HasDesk k → Stands blocks_of k.view → Begins k found → book ≡ found → owned ≡ book.owned → IsDesk book → Closes p owned
closed p table k found book owned is has stands b same store kept =
    let here : IsDesk found = subst IsDesk same kept in
    let mine : owned ≡ found.owned = store ∙ ap (λ (d : Desk). d.owned) same in
    record {
      history = found.history;
      told = subst (λ (o : Store). IfSome found.history (IsTold o)) (sym mine) here.told;
      seen = goes_found p table k found is has b (counted_of found here);
      sole = all_found p table k found is has b (counted_of found here);
      known = subst (λ (q : Pass). (view_of q).known ≤ n_in (current owned.store)) is (subst (λ (o : Store). k.view.known ≤ n_in (current o.store)) (sym mine) b.known);
      own = subst (λ (q : Pass). RisesWithin 0 (length (view_of q).seen) (view_of q).own) is (own_rises k stands);
      within = subst (λ (q : Pass). IfSome found.history (λ h. length (view_of q).seen ≤ length h)) is (within k.view.seen found b.seen here);
      whole = subst (λ (q : Pass). MAX_SPLITS ≤ (view_of q).room → IfSome q.knows.origin (λ o. IfSome found.history (λ h. (view_of q).own ≡ behind (length (items_in o)) (length h - length (items_in o))))) is (λ room. whole k.origin k.view.own found here (b.whole room));
    }

-- the first pass over a desk
pub started : (p : Pass) (owned : Store) (history : Option (List Entry)) → (d : Desk) → d ≡ record { owned = owned; history = history; removed = 0 } → IsDesk d → p.knows ≡ first_seat book_of (λ (_ : Desk). Unit {0}) fixed_of d → Starts p owned history
started p owned history d is desk first =
    let knows : p.knows ≡ first_seat book_of (λ (_ : Desk). Unit {0}) fixed_of (record { owned = owned; history = history; removed = 0 }) = first ∙ ap (first_seat book_of (λ (_ : Desk). Unit {0}) fixed_of) is in
    let here : IsDesk (record { owned = owned; history = history; removed = 0 }) = subst IsDesk is desk in
    record {
      desk = ap (λ (k : Knowing). k.origin) knows;
      view = ap (λ (k : Knowing). k.view) knows;
      told = ap (λ (k : Knowing). history_by (is_told k.origin) k.view.seen) knows ∙ history_is (record { owned = owned; history = history; removed = 0 }) (counted_of (record { owned = owned; history = history; removed = 0 }) here);
      count = all_seen history (counted_of (record { owned = owned; history = history; removed = 0 }) here).count (ap (λ (k : Knowing). length k.view.seen) knows ∙ items_count owned.store.sequence.refs history);
    }
  where
    all_seen : (told : Option (List Entry)) → IfSome told (λ h. length owned.store.sequence.refs ≡ length h) → length (view_of p).seen ≡ length owned.store.sequence.refs → IfSome told (λ h. length (view_of p).seen ≡ length h)
    all_seen None count seen = tt
    all_seen (Some h) count seen = seen ∙ count
