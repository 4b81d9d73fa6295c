-- A step of one seat that is an event of the scoreboard keeps the rule.
use Rattle.std.proofs.Common.{◌≡◌, ◌≢◌, ◌⊎◌, ℕ, ◌<◌, false, List, map, length, set, Some, sym, ap, ◌∙◌, subst, inl, inr, ⊎_elim, arith}
use Rattle.std.specs.Prelude.{slice_index, Option}
use mathlib.Core.Option.{Option as Found, some}
use lib.ListN.{get_elem?}
use Rattle.atomic_table.specs.Table.{State as TableState}
use Rattle.atomic_table.proofs.Lists.{at_set, at_map, set_here, set_again}
use Rattle.qd_score_model.specs.declared.view.View.{View}
use Rattle.qd_score_model.specs.declared.view.Sight.{Sight}
use Rattle.qd_score_model.specs.Machine.{Book, Board, State, Event, sight, Needs, board_after, view_after, views_after}
use Rattle.qd_score_model.specs.Kept.{Kept}
use Rattle.qd_score_model.proofs.Lists.{at_below}
use Rattle.qd_score_model.proofs.Runs.{kept_happens, opened_happens}
use Rattle.qd_score.specs.declared.table.Knows.{Knows}
use Rattle.qd_score.specs.Rule.{WordsShow, IsFree, IsHeld, Ruled, Stands, view_in, with_view}
use Rattle.qd_score.proofs.Words.{map_set, word_again, word_else, word_here, lock_words, held_by}

module _ {I S B F : Type 0} (book : B → Book I S) (sound : B → Type 0) (fixed : B → F) (blocks : S → List ℕ) where
  abbrev Table : Type 0
  Table = TableState (Option B) (Knows I S B)

  abbrev Slot : Board I S → B → List ℕ → List (Found (Option B)) → Type 0
  Slot b origin words homes = IsFree book sound fixed b origin words homes ⊎ IsHeld {B = B} b words homes

  -- the state's view of a seat
  pub view_there : (t : TableState (Option B) (Knows I S B)) (r : Ruled book sound fixed blocks t) (id : ℕ) (k : Knows I S B) → get_elem? t.views id ≡ some k → get_elem? r.state.views id ≡ some k.view
  view_there t r id k at = subst (λ (vs : List (View I S)). get_elem? vs id ≡ some k.view) r.views (at_map view_in t.views id k at)

  pub ruled_by : (t : TableState (Option B) (Knows I S B)) (r : Ruled book sound fixed blocks t) (id : ℕ) (k : Knows I S B) → get_elem? t.views id ≡ some k → k.view.spent ≡ false
      → (e : Event I S) → Needs blocks r.state id k.view e → views_after r.state id k.view e ≡ set r.state.views id (view_after r.state.board id k.view e)
      → (v : View I S) → view_after r.state.board id k.view e ≡ v → v.spent ≡ false
      → (words : List ℕ) (homes : List (Found (Option B)))
      → WordsShow (board_after r.state.board id e).current (board_after r.state.board id e).pins (board_after r.state.board id e).live (board_after r.state.board id e).versions words
      → IsFree book sound fixed (board_after r.state.board id e) r.origin words homes ⊎ IsHeld (board_after r.state.board id e) words homes
      → Ruled book sound fixed blocks (record { words = words; homes = homes; views = set t.views id (with_view k v) }) × Stands blocks v
  ruled_by t r id k at spent e need plain v same stays words homes show slot = (
    record {
      state = after;
      origin = r.origin;
      kept = kept;
      opened = opened_happens blocks r.state id k.view e ∙ r.opened;
      views = map_set view_in t.views id (with_view k v) ∙ ap (λ (vs : List (View I S)). set vs id v) r.views;
      origins = origins;
      words = show;
      slot = slot;
    },
    (after, id, kept, set_here r.state.views id v (at_below r.state.views id k.view (view_there t r id k at)), stays),
  )
    where
      after : State I S
      after = record { board = board_after r.state.board id e; views = set r.state.views id v }

      kept : Kept blocks after
      kept = subst (λ (vs : List (View I S)). Kept blocks (record { board = board_after r.state.board id e; views = vs })) (plain ∙ ap (λ (w : View I S). set r.state.views id w) same) (kept_happens blocks r.state id k.view e r.kept (view_there t r id k at) spent need)

      origins : (seat : ℕ) (j : Knows I S B) → get_elem? (set t.views id (with_view k v)) seat ≡ some j → j.view.spent ≡ false → j.origin ≡ Some r.origin
      origins seat j there stands = ⊎_elim
          (λ (x : (seat ≡ id) × (with_view k v ≡ j)). ap (λ (z : Knows I S B). z.origin) (sym x.1) ∙ r.origins id k at spent)
          (λ (x : (seat ≢ id) × (get_elem? t.views seat ≡ some j)). r.origins seat j x.1 stands)
          (at_set t.views id seat (with_view k v) j there)

  -- the same, where the board after the event is known by another name
  pub ruled_to : (t : TableState (Option B) (Knows I S B)) (r : Ruled book sound fixed blocks t) (id : ℕ) (k : Knows I S B) → get_elem? t.views id ≡ some k → k.view.spent ≡ false
      → (e : Event I S) → Needs blocks r.state id k.view e → views_after r.state id k.view e ≡ set r.state.views id (view_after r.state.board id k.view e)
      → (v : View I S) → view_after r.state.board id k.view e ≡ v → v.spent ≡ false
      → (c : Board I S) → board_after r.state.board id e ≡ c → (words : List ℕ) (homes : List (Found (Option B)))
      → WordsShow c.current c.pins c.live c.versions words → IsFree book sound fixed c r.origin words homes ⊎ IsHeld c words homes
      → Ruled book sound fixed blocks (record { words = words; homes = homes; views = set t.views id (with_view k v) }) × Stands blocks v
  ruled_to t r id k at spent e need plain v same stays c is words homes show slot = ruled_by t r id k at spent e need plain v same stays words homes
      (subst (λ (d : Board I S). WordsShow d.current d.pins d.live d.versions words) (sym is) show)
      (subst (λ (d : Board I S). IsFree book sound fixed d r.origin words homes ⊎ IsHeld d words homes) (sym is) slot)

  -- the lock's word is written as it was found
  pub slot_again : (b : Board I S) (origin : B) (words : List ℕ) (homes : List (Found (Option B))) (n : ℕ) → 0 < length words → n ≡ slice_index words 0 → IsFree book sound fixed b origin words homes ⊎ IsHeld b words homes
      → IsFree book sound fixed b origin (set words 0 n) homes ⊎ IsHeld b (set words 0 n) homes
  slot_again b origin words homes n lt same slot = ⊎_elim
      (λ (f : IsFree book sound fixed b origin words homes). inl (record {
        holder = f.holder;
        lock = word_here words 0 n lt ∙ (same ∙ f.lock);
        inside = f.inside;
        home = f.home;
        history = f.history;
        versions = f.versions;
        current = f.current;
        present = f.present;
        faults = f.faults;
        removed = f.removed;
        comes = f.comes;
      }))
      (λ (h : IsHeld b words homes). inr (record { seat = h.seat; holder = h.holder; lock = word_here words 0 n lt ∙ (same ∙ h.lock); home = h.home }))
      slot

  -- nothing changes but the lock's word, which is written as it was found
  pub ruled_again : (t : TableState (Option B) (Knows I S B)) (r : Ruled book sound fixed blocks t) (id : ℕ) (k : Knows I S B) → get_elem? t.views id ≡ some k → (n : ℕ) → n ≡ slice_index t.words 0
      → Ruled book sound fixed blocks (record { words = set t.words 0 n; homes = t.homes; views = set t.views id k })
  ruled_again t r id k at n same = record {
    state = r.state;
    origin = r.origin;
    kept = r.kept;
    opened = r.opened;
    views = ap (λ vs. map view_in vs) (set_again t.views id k at) ∙ r.views;
    origins = λ seat j there. r.origins seat j (subst (λ (vs : List (Knows I S B)). get_elem? vs seat ≡ some j) (set_again t.views id k at) there);
    words = lock_words t.words n r.words;
    slot = slot_again r.state.board r.origin t.words t.homes n (let c = r.words.count in omega arith) same r.slot;
  }

  -- another word than the lock's changed
  pub slot_else : (b c : Board I S) (origin : B) (words : List ℕ) (homes : List (Found (Option B))) (i n : ℕ) → 0 ≢ i → c.holder ≡ b.holder → sight b ≡ sight c → IsFree book sound fixed b origin words homes ⊎ IsHeld b words homes
      → IsFree book sound fixed c origin (set words i n) homes ⊎ IsHeld c (set words i n) homes
  slot_else b c origin words homes i n ne holder same slot = ⊎_elim
      (λ (f : IsFree book sound fixed b origin words homes). inl (record {
        holder = holder ∙ f.holder;
        lock = word_else words i 0 n ne ∙ f.lock;
        inside = f.inside;
        home = f.home;
        history = f.history ∙ ap (λ (h : Sight I S). h.history) same;
        versions = f.versions ∙ ap (λ (h : Sight I S). h.versions) same;
        current = f.current ∙ ap (λ (h : Sight I S). h.current) same;
        present = f.present ∙ ap (λ (h : Sight I S). h.present) same;
        faults = f.faults ∙ ap (λ (h : Sight I S). h.faults) same;
        removed = f.removed ∙ ap (λ (h : Sight I S). h.removed) same;
        comes = f.comes;
      }))
      (λ (h : IsHeld b words homes). inr (record { seat = h.seat; holder = holder ∙ h.holder; lock = word_else words i 0 n ne ∙ h.lock; home = h.home }))
      slot

  -- the holder changed another word than the lock's
  pub slot_held : (t : TableState (Option B) (Knows I S B)) (r : Ruled book sound fixed blocks t) (id : ℕ) → r.state.board.holder ≡ Some id → (c : Board I S) → c.holder ≡ Some id → (i n : ℕ) → 0 ≢ i
      → IsFree book sound fixed c r.origin (set t.words i n) t.homes ⊎ IsHeld c (set t.words i n) t.homes
  slot_held t r id holder c still i n ne = ⊎_elim
      (λ (f : IsFree book sound fixed r.state.board r.origin t.words t.homes). let a = f.holder in absurd (cc))
      (λ (h : IsHeld r.state.board t.words t.homes). inr (record { seat = id; holder = still; lock = word_else t.words i 0 n ne ∙ h.lock; home = h.home }))
      r.slot

  -- what the holder sees is the board as it stands
  pub holds : (t : TableState (Option B) (Knows I S B)) (r : Ruled book sound fixed blocks t) (id : ℕ) (k : Knows I S B) → get_elem? t.views id ≡ some k → (h : Sight I S) → k.view.hold ≡ Some h → (r.state.board.holder ≡ Some id) × (sight r.state.board ≡ h)
  holds t r id k at h hold = held_by r.state.board id h (sym (r.kept.one_holder.holds id k.view (view_there t r id k at)) ∙ hold)

  -- nothing changes: a word is written as it was found
  pub ruled_same : (t : TableState (Option B) (Knows I S B)) (r : Ruled book sound fixed blocks t) (id : ℕ) (k : Knows I S B) → get_elem? t.views id ≡ some k → (i : ℕ)
      → Ruled book sound fixed blocks (record { words = set t.words i (slice_index t.words i); homes = t.homes; views = set t.views id k })
  ruled_same t r id k at i = subst (λ (p : List ℕ × List (Knows I S B)). Ruled book sound fixed blocks (record { words = p.0; homes = t.homes; views = p.1 })) (λ j. (sym (word_again t.words i) j, sym (set_again t.views id k at) j)) r

  pub stands_there : (t : TableState (Option B) (Knows I S B)) (r : Ruled book sound fixed blocks t) (id : ℕ) (k : Knows I S B) → get_elem? t.views id ≡ some k → k.view.spent ≡ false → Stands blocks k.view
  stands_there t r id k at spent = (r.state, id, r.kept, view_there t r id k at, spent)
