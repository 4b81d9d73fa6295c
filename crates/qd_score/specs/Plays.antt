-- What each step on the table tells its seat: its view afterwards, and that this view stands in a state that is kept.
use Rattle.std.specs.Prelude.{◌≡◌, ◌≢◌, ℕ, List, [], ◌∷◌, Option, Some, IfSome}
use Rattle.atomic_table.specs.Table.{Me, Step}
use Rattle.qd_score_model.specs.declared.view.Sight.{Sight}
use Rattle.qd_score_model.specs.Machine.{Book, took, gave, shared}
use Rattle.qd_score.specs.declared.table.Knows.{Knows}
use Rattle.qd_score.specs.Rule.{sight_of, IsInOrder, Stands, with_view, ComesFrom, HasAddedAll}

module _ {I S B F : Type 0} (book : B → Book I S) (sound : B → Type 0) (fixed : B → F) (blocks : S → List ℕ) where
  -- the lock was taken, and the slot with the book
  pub record Took (me now : Me (Option B) (Knows I S B)) : Type 0 where
    pub inside : B
    pub slot : now.1 ≡ (0, Some inside) ∷ []
    pub view : now.0 ≡ with_view me.0 (took me.0.view (sight_of (book inside)))
    pub comes : IfSome me.0.origin (λ origin. ComesFrom book sound fixed origin inside)
    pub finds : IsInOrder blocks (sight_of (book inside))
    pub whole : HasAddedAll book sound fixed me.0 inside
    pub stands : Stands blocks now.0.view

  -- the lock is taken where it was free
  pub record HasTaken (me : Me (Option B) (Knows I S B)) (found : ℕ) (now : Me (Option B) (Knows I S B)) : Type 0 where
    pub took : found ≡ 0 → Took me now
    pub missed : found ≢ 0 → now ≡ me

  abbrev pub Takes : Step (Option B) → Me (Option B) (Knows I S B) → ℕ → Me (Option B) (Knows I S B) → Type 0
  Takes step me found now = HasTaken me found now

  -- the lock is given back, and the slot with the book that lies in it
  pub record Gave (me now : Me (Option B) (Knows I S B)) : Type 0 where
    pub hold : Sight I S
    pub inside : B
    pub held : me.0.view.hold ≡ Some hold
    pub had : me.1 ≡ (0, Some inside) ∷ []
    pub slot : now.1 ≡ []
    pub view : now.0 ≡ with_view me.0 (gave me.0.view hold (book inside))
    pub stands : Stands blocks now.0.view

  abbrev pub Gives : Step (Option B) → Me (Option B) (Knows I S B) → ℕ → Me (Option B) (Knows I S B) → Type 0
  Gives step me found now = Gave me now

module _ {I S B : Type 0} (blocks : S → List ℕ) where
  -- nothing changes, and the view stands
  pub record HasLearned (me now : Me (Option B) (Knows I S B)) : Type 0 where
    pub seat : now ≡ me
    pub stands : Stands blocks now.0.view

  abbrev pub Learns : Step (Option B) → Me (Option B) (Knows I S B) → ℕ → Me (Option B) (Knows I S B) → Type 0
  Learns step me found now = HasLearned me now

  -- a Sole seat is a Writer from now on
  pub record HasShared (me now : Me (Option B) (Knows I S B)) : Type 0 where
    pub seat : now ≡ (with_view me.0 (shared me.0.view), me.1)
    pub stands : Stands blocks now.0.view

  abbrev pub Shares : Step (Option B) → Me (Option B) (Knows I S B) → ℕ → Me (Option B) (Knows I S B) → Type 0
  Shares step me found now = HasShared me now
