-- Books of numbers whose versions list no block.
use Rattle.std.proofs.Common.{◌≡◌, ℕ, zero, suc, ◌-◌, ◌<◌, ◌≤◌, List, [], ◌∷◌, replicate, length, Some, None, refl, sym, ap, ◌∙◌, subst, arith, zero-le, le_refl}
use Rattle.std.specs.Prelude.{Option, Contains}
use Rattle.qd_score_model.specs.declared.limits.TheConstants.{ROWS}
use Rattle.qd_score_model.specs.declared.view.Place.{Place}
use Rattle.qd_score_model.specs.declared.view.Version.{Version}
use Rattle.qd_score_model.specs.declared.view.View.{View}
use Rattle.qd_score_model.specs.Machine.{Book, MayOpen, version_at, IsGreatest, AllPresent}
use Rattle.qd_score_model.proofs.Lists.{prefix_refl}
use Rattle.qd_score_model.proofs.Seats.{no_version}
use Rattle.qd_score.specs.Rule.{sight_of, IsInOrder}
use Rattle.qd_score.specs.Calls.{MayGiveBack}
use Rattle.qd_score.specs.Publishing.{MayMakeLive}
use Rattle.qd_score.specs.Counted.{blocks_of, bare, IsFirst, IsSecond, IsThird, AreBare}

-- a version that is bare, and no newer than the current one
abbrev Fits : ℕ → Version (List ℕ) → Type 0
Fits n x = (x.n ≤ n) × (x.shape ≡ [])

same_version : (x y : Version (List ℕ)) → Some y ≡ Some x → y ≡ x
same_version x y e = cc

rows_fit : (n : ℕ) (first second : Option (Version (List ℕ))) → ((x : Version (List ℕ)) → first ≡ Some x → Fits n x) → ((x : Version (List ℕ)) → second ≡ Some x → Fits n x) → (row : ℕ) (x : Version (List ℕ)) → version_at (first ∷ second ∷ replicate (ROWS - 2) None) row ≡ Some x → Fits n x
rows_fit n first second one two zero x e = one x e
rows_fit n first second one two (suc zero) x e = two x e
rows_fit n first second one two (suc (suc row)) x e = let v = no_version {S = List ℕ} (ROWS - 2) row in let d : None ≡ Some x = sym v ∙ e in absurd (cc)

none_fits : (n : ℕ) (x : Version (List ℕ)) → None ≡ Some x → Fits n x
none_fits n x e = absurd (cc)

one_fits : (m n : ℕ) → m ≤ n → (x : Version (List ℕ)) → Some (bare m) ≡ Some x → Fits n x
one_fits m n le x e = subst (Fits n) (same_version x (bare m) e) (le, refl)

are_bare : (b : Book ℕ (List ℕ)) (place : Place) (versions : List (Option (Version (List ℕ)))) → b.versions ≡ versions → b.current ≡ place → ((row : ℕ) (x : Version (List ℕ)) → version_at versions row ≡ Some x → Fits place.n x) → AreBare b
are_bare b place versions is now fit = record { each = λ row x e. subst (λ (p : Place). Fits p.n x) (sym now) (fit row x (ap (λ vs. version_at vs row) (sym is) ∙ e)) }

pub first_bare : (b : Book ℕ (List ℕ)) → IsFirst b → AreBare b
first_bare b is = are_bare b _ _ is.versions is.current (rows_fit 0 (Some (bare 0)) None (one_fits 0 0 (le_refl 0)) (none_fits 0))

pub second_bare : (b : Book ℕ (List ℕ)) → IsSecond b → AreBare b
second_bare b is = are_bare b _ _ is.versions is.current (rows_fit 1 (Some (bare 0)) (Some (bare 1)) (one_fits 0 1 (omega arith)) (one_fits 1 1 (le_refl 1)))

pub third_bare : (b : Book ℕ (List ℕ)) → IsThird b → AreBare b
third_bare b is = are_bare b _ _ is.versions is.current (rows_fit 1 None (Some (bare 1)) (none_fits 1) (one_fits 1 1 (le_refl 1)))

greatest : (b : Book ℕ (List ℕ)) → AreBare b → IsGreatest b.current.n b.versions
greatest b are row x e = (are.each row x e).0

none_in : (block : ℕ) (blocks : List ℕ) (A : Type 0) → blocks ≡ [] → Contains blocks block → A
none_in block blocks A is c = let z : length blocks ≡ 0 = ap length is in let k = c.1 in absurd (omega arith)

present : (b : Book ℕ (List ℕ)) → AreBare b → AllPresent blocks_of b.versions b.present
present b are row x e block c = none_in block x.shape (Contains b.present block) (are.each row x e).1 c

pub may_open : (b : Book ℕ (List ℕ)) → IsFirst b → MayOpen blocks_of b (bare 0)
may_open b is = record { versions = is.versions; current = is.current; within = zero-le; present = present b (first_bare b is) }

pub may_give : (v : View ℕ (List ℕ)) (b : Book ℕ (List ℕ)) → AreBare b → MayGiveBack blocks_of v (sight_of b) b
may_give v b are = record {
  history = prefix_refl b.history;
  keeper = λ m. refl;
  faults = le_refl b.faults;
  removed = le_refl b.removed;
  versions = refl;
  current = refl;
  greatest = greatest b are;
  present = present b are;
}

-- a book that a take found may be given back as it is
pub may_give_back : (v : View ℕ (List ℕ)) (b : Book ℕ (List ℕ)) → IsInOrder blocks_of (sight_of b) → MayGiveBack blocks_of v (sight_of b) b
may_give_back v b found = record {
  history = prefix_refl b.history;
  keeper = λ m. refl;
  faults = le_refl b.faults;
  removed = le_refl b.removed;
  versions = refl;
  current = refl;
  greatest = found.greatest;
  present = found.present;
}

pub may_make_live : (b : Book ℕ (List ℕ)) → IsFirst b → 0 < length b.history → MayMakeLive (sight_of b) 1 (bare 1)
may_make_live b is full = record {
  is_row = omega arith;
  dead = ap (λ vs. version_at vs 1) is.versions;
  greatest = greatest b (first_bare b is);
  newer = subst (λ (p : Place). p.n < 1) (sym is.current) (omega arith);
  within = omega arith;
  small = omega arith;
}
