-- Names that are one, and what has a name after a change of what has one.
use Rattle.std.proofs.Common.{◌≡◌, ℕ, Bool, true, false, cond, List, [], ◌∷◌, Option, Some, refl, sym, ap, ◌∙◌}
use Rattle.std.specs.List.{find}
use Rattle.std.specs.Option.{option_map}
use Rattle.std.specs.Cmp.{IsEquivalence}
use Rattle.std.specs.Cmp.Lexicographic.{on_texts_equal}
use Rattle.std.specs.Str.{str_to_ascii_lowercase}
use Rattle.qd_base.specs.Schemas.{at_name, same_name}

pub names_equal : IsEquivalence same_name
names_equal = on_texts_equal str_to_ascii_lowercase

pub turned : (a b : List ℕ) (v : Bool) → same_name a b ≡ v → same_name b a ≡ v
turned a b v h = names_equal.symm b a ∙ h

-- what is one with a name, or isn't, is so with each name that is one with it
pub joins : (a b c : List ℕ) (v : Bool) → same_name a b ≡ true → same_name a c ≡ v → same_name b c ≡ v
joins a b c v h k = sym (names_equal.congr a b c h) ∙ k

-- names that are one are compared alike
pub alike : (a b name : List ℕ) → same_name a b ≡ true → same_name name a ≡ same_name name b
alike a b name h = names_equal.symm name a ∙ names_equal.congr a b name h ∙ names_equal.symm b name

cond_some : {T : Type 0} (b : Bool) (t : T) (o : Option T) → b ≡ true → cond b (Some t) o ≡ Some t
cond_some b t o e = rw e refl

cond_other : {T : Type 0} (b : Bool) (t : T) (o : Option T) → b ≡ false → cond b (Some t) o ≡ o
cond_other b t o e = rw e refl

-- The first of a name, after a change that keeps names of the first of another name: changed where the names are one,
-- else as it was.
module _ {T : Type 0} (name_of : T → List ℕ) (change : T → T) (keeps : (t : T) → name_of (change t) ≡ name_of t) (changed name : List ℕ) where
  abbrev named : List T → Option T
  named ts = find (λ (t : T). same_name (name_of t) name) ts

  first_same : (t : T) (ts others : List T) (b : Bool) → same_name (name_of t) changed ≡ b → same_name (name_of t) name ≡ b → named others ≡ option_map change (named ts) → named (cond b (change t ∷ ts) (t ∷ others)) ≡ option_map change (named (t ∷ ts))
  first_same t ts others true e is rest = cond_some (same_name (name_of (change t)) name) (change t) (named ts) (ap (λ (n : List ℕ). same_name n name) (keeps t) ∙ is) ∙ ap (option_map change) (sym (cond_some (same_name (name_of t) name) t (named ts) is))
  first_same t ts others false e is rest = rw is rest

  pub find-at_same : same_name changed name ≡ true → (ts : List T) → find (λ (t : T). same_name (name_of t) name) (at_name name_of change changed ts) ≡ option_map change (find (λ (t : T). same_name (name_of t) name) ts)
  find-at_same same [] = refl
  find-at_same same (t ∷ ts) = first_same t ts (at_name name_of change changed ts) (same_name (name_of t) changed) refl (sym (alike changed name (name_of t) same)) (find-at_same same ts)

  apart : same_name changed name ≡ false → (other : List ℕ) → same_name other changed ≡ true → same_name other name ≡ false
  apart differ other e = names_equal.congr other changed name e ∙ differ

  first_other : (t : T) (ts others : List T) (b : Bool) → (b ≡ true → same_name (name_of t) name ≡ false) → named others ≡ named ts → named (cond b (change t ∷ ts) (t ∷ others)) ≡ named (t ∷ ts)
  first_other t ts others true differ rest =
      cond_other (same_name (name_of (change t)) name) (change t) (named ts) (ap (λ (n : List ℕ). same_name n name) (keeps t) ∙ differ refl)
      ∙ sym (cond_other (same_name (name_of t) name) t (named ts) (differ refl))
  first_other t ts others false differ rest = ap (λ (o : Option T). cond (same_name (name_of t) name) (Some t) o) rest

  pub find-at_other : same_name changed name ≡ false → (ts : List T) → find (λ (t : T). same_name (name_of t) name) (at_name name_of change changed ts) ≡ find (λ (t : T). same_name (name_of t) name) ts
  find-at_other differ [] = refl
  find-at_other differ (t ∷ ts) = first_other t ts (at_name name_of change changed ts) (same_name (name_of t) changed) (λ e. apart differ (name_of t) e) (find-at_other differ ts)
