-- Rounds of transactions, as lists.
use Rattle.std.proofs.Common.{◌≡◌, ℕ, zero, suc, ◌+◌, ◌-◌, ◌<◌, ◌≤◌, ◌||◌, Bool, true, false, true≢false, not, cond, List, [], ◌∷◌, length, take, drop, refl, sym, ap, subst, ◌∙◌, arith, length-drop}
use Rattle.std.specs.List.{list_any, prefix_len}
use Rattle.std.proofs.lemmas.List.{drop-take, length-take, take-take}
use Rattle.std.proofs.lemmas.List.Folds.{length-prefix_len}
use Rattle.std.proofs.lemmas.List.Sums.{prefix_len-le-length, take_while-cons}
use Rattle.qd_base.specs.declared.op.Entry.{Entry}
use Rattle.qd_base.specs.declared.op.Op.{Op}
use Rattle.qd_base.specs.Schemas.{HasNoSetKeys, SetsNoKeys, sets_keys}
use Rattle.qd_store.specs.Drafts.{before_keys, between, round_of, sets_keys_in}

-- ---- those before the first one that sets keys

module _ (e : Entry) (es : List Entry) where
  before_cons : before_keys (e ∷ es) ≡ cond (sets_keys_in e) [] (e ∷ before_keys es)
  before_cons = take_while-cons (λ (x : Entry). not (sets_keys_in x)) e es ∙ turned (sets_keys_in e)
    where
      turned : (b : Bool) → cond (not b) (e ∷ before_keys es) [] ≡ cond b [] (e ∷ before_keys es)
      turned true = refl
      turned false = refl

  pub before_ends : sets_keys_in e ≡ true → before_keys (e ∷ es) ≡ []
  before_ends is = before_cons ∙ ap (λ (b : Bool). cond b [] (e ∷ before_keys es)) is

  pub before_more : sets_keys_in e ≡ false → before_keys (e ∷ es) ≡ e ∷ before_keys es
  before_more is = before_cons ∙ ap (λ (b : Bool). cond b [] (e ∷ before_keys es)) is

before_front : (es : List Entry) → before_keys es ≡ take (length (before_keys es)) es
before_front es = ap (λ (n : ℕ). take n es) (sym (length-prefix_len (λ (x : Entry). not (sets_keys_in x)) es))

before_few : (es : List Entry) → length (before_keys es) ≤ length es
before_few es =
    let sets : Entry → Bool = λ x. not (sets_keys_in x) in
    omega (arith, length-prefix_len sets es, prefix_len-le-length sets es)

-- ---- none of them sets keys

no_keys : (ops : List Op) → list_any sets_keys ops ≡ false → SetsNoKeys ops
no_keys [] none = tt
no_keys (o ∷ os) none = step (sets_keys o) refl none (no_keys os)
  where
    step : (b : Bool) → sets_keys o ≡ b → (b || list_any sets_keys os) ≡ false → (list_any sets_keys os ≡ false → SetsNoKeys os) → SetsNoKeys (o ∷ os)
    step true is none later = absurd (true≢false none)
    step false is none later = (is, later none)

pub sets_none : (e : Entry) → sets_keys_in e ≡ false → SetsNoKeys e.ops
sets_none e none = no_keys e.ops none

before_none : (es : List Entry) → HasNoSetKeys (before_keys es)
before_none [] = tt
before_none (e ∷ es) = step (sets_keys_in e) refl (before_none es)
  where
    step : (b : Bool) → sets_keys_in e ≡ b → HasNoSetKeys (before_keys es) → HasNoSetKeys (before_keys (e ∷ es))
    step true is later = subst HasNoSetKeys (sym (before_ends e es is)) tt
    step false is later = subst HasNoSetKeys (sym (before_more e es is)) (sets_none e is, later)

-- none but the first of a round
pub round_keys : (es : List Entry) → HasNoSetKeys (drop 1 (round_of es))
round_keys [] = tt
round_keys (e ∷ es) = before_none es

-- ---- a round is a front

round_front : (es : List Entry) → round_of es ≡ take (length (round_of es)) es
round_front [] = refl
round_front (e ∷ es) = ap (λ (l : List Entry). e ∷ l) (before_front es)

pub round_few : (es : List Entry) → length (round_of es) ≤ length es
round_few [] = omega arith
round_few (e ∷ es) = let few = before_few es in omega (arith, few)

pub round_some : (es : List Entry) → 0 < length es → 0 < length (round_of es)
round_some [] some = some
round_some (e ∷ es) some = omega arith

between_front : (h : List Entry) (n upto k : ℕ) → k ≤ length (between h n upto) → between h n (n + k) ≡ take k (between h n upto)
between_front h n upto zero few = drop-take n 0 h
between_front h n upto (suc k) few =
    let low : suc k ≤ upto - n = omega (arith, few, length-drop n (take upto h), length-take upto h) in
    let reaches : n + (upto - n) ≡ upto = omega (arith, low) in
    drop-take n (suc k) h
    ∙ sym (take-take (suc k) (upto - n) (drop n h) low)
    ∙ ap (take (suc k)) (sym (drop-take n (upto - n) h) ∙ ap (λ (m : ℕ). between h n m) reaches)

-- so it has the transactions of a history up to its end
pub between_round : (h : List Entry) (n upto : ℕ) → between h n (n + length (round_of (between h n upto))) ≡ round_of (between h n upto)
between_round h n upto =
    let es = between h n upto in
    between_front h n upto (length (round_of es)) (round_few es) ∙ sym (round_front es)

-- ---- what is read until a round is known gives it

before_known : (k : ℕ) (h : List Entry) → length (before_keys (take k h)) < length (take k h) → before_keys (take k h) ≡ before_keys h
before_known zero h ends = absurd (omega (arith, ends))
before_known (suc k) [] ends = refl
before_known (suc k) (e ∷ h) ends = step (sets_keys_in e) refl (before_known k h)
  where
    step : (b : Bool) → sets_keys_in e ≡ b → (length (before_keys (take k h)) < length (take k h) → before_keys (take k h) ≡ before_keys h)
        → before_keys (e ∷ take k h) ≡ before_keys (e ∷ h)
    step true is later = before_ends e (take k h) is ∙ sym (before_ends e h is)
    step false is later =
        let here = before_more e (take k h) is in
        here ∙ ap (λ (l : List Entry). e ∷ l) (later (omega (arith, ends, ap length here))) ∙ sym (before_more e h is)

pub round_known : (k : ℕ) (h : List Entry) → length (round_of (take k h)) < length (take k h) → round_of (take k h) ≡ round_of h
round_known zero h ends = absurd (omega (arith, ends))
round_known (suc k) [] ends = refl
round_known (suc k) (e ∷ h) ends = ap (λ (l : List Entry). e ∷ l) (before_known k h (omega (arith, ends)))
