-- The first item that passes a test.
use Rattle.std.proofs.Common.{◌≡◌, ℕ, zero, suc, ◌<◌, Bool, true, false, cond, List, [], ◌∷◌, ◌++◌, Option, Some, None, length, map, get_or, refl, sym, ap, ap₂, ◌∙◌, subst, arith}
use Rattle.std.specs.List.{list_any}
use Rattle.std.specs.Option.{option_map}
use Rattle.std.proofs.lemmas.Bool.{or_from, or_left, or_right, or_parts}
use Rattle.std.proofs.lemmas.Option.{none-some, same_Some}
use Rattle.std.specs.Prelude.{◌||◌}
use Rattle.qd_group.specs.Grouping.{spot}

-- what was found, or else the last item
abbrev pub or_last : Option ℕ → Bool → ℕ → Option ℕ
or_last (Some k) b n = Some k
or_last None b n = cond b (Some n) None

pub spot-push : {X : Type 0} (p : X → Bool) (xs : List X) (y : X) → spot p (xs ++ y ∷ []) ≡ or_last (spot p xs) (p y) (length xs)
spot-push p [] y = refl
spot-push p (x ∷ xs) y = ap (λ o. cond (p x) (Some 0) (option_map (λ (k : ℕ). suc k) o)) (spot-push p xs y) ∙ by (p x) (spot p xs) (p y) (length xs)
  where
    by : (b : Bool) (o : Option ℕ) (c : Bool) (n : ℕ) → cond b (Some 0) (option_map (λ (k : ℕ). suc k) (or_last o c n)) ≡ or_last (cond b (Some 0) (option_map (λ (k : ℕ). suc k) o)) c (suc n)
    by true o c n = refl
    by false None true n = refl
    by false None false n = refl
    by false (Some k) c n = refl

pub spot-some : {X : Type 0} (p : X → Bool) (xs : List X) (n : ℕ) (d : X) → spot p xs ≡ Some n → (n < length xs) × (p (get_or xs n d) ≡ true)
spot-some p [] n d e = absurd (none-some n e)
spot-some p (x ∷ xs) n d e = by (p x) (spot p xs) refl refl e (λ k so. spot-some p xs k d so)
  where
    by : (b : Bool) (o : Option ℕ) → p x ≡ b → spot p xs ≡ o → cond b (Some 0) (option_map (λ (k : ℕ). suc k) o) ≡ Some n
        → ((k : ℕ) → spot p xs ≡ Some k → (k < length xs) × (p (get_or xs k d) ≡ true)) → (n < length (x ∷ xs)) × (p (get_or (x ∷ xs) n d) ≡ true)
    by true o here so is rest = subst (λ (m : ℕ). (m < length (x ∷ xs)) × (p (get_or (x ∷ xs) m d) ≡ true)) (same_Some 0 n is) (omega arith, here)
    by false None here so is rest = absurd (none-some n is)
    by false (Some k) here so is rest = let later = rest k so in subst (λ (m : ℕ). (m < length (x ∷ xs)) × (p (get_or (x ∷ xs) m d) ≡ true)) (same_Some (suc k) n is) (omega (arith, later.0), later.1)

pub spot-none : {X : Type 0} (p : X → Bool) (xs : List X) → spot p xs ≡ None → list_any p xs ≡ false
spot-none p [] e = refl
spot-none p (x ∷ xs) e = by (p x) (spot p xs) refl refl e (λ so. spot-none p xs so)
  where
    by : (b : Bool) (o : Option ℕ) → p x ≡ b → spot p xs ≡ o → cond b (Some 0) (option_map (λ (k : ℕ). suc k) o) ≡ None
        → (spot p xs ≡ None → list_any p xs ≡ false) → list_any p (x ∷ xs) ≡ false
    by true o here so is rest = absurd (none-some 0 (sym is))
    by false None here so is rest = or_from (p x) (list_any p xs) here (rest so)
    by false (Some k) here so is rest = absurd (none-some (suc k) (sym is))

pub spot-any : {X : Type 0} (p : X → Bool) (xs : List X) (n : ℕ) → spot p xs ≡ Some n → list_any p xs ≡ true
spot-any p [] n e = absurd (none-some n e)
spot-any p (x ∷ xs) n e = by (p x) (spot p xs) refl refl e (λ k so. spot-any p xs k so)
  where
    by : (b : Bool) (o : Option ℕ) → p x ≡ b → spot p xs ≡ o → cond b (Some 0) (option_map (λ (k : ℕ). suc k) o) ≡ Some n
        → ((k : ℕ) → spot p xs ≡ Some k → list_any p xs ≡ true) → list_any p (x ∷ xs) ≡ true
    by true o here so is rest = or_left (p x) (list_any p xs) here
    by false None here so is rest = absurd (none-some n is)
    by false (Some k) here so is rest = or_right (p x) (list_any p xs) (rest k so)

-- tests that agree on all items
pub spot-same : {X : Type 0} (p q : X → Bool) (xs : List X) → ((k : ℕ) (d : X) → k < length xs → p (get_or xs k d) ≡ q (get_or xs k d)) → spot p xs ≡ spot q xs
spot-same p q [] same = refl
spot-same p q (x ∷ xs) same = ap₂ (λ b o. cond b (Some 0) (option_map (λ (k : ℕ). suc k) o)) (same zero x (omega arith)) (spot-same p q xs (λ k d low. same (suc k) d (omega arith)))

pub any-same : {X : Type 0} (p q : X → Bool) (xs : List X) → ((k : ℕ) (d : X) → k < length xs → p (get_or xs k d) ≡ q (get_or xs k d)) → list_any p xs ≡ list_any q xs
any-same p q [] same = refl
any-same p q (x ∷ xs) same = ap₂ (λ a b. a || b) (same zero x (omega arith)) (any-same p q xs (λ k d low. same (suc k) d (omega arith)))

-- no item passes
pub none_at : {X : Type 0} (p : X → Bool) (xs : List X) (k : ℕ) (d : X) → list_any p xs ≡ false → k < length xs → p (get_or xs k d) ≡ false
none_at p [] k d none low = absurd (omega arith)
none_at p (x ∷ xs) zero d none low = (or_parts (p x) (list_any p xs) none).0
none_at p (x ∷ xs) (suc k) d none low = none_at p xs k d (or_parts (p x) (list_any p xs) none).1 (omega arith)

pub any-map : {X Y : Type 0} (p : Y → Bool) (f : X → Y) (xs : List X) → list_any p (map f xs) ≡ list_any (λ x. p (f x)) xs
any-map p f [] = refl
any-map p f (x ∷ xs) = ap (λ b. p (f x) || b) (any-map p f xs)
