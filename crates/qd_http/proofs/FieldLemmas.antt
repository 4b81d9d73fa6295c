-- Tests, counts and finds over the names and values of fields.
use Rattle.std.proofs.Common.{◌≡◌, ◌+◌, ◌<◌, ◌≤◌, nat_lt, rules, tests, Bool, true, false, cond, ◌||◌, List, [], ◌∷◌, map, count_by, refl, ap, Option, Some, None, option_map}
use Rattle.std.specs.List.{find, list_any}
use Rattle.std.specs.Prelude.{codes}
use Rattle.std.proofs.lemmas.List.Folds.{fold-map}
use Rattle.qd_http.specs.Fields.{Pair, body_size, is_named, size_in}

pub list_any-map : {X Y : Type 0} (p : Y → Bool) (f : X → Y) (xs : List X) → list_any p (map f xs) ≡ list_any (λ x. p (f x)) xs
list_any-map p f [] = refl
list_any-map p f (x ∷ xs) = ap (λ b. p (f x) || b) (list_any-map p f xs)

pub count_by-map : {X Y : Type 0} (p : Y → Bool) (f : X → Y) (xs : List X) → count_by p (map f xs) ≡ count_by (λ x. p (f x)) xs
count_by-map p f xs = fold-map (λ n y. n + cond (p y) 1 0) f 0 xs

found_first : {X Y : Type 0} (f : X → Y) (x : X) (b : Bool) (r : Option Y) (s : Option X) → r ≡ option_map f s → cond b (Some (f x)) r ≡ option_map f (cond b (Some x) s)
found_first f x true r s h = refl
found_first f x false r s h = h

pub find-map : {X Y : Type 0} (p : Y → Bool) (f : X → Y) (xs : List X) → find p (map f xs) ≡ option_map f (find (λ x. p (f x)) xs)
find-map p f [] = refl
find-map p f (x ∷ xs) = found_first f x (p (f x)) (find p (map f xs)) (find (λ y. p (f y)) xs) (find-map p f xs)

option_map-again : {X Y Z : Type 0} (g : Y → Z) (f : X → Y) (o : Option X) → option_map g (option_map f o) ≡ option_map (λ x. g (f x)) o
option_map-again g f None = refl
option_map-again g f (Some x) = refl

-- the length of a body, where the fields are given by f
module _ {X : Type 0} (f : X → Pair) (xs : List X) where
  pub size_coded : list_any (λ x. is_named (codes "transfer-encoding") (f x)) xs ≡ true → body_size (map f xs) ≡ None
  size_coded is = rw (list_any-map (is_named (codes "transfer-encoding")) f xs, is) refl

  pub size_many : list_any (λ x. is_named (codes "transfer-encoding") (f x)) xs ≡ false → 1 < count_by (λ x. is_named (codes "content-length") (f x)) xs → body_size (map f xs) ≡ None
  size_many none many =
      let more : nat_lt 1 (count_by (λ x. is_named (codes "content-length") (f x)) xs) ≡ true = search (rules, tests) in
      rw (list_any-map (is_named (codes "transfer-encoding")) f xs, none, count_by-map (is_named (codes "content-length")) f xs, more) refl

  pub size_one : list_any (λ x. is_named (codes "transfer-encoding") (f x)) xs ≡ false → count_by (λ x. is_named (codes "content-length") (f x)) xs ≤ 1
      → body_size (map f xs) ≡ size_in (option_map (λ x. (f x).1) (find (λ x. is_named (codes "content-length") (f x)) xs))
  size_one none few =
      let at_most : nat_lt 1 (count_by (λ x. is_named (codes "content-length") (f x)) xs) ≡ false = search (rules, tests) in
      rw (list_any-map (is_named (codes "transfer-encoding")) f xs, none, count_by-map (is_named (codes "content-length")) f xs, at_most, find-map (is_named (codes "content-length")) f xs)
      (ap size_in (option_map-again (λ (y : Pair). y.1) f (find (λ x. is_named (codes "content-length") (f x)) xs)))
