-- Lists of distinct texts: where a text stands, and what one text more changes.
use Rattle.std.proofs.Common.{◌≡◌, ℕ, ◌+◌, ◌<◌, ◌≤◌, ◌||◌, inl, inr, Bool, true, false, not, cond, ltb, suc, List, [], ◌∷◌, ◌++◌, Some, None, length, map, get_or, refl, sym, ap, ◌∙◌, arith, length-append}
use Rattle.std.specs.List.{list_any, position, position_or_len, IsDistinct}
use Rattle.std.specs.Option.{is_some}
use Rattle.std.proofs.lemmas.Bool.{ltb-true, ltb-false, lt-ltb, le-ltb, false≢true, cases_lt}
use Rattle.std.proofs.lemmas.List.{get_or_push, get_or_append_left}
use Rattle.std.proofs.lemmas.List.Sums.{passes_at_first, fails_before_first}
use Rattle.std.proofs.lemmas.Cmp.{nat_list_eq_equiv}
use Rattle.std.proofs.lemmas.Map.Keys.{IsDistinct-push}
use Rattle.std.specs.Cmp.Lexicographic as lexicographic
use Rattle.qd_base.specs.Dictionary.{same_text, id_in, id_for, with_text, AreDistinct}

module _ {X : Type 0} (p : X → Bool) where
  pub position_within : (xs : List X) → position_or_len p xs ≤ length xs
  position_within [] = omega arith
  position_within (x ∷ xs) = go (p x) (position_or_len p xs) (length xs) (position_within xs)
    where
      go : (b : Bool) (n m : ℕ) → n ≤ m → cond (not b) (1 + n) 0 ≤ suc m
      go true n m h = omega arith
      go false n m h = omega arith

  -- an element passes where the first that does stands before the end
  pub any_stands : (xs : List X) → list_any p xs ≡ ltb (position_or_len p xs) (length xs)
  any_stands [] = refl
  any_stands (x ∷ xs) = go (p x) (list_any p xs) (position_or_len p xs) (length xs) (any_stands xs)
    where
      go : (b a : Bool) (n m : ℕ) → a ≡ ltb n m → (b || a) ≡ ltb (cond (not b) (1 + n) 0) (suc m)
      go true a n m h = sym (lt-ltb 0 (suc m) (omega arith))
      go false true n m h = let lt : n < m = ltb-true n m (sym h) in sym (lt-ltb (1 + n) (suc m) (omega arith))
      go false false n m h = let le : m ≤ n = ltb-false n m (sym h) in sym (le-ltb (1 + n) (suc m) (omega arith))

-- an element passes where there is a place of the first that does
pub some_place : {X : Type 0} (p : X → Bool) (xs : List X) → is_some (position p xs) ≡ list_any p xs
some_place p xs = go (ltb (position_or_len p xs) (length xs)) ∙ sym (any_stands p xs)
  where
    go : (b : Bool) → is_some (cond b (Some (position_or_len p xs)) None) ≡ b
    go true = refl
    go false = refl

-- the first place of a list of images
pub position-map : {X Y : Type 0} (p : Y → Bool) (f : X → Y) → (xs : List X) → position_or_len p (map f xs) ≡ position_or_len (λ x. p (f x)) xs
position-map p f [] = refl
position-map p f (x ∷ xs) = ap (λ n. cond (not (p (f x))) (1 + n) 0) (position-map p f xs)

pub none_distinct : AreDistinct []
unfolding IsDistinct
none_distinct = tt

-- a text's position, or none, by its place
pub id_there : (texts : List (List ℕ)) (text : List ℕ) (id : ℕ) → id_in texts text ≡ Some id → (id_for texts text ≡ id) × (id < length texts)
id_there texts text id h = go (ltb (id_for texts text) (length texts)) (id_for texts text) refl h
  where
    go : (b : Bool) (n : ℕ) → ltb n (length texts) ≡ b → cond b (Some n) None ≡ Some id → (n ≡ id) × (id < length texts)
    go true n e h = let same : n ≡ id = cc in let lt = ltb-true n (length texts) e in (same, omega arith)
    go false n e h = cc

pub id_not_there : (texts : List (List ℕ)) (text : List ℕ) → id_in texts text ≡ None → id_for texts text ≡ length texts
id_not_there texts text h = go (ltb (id_for texts text) (length texts)) (id_for texts text) refl (position_within (same_text text) texts) h
  where
    go : (b : Bool) (n : ℕ) → ltb n (length texts) ≡ b → n ≤ length texts → cond b (Some n) None ≡ None → n ≡ length texts
    go true n e w h = cc
    go false n e w h = let le = ltb-false n (length texts) e in omega arith

-- the texts with one that is there, and with one that isn't
pub with_text-there : (texts : List (List ℕ)) (text : List ℕ) → id_for texts text < length texts → with_text texts text ≡ texts
with_text-there texts text h = ap (λ b. cond b texts (texts ++ text ∷ [])) (lt-ltb (id_for texts text) (length texts) h)

pub with_text-new : (texts : List (List ℕ)) (text : List ℕ) → length texts ≤ id_for texts text → with_text texts text ≡ texts ++ text ∷ []
with_text-new texts text h = ap (λ b. cond b texts (texts ++ text ∷ [])) (le-ltb (id_for texts text) (length texts) h)

-- the text of an id that is given
pub text_given : (texts : List (List ℕ)) (text d : List ℕ) → (id_for texts text < length (with_text texts text)) × (get_or (with_text texts text) (id_for texts text) d ≡ text)
text_given texts text d = go (ltb (id_for texts text) (length texts)) refl
  where
    go : (b : Bool) → ltb (id_for texts text) (length texts) ≡ b → (id_for texts text < length (cond b texts (texts ++ text ∷ []))) × (get_or (cond b texts (texts ++ text ∷ [])) (id_for texts text) d ≡ text)
    go true e =
        let within : id_for texts text < length texts = ltb-true (id_for texts text) (length texts) e in
        let passes : same_text text (get_or texts (id_for texts text) d) ≡ true = passes_at_first (same_text text) texts d within in
        (within, sym (lexicographic.same_text text (get_or texts (id_for texts text) d) (sym passes)))
    go false e =
        let le : length texts ≤ id_for texts text = ltb-false (id_for texts text) (length texts) e in
        let within : id_for texts text ≤ length texts = position_within (same_text text) texts in
        (omega (arith, length-append texts (text ∷ [])), get_or_push texts text d (id_for texts text) (omega arith))

-- an id keeps its text
pub text_kept : (texts : List (List ℕ)) (text d : List ℕ) (id : ℕ) → id < length texts → (id < length (with_text texts text)) × (get_or (with_text texts text) id d ≡ get_or texts id d)
text_kept texts text d id h = go (ltb (id_for texts text) (length texts))
  where
    go : (b : Bool) → (id < length (cond b texts (texts ++ text ∷ []))) × (get_or (cond b texts (texts ++ text ∷ [])) id d ≡ get_or texts id d)
    go true = (h, refl)
    go false = (omega (arith, length-append texts (text ∷ [])), get_or_append_left texts (text ∷ []) d id h)

-- one text more leaves the texts distinct
pub distinct-with_text : (texts : List (List ℕ)) (text : List ℕ) → AreDistinct texts → AreDistinct (with_text texts text)
distinct-with_text texts text h = go (ltb (id_for texts text) (length texts)) refl
  where
    go : (b : Bool) → ltb (id_for texts text) (length texts) ≡ b → AreDistinct (cond b texts (texts ++ text ∷ []))
    go true e = h
    go false e = IsDistinct-push nat_list_eq_equiv texts text h (any_stands (same_text text) texts ∙ e)

-- a text that stands in a list is no news to it
pub text_stands : (texts : List (List ℕ)) (id : ℕ) (d : List ℕ) → id < length texts → id_for texts (get_or texts id d) < length texts
text_stands texts id d h =
    let text = get_or texts id d in
    let itself : same_text text text ≡ true = nat_list_eq_equiv.refl text in
    elim (cases_lt id (id_for texts text)) [ inl before ↦ absurd (false≢true (sym (fails_before_first (same_text text) texts id d before) ∙ itself)) | inr upto ↦ omega arith ]
