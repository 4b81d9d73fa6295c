-- Names, places and marks: which items name which columns, and what one more item changes.
use Rattle.std.proofs.Common.{◌≡◌, ℕ, zero, suc, ◌+◌, ◌-◌, ◌<◌, ◌≤◌, inl, inr, Bool, true, false, cond, eqb, ltb, List, [], ◌∷◌, ◌++◌, Option, Some, None, length, map, get_or, set, refl, sym, ap, ap₂, ◌∙◌, arith, length-append, le_of_suc-le-suc}
use Rattle.std.specs.List.{position_or_len, position, find, IsDistinct, AllByRecursion}
use Rattle.std.specs.Option.{option_or, is_some}
use Rattle.std.proofs.lemmas.Bool.{lt-ltb, le-ltb, cases_lt}
use Rattle.std.proofs.lemmas.Bool.Decides.{eqb_tells}
use Rattle.std.proofs.lemmas.List.{get_or_append_left, get_or-append_right}
use Rattle.std.proofs.lemmas.List.Folds.{position_or_len_push}
use Rattle.std.proofs.lemmas.List.Sums.{position_or_len_is}
use Rattle.std.proofs.lemmas.List.Quantifiers.{position-Some}
use Rattle.std.proofs.lemmas.Map.Keys.{apart_from_distinct}
use Rattle.std.proofs.lemmas.Option.{slice_get-get_or}
use Rattle.qd_base.specs.declared.schema.Col.{Col}
use Rattle.qd_base.specs.Schemas.{same_name, column_at}
use Rattle.qd_base.proofs.Alike.{joins, turned}
use Rattle.qd_base.proofs.Tables.{position-none}
use Rattle.qd_base.proofs.Texts.{position_within}
use Rattle.qd_ilp.specs.Line.{Item}
use Rattle.qd_ilp.specs.Transaction.{name_at}
use Rattle.qd_lines.specs.Drafts.{mark}

pub all_at : {X : Type 0} (P : X → Type 0) (xs : List X) (k : ℕ) (d : X) → AllByRecursion P xs → k < length xs → P (get_or xs k d)
all_at P [] k d h lt = absurd (omega arith)
all_at P (x ∷ xs) zero d h lt = h.0
all_at P (x ∷ xs) (suc k) d h lt = all_at P xs k d h.1 (le_of_suc-le-suc lt)

pub all_of : {X : Type 0} (P : X → Type 0) (xs : List X) → ((k : ℕ) (d : X) → k < length xs → P (get_or xs k d)) → AllByRecursion P xs
all_of P [] f = tt
all_of P (x ∷ xs) f = (f 0 x (omega arith), all_of P xs (λ k d lt. f (suc k) d (omega arith)))

module _ {X : Type 0} (p : X → Bool) where
  placed : (xs : List X) (i : ℕ) → position_or_len p xs ≡ i → i < length xs → position p xs ≡ Some i
  placed xs i e lt = rw e (ap (λ b. cond b (Some i) None) (lt-ltb i (length xs) lt))

  unplaced : (xs : List X) (i : ℕ) → position_or_len p xs ≡ i → length xs ≤ i → position p xs ≡ None
  unplaced xs i e le = rw e (ap (λ b. cond b (Some i) None) (le-ltb i (length xs) le))

  one_push : (n len : ℕ) (b : Bool) → n ≤ len → cond (ltb (cond (eqb n len) (len + cond b 0 1) n) (len + 1)) (Some (cond (eqb n len) (len + cond b 0 1) n)) None ≡ option_or (cond (ltb n len) (Some n) None) (cond b (Some len) None)
  one_push n len b h = elim (eqb_tells n len) [
    | inl e ↦ last b e.0 e.1
    | inr e ↦ let lt : n < len = omega (arith, e.1) in rw (e.0, lt-ltb n len lt, lt-ltb n (len + 1) (omega arith)) refl
  ]
    where
      last : (b : Bool) → eqb n len ≡ true → n ≡ len → cond (ltb (cond (eqb n len) (len + cond b 0 1) n) (len + 1)) (Some (cond (eqb n len) (len + cond b 0 1) n)) None ≡ option_or (cond (ltb n len) (Some n) None) (cond b (Some len) None)
      last true e f = rw (e, le-ltb n len (omega (arith, f)), lt-ltb (len + 0) (len + 1) (omega arith)) (ap (λ (k : ℕ). Some k) (omega arith))
      last false e f = rw (e, le-ltb n len (omega (arith, f)), le-ltb (len + 1) (len + 1) (omega arith)) refl

  -- the first place among one element more
  pub position_push : (xs : List X) (y : X) → position p (xs ++ y ∷ []) ≡ option_or (position p xs) (cond (p y) (Some (length xs)) None)
  position_push xs y = rw (position_or_len_push p xs y, length-append xs (y ∷ [])) (one_push (position_or_len p xs) (length xs) (p y) (position_within p xs))

  pub none_at : (xs : List X) → position p xs ≡ None → AllByRecursion (λ x. p x ≡ false) xs
  none_at xs h = position-none p xs (ap is_some h)

  pub none_from : (xs : List X) → AllByRecursion (λ x. p x ≡ false) xs → position p xs ≡ None
  none_from [] h = refl
  none_from (x ∷ xs) h = unplaced (x ∷ xs) (length (x ∷ xs)) (position_or_len_is p (x ∷ xs) (length (x ∷ xs)) x (omega arith) (λ k lt. all_at (λ y. p y ≡ false) (x ∷ xs) k x h lt) (λ lt. absurd (omega arith))) (omega arith)

  pub found_none : (xs : List X) → AllByRecursion (λ x. p x ≡ false) xs → find p xs ≡ None
  found_none [] h = refl
  found_none (x ∷ xs) h = rw h.0 (found_none xs h.1)

  -- the first place among more elements
  pub position_left : (xs ys : List X) (i : ℕ) → position p xs ≡ Some i → position p (xs ++ ys) ≡ Some i
  position_left [] ys i e = cc
  position_left (x ∷ xs) ys i e =
      let h = position-Some p (x ∷ xs) i x e in
      placed (x ∷ xs ++ ys) i (position_or_len_is p (x ∷ xs ++ ys) i x (omega (arith, h.0, length-append (x ∷ xs) ys)) (λ k lt. ap p (get_or_append_left (x ∷ xs) ys x k (omega (arith, h.0))) ∙ h.2 k lt) (λ lt. ap p (get_or_append_left (x ∷ xs) ys x i h.0) ∙ h.1)) (omega (arith, h.0, length-append (x ∷ xs) ys))

  pub position_right : (xs ys : List X) (j : ℕ) → position p xs ≡ None → position p ys ≡ Some j → position p (xs ++ ys) ≡ Some (length xs + j)
  position_right xs [] j n e = cc
  position_right xs (y ∷ ys) j n e =
      let h = position-Some p (y ∷ ys) j y e in
      let zs : List X = y ∷ ys in
      let len = length-append xs zs in
      let before : (k : ℕ) → k < length xs + j → p (get_or (xs ++ zs) k y) ≡ false = λ k lt. elim (cases_lt k (length xs)) [
        | inl left ↦ ap p (get_or_append_left xs zs y k left) ∙ all_at (λ x. p x ≡ false) xs k y (none_at xs n) left
        | inr right ↦ ap p (get_or-append_right xs zs (length xs) k y refl right) ∙ h.2 (k - length xs) (omega (arith, h.0))
      ] in
      placed (xs ++ zs) (length xs + j) (position_or_len_is p (xs ++ zs) (length xs + j) y (omega (arith, h.0, len)) before (λ lt. ap p (get_or-append_right xs zs (length xs) (length xs + j) y refl (omega arith) ∙ ap (λ (m : ℕ). get_or zs m y) (omega arith)) ∙ h.1)) (omega (arith, h.0, len))

  pub position_neither : (xs ys : List X) → position p xs ≡ None → position p ys ≡ None → position p (xs ++ ys) ≡ None
  position_neither xs ys n e = none_from (xs ++ ys) (both xs (none_at xs n))
    where
      both : (us : List X) → AllByRecursion (λ x. p x ≡ false) us → AllByRecursion (λ x. p x ≡ false) (us ++ ys)
      both [] h = none_at ys e
      both (u ∷ us) h = (h.0, both us h.1)

  -- no element of the first part passes where the first place lies behind it, or there is none
  pub none_before : (xs ys : List X) (o : Option ℕ) → position p (xs ++ ys) ≡ o → ((i : ℕ) → o ≡ Some i → length xs ≤ i) → AllByRecursion (λ x. p x ≡ false) xs
  none_before xs ys None e f = part xs (none_at (xs ++ ys) e)
    where
      part : (us : List X) → AllByRecursion (λ x. p x ≡ false) (us ++ ys) → AllByRecursion (λ x. p x ≡ false) us
      part [] h = tt
      part (u ∷ us) h = (h.0, part us h.1)
  none_before [] ys (Some i) e f = tt
  none_before (x ∷ xs) ys (Some i) e f =
      let h = position-Some p (x ∷ xs ++ ys) i x e in
      let far = f i refl in
      all_of (λ y. p y ≡ false) (x ∷ xs) (λ k d lt. ap p (got (x ∷ xs) d x k lt ∙ sym (get_or_append_left (x ∷ xs) ys x k lt)) ∙ h.2 k (omega arith))
    where
      got : (us : List X) (d e : X) (k : ℕ) → k < length us → get_or us k d ≡ get_or us k e
      got [] d e k lt = absurd (omega arith)
      got (u ∷ us) d e zero lt = refl
      got (u ∷ us) d e (suc k) lt = got us d e k (le_of_suc-le-suc lt)

-- the place of a name among distinct columns is where a column has it
module _ (cols : List Col) (distinct : IsDistinct (λ (a : Col) (b : Col). same_name a.name b.name) cols) where
  pub apart_at : (i j : ℕ) (d : Col) → i < length cols → j < length cols → (i ≡ j → ⊥) → same_name (get_or cols i d).name (get_or cols j d).name ≡ false
  apart_at i j d lt lu ne = elim (cases_lt i j) [
    | inl before ↦ apart_from_distinct (λ (a : Col) (b : Col). same_name a.name b.name) cols i j d distinct before lu
    | inr upto ↦ turned (get_or cols j d).name (get_or cols i d).name false (apart_from_distinct (λ (a : Col) (b : Col). same_name a.name b.name) cols j i d distinct (omega (arith, ne)) lt)
  ]

  -- other columns don't have the name of one
  pub others_differ : (i j : ℕ) (d : Col) (name : List ℕ) → i < length cols → j < length cols → (i ≡ j → ⊥) → same_name (get_or cols i d).name name ≡ true → same_name (get_or cols j d).name name ≡ false
  others_differ i j d name lt lu ne has = turned name (get_or cols j d).name false (joins (get_or cols i d).name name (get_or cols j d).name false has (apart_at i j d lt lu ne))

  pub place_is : (i : ℕ) (d : Col) (name : List ℕ) → i < length cols → same_name (get_or cols i d).name name ≡ true → column_at cols name ≡ Some i
  place_is i d name lt has =
      placed (λ (c : Col). same_name c.name name) cols i (position_or_len_is (λ (c : Col). same_name c.name name) cols i d (omega arith) (λ k before. others_differ i k d name lt (omega arith) (omega arith) has) (λ h. has)) lt

-- a mark after one more item
pub mark_kept : (items : List Item) (i : Item) (c : Col) → same_name c.name i.name ≡ false → mark (items ++ i ∷ []) c ≡ mark items c
mark_kept items i c h = position_push (λ (x : Item). same_name c.name x.name) items i ∙ rw h (no_more (mark items c))
  where
    no_more : (o : Option ℕ) → option_or o None ≡ o
    no_more None = refl
    no_more (Some n) = refl

pub mark_met : (items : List Item) (i : Item) (c : Col) → same_name c.name i.name ≡ true → mark (items ++ i ∷ []) c ≡ option_or (mark items c) (Some (length items))
mark_met items i c h = position_push (λ (x : Item). same_name c.name x.name) items i ∙ rw h refl

pub marks_kept : (items : List Item) (i : Item) (cols : List Col) → AllByRecursion (λ (c : Col). same_name c.name i.name ≡ false) cols → map (mark (items ++ i ∷ [])) cols ≡ map (mark items) cols
marks_kept items i [] h = refl
marks_kept items i (c ∷ cs) h = ap₂ (λ (o : Option ℕ) (os : List (Option ℕ)). o ∷ os) (mark_kept items i c h.0) (marks_kept items i cs h.1)

-- an item that names one of distinct columns marks it, where no item did before
pub marks_met : (items : List Item) (i : Item) (cols : List Col) (p : ℕ) (d : Col) → IsDistinct (λ (a : Col) (b : Col). same_name a.name b.name) cols → p < length cols → same_name (get_or cols p d).name i.name ≡ true
    → map (mark (items ++ i ∷ [])) cols ≡ set (map (mark items) cols) p (option_or (mark items (get_or cols p d)) (Some (length items)))
unfolding IsDistinct
marks_met items i [] p d h lt has = absurd (omega arith)
marks_met items i (c ∷ cs) zero d h lt has =
    let rest : AllByRecursion (λ (x : Col). same_name x.name i.name ≡ false) cs = all_of (λ (x : Col). same_name x.name i.name ≡ false) cs (λ k e l. turned i.name (get_or cs k e).name false (joins c.name i.name (get_or cs k e).name false has (all_at (λ (x : Col). same_name c.name x.name ≡ false) cs k e h.0 l))) in
    ap₂ (λ (o : Option ℕ) (os : List (Option ℕ)). o ∷ os) (mark_met items i c has) (marks_kept items i cs rest)
marks_met items i (c ∷ cs) (suc p) d h lt has =
    let x = get_or cs p d in
    let differs : same_name c.name x.name ≡ false = all_at (λ (y : Col). same_name c.name y.name ≡ false) cs p d h.0 (le_of_suc-le-suc lt) in
    let other : same_name c.name i.name ≡ false = turned i.name c.name false (joins x.name i.name c.name false has (turned c.name x.name false differs)) in
    ap₂ (λ (o : Option ℕ) (os : List (Option ℕ)). o ∷ os) (mark_kept items i c other) (marks_met items i cs p d h.1 (le_of_suc-le-suc lt) has)

-- the name of a column that is there
pub name_at-there : (cols : List Col) (k : ℕ) (d : Col) → k < length cols → name_at cols k ≡ (get_or cols k d).name
name_at-there cols k d lt = rw (slice_get-get_or cols k d lt) refl
