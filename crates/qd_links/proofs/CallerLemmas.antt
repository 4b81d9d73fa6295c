-- What a caller's proof can cite: where nodes stand, and who is in a list after an edit.
use Rattle.std.proofs.Common.{◌≡◌, ◌≢◌, ◌⊎◌, ℕ, ◌+◌, ◌-◌, ◌<◌, ◌≤◌, List, [], ◌∷◌, ◌++◌, length, get_or, sym, ap, ◌∙◌, subst, arith, Some, eqb, inl, inr}
use Rattle.std.specs.List.{insert, remove, slice_get, list_any}
use Rattle.std.proofs.lemmas.Bool.{cases_lt, cases_eq, cases_Bool, both_ways, eqb-true, eq-eqb}
use Rattle.std.proofs.lemmas.List.{get_or_past, get_or-set_same, get_or-set_other, get_or_default}
use Rattle.std.proofs.lemmas.List.Edits.{get_or-insert_below, get_or-insert_at, get_or-insert_above, length-insert, get_or-remove_below, get_or-remove_above, length-remove, insert_end}
use Rattle.std.proofs.lemmas.List.Folds.{Any-from_list_any, list_any_at}
use Rattle.std.proofs.lemmas.Option.{slice_get_within, get_or_from_slice_get, slice_get-get_or}
use Rattle.qd_links.specs.Lists.{Lists, list_at, with_list, StandsAt, IsListed, StandOnce}

-- a place is inside its list
pub place_in : (v : Lists) (k i node : ℕ) → StandsAt v k i node → i < length (list_at v k)
place_in v k i node s = slice_get_within (list_at v k) i node s

-- the node at a place, read as a number
pub node_at : (v : Lists) (k i node : ℕ) → StandsAt v k i node → get_or (list_at v k) i 0 ≡ node
node_at v k i node s = get_or_from_slice_get (list_at v k) i node 0 s

-- the way back
pub stands : (v : Lists) (k i node : ℕ) → i < length (list_at v k) → get_or (list_at v k) i 0 ≡ node → StandsAt v k i node
stands v k i node h e = slice_get-get_or (list_at v k) i 0 h ∙ ap (λ (n : ℕ). Some n) e

-- a list with a place is one of the lists
pub list_in : (v : Lists) (k i node : ℕ) → StandsAt v k i node → k < length v.lists
list_in v k i node s = elim (cases_lt k (length v.lists)) [
  | inl h ↦ h
  | inr h ↦
      let e : list_at v k ≡ [] = get_or_past v.lists k [] h in
      let i_in : i < length (list_at v k) = place_in v k i node s in
      let n : length (list_at v k) ≡ 0 = ap length e in
      absurd (omega arith)
]

-- list k with others
pub list_at-same : (v : Lists) (k : ℕ) (ys : List ℕ) → k < length v.lists → list_at (with_list v k ys) k ≡ ys
list_at-same v k ys h = get_or-set_same v.lists k ys [] h

pub list_at-other : (v : Lists) (k l : ℕ) (ys : List ℕ) → l ≢ k → list_at (with_list v k ys) l ≡ list_at v l
list_at-other v k l ys h = get_or-set_other v.lists k l ys [] h

-- a node is in a list or in none
pub cases_listed : (v : Lists) (node : ℕ) → IsListed v node ⊎ ¬ IsListed v node
cases_listed v node = elim (cases_Bool (list_any (λ xs. list_any (eqb node) xs) v.lists)) [
  | inl some ↦
      let a = Any-from_list_any (λ xs. list_any (eqb node) xs) v.lists some in
      let b = Any-from_list_any (eqb node) a.1 a.4 in
      let here : list_at v a.0 ≡ a.1 = get_or_default v.lists a.0 [] a.1 a.2 ∙ a.3 in
      let is : get_or a.1 b.0 0 ≡ node = get_or_default a.1 b.0 0 b.1 b.2 ∙ b.3 ∙ sym (eqb-true node b.1 b.4) in
      inl (a.0, b.0, stands v a.0 b.0 node (subst (λ (ys : List ℕ). b.0 < length ys) (sym here) b.2) (ap (λ (ys : List ℕ). get_or ys b.0 0) here ∙ is))
  | inr none ↦ inr (λ (k, i, s).
      both_ways (list_any (λ xs. list_any (eqb node) xs) v.lists) none
      (list_any_at (λ xs. list_any (eqb node) xs) v.lists k [] (list_in v k i node s)
      (list_any_at (eqb node) (list_at v k) i 0 (place_in v k i node s) (eq-eqb node (get_or (list_at v k) i 0) (sym (node_at v k i node s))))))
]

-- the node x is inserted at place i of list k
module _ (v : Lists) (k i x : ℕ) (k_in : k < length v.lists) (i_in : i ≤ length (list_at v k)) where
  stands_in_inserted : (j node : ℕ) → j < length (insert (list_at v k) i x) → get_or (insert (list_at v k) i x) j 0 ≡ node → StandsAt (with_list v k (insert (list_at v k) i x)) k j node
  stands_in_inserted j node j_in e =
      subst (λ (ys : List ℕ). slice_get ys j ≡ Some node) (sym (list_at-same v k (insert (list_at v k) i x) k_in)) (slice_get-get_or (insert (list_at v k) i x) j 0 j_in ∙ ap (λ (n : ℕ). Some n) e)

  -- who is in a list then is x, or was in one
  pub inserted_or_listed : (node : ℕ) → IsListed (with_list v k (insert (list_at v k) i x)) node → (node ≡ x) ⊎ IsListed v node
  inserted_or_listed node (l, j, s) = elim (cases_eq l k) [
    | inl same ↦
        let xs = list_at v k in
        let n : length (insert xs i x) ≡ length xs + 1 = length-insert xs i x i_in in
        let here : list_at (with_list v k (insert xs i x)) l ≡ insert xs i x = ap (λ (m : ℕ). list_at (with_list v k (insert xs i x)) m) same ∙ list_at-same v k (insert xs i x) k_in in
        let t : slice_get (insert xs i x) j ≡ Some node = subst (λ (ys : List ℕ). slice_get ys j ≡ Some node) here s in
        let j_in : j < length (insert xs i x) = slice_get_within (insert xs i x) j node t in
        let e : get_or (insert xs i x) j 0 ≡ node = get_or_from_slice_get (insert xs i x) j node 0 t in
        elim (cases_lt j i) [
          | inl lt ↦ inr (k, j, stands v k j node (omega arith) (sym (get_or-insert_below xs i x 0 j lt i_in) ∙ e))
          | inr ge ↦ elim (cases_eq j i) [
            | inl at ↦ inl (sym e ∙ ap (λ (m : ℕ). get_or (insert xs i x) m 0) at ∙ get_or-insert_at xs i x 0 i_in)
            | inr more ↦
                let m = j - 1 in
                let j_is : j ≡ m + 1 = omega arith in
                inr (k, m, stands v k m node (omega arith) (sym (get_or-insert_above xs i x 0 m (omega arith) i_in) ∙ ap (λ (p : ℕ). get_or (insert xs i x) p 0) (sym j_is) ∙ e))
          ]
        ]
    | inr apart ↦ inr (l, j, subst (λ (ys : List ℕ). slice_get ys j ≡ Some node) (list_at-other v k l (insert (list_at v k) i x) apart) s)
  ]

  -- who was in a list still is
  pub listed_after_insert : (node : ℕ) → IsListed v node → IsListed (with_list v k (insert (list_at v k) i x)) node
  listed_after_insert node (l, j, s) =
      let xs = list_at v k in
      let n : length (insert xs i x) ≡ length xs + 1 = length-insert xs i x i_in in
      elim (cases_eq l k) [
        | inl same ↦
            let t : StandsAt v k j node = subst (λ (m : ℕ). StandsAt v m j node) same s in
            let j_in = place_in v k j node t in
            elim (cases_lt j i) [
              | inl lt ↦ (k, j, stands_in_inserted j node (omega arith) (get_or-insert_below xs i x 0 j lt i_in ∙ node_at v k j node t))
              | inr ge ↦ (k, j + 1, stands_in_inserted (j + 1) node (omega arith) (get_or-insert_above xs i x 0 j ge i_in ∙ node_at v k j node t))
            ]
        | inr apart ↦ (l, j, subst (λ (ys : List ℕ). slice_get ys j ≡ Some node) (sym (list_at-other v k l (insert (list_at v k) i x) apart)) s)
      ]

  -- and so is x
  pub inserted_is_listed : IsListed (with_list v k (insert (list_at v k) i x)) x
  inserted_is_listed =
      let xs = list_at v k in
      let n : length (insert xs i x) ≡ length xs + 1 = length-insert xs i x i_in in
      (k, i, stands_in_inserted i x (omega arith) (get_or-insert_at xs i x 0 i_in))

-- the node x is added at the end of list k
module _ (v : Lists) (k x : ℕ) (k_in : k < length v.lists) where
  pushed : with_list v k (insert (list_at v k) (length (list_at v k)) x) ≡ with_list v k (list_at v k ++ x ∷ [])
  pushed = ap (λ (ys : List ℕ). with_list v k ys) (insert_end (list_at v k) x)

  pub pushed_or_listed : (node : ℕ) → IsListed (with_list v k (list_at v k ++ x ∷ [])) node → (node ≡ x) ⊎ IsListed v node
  pushed_or_listed node w = inserted_or_listed v k (length (list_at v k)) x k_in (omega arith) node (subst (λ (u : Lists). IsListed u node) (sym pushed) w)

  pub listed_after_push : (node : ℕ) → IsListed v node → IsListed (with_list v k (list_at v k ++ x ∷ [])) node
  listed_after_push node w = subst (λ (u : Lists). IsListed u node) pushed (listed_after_insert v k (length (list_at v k)) x k_in (omega arith) node w)

  pub pushed_is_listed : IsListed (with_list v k (list_at v k ++ x ∷ [])) x
  pushed_is_listed = subst (λ (u : Lists). IsListed u x) pushed (inserted_is_listed v k (length (list_at v k)) x k_in (omega arith))

-- the node x is removed from place i of list k; at place 0, that leaves `drop 1` of the list
module _ (v : Lists) (k i x : ℕ) (at : StandsAt v k i x) where
  k_in : k < length v.lists
  k_in = list_in v k i x at

  i_in : i < length (list_at v k)
  i_in = place_in v k i x at

  stands_in_removed : (j node : ℕ) → j < length (remove (list_at v k) i) → get_or (remove (list_at v k) i) j 0 ≡ node → StandsAt (with_list v k (remove (list_at v k) i)) k j node
  stands_in_removed j node j_in e =
      subst (λ (ys : List ℕ). slice_get ys j ≡ Some node) (sym (list_at-same v k (remove (list_at v k) i) k_in)) (slice_get-get_or (remove (list_at v k) i) j 0 j_in ∙ ap (λ (n : ℕ). Some n) e)

  -- where a node stood that stands in a list now: in another place than the one removed
  stood_at : (l j node : ℕ) → StandsAt (with_list v k (remove (list_at v k) i)) l j node → (m : ℕ) × StandsAt v l m node × ¬ ((l ≡ k) × (m ≡ i))
  stood_at l j node s = elim (cases_eq l k) [
    | inl same ↦
        let xs = list_at v k in
        let n : length (remove xs i) + 1 ≡ length xs = length-remove xs i i_in in
        let here : list_at (with_list v k (remove xs i)) l ≡ remove xs i = ap (λ (m : ℕ). list_at (with_list v k (remove xs i)) m) same ∙ list_at-same v k (remove xs i) k_in in
        let t : slice_get (remove xs i) j ≡ Some node = subst (λ (ys : List ℕ). slice_get ys j ≡ Some node) here s in
        let j_in : j < length (remove xs i) = slice_get_within (remove xs i) j node t in
        let e : get_or (remove xs i) j 0 ≡ node = get_or_from_slice_get (remove xs i) j node 0 t in
        elim (cases_lt j i) [
          | inl lt ↦ (j, subst (λ (m : ℕ). StandsAt v m j node) (sym same) (stands v k j node (omega arith) (sym (get_or-remove_below xs i 0 j lt i_in) ∙ e)), (λ p. omega (arith, p.1)))
          | inr ge ↦ (j + 1, subst (λ (m : ℕ). StandsAt v m (j + 1) node) (sym same) (stands v k (j + 1) node (omega arith) (sym (get_or-remove_above xs i 0 j ge i_in) ∙ e)), (λ p. omega (arith, p.1)))
        ]
    | inr apart ↦ (j, subst (λ (ys : List ℕ). slice_get ys j ≡ Some node) (list_at-other v k l (remove (list_at v k) i) apart) s, (λ p. apart p.0))
  ]

  -- who is in a list then was in one
  pub listed_before_remove : (node : ℕ) → IsListed (with_list v k (remove (list_at v k) i)) node → IsListed v node
  listed_before_remove node (l, j, s) = let w = stood_at l j node s in (l, w.0, w.1)

  -- who was in a list still is, or is x
  pub removed_or_listed : (node : ℕ) → IsListed v node → (node ≡ x) ⊎ IsListed (with_list v k (remove (list_at v k) i)) node
  removed_or_listed node (l, j, s) =
      let xs = list_at v k in
      let n : length (remove xs i) + 1 ≡ length xs = length-remove xs i i_in in
      elim (cases_eq l k) [
        | inl same ↦
            let t : StandsAt v k j node = subst (λ (m : ℕ). StandsAt v m j node) same s in
            let j_in = place_in v k j node t in
            elim (cases_lt j i) [
              | inl lt ↦ inr (k, j, stands_in_removed j node (omega (arith, i_in)) (get_or-remove_below xs i 0 j lt i_in ∙ node_at v k j node t))
              | inr ge ↦ elim (cases_eq j i) [
                | inl here ↦ inl (sym (node_at v k j node t) ∙ ap (λ (m : ℕ). get_or xs m 0) here ∙ node_at v k i x at)
                | inr more ↦
                    let m = j - 1 in
                    let j_is : m + 1 ≡ j = omega arith in
                    inr (k, m, stands_in_removed m node (omega arith) (get_or-remove_above xs i 0 m (omega arith) i_in ∙ ap (λ (p : ℕ). get_or xs p 0) j_is ∙ node_at v k j node t))
              ]
            ]
        | inr apart ↦ inr (l, j, subst (λ (ys : List ℕ). slice_get ys j ≡ Some node) (sym (list_at-other v k l (remove (list_at v k) i) apart)) s)
      ]

  -- x is in no list then
  pub removed_is_unlisted : StandOnce v → ¬ IsListed (with_list v k (remove (list_at v k) i)) x
  removed_is_unlisted once (l, j, s) =
      let w = stood_at l j x s in
      w.2 (once.same_list l k w.0 i x w.1 at, once.same_place l k w.0 i x w.1 at)
