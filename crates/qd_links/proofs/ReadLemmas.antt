-- The lists that an array holds are those that are read from it.
use Rattle.std.proofs.Common.{◌≡◌, ℕ, zero, suc, ◌+◌, ◌-◌, ◌<◌, ◌≤◌, List, [], ◌∷◌, length, map, get_or, drop, sym, ap, ◌∙◌, subst, arith, eqb, inl, inr}
use Rattle.std.specs.List.{range_with_len}
use Rattle.std.proofs.lemmas.Bool.{cases_lt, lt-ltb, le-ltb, ne_eqb, eqb-true}
use Rattle.std.proofs.lemmas.List.{drop_all, drop_more, same_lists, get_or_default, length-map}
use Rattle.std.proofs.lemmas.List.Folds.{Any-from_list_any}
use Rattle.std.proofs.lemmas.List.FromFn.{length-range_with_len, get_or-map-range_with_len}
use Rattle.std.proofs.lemmas.Map.Keys.{IsDistinct-from_apart}
use Rattle.std.proofs.lemmas.Map.Steps.{length-le_from_distinct_below}
use Rattle.qd_links.specs.Lists.{Lists, list_at}
use Rattle.qd_links.specs.Ring.{next_slot, slot_at, IsRing, HoldsLists, nodes_from, lists_of}
use Rattle.qd_links.specs.declared.ring.Link.{Link}
use Rattle.qd_links.proofs.SlotLemmas.{slot_at-zero, slot_at-node, slot_at-end}
use Rattle.qd_links.proofs.CallerLemmas.{stands}
use Rattle.qd_links.proofs.PlaceLemmas.{one_place_of}

-- from place i + 1 of a ring on, the nodes from i on are read, if the limit is large enough
nodes_from-slot_at : (ring : List Link) (heads k : ℕ) (xs : List ℕ) → IsRing ring heads k xs → k < heads → (limit i : ℕ) → length xs ≤ i + limit → nodes_from ring heads limit (slot_at heads k xs (i + 1)) ≡ drop i xs
unfolding nodes_from
nodes_from-slot_at ring heads k xs r k_in zero i enough = sym (drop_all i xs (omega arith))
nodes_from-slot_at ring heads k xs r k_in (suc limit) i enough = elim (cases_lt i (length xs)) [
  | inl lt ↦
      let s = slot_at-node heads k xs i lt in
      let next = (r (i + 1) (omega arith)).0 in
      let rest = nodes_from-slot_at ring heads k xs r k_in limit (i + 1) (omega arith) in
      rw (le-ltb (slot_at heads k xs (i + 1)) heads (omega arith), next, rest, s, drop_more xs i 0 lt)
      (ap (λ (n : ℕ). n ∷ drop (i + 1) xs) (omega arith))
  | inr ge ↦
      let s = slot_at-end heads k xs i ge in
      rw (lt-ltb (slot_at heads k xs (i + 1)) heads (omega arith)) (sym (drop_all i xs ge))
]

module _ (ring : List Link) (heads : ℕ) (v : Lists) (h : HoldsLists ring heads v) where
  -- a list has no more nodes than there are, since it has each once
  list_fits : (k : ℕ) → length (list_at v k) ≤ v.nodes
  list_fits k =
      length-le_from_distinct_below (list_at v k) v.nodes
      (IsDistinct-from_apart eqb (list_at v k) (λ i j d i_lt j_in. ne_eqb (get_or (list_at v k) i d) (get_or (list_at v k) j d) (λ e.
      let a = stands v k i (get_or (list_at v k) i d) (omega arith) (get_or_default (list_at v k) i 0 d (omega arith)) in
      let b = stands v k j (get_or (list_at v k) i d) j_in (get_or_default (list_at v k) j 0 d j_in ∙ sym e) in
      omega (arith, (one_place_of ring heads v h k k i j (get_or (list_at v k) i d) a b).1))))
      (λ q found.
      let w = Any-from_list_any (eqb q) (list_at v k) found in
      let q_is = eqb-true q w.1 w.4 in
      let s = stands v k w.0 w.1 w.2 (get_or_default (list_at v k) w.0 0 w.1 w.2 ∙ w.3) in
      let fits = h.in_range k w.0 w.1 s in
      omega arith)

  list_read : (k : ℕ) → k < heads → nodes_from ring heads v.nodes (next_slot ring k) ≡ list_at v k
  list_read k k_in =
      let xs = list_at v k in
      let fits = list_fits k in
      let first : next_slot ring k ≡ slot_at heads k xs (0 + 1) = ap (λ (n : ℕ). next_slot ring n) (sym (slot_at-zero heads k xs)) ∙ (h.rings k k_in 0 (omega arith)).0 in
      rw first (nodes_from-slot_at ring heads k xs (h.rings k k_in) k_in v.nodes 0 (omega arith))

  lists_read : map (λ head. nodes_from ring heads v.nodes (next_slot ring head)) (range_with_len 0 heads) ≡ v.lists
  lists_read =
      let count = h.count in
      let f : ℕ → List ℕ = λ head. nodes_from ring heads v.nodes (next_slot ring head) in
      let n : length (map f (range_with_len 0 heads)) ≡ heads = length-map (range_with_len 0 heads) f ∙ length-range_with_len 0 heads in
      same_lists (map f (range_with_len 0 heads)) v.lists (n ∙ sym count) (λ k d k_in.
      get_or-map-range_with_len f 0 heads k k d (omega arith) (omega arith) ∙ list_read k (omega arith) ∙ get_or_default v.lists k [] d (omega arith))

  -- the lists that the array holds are those that its view gives
  pub lists_of-held : lists_of ring heads ≡ v
  unfolding lists_of
  lists_of-held =
      let size = h.size in
      let n : length ring - heads ≡ v.nodes = omega arith in
      rw n (ap (λ (ls : List (List ℕ)). record v { lists = ls }) lists_read)

  -- so the array holds the lists that its view gives
  pub holds_view : HoldsLists ring heads (lists_of ring heads)
  holds_view = subst (λ (w : Lists). HoldsLists ring heads w) (sym lists_of-held) h
