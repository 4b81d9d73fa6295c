-- A slot that is taken out of its ring: the array then holds the lists with the node removed.
use Rattle.std.proofs.Common.{◌≡◌, ◌≢◌, ℕ, ◌+◌, ◌<◌, ◌≤◌, List, length, sym, ap, ◌∙◌, subst, arith, inl, inr}
use Rattle.std.specs.List.{remove}
use Rattle.std.proofs.lemmas.Bool.{cases_lt, cases_eq}
use Rattle.std.proofs.lemmas.List.{length-set}
use Rattle.std.proofs.lemmas.List.Edits.{length-remove}
use Rattle.qd_links.specs.Lists.{Lists, list_at, with_list, StandsAt, IsListed}
use Rattle.qd_links.specs.Ring.{next_slot, prev_slot, slot_at, IsRing, HoldsLists, Removes}
use Rattle.qd_links.specs.declared.ring.Link.{Link}
use Rattle.qd_links.proofs.SlotLemmas.{slot_at-node, slot_at-remove_below, slot_at-remove_above, one_slot, one_next_slot}
use Rattle.qd_links.proofs.CallerLemmas.{place_in, node_at, list_in, list_at-same, list_at-other, listed_before_remove, removed_or_listed}
use Rattle.qd_links.proofs.PlaceLemmas.{head_in, slot_of_unlisted, next_of_unlisted}

module _ (old new : List Link) (heads : ℕ) (v : Lists) (h : HoldsLists old heads v) (k i x : ℕ) (at : StandsAt v k i x) (rem : Removes old new (heads + x)) where
  k_in : k < heads
  k_in = head_in old heads v h k i x at

  i_in : i < length (list_at v k)
  i_in = place_in v k i x at

  k_list : k < length v.lists
  k_list = list_in v k i x at

  -- the slots before, at and behind the node
  slot_is : slot_at heads k (list_at v k) (i + 1) ≡ heads + x
  slot_is = slot_at-node heads k (list_at v k) i i_in ∙ ap (λ (n : ℕ). heads + n) (node_at v k i x at)

  before_is : prev_slot old (heads + x) ≡ slot_at heads k (list_at v k) i
  before_is = ap (λ (n : ℕ). prev_slot old n) (sym slot_is) ∙ (h.rings k k_in i (omega (arith, i_in))).1

  behind_is : next_slot old (heads + x) ≡ slot_at heads k (list_at v k) (i + 1 + 1)
  behind_is = ap (λ (n : ℕ). next_slot old n) (sym slot_is) ∙ (h.rings k k_in (i + 1) (omega (arith, i_in))).0

  -- links away from the place stay
  next_stays : (l j : ℕ) → l < heads → j ≤ length (list_at v l) → ¬ ((l ≡ k) × (j ≡ i)) → ¬ ((l ≡ k) × (j ≡ i + 1)) → next_slot new (slot_at heads l (list_at v l) j) ≡ slot_at heads l (list_at v l) (j + 1)
  next_stays l j l_in j_in apart apart' =
      rem.other_next (slot_at heads l (list_at v l) j)
      (λ e. apart (one_slot old heads l k (list_at v l) (list_at v k) (h.rings l l_in) (h.rings k k_in) l_in k_in j i j_in (omega (arith, i_in)) (e ∙ before_is)))
      (λ e. apart' (one_slot old heads l k (list_at v l) (list_at v k) (h.rings l l_in) (h.rings k k_in) l_in k_in j (i + 1) j_in (omega (arith, i_in)) (e ∙ sym slot_is)))
      ∙ (h.rings l l_in j j_in).0

  prev_stays : (l j : ℕ) → l < heads → j ≤ length (list_at v l) → ¬ ((l ≡ k) × (j ≡ i)) → ¬ ((l ≡ k) × (j ≡ i + 1)) → prev_slot new (slot_at heads l (list_at v l) (j + 1)) ≡ slot_at heads l (list_at v l) j
  prev_stays l j l_in j_in apart apart' =
      rem.other_prev (slot_at heads l (list_at v l) (j + 1))
      (λ e. apart' (one_next_slot old heads l k (list_at v l) (list_at v k) (h.rings l l_in) (h.rings k k_in) l_in k_in j (i + 1) j_in (omega (arith, i_in)) (e ∙ behind_is)))
      (λ e. apart (one_next_slot old heads l k (list_at v l) (list_at v k) (h.rings l l_in) (h.rings k k_in) l_in k_in j i j_in (omega (arith, i_in)) (e ∙ sym slot_is)))
      ∙ (h.rings l l_in j j_in).1

  -- the ring without the slot
  ring_removed : IsRing new heads k (remove (list_at v k) i)
  ring_removed j j_le =
      let xs = list_at v k in
      let n : length (remove xs i) + 1 ≡ length xs = length-remove xs i i_in in
      let here = slot_is in
      let before = before_is in
      let behind = behind_is in
      elim (cases_lt j i) [
        | inl lt ↦
            let a = slot_at-remove_below heads k xs i j i_in (omega arith) in
            let b = slot_at-remove_below heads k xs i (j + 1) i_in (omega arith) in
            let p = next_stays k j k_in (omega arith) (λ e. omega (arith, e.1)) (λ e. omega (arith, e.1)) in
            let q = prev_stays k j k_in (omega arith) (λ e. omega (arith, e.1)) (λ e. omega (arith, e.1)) in
            (cc, cc)
        | inr ge ↦ elim (cases_eq j i) [
          | inl same ↦
              let a = slot_at-remove_below heads k xs i j i_in (omega arith) in
              let b = slot_at-remove_above heads k xs i (i + 1) i_in (omega arith) in
              let p = rem.next_of_prev in
              let q = rem.prev_of_next in
              (cc, cc)
          | inr more ↦
              let a = slot_at-remove_above heads k xs i j i_in (omega arith) in
              let b = slot_at-remove_above heads k xs i (j + 1) i_in (omega arith) in
              let p = next_stays k (j + 1) k_in (omega arith) (λ e. omega (arith, e.1)) (λ e. omega (arith, e.1)) in
              let q = prev_stays k (j + 1) k_in (omega arith) (λ e. omega (arith, e.1)) (λ e. omega (arith, e.1)) in
              (cc, cc)
        ]
      ]

  ring_of : (l : ℕ) → l < heads → IsRing new heads l (list_at (with_list v k (remove (list_at v k) i)) l)
  ring_of l l_in = elim (cases_eq l k) [
    | inl same ↦
        subst (λ (n : ℕ). IsRing new heads n (list_at (with_list v k (remove (list_at v k) i)) n)) (sym same)
        (subst (λ (ys : List ℕ). IsRing new heads k ys) (sym (list_at-same v k (remove (list_at v k) i) k_list)) ring_removed)
    | inr apart ↦
        subst (λ (ys : List ℕ). IsRing new heads l ys) (sym (list_at-other v k l (remove (list_at v k) i) apart))
        (λ j j_in. (next_stays l j l_in j_in (λ e. apart e.0) (λ e. apart e.0), prev_stays l j l_in j_in (λ e. apart e.0) (λ e. apart e.0)))
  ]

  -- a node that is in no list now is alone
  alone_after : (node : ℕ) → node < v.nodes → ¬ IsListed (with_list v k (remove (list_at v k) i)) node
      → (next_slot new (heads + node) ≡ heads + node) × (prev_slot new (heads + node) ≡ heads + node)
  alone_after node n_in n_out = elim (cases_eq node x) [
    | inl same ↦
        let p = rem.next in
        let q = rem.prev in
        (cc, cc)
    | inr other ↦
        let was_out : ¬ IsListed v node = λ w. elim (removed_or_listed v k i x at node w) [ inl e ↦ other e | inr u ↦ n_out u ] in
        let apart : heads + node ≢ heads + x = λ e. other (omega arith) in
        let was = h.alone node n_in was_out in (
          rem.other_next (heads + node) (λ e. slot_of_unlisted old heads v h node was_out k i k_in (omega (arith, i_in)) (sym before_is ∙ sym e)) apart ∙ was.0,
          rem.other_prev (heads + node) (λ e. next_of_unlisted old heads v h node was_out k (i + 1) k_in (omega (arith, i_in)) (sym behind_is ∙ sym e)) apart ∙ was.1,
        )
  ]

  pub holds_removed : length new ≡ length old → HoldsLists new heads (with_list v k (remove (list_at v k) i))
  holds_removed len = record {
    size = h.size ∙ sym len;
    count = length-set v.lists k (remove (list_at v k) i) ∙ h.count;
    rings = ring_of;
    in_range = λ l j node s. let w = listed_before_remove v k i x at node (l, j, s) in h.in_range w.0 w.1 node w.2;
    alone = alone_after;
  }
