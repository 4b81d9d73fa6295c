-- A slot that is put into a ring: the array then holds the lists with the node inserted.
use Rattle.std.proofs.Common.{◌≡◌, ◌≢◌, ℕ, ◌+◌, ◌-◌, ◌<◌, ◌≤◌, List, length, sym, ◌∙◌, subst, arith, inl, inr}
use Rattle.std.specs.List.{insert}
use Rattle.std.proofs.lemmas.Bool.{cases_lt, cases_eq}
use Rattle.std.proofs.lemmas.List.{length-set}
use Rattle.std.proofs.lemmas.List.Edits.{length-insert}
use Rattle.qd_links.specs.Lists.{Lists, list_at, with_list, IsListed}
use Rattle.qd_links.specs.Ring.{next_slot, prev_slot, slot_at, IsRing, HoldsLists, Inserts}
use Rattle.qd_links.specs.declared.ring.Link.{Link}
use Rattle.qd_links.proofs.SlotLemmas.{slot_at-insert_below, slot_at-insert_at, slot_at-insert_above, one_slot, one_next_slot}
use Rattle.qd_links.proofs.CallerLemmas.{list_at-same, list_at-other, inserted_or_listed, listed_after_insert, inserted_is_listed}
use Rattle.qd_links.proofs.PlaceLemmas.{slot_of_unlisted, next_of_unlisted}

module _ (old new : List Link) (heads : ℕ) (v : Lists) (h : HoldsLists old heads v) (k i x : ℕ) (k_in : k < heads) (i_in : i ≤ length (list_at v k)) (x_in : x < v.nodes) (out : ¬ IsListed v x) (ins : Inserts old new (slot_at heads k (list_at v k) (i + 1)) (heads + x)) where
  -- the slot before the new one
  before_is : prev_slot old (slot_at heads k (list_at v k) (i + 1)) ≡ slot_at heads k (list_at v k) i
  before_is = (h.rings k k_in i i_in).1

  -- links away from the place stay
  next_stays : (l j : ℕ) → l < heads → j ≤ length (list_at v l) → ¬ ((l ≡ k) × (j ≡ i)) → next_slot new (slot_at heads l (list_at v l) j) ≡ slot_at heads l (list_at v l) (j + 1)
  next_stays l j l_in j_in apart =
      ins.other_next (slot_at heads l (list_at v l) j)
      (λ e. apart (one_slot old heads l k (list_at v l) (list_at v k) (h.rings l l_in) (h.rings k k_in) l_in k_in j i j_in i_in (e ∙ before_is)))
      (slot_of_unlisted old heads v h x out l j l_in j_in)
      ∙ (h.rings l l_in j j_in).0

  prev_stays : (l j : ℕ) → l < heads → j ≤ length (list_at v l) → ¬ ((l ≡ k) × (j ≡ i)) → prev_slot new (slot_at heads l (list_at v l) (j + 1)) ≡ slot_at heads l (list_at v l) j
  prev_stays l j l_in j_in apart =
      ins.other_prev (slot_at heads l (list_at v l) (j + 1))
      (λ e. apart (one_next_slot old heads l k (list_at v l) (list_at v k) (h.rings l l_in) (h.rings k k_in) l_in k_in j i j_in i_in e))
      (next_of_unlisted old heads v h x out l j l_in j_in)
      ∙ (h.rings l l_in j j_in).1

  -- the ring with the new slot
  ring_inserted : IsRing new heads k (insert (list_at v k) i x)
  ring_inserted j j_le =
      let xs = list_at v k in
      let n : length (insert xs i x) ≡ length xs + 1 = length-insert xs i x i_in in
      let at = slot_at-insert_at heads k xs i x i_in in
      let before = before_is in
      elim (cases_lt j i) [
        | inl lt ↦
            let a = slot_at-insert_below heads k xs i x j i_in (omega arith) in
            let b = slot_at-insert_below heads k xs i x (j + 1) i_in (omega arith) in
            rw (a, b) (next_stays k j k_in (omega arith) (λ e. omega (arith, e.1)), prev_stays k j k_in (omega arith) (λ e. omega (arith, e.1)))
        | inr ge ↦ elim (cases_eq j i) [
          | inl same ↦
              let a = slot_at-insert_below heads k xs i x j i_in (omega arith) in
              let p = ins.next_of_prev in
              let q = ins.prev in
              (cc, cc)
          | inr more ↦ elim (cases_eq j (i + 1)) [
            | inl behind ↦
                let b = slot_at-insert_above heads k xs i x (i + 1) i_in (omega arith) in
                let p = ins.next in
                let q = ins.prev_of_at in
                (cc, cc)
            | inr above ↦
                let m = j - 1 in
                let j_is : j ≡ m + 1 = omega arith in
                let a = slot_at-insert_above heads k xs i x m i_in (omega arith) in
                let b = slot_at-insert_above heads k xs i x j i_in (omega arith) in
                let p = next_stays k m k_in (omega arith) (λ e. omega (arith, e.1)) in
                let q = prev_stays k m k_in (omega arith) (λ e. omega (arith, e.1)) in
                (cc, cc)
          ]
        ]
      ]

  k_list : k < length v.lists
  k_list = let c = h.count in omega arith

  ring_of : (l : ℕ) → l < heads → IsRing new heads l (list_at (with_list v k (insert (list_at v k) i x)) l)
  ring_of l l_in = elim (cases_eq l k) [
    | inl same ↦
        subst (λ (n : ℕ). IsRing new heads n (list_at (with_list v k (insert (list_at v k) i x)) n)) (sym same)
        (subst (λ (ys : List ℕ). IsRing new heads k ys) (sym (list_at-same v k (insert (list_at v k) i x) k_list)) ring_inserted)
    | inr apart ↦
        subst (λ (ys : List ℕ). IsRing new heads l ys) (sym (list_at-other v k l (insert (list_at v k) i x) apart))
        (λ j j_in. (next_stays l j l_in j_in (λ e. apart e.0), prev_stays l j l_in j_in (λ e. apart e.0)))
  ]

  -- a node that is still in no list is still alone
  alone_after : (node : ℕ) → node < v.nodes → ¬ IsListed (with_list v k (insert (list_at v k) i x)) node
      → (next_slot new (heads + node) ≡ heads + node) × (prev_slot new (heads + node) ≡ heads + node)
  alone_after node n_in n_out =
      let was_out : ¬ IsListed v node = λ w. n_out (listed_after_insert v k i x k_list i_in node w) in
      let other : heads + node ≢ heads + x = λ e. n_out (subst (λ (n : ℕ). IsListed (with_list v k (insert (list_at v k) i x)) n) (omega arith) (inserted_is_listed v k i x k_list i_in)) in
      let was = h.alone node n_in was_out in (
        ins.other_next (heads + node) (λ e. slot_of_unlisted old heads v h node was_out k i k_in i_in (sym before_is ∙ sym e)) other ∙ was.0,
        ins.other_prev (heads + node) (λ e. next_of_unlisted old heads v h node was_out k i k_in i_in (sym e)) other ∙ was.1,
      )

  pub holds_inserted : length new ≡ length old → HoldsLists new heads (with_list v k (insert (list_at v k) i x))
  holds_inserted len = record {
    size = h.size ∙ sym len;
    count = length-set v.lists k (insert (list_at v k) i x) ∙ h.count;
    rings = ring_of;
    in_range = λ l j node s. elim (inserted_or_listed v k i x k_list i_in node (l, j, s)) [ inl e ↦ omega arith | inr w ↦ h.in_range w.0 w.1 node w.2 ];
    alone = alone_after;
  }
