-- Where nodes stand, and what an array that holds the lists says of them.
use Rattle.std.proofs.Common.{◌≡◌, ◌≢◌, ℕ, ◌+◌, ◌<◌, ◌≤◌, List, length, get_or, refl, sym, ◌∙◌, arith, inl, inr}
use Rattle.std.proofs.lemmas.Bool.{cases_lt}
use Rattle.qd_links.specs.Lists.{Lists, list_at, StandsAt, IsListed, StandOnce}
use Rattle.qd_links.specs.Ring.{slot_at, HoldsLists}
use Rattle.qd_links.specs.declared.ring.Link.{Link}
use Rattle.qd_links.proofs.CallerLemmas.{place_in, node_at, stands, list_in}
use Rattle.qd_links.proofs.SlotLemmas.{slot_at-end, cases_slot, one_place}

module _ (ring : List Link) (heads : ℕ) (v : Lists) (h : HoldsLists ring heads v) where
  -- the list of a place has a head
  pub head_in : (k i node : ℕ) → StandsAt v k i node → k < heads
  head_in k i node s = let c = h.count in let l = list_in v k i node s in omega arith

  pub one_place_of : (k l i j node : ℕ) → StandsAt v k i node → StandsAt v l j node → (k ≡ l) × (i ≡ j)
  one_place_of k l i j node s t =
      one_place ring heads k l (list_at v k) (list_at v l) (h.rings k (head_in k i node s)) (h.rings l (head_in l j node t)) (head_in k i node s) (head_in l j node t) i j (place_in v k i node s) (place_in v l j node t) (node_at v k i node s ∙ sym (node_at v l j node t))

  pub StandOnce_of : StandOnce v
  StandOnce_of = record {
    same_list = λ k l i j node s t. (one_place_of k l i j node s t).0;
    same_place = λ k l i j node s t. (one_place_of k l i j node s t).1;
    in_range = h.in_range;
  }

  -- each slot of a ring is in the array
  pub slot_in : (k i : ℕ) → k < heads → i ≤ length (list_at v k) → slot_at heads k (list_at v k) i < length ring
  slot_in k i kh ix =
      let size = h.size in
      elim (cases_slot heads k (list_at v k) i ix) [
        | inl a ↦ let e = a.1 in omega arith
        | inr a ↦
            let e = a.3 in
            let n = h.in_range k a.0 (get_or (list_at v k) a.0 0) (stands v k a.0 (get_or (list_at v k) a.0 0) a.2 refl) in
            omega arith
      ]

  -- so is the slot behind it
  pub next_in : (k i : ℕ) → k < heads → i ≤ length (list_at v k) → slot_at heads k (list_at v k) (i + 1) < length ring
  next_in k i kh ix =
      elim (cases_lt i (length (list_at v k))) [
        | inl lt ↦ slot_in k (i + 1) kh (omega arith)
        | inr ge ↦ let e = slot_at-end heads k (list_at v k) i ge in let size = h.size in omega arith
      ]

  -- the slot of a node that is in no list is in no ring
  pub slot_of_unlisted : (x : ℕ) → ¬ IsListed v x → (k i : ℕ) → k < heads → i ≤ length (list_at v k) → slot_at heads k (list_at v k) i ≢ heads + x
  slot_of_unlisted x out k i kh ix e =
      elim (cases_slot heads k (list_at v k) i ix) [
        | inl a ↦ let b = a.1 in absurd (omega arith)
        | inr a ↦ let b = a.3 in out (k, a.0, stands v k a.0 x a.2 (omega arith))
      ]

  pub next_of_unlisted : (x : ℕ) → ¬ IsListed v x → (k i : ℕ) → k < heads → i ≤ length (list_at v k) → slot_at heads k (list_at v k) (i + 1) ≢ heads + x
  next_of_unlisted x out k i kh ix e =
      elim (cases_lt i (length (list_at v k))) [
        | inl lt ↦ slot_of_unlisted x out k (i + 1) kh (omega arith) e
        | inr ge ↦ let b = slot_at-end heads k (list_at v k) i ge in absurd (omega arith)
      ]
