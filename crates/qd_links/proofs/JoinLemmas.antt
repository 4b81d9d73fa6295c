-- One write to a slot, and two neighbours that are joined by two writes.
use Rattle.std.proofs.Common.{◌≡◌, ◌≢◌, ℕ, ◌<◌, List, length, set, ap, ◌∙◌, arith, inl, inr}
use Rattle.std.proofs.lemmas.Bool.{cases_eq}
use Rattle.std.proofs.lemmas.List.{get_or-set_same, get_or-set_other, length-set}
use Rattle.qd_links.specs.Ring.{next_slot, prev_slot, Joins}
use Rattle.qd_links.specs.declared.ring.Link.{Link}

next_slot-set_same : (ring : List Link) (i : ℕ) (l : Link) → i < length ring → next_slot (set ring i l) i ≡ l.next
unfolding next_slot
next_slot-set_same ring i l h = ap (λ (m : Link). m.next) (get_or-set_same ring i l (record { prev = 0; next = 0 }) h)

prev_slot-set_same : (ring : List Link) (i : ℕ) (l : Link) → i < length ring → prev_slot (set ring i l) i ≡ l.prev
unfolding prev_slot
prev_slot-set_same ring i l h = ap (λ (m : Link). m.prev) (get_or-set_same ring i l (record { prev = 0; next = 0 }) h)

next_slot-set_other : (ring : List Link) (i s : ℕ) (l : Link) → s ≢ i → next_slot (set ring i l) s ≡ next_slot ring s
unfolding next_slot
next_slot-set_other ring i s l h = ap (λ (m : Link). m.next) (get_or-set_other ring i s l (record { prev = 0; next = 0 }) h)

prev_slot-set_other : (ring : List Link) (i s : ℕ) (l : Link) → s ≢ i → prev_slot (set ring i l) s ≡ prev_slot ring s
unfolding prev_slot
prev_slot-set_other ring i s l h = ap (λ (m : Link). m.prev) (get_or-set_other ring i s l (record { prev = 0; next = 0 }) h)

-- a write that leaves the next slot
next_slot-set_prev : (ring : List Link) (i s : ℕ) (p : ℕ) → i < length ring → next_slot (set ring i (record { prev = p; next = next_slot ring i })) s ≡ next_slot ring s
next_slot-set_prev ring i s p h = elim (cases_eq s i) [
  | inl same ↦ let a = next_slot-set_same ring i (record { prev = p; next = next_slot ring i }) h in cc
  | inr other ↦ next_slot-set_other ring i s (record { prev = p; next = next_slot ring i }) other
]

-- a write that leaves the slot before
prev_slot-set_next : (ring : List Link) (i s : ℕ) (n : ℕ) → i < length ring → prev_slot (set ring i (record { prev = prev_slot ring i; next = n })) s ≡ prev_slot ring s
prev_slot-set_next ring i s n h = elim (cases_eq s i) [
  | inl same ↦ let a = prev_slot-set_same ring i (record { prev = prev_slot ring i; next = n }) h in cc
  | inr other ↦ prev_slot-set_other ring i s (record { prev = prev_slot ring i; next = n }) other
]

pub joined : (ring r : List Link) (from to : ℕ) → from < length ring → to < length ring → r ≡ set ring from (record { prev = prev_slot ring from; next = to }) → Joins ring (set r to (record { prev = from; next = next_slot r to })) from to
joined ring r from to from_in to_in e =
    let n : length r ≡ length ring = ap length e ∙ length-set ring from (record { prev = prev_slot ring from; next = to }) in
    record {
      next = next_slot-set_prev r to from from (omega arith) ∙ ap (λ (q : List Link). next_slot q from) e ∙ next_slot-set_same ring from (record { prev = prev_slot ring from; next = to }) from_in;
      prev = prev_slot-set_same r to (record { prev = from; next = next_slot r to }) (omega arith);
      other_next = λ s apart. next_slot-set_prev r to s from (omega arith) ∙ ap (λ (q : List Link). next_slot q s) e ∙ next_slot-set_other ring from s (record { prev = prev_slot ring from; next = to }) apart;
      other_prev = λ s apart. prev_slot-set_other r to s (record { prev = from; next = next_slot r to }) apart ∙ ap (λ (q : List Link). prev_slot q s) e ∙ prev_slot-set_next ring from s to from_in;
    }
