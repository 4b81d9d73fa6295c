-- Slots that are added at the end of an array, each alone in a ring.
use Rattle.std.proofs.Common.{◌≡◌, ℕ, zero, suc, ◌+◌, ◌-◌, ◌<◌, ◌≤◌, List, [], ◌∷◌, ◌++◌, length, get_or, replicate, refl, sym, ap, ◌∙◌, subst, arith, inl, inr, Result, Ok, Err}
use Rattle.std.proofs.lemmas.Bool.{cases_lt}
use Rattle.std.proofs.lemmas.List.{append-nil, append_assoc, get_or_past, get_or_append_left, get_or-append_right, length-append, length-map, length-replicate, get_or-replicate}
use Rattle.std.specs.List.{range_with_len}
use Rattle.std.proofs.lemmas.List.FromFn.{length-range_with_len, get_or-map-range_with_len, map-range_with_len_more}
use Rattle.qd_links.specs.Lists.{Lists, list_at, IsListed}
use Rattle.qd_links.specs.Ring.{next_slot, prev_slot, slot_at, IsRing, HoldsLists, lone_slots, lists_of}
use Rattle.qd_links.proofs.ReadLemmas.{lists_of-held, holds_view}
use Rattle.std.specs.Result.{OnOk, OnErr}
use Rattle.qd_links.specs.declared.ring.Link.{Link}
use Rattle.qd_links.proofs.SlotLemmas.{slot_at-zero, slot_at-end}
use Rattle.qd_links.proofs.CallerLemmas.{place_in}
use Rattle.qd_links.proofs.PlaceLemmas.{slot_in, next_in}

pub length-lone_slots : (first count : ℕ) → length (lone_slots first count) ≡ count
length-lone_slots first count = length-map (range_with_len first count) (λ slot. record { prev = slot; next = slot }) ∙ length-range_with_len first count

-- the neighbours of a slot that was there stay
next_slot-append_left : (old ys : List Link) (s : ℕ) → s < length old → next_slot (old ++ ys) s ≡ next_slot old s
unfolding next_slot
next_slot-append_left old ys s h = ap (λ (l : Link). l.next) (get_or_append_left old ys (record { prev = 0; next = 0 }) s h)

prev_slot-append_left : (old ys : List Link) (s : ℕ) → s < length old → prev_slot (old ++ ys) s ≡ prev_slot old s
unfolding prev_slot
prev_slot-append_left old ys s h = ap (λ (l : Link). l.prev) (get_or_append_left old ys (record { prev = 0; next = 0 }) s h)

-- an added slot is its own neighbour
link_added : (old : List Link) (count s : ℕ) (d : Link) → length old ≤ s → s < length old + count → get_or (old ++ lone_slots (length old) count) s d ≡ record { prev = s; next = s }
link_added old count s d ge lt =
    get_or-append_right old (lone_slots (length old) count) (length old) s d refl ge
    ∙ get_or-map-range_with_len (λ slot. record { prev = slot; next = slot }) (length old) count (s - length old) s d (omega arith) (omega arith)

next_slot-added : (old : List Link) (count s : ℕ) → length old ≤ s → s < length old + count → next_slot (old ++ lone_slots (length old) count) s ≡ s
unfolding next_slot
next_slot-added old count s ge lt = ap (λ (l : Link). l.next) (link_added old count s (record { prev = 0; next = 0 }) ge lt)

prev_slot-added : (old : List Link) (count s : ℕ) → length old ≤ s → s < length old + count → prev_slot (old ++ lone_slots (length old) count) s ≡ s
unfolding prev_slot
prev_slot-added old count s ge lt = ap (λ (l : Link). l.prev) (link_added old count s (record { prev = 0; next = 0 }) ge lt)

-- an array that has grown holds the same lists, with so many nodes more
pub holds_grown : (old : List Link) (heads : ℕ) (v : Lists) (count : ℕ) → HoldsLists old heads v → HoldsLists (old ++ lone_slots (length old) count) heads (record v { nodes = v.nodes + count })
holds_grown old heads v count h =
    let size = h.size in
    let n : length (old ++ lone_slots (length old) count) ≡ length old + count = length-append old (lone_slots (length old) count) ∙ ap (λ (m : ℕ). length old + m) (length-lone_slots (length old) count) in
    record {
      size = omega arith;
      count = h.count;
      rings = λ k k_in j j_in. (
        next_slot-append_left old (lone_slots (length old) count) (slot_at heads k (list_at v k) j) (slot_in old heads v h k j k_in j_in) ∙ (h.rings k k_in j j_in).0,
        prev_slot-append_left old (lone_slots (length old) count) (slot_at heads k (list_at v k) (j + 1)) (next_in old heads v h k j k_in j_in) ∙ (h.rings k k_in j j_in).1,
      );
      in_range = λ k j node s. let r = h.in_range k j node s in omega arith;
      alone = λ node n_in n_out. elim (cases_lt node v.nodes) [
        | inl lt ↦
            let was = h.alone node lt n_out in (
              next_slot-append_left old (lone_slots (length old) count) (heads + node) (omega arith) ∙ was.0,
              prev_slot-append_left old (lone_slots (length old) count) (heads + node) (omega arith) ∙ was.1,
            )
        | inr ge ↦ (next_slot-added old count (heads + node) (omega arith) (omega arith), prev_slot-added old count (heads + node) (omega arith) (omega arith))
      ];
    }

-- a head that is its own neighbour has no nodes
lone_ring : (ring : List Link) (heads k : ℕ) → next_slot ring k ≡ k → prev_slot ring k ≡ k → IsRing ring heads k []
lone_ring ring heads k next prev zero j_in =
    let a = slot_at-zero heads k [] in
    let b : slot_at heads k [] (0 + 1) ≡ k = slot_at-end heads k [] 0 (omega arith) in
    (cc, cc)
lone_ring ring heads k next prev (suc j) j_in = absurd (omega arith)

-- no nodes, and so many empty lists
abbrev pub empty_lists : ℕ → Lists
empty_lists heads = record { nodes = 0; lists = replicate heads [] }

none_at : (heads k : ℕ) → list_at (empty_lists heads) k ≡ []
none_at heads k = elim (cases_lt k heads) [
  | inl lt ↦ get_or-replicate {A = List ℕ} heads k [] [] lt
  | inr ge ↦ let n : length (replicate {A = List ℕ} heads []) ≡ heads = length-replicate heads [] in get_or_past (replicate heads []) k [] (omega arith)
]

-- no node stands in empty lists
pub none_listed : (heads nodes node : ℕ) → ¬ IsListed (record { nodes = nodes; lists = replicate heads [] }) node
none_listed heads nodes node (k, i, s) =
    let i_in = place_in (record { nodes = nodes; lists = replicate heads [] }) k i node s in
    let none : length (list_at (empty_lists heads) k) ≡ 0 = ap length (none_at heads k) in
    omega arith

-- slots that are each alone hold empty lists
pub holds_heads : (heads : ℕ) → HoldsLists (lone_slots 0 heads) heads (empty_lists heads)
holds_heads heads =
    let n = length-lone_slots 0 heads in
    record {
      size = omega arith;
      count = length-replicate heads [];
      rings = λ k k_in.
          subst (λ (ys : List ℕ). IsRing (lone_slots 0 heads) heads k ys) (sym (none_at heads k))
          (lone_ring (lone_slots 0 heads) heads k (next_slot-added [] heads k (omega arith) (omega arith)) (prev_slot-added [] heads k (omega arith) (omega arith)));
      in_range = λ k j node s.
          let j_in = place_in (empty_lists heads) k j node s in
          let none : length (list_at (empty_lists heads) k) ≡ 0 = ap length (none_at heads k) in
          absurd (omega arith);
      alone = λ node n_in n_out. absurd (omega arith);
    }

-- the slots that a loop has added: none at first, and then one more
pub added_none : (xs ys : List Link) (first : ℕ) → ys ≡ xs → ys ≡ xs ++ lone_slots first (first - first)
added_none xs ys first e =
    let none : first - first ≡ 0 = omega arith in
    rw none (e ∙ sym (append-nil xs))

pub added_more : (xs ys zs : List Link) (first slot : ℕ) → first ≤ slot → ys ≡ xs ++ lone_slots first (slot - first) → zs ≡ ys ++ record { prev = slot; next = slot } ∷ [] → zs ≡ xs ++ lone_slots first (slot + 1 - first)
added_more xs ys zs first slot le e more =
    let n : slot + 1 - first ≡ slot - first + 1 = omega arith in
    rw (n, map-range_with_len_more {X = Link} (λ s. record { prev = s; next = s }) first (slot - first) slot (omega arith), ← append_assoc)
    (more ∙ ap (λ (l : List Link). l ++ record { prev = slot; next = slot } ∷ []) e)

-- what a call that adds slots leaves of the lists
pub record Grown {T E : Type 0} (r : Result T E) (new : List Link) (heads : ℕ) (v : Lists) (count : ℕ) : Type 0 where
  pub holds : HoldsLists new heads (lists_of new heads)
  pub nodes : OnOk r ((lists_of new heads).nodes ≡ v.nodes + count)
  pub lists : OnOk r ((lists_of new heads).lists ≡ v.lists)
  pub unlisted : (node : ℕ) → v.nodes ≤ node → ¬ IsListed (lists_of new heads) node

pub grown : {T E : Type 0} (r : Result T E) (old new : List Link) (heads : ℕ) (v : Lists) (count : ℕ) → HoldsLists old heads v → OnOk r (new ≡ old ++ lone_slots (length old) count) → OnErr r (new ≡ old) → Grown r new heads v count
grown (Ok x) old new heads v count h ok err =
    let after : HoldsLists new heads (record v { nodes = v.nodes + count }) = subst (λ (ring : List Link). HoldsLists ring heads (record v { nodes = v.nodes + count })) (sym ok) (holds_grown old heads v count h) in
    let view = lists_of-held new heads (record v { nodes = v.nodes + count }) after in
    record {
      holds = holds_view new heads (record v { nodes = v.nodes + count }) after;
      nodes = ap (λ (w : Lists). w.nodes) view;
      lists = ap (λ (w : Lists). w.lists) view;
      unlisted = λ node le w. let s = subst (λ (u : Lists). IsListed u node) view w in let lt = h.in_range s.0 s.1 node s.2 in omega arith;
    }
grown (Err e) old new heads v count h ok err =
    record {
      holds = holds_view new heads v (subst (λ (ring : List Link). HoldsLists ring heads v) (sym err) h);
      nodes = tt;
      lists = tt;
      unlisted = λ node le w. let s = subst (λ (u : Lists). IsListed u node) (lists_of-held new heads v (subst (λ (ring : List Link). HoldsLists ring heads v) (sym err) h)) w in let lt = h.in_range s.0 s.1 node s.2 in omega arith;
    }

-- heads and then nodes, in an array that was empty
pub holds_made : (none heads_made made : List Link) (lists nodes : ℕ) → none ≡ [] → heads_made ≡ none ++ lone_slots (length none) lists → made ≡ heads_made ++ lone_slots (length heads_made) nodes → HoldsLists made lists (record { nodes = 0 + nodes; lists = replicate lists [] })
holds_made none heads_made made lists nodes none_is heads_are all_are =
    let heads : heads_made ≡ lone_slots 0 lists = heads_are ∙ ap (λ (l : List Link). l ++ lone_slots (length l) lists) none_is in
    subst (λ (ring : List Link). HoldsLists ring lists (record { nodes = 0 + nodes; lists = replicate lists [] })) (sym all_are)
    (holds_grown heads_made lists (empty_lists lists) nodes (subst (λ (ring : List Link). HoldsLists ring lists (empty_lists lists)) (sym heads) (holds_heads lists)))
