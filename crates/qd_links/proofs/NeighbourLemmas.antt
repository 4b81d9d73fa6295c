-- What is read from a slot, and which node is beside it.
use Rattle.std.proofs.Common.{subst, ◌≡◌, ◌≢◌, ℕ, ◌+◌, ◌-◌, ◌<◌, List, length, get_or, refl, sym, ap, ◌∙◌, arith, Option, Some, None, eqb, IsTrue, not, inl, inr, ◌↔◌}
use Rattle.std.specs.List.{slice_get}
use Rattle.std.specs.Option.{IfSome}
use Rattle.std.proofs.lemmas.Bool.{cases_lt, cases_eq, both_ways, eq-eqb, ne_eqb, not-true}
use Rattle.std.proofs.lemmas.List.{get_or_read}
use Rattle.std.proofs.lemmas.Option.{none-some, slice_get-get_or, slice_get_past}
use Rattle.qd_links.specs.Lists.{Lists, list_at, StandsAt, IsListed}
use Rattle.qd_links.specs.Ring.{next_slot, prev_slot, slot_at, HoldsLists, IsNodeBeside}
use Rattle.qd_links.specs.declared.ring.Link.{Link}
use Rattle.qd_links.proofs.SlotLemmas.{slot_at-zero, slot_at-node, slot_at-end}
use Rattle.qd_links.proofs.CallerLemmas.{cases_listed}
use Rattle.qd_links.proofs.PlaceLemmas.{head_in}
use Rattle.qd_links.proofs.EditLemmas.{prev_of_node, next_of_node, prev_of_node_other, next_of_node_other}

-- the parts of a link that was read
next_read : (ring : List Link) (slot : ℕ) (x : Link) → slot < length ring → x ≡ get_or ring slot x → x.next ≡ next_slot ring slot
unfolding next_slot
next_read ring slot x slot_in read = ap (λ (l : Link). l.next) (get_or_read ring slot x slot_in read (record { prev = 0; next = 0 }))

prev_read : (ring : List Link) (slot : ℕ) (x : Link) → slot < length ring → x ≡ get_or ring slot x → x.prev ≡ prev_slot ring slot
unfolding prev_slot
prev_read ring slot x slot_in read = ap (λ (l : Link). l.prev) (get_or_read ring slot x slot_in read (record { prev = 0; next = 0 }))

-- beside a slot that is alone, and beside a head, there is no node
none_alone : (r : Option ℕ) (heads slot n : ℕ) → IsNodeBeside r heads slot n → n ≡ slot → r ≡ None
none_alone None heads slot n r_is e = refl
none_alone (Some x) heads slot n r_is e = absurd (r_is.0.0 e)

none_of_head : (r : Option ℕ) (heads slot n : ℕ) → IsNodeBeside r heads slot n → n < heads → r ≡ None
none_of_head None heads slot n r_is lt = refl
none_of_head (Some x) heads slot n r_is lt = absurd (omega (arith, r_is.0.1))

-- and beside others the slot of a node
node_of_slot : (r : Option ℕ) (heads slot n node : ℕ) → IsNodeBeside r heads slot n → n ≢ slot → n ≡ heads + node → r ≡ Some node
node_of_slot None heads slot n node r_is apart e = absurd (r_is (apart, omega arith))
node_of_slot (Some x) heads slot n node r_is apart e = ap (λ (m : ℕ). Some m) (omega (arith, r_is.1))

node_of_slot_at : (r : Option ℕ) (heads slot k : ℕ) (xs : List ℕ) (n i : ℕ) → IsNodeBeside r heads slot n → (i < length xs → n ≢ slot) → n ≡ slot_at heads k xs (i + 1) → k < heads → r ≡ slice_get xs i
node_of_slot_at r heads slot k xs n i r_is apart e k_in = elim (cases_lt i (length xs)) [
  | inl lt ↦ node_of_slot r heads slot n (get_or xs i 0) r_is (apart lt) (e ∙ slot_at-node heads k xs i lt) ∙ sym (slice_get-get_or xs i 0 lt)
  | inr ge ↦
      let s = slot_at-end heads k xs i ge in
      none_of_head r heads slot n r_is (omega arith) ∙ sym (slice_get_past xs i ge)
]

-- the first node of a list
pub record IsFront (v : Lists) (k : ℕ) (r : Option ℕ) : Type 0 where
  pub first : r ≡ slice_get (list_at v k) 0
  pub in_range : IfSome r (λ m. m < v.nodes)

-- the node behind a node
pub record IsNext (v : Lists) (node : ℕ) (r : Option ℕ) : Type 0 where
  pub next : (k i : ℕ) → StandsAt v k i node → r ≡ slice_get (list_at v k) (i + 1)
  pub unlisted : ¬ IsListed v node → r ≡ None
  pub in_range : IfSome r (λ m. m < v.nodes)

-- the node before a node
pub record IsPrev (v : Lists) (node : ℕ) (r : Option ℕ) : Type 0 where
  pub first : (k : ℕ) → StandsAt v k 0 node → r ≡ None
  pub prev : (k i : ℕ) → StandsAt v k (i + 1) node → r ≡ slice_get (list_at v k) i
  pub unlisted : ¬ IsListed v node → r ≡ None
  pub in_range : IfSome r (λ m. m < v.nodes)

module _ (ring : List Link) (heads : ℕ) (v : Lists) (h : HoldsLists ring heads v) where
  -- the slot of a node is in the array
  pub node_slot_in : (node : ℕ) → node < v.nodes → heads + node < length ring
  node_slot_in node n_in = let size = h.size in omega arith

  -- a node whose next slot is another is in a list
  pub listed_found : (node : ℕ) (l : Link) → node < v.nodes → l ≡ get_or ring (heads + node) l → IsTrue (not (eqb l.next (heads + node))) ↔ IsListed v node
  listed_found node l n_in read =
      let n = l.next in
      let n_is = next_read ring (heads + node) l (node_slot_in node n_in) read in (
        λ t. elim (cases_listed v node) [
          | inl found ↦ found
          | inr out ↦
              let same : n ≡ heads + node = n_is ∙ (h.alone node n_in out).0 in
              absurd (both_ways (eqb n (heads + node)) (not-true (eqb n (heads + node)) t) (eq-eqb n (heads + node) same))
        ],
        λ w. ap not (ne_eqb n (heads + node) (λ e. next_of_node_other ring heads v h node w (sym e ∙ n_is))),
      )

  -- a node that stands somewhere is one of the nodes there are
  in_range_of : (r : Option ℕ) (k i : ℕ) → r ≡ slice_get (list_at v k) i → IfSome r (λ m. m < v.nodes)
  in_range_of None k i e = tt
  in_range_of (Some m) k i e = h.in_range k i m (sym e)

  none_in_range : (r : Option ℕ) → r ≡ None → IfSome r (λ m. m < v.nodes)
  none_in_range None e = tt
  none_in_range (Some m) e = absurd (none-some m (sym e))

  -- the node beside a list's head
  pub front_found : (r : Option ℕ) (k : ℕ) (l : Link) → k < length v.lists → l ≡ get_or ring k l → IsNodeBeside r heads k l.next → IsFront v k r
  front_found r k l k_list read r_is =
      let size = h.size in
      let count = h.count in
      let k_in : k < heads = omega arith in
      let xs = list_at v k in
      let n = next_read ring k l (omega arith) read in
      let behind = n ∙ ap (λ (m : ℕ). next_slot ring m) (sym (slot_at-zero heads k xs)) ∙ (h.rings k k_in 0 (omega arith)).0 in
      let first = node_of_slot_at r heads k k xs l.next 0 r_is (λ some e. omega (arith, slot_at-node heads k xs 0 some, behind)) behind k_in in
      record { first = first; in_range = in_range_of r k 0 first }

  -- the node beside a node, in the one direction
  pub next_found : (r : Option ℕ) (node : ℕ) (l : Link) → node < v.nodes → l ≡ get_or ring (heads + node) l → IsNodeBeside r heads (heads + node) l.next → IsNext v node r
  next_found r node l n_in read r_is =
      let n = next_read ring (heads + node) l (node_slot_in node n_in) read in
      let next : (k i : ℕ) → StandsAt v k i node → r ≡ slice_get (list_at v k) (i + 1) = λ k i s.
      node_of_slot_at r heads (heads + node) k (list_at v k) l.next (i + 1) r_is (λ some e. next_of_node_other ring heads v h node (k, i, s) (sym e ∙ n)) (n ∙ next_of_node ring heads v h k i node s) (head_in ring heads v h k i node s) in
      let unlisted : ¬ IsListed v node → r ≡ None = λ out. none_alone r heads (heads + node) l.next r_is (n ∙ (h.alone node n_in out).0) in
      record {
        next = next;
        unlisted = unlisted;
        in_range = elim (cases_listed v node) [
          | inl w ↦ in_range_of r w.0 (w.1 + 1) (next w.0 w.1 w.2)
          | inr out ↦ none_in_range r (unlisted out)
        ];
      }

  -- and in the other
  pub prev_found : (r : Option ℕ) (node : ℕ) (l : Link) → node < v.nodes → l ≡ get_or ring (heads + node) l → IsNodeBeside r heads (heads + node) l.prev → IsPrev v node r
  prev_found r node l n_in read r_is =
      let p = prev_read ring (heads + node) l (node_slot_in node n_in) read in
      let first : (k : ℕ) → StandsAt v k 0 node → r ≡ None = λ k s.
      let e = prev_of_node ring heads v h k 0 node s in
      let z = slot_at-zero heads k (list_at v k) in
      let k_in = head_in ring heads v h k 0 node s in
      none_of_head r heads (heads + node) l.prev r_is (omega arith) in
      let prev : (k i : ℕ) → StandsAt v k (i + 1) node → r ≡ slice_get (list_at v k) i = λ k i s.
      node_of_slot_at r heads (heads + node) k (list_at v k) l.prev i r_is (λ some e. prev_of_node_other ring heads v h node (k, i + 1, s) (sym e ∙ p)) (p ∙ prev_of_node ring heads v h k (i + 1) node s) (head_in ring heads v h k (i + 1) node s) in
      let unlisted : ¬ IsListed v node → r ≡ None = λ out. none_alone r heads (heads + node) l.prev r_is (p ∙ (h.alone node n_in out).1) in
      record {
        first = first;
        prev = prev;
        unlisted = unlisted;
        in_range = elim (cases_listed v node) [
          | inl w ↦ elim (cases_eq w.1 0) [
            | inl zero_is ↦ none_in_range r (first w.0 (subst (λ (i : ℕ). StandsAt v w.0 i node) zero_is w.2))
            | inr more ↦
                let place : w.1 ≡ w.1 - 1 + 1 = omega arith in
                in_range_of r w.0 (w.1 - 1) (prev w.0 (w.1 - 1) (subst (λ (i : ℕ). StandsAt v w.0 i node) place w.2))
          ]
          | inr out ↦ none_in_range r (unlisted out)
        ];
      }
