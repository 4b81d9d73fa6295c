-- What each edit of the lists asks of the array and leaves in it.
use Rattle.std.proofs.Common.{◌≡◌, ◌≢◌, ℕ, ◌+◌, ◌<◌, List, [], ◌∷◌, ◌++◌, length, sym, ap, ◌∙◌, subst, arith, Vec}
use Rattle.std.specs.List.{insert}
use Rattle.std.specs.Vec.{with_items}
use Rattle.std.proofs.lemmas.List.{length-set, with_items_is}
use Rattle.std.proofs.lemmas.List.Edits.{insert_end}
use Rattle.qd_links.specs.Lists.{Lists, list_at, with_list, StandsAt, IsListed, StandOnce}
use Rattle.qd_links.specs.Ring.{next_slot, prev_slot, slot_at, HoldsLists, Inserts, lists_of}
use Rattle.qd_links.specs.declared.ring.Link.{Link}
use Rattle.qd_links.proofs.SlotLemmas.{slot_at-node, slot_at-end, one_slot, one_next_slot}
use Rattle.qd_links.proofs.CallerLemmas.{place_in, node_at}
use Rattle.qd_links.proofs.PlaceLemmas.{StandOnce_of, head_in, slot_in, next_in, slot_of_unlisted}
use Rattle.qd_links.proofs.ReadLemmas.{lists_of-held, holds_view}
use Rattle.qd_links.proofs.InsertLemmas.{holds_inserted}

-- the lists of a view, in an array that is the same
pub held : (ring ring' : List Link) (heads : ℕ) (v : Lists) → HoldsLists ring heads (lists_of ring heads) → lists_of ring heads ≡ v → ring' ≡ ring → HoldsLists ring' heads v
held ring ring' heads v h view same =
    subst (λ (r : List Link). HoldsLists r heads v) (sym same) (subst (λ (w : Lists). HoldsLists ring heads w) view h)

-- what a call that gives a list other nodes leaves of the lists
pub record Edited (new : List Link) (heads : ℕ) (v : Lists) (k : ℕ) (nodes : List ℕ) : Type 0 where
  pub holds : HoldsLists new heads (lists_of new heads)
  pub view : lists_of new heads ≡ with_list v k nodes
  pub as_many : (lists_of new heads).nodes ≡ v.nodes
  pub count : length (lists_of new heads).lists ≡ length v.lists
  pub once : StandOnce (lists_of new heads)

-- an array that is written back holds what the slice of it held
pub edited : {Z : Type 0} (vec : Vec Link Z) (new old : List Link) (heads : ℕ) (v : Lists) (k : ℕ) (nodes : List ℕ) → length new ≡ length old → length old ≡ vec.len → HoldsLists new heads (with_list v k nodes) → Edited (with_items vec new).items heads v k nodes
edited vec new old heads v k nodes len old_len h =
    let ring = (with_items vec new).items in
    let back = subst (λ (r : List Link). HoldsLists r heads (with_list v k nodes)) (sym (with_items_is vec new (len ∙ old_len))) h in
    let view = lists_of-held ring heads (with_list v k nodes) back in
    let holds = holds_view ring heads (with_list v k nodes) back in
    record {
      holds = holds;
      view = view;
      as_many = ap (λ (w : Lists). w.nodes) view;
      count = ap (λ (w : Lists). length w.lists) view ∙ length-set v.lists k nodes;
      once = StandOnce_of ring heads (lists_of ring heads) holds;
    }

module _ (ring : List Link) (heads : ℕ) (v : Lists) (h : HoldsLists ring heads v) where
  -- the slot of a node
  pub slot_of : (k i node : ℕ) → StandsAt v k i node → heads + node ≡ slot_at heads k (list_at v k) (i + 1)
  slot_of k i node s = sym (slot_at-node heads k (list_at v k) i (place_in v k i node s) ∙ ap (λ (n : ℕ). heads + n) (node_at v k i node s))

  pub prev_of_node : (k i node : ℕ) → StandsAt v k i node → prev_slot ring (heads + node) ≡ slot_at heads k (list_at v k) i
  prev_of_node k i node s =
      let i_in = place_in v k i node s in
      ap (λ (n : ℕ). prev_slot ring n) (slot_of k i node s) ∙ (h.rings k (head_in ring heads v h k i node s) i (omega arith)).1

  pub next_of_node : (k i node : ℕ) → StandsAt v k i node → next_slot ring (heads + node) ≡ slot_at heads k (list_at v k) (i + 1 + 1)
  next_of_node k i node s =
      let i_in = place_in v k i node s in
      ap (λ (n : ℕ). next_slot ring n) (slot_of k i node s) ∙ (h.rings k (head_in ring heads v h k i node s) (i + 1) (omega arith)).0

  pub prev_of_head : (k : ℕ) → k < heads → prev_slot ring k ≡ slot_at heads k (list_at v k) (length (list_at v k))
  prev_of_head k k_in =
      ap (λ (n : ℕ). prev_slot ring n) (sym (slot_at-end heads k (list_at v k) (length (list_at v k)) (omega arith))) ∙ (h.rings k k_in (length (list_at v k)) (omega arith)).1

  -- the slots beside a node are in the array, and are others than its own
  pub prev_of_node_in : (node : ℕ) → IsListed v node → prev_slot ring (heads + node) < length ring
  prev_of_node_in node (k, i, s) =
      let i_in = place_in v k i node s in
      let e = prev_of_node k i node s in
      let b = slot_in ring heads v h k i (head_in ring heads v h k i node s) (omega arith) in
      omega arith

  pub next_of_node_in : (node : ℕ) → IsListed v node → next_slot ring (heads + node) < length ring
  next_of_node_in node (k, i, s) =
      let i_in = place_in v k i node s in
      let e = next_of_node k i node s in
      let b = next_in ring heads v h k (i + 1) (head_in ring heads v h k i node s) (omega arith) in
      omega arith

  pub prev_of_node_other : (node : ℕ) → IsListed v node → heads + node ≢ prev_slot ring (heads + node)
  prev_of_node_other node (k, i, s) e =
      let i_in = place_in v k i node s in
      let k_in = head_in ring heads v h k i node s in
      let xs = list_at v k in
      let same : slot_at heads k xs i ≡ slot_at heads k xs (i + 1) = sym (prev_of_node k i node s) ∙ sym e ∙ slot_of k i node s in
      let r = h.rings k k_in in
      omega (arith, (one_slot ring heads k k xs xs r r k_in k_in i (i + 1) (omega arith) (omega arith) same).1)

  pub next_of_node_other : (node : ℕ) → IsListed v node → heads + node ≢ next_slot ring (heads + node)
  next_of_node_other node (k, i, s) e =
      let i_in = place_in v k i node s in
      let k_in = head_in ring heads v h k i node s in
      let xs = list_at v k in
      let same : slot_at heads k xs (i + 1) ≡ slot_at heads k xs (i + 1 + 1) = sym (slot_of k i node s) ∙ e ∙ next_of_node k i node s in
      let r = h.rings k k_in in
      omega (arith, (one_next_slot ring heads k k xs xs r r k_in k_in i (i + 1) (omega arith) (omega arith) same).1)

  -- the slot before the place of a new node is another
  pub prev_of_node_unlisted : (at node : ℕ) → IsListed v at → ¬ IsListed v node → heads + node ≢ prev_slot ring (heads + at)
  prev_of_node_unlisted at node (k, i, s) out e =
      let i_in = place_in v k i at s in
      slot_of_unlisted ring heads v h node out k i (head_in ring heads v h k i at s) (omega arith) (sym (prev_of_node k i at s) ∙ sym e)

  pub prev_of_head_in : (k : ℕ) → k < length v.lists → prev_slot ring k < length ring
  prev_of_head_in k k_list =
      let count = h.count in
      let e = prev_of_head k (omega arith) in
      let b = slot_in ring heads v h k (length (list_at v k)) (omega arith) (omega arith) in
      omega arith

  pub prev_of_head_unlisted : (k node : ℕ) → k < length v.lists → ¬ IsListed v node → heads + node ≢ prev_slot ring k
  prev_of_head_unlisted k node k_list out e =
      let count = h.count in
      let k_in : k < heads = omega arith in
      slot_of_unlisted ring heads v h node out k (length (list_at v k)) k_in (omega arith) (sym (prev_of_head k k_in) ∙ sym e)

  pub holds_pushed : (new : List Link) (k node : ℕ) → k < length v.lists → node < v.nodes → ¬ IsListed v node → Inserts ring new k (heads + node) → length new ≡ length ring → HoldsLists new heads (with_list v k (list_at v k ++ node ∷ []))
  holds_pushed new k node k_list n_in out ins len =
      let xs = list_at v k in
      let count = h.count in
      let at : slot_at heads k xs (length xs + 1) ≡ k = slot_at-end heads k xs (length xs) (omega arith) in
      subst (λ (ys : List ℕ). HoldsLists new heads (with_list v k ys)) (insert_end xs node)
      (holds_inserted ring new heads v h k (length xs) node (omega arith) (omega arith) n_in out (subst (λ (a : ℕ). Inserts ring new a (heads + node)) (sym at) ins) len)

  pub holds_put_before : (new : List Link) (at node k i : ℕ) → StandsAt v k i at → node < v.nodes → ¬ IsListed v node → Inserts ring new (heads + at) (heads + node) → length new ≡ length ring → HoldsLists new heads (with_list v k (insert (list_at v k) i node))
  holds_put_before new at node k i s n_in out ins len =
      let i_in = place_in v k i at s in
      holds_inserted ring new heads v h k i node (head_in ring heads v h k i at s) (omega arith) n_in out (subst (λ (a : ℕ). Inserts ring new a (heads + node)) (slot_of k i at s) ins) len
