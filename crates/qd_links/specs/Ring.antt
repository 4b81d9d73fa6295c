-- How the array of a `Links` holds its lists. No public clause cites this module.
--
-- The array has a slot for the head of each list, and then one for each node. The slots of a list
-- form a ring: from its head through its nodes in order, and back to the head.
use Rattle.std.specs.Prelude.{◌≡◌, ◌≢◌, ℕ, zero, suc, ◌+◌, ◌-◌, ◌<◌, ◌≤◌, List, [], ◌∷◌, length, map, slice_index_or, if◌then◌else◌, nat_lt, Option}
use Rattle.std.specs.List.{range_with_len}
use Rattle.std.specs.Option.{SomeIff}
use Rattle.qd_links.specs.Lists.{Lists, list_at, StandsAt, IsListed}
use Rattle.qd_links.specs.declared.ring.Link.{Link}

abbrev no_link : Link
no_link = record { prev = 0; next = 0 }

-- the slot behind a slot in its ring
unfoldable pub next_slot : List Link → ℕ → ℕ
next_slot ring slot = (slice_index_or ring slot no_link).next

-- the slot before a slot in its ring
unfoldable pub prev_slot : List Link → ℕ → ℕ
prev_slot ring slot = (slice_index_or ring slot no_link).prev

-- slots that are each alone in a ring
abbrev pub lone_slots : ℕ → ℕ → List Link
lone_slots first count = map (λ slot. record { prev = slot; next = slot }) (range_with_len first count)

-- `to` now follows `from`, and every other slot has the neighbours that it had
pub record Joins (old new : List Link) (from to : ℕ) : Type 0 where
  pub next : next_slot new from ≡ to
  pub prev : prev_slot new to ≡ from
  pub other_next : (s : ℕ) → s ≢ from → next_slot new s ≡ next_slot old s
  pub other_prev : (s : ℕ) → s ≢ to → prev_slot new s ≡ prev_slot old s

-- the slot now stands between `at` and the slot that was before `at`
pub record Inserts (old new : List Link) (at slot : ℕ) : Type 0 where
  pub next_of_prev : next_slot new (prev_slot old at) ≡ slot
  pub next : next_slot new slot ≡ at
  pub prev_of_at : prev_slot new at ≡ slot
  pub prev : prev_slot new slot ≡ prev_slot old at
  pub other_next : (s : ℕ) → s ≢ prev_slot old at → s ≢ slot → next_slot new s ≡ next_slot old s
  pub other_prev : (s : ℕ) → s ≢ at → s ≢ slot → prev_slot new s ≡ prev_slot old s

-- the slot is now alone, and its former neighbours are neighbours
pub record Removes (old new : List Link) (slot : ℕ) : Type 0 where
  pub next_of_prev : next_slot new (prev_slot old slot) ≡ next_slot old slot
  pub next : next_slot new slot ≡ slot
  pub prev_of_next : prev_slot new (next_slot old slot) ≡ prev_slot old slot
  pub prev : prev_slot new slot ≡ slot
  pub other_next : (s : ℕ) → s ≢ prev_slot old slot → s ≢ slot → next_slot new s ≡ next_slot old s
  pub other_prev : (s : ℕ) → s ≢ next_slot old slot → s ≢ slot → prev_slot new s ≡ prev_slot old s

-- the node that the slot beside a slot is of: none where the slot is alone or where a head is beside it
abbrev pub IsNodeBeside : Option ℕ → (heads slot beside : ℕ) → Type 0
IsNodeBeside node heads slot beside = SomeIff node ((beside ≢ slot) × (heads ≤ beside)) (beside - heads)

-- the nodes in a ring from this slot on up to the first head, but no more than `limit`
unfoldable pub nodes_from : (ring : List Link) (heads limit slot : ℕ) → List ℕ
nodes_from ring heads zero slot = []
nodes_from ring heads (suc limit) slot =
    if nat_lt slot heads
    then []
    else (slot - heads) ∷ nodes_from ring heads limit (next_slot ring slot)

-- the lists that the array holds
unfoldable pub lists_of : List Link → ℕ → Lists
lists_of ring heads =
    let nodes = length ring - heads in
    record {
      nodes = nodes;
      lists = map (λ head. nodes_from ring heads nodes (next_slot ring head)) (range_with_len 0 heads);
    }

-- the slot at a place of the ring of a list: the head at 0, then the nodes, then the head again
unfoldable pub slot_at : (heads head : ℕ) → List ℕ → ℕ → ℕ
slot_at heads head nodes i = slice_index_or (head ∷ map (λ node. heads + node) nodes) i head

-- the slots of a list are linked both ways
abbrev pub IsRing : (ring : List Link) (heads head : ℕ) → List ℕ → Type 0
IsRing ring heads head nodes =
    (i : ℕ) → i ≤ length nodes
    → (next_slot ring (slot_at heads head nodes i) ≡ slot_at heads head nodes (i + 1))
    × (prev_slot ring (slot_at heads head nodes (i + 1)) ≡ slot_at heads head nodes i)

-- the array holds these lists
pub record HoldsLists (ring : List Link) (heads : ℕ) (v : Lists) : Type 0 where
  pub size : heads + v.nodes ≡ length ring
  pub count : length v.lists ≡ heads
  pub rings : (k : ℕ) → k < heads → IsRing ring heads k (list_at v k)
  pub in_range : (k i node : ℕ) → StandsAt v k i node → node < v.nodes
  pub alone : (node : ℕ) → node < v.nodes → ¬ IsListed v node
      → (next_slot ring (heads + node) ≡ heads + node) × (prev_slot ring (heads + node) ≡ heads + node)
