-- Places in order of the times that stand there.
use Rattle.std.specs.Prelude.{◌≡◌, ℕ, ◌==◌, List, filter, length, map, slice_index_or}
use Rattle.std.specs.List.{range_with_len}
use Rattle.std.specs.List.Sorted.{IsNonDecreasingBy, IsPermutation}
use Rattle.qd_block.specs.declared.order.Placed.{Placed}

-- each place with its time
abbrev pub placed : List ℕ → List Placed
placed times = map (λ i. record { time = slice_index_or times i 0; place = i }) (range_with_len 0 (length times))

-- the places of one time
abbrev pub at_moment : ℕ → List Placed → List Placed
at_moment t places = filter (λ (p : Placed). t == p.time) places

-- places in order of time, those of one time in the order that they had
pub record IsSortedFrom (old new : List Placed) : Type 0 where
  pub moved : IsPermutation old new
  pub in_order : IsNonDecreasingBy (λ (p : Placed). p.time) new
  pub stable : (t : ℕ) → at_moment t new ≡ at_moment t old

-- all places in order of time, those of one time in the order of their numbers
abbrev pub IsOrderOf : List ℕ → List Placed → Type 0
IsOrderOf times places = IsSortedFrom (placed times) places
