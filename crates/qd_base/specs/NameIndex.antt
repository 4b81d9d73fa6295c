-- Where the names of a list are found: the order of names, and places in that order.
use Rattle.std.specs.Prelude.{◌≡◌, ℕ, ◌<◌, ◌≤◌, List, Result, Ok, Err, length, insert, slice_index, slice_index_or}
use Rattle.std.specs.Cmp.Lexicographic.{slice_cmp}
use Rattle.std.specs.Ordering.{nat_cmp}
use Rattle.std.specs.Str.{str_to_ascii_lowercase}
use Rattle.std.specs.declared.cmp.Ordering.{Ordering}
use Rattle.std.specs.declared.cmp.Ordering.TheVariants.{Less, Equal, Greater}

-- the order of names: byte by byte in lower case, and a name that another begins with comes before it
abbrev pub name_cmp : List ℕ → List ℕ → Ordering
name_cmp a b = slice_cmp nat_cmp (str_to_ascii_lowercase a) (str_to_ascii_lowercase b)

-- `order` holds places in `keys` in the order of the keys there: each key once, at the first of its places
pub record IsIndex {K : Type 0} (cmp : K → K → Ordering) (default : K) (keys : List K) (order : List ℕ) : Type 0 where
  pub in_range : (k : ℕ) → k < length order → slice_index order k < length keys
  pub rises : (j k : ℕ) → j < k → k < length order →
      cmp (slice_index_or keys (slice_index order j) default) (slice_index_or keys (slice_index order k) default) ≡ Less
  pub covers : (i : ℕ) → i < length keys →
      (k : ℕ) × (k < length order) × (slice_index order k ≤ i) × (cmp (slice_index_or keys (slice_index order k) default) (slice_index_or keys i default) ≡ Equal)

-- the key is the one that `order` has at `k`
pub record IsAt {K : Type 0} (cmp : K → K → Ordering) (default : K) (keys : List K) (order : List ℕ) (key : K) (k : ℕ) : Type 0 where
  pub in_range : k < length order
  pub has_key : cmp (slice_index_or keys (slice_index order k) default) key ≡ Equal

-- no place of `order` has the key, and it would stand at `k` there
pub record IsGap {K : Type 0} (cmp : K → K → Ordering) (default : K) (keys : List K) (order : List ℕ) (key : K) (k : ℕ) : Type 0 where
  pub in_range : k ≤ length order
  pub less_before : (j : ℕ) → j < k → cmp (slice_index_or keys (slice_index order j) default) key ≡ Less
  pub greater_after : (j : ℕ) → k ≤ j → j < length order → cmp (slice_index_or keys (slice_index order j) default) key ≡ Greater

-- the order with a new place put into a gap, or as it was where the key is there
abbrev pub with_place : List ℕ → Result ℕ ℕ → ℕ → List ℕ
with_place order (Ok _) place = order
with_place order (Err k) place = insert order k place
