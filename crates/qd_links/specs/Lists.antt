-- What a contract sees of a `Links`: a number of nodes, and lists of nodes.
use Rattle.std.specs.Prelude.{◌≡◌, ℕ, ◌<◌, List, [], Some, slice_get, slice_index_or, slice_set}

-- how many nodes there are, and the nodes of each list from its first to its last
pub record Lists : Type 0 where
  pub nodes : ℕ
  pub lists : List (List ℕ)

-- the nodes of list k
abbrev pub list_at : Lists → ℕ → List ℕ
list_at v k = slice_index_or v.lists k []

-- the node stands at place i of list k, counted from 0 on
abbrev pub StandsAt : Lists → ℕ → ℕ → ℕ → Type 0
StandsAt v k i node = slice_get (list_at v k) i ≡ Some node

-- the node stands in some list
abbrev pub IsListed : Lists → ℕ → Type 0
IsListed v node = (k : ℕ) × (i : ℕ) × StandsAt v k i node

-- list k is now `nodes`, and all else is as before
abbrev pub with_list : Lists → ℕ → List ℕ → Lists
with_list v k nodes = record v { lists = slice_set v.lists k nodes }

-- a node stands in one place at most, and is one of the nodes there are
pub record StandOnce (v : Lists) : Type 0 where
  pub same_list : (k l i j node : ℕ) → StandsAt v k i node → StandsAt v l j node → k ≡ l
  pub same_place : (k l i j node : ℕ) → StandsAt v k i node → StandsAt v l j node → i ≡ j
  pub in_range : (k i node : ℕ) → StandsAt v k i node → node < v.nodes
