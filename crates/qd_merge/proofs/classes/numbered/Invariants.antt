use Rattle.std.proofs.Common.{◌≡◌, ◌<◌, ◌≤◌, ℕ, Some, length, get_or}
use Rattle.std.specs.BTreeMap.{get, btree_map_len}
use Rattle.qd_merge.specs.Classes.{AreNumbers}
use Rattle.qd_merge.proofs.classes.numbered.Given as goal

-- the keys so far have the numbers found
abbrev pub invariant-loop-key : goal.invariant-loop-key
invariant-loop-key g l = record {
  numbers : AreNumbers g.K.Ord.cmp l.numbers;
  few : btree_map_len l.numbers ≤ l.key-index;
  count : length l.found.items ≡ l.key-index;
  each : (k : ℕ) (d : g.row.K.Denot) → k < l.key-index → get g.K.Ord.cmp l.numbers (get_or l.keys k d) ≡ Some (get_or l.found.items k 0);
}
