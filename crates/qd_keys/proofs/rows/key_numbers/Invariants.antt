use Rattle.std.proofs.Common.{◌+◌, length, take}
use Rattle.std.specs.List.{zip}
use Rattle.qd_rows.specs.Sets.{rows_in}
use Rattle.qd_keys.specs.Keys.{same_keys, Tells}
use Rattle.qd_keys.proofs.rows.key_numbers.Given as goal

-- the rows are told apart by the keys so far
abbrev pub invariant-loop-k : goal.invariant-loop-k
invariant-loop-k g l = Tells (same_keys (take l.k (zip l.first_keys l.second_keys)) (rows_in l.first) (rows_in l.second)) (length l.first.places + length l.second.places) l.numbers.bound l.numbers.numbers.items
