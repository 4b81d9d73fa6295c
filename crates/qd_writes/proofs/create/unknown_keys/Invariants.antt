use Rattle.std.proofs.Common.{◌≡◌, take}
use Rattle.std.specs.List.{flat_map}
use Rattle.qd_meaning.specs.Refusals.{least}
use Rattle.qd_meaning.specs.Creating.{unknown_column, cols_of}
use Rattle.qd_writes.proofs.create.unknown_keys.Given as goal

-- the keys so far
abbrev pub invariant-loop-key : goal.invariant-loop-key
invariant-loop-key l = l.found ≡ least (flat_map (unknown_column (cols_of l.create)) (take l.key-index l.keys))
