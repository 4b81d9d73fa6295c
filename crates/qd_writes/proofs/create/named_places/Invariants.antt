use Rattle.std.proofs.Common.{◌≡◌, map, take}
use Rattle.qd_meaning.specs.Creating.{place_in}
use Rattle.qd_writes.proofs.create.named_places.Given as goal

-- the names so far
abbrev pub invariant-loop-name : goal.invariant-loop-name
invariant-loop-name l = l.places ≡ map (place_in l.cols) (take l.name-index l.names)
