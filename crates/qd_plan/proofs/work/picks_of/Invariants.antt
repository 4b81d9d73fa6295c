use Rattle.std.proofs.Common.{◌≡◌, map, take}
use Rattle.qd_plan.specs.Showing.{pick}
use Rattle.qd_plan.proofs.work.picks_of.Given as goal

-- the seats so far
abbrev pub invariant-loop-seat : goal.invariant-loop-seat
invariant-loop-seat l = l.picks ≡ map (pick l.keys l.aggs) (take l.seat-index l.seats)
