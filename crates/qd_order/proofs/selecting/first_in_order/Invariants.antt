use Rattle.std.proofs.Common.{◌≡◌, map, take}
use Rattle.std.specs.List.{range_with_len}
use Rattle.qd_order.specs.Orders.{arranged, before}
use Rattle.qd_order.specs.Seen.{seen}
use Rattle.qd_order.specs.Selected.{HasFirst}
use Rattle.qd_order.proofs.selecting.first_in_order.Given as goal

-- the first ones so far are among those that are kept
abbrev pub invariant-loop-place : goal.invariant-loop-place
invariant-loop-place l = record {
  same : take l.most (arranged (before (map seen l.columns)) l.kept.items) ≡ take l.most (arranged (before (map seen l.columns)) (range_with_len 0 l.place));
  bound : HasFirst (before (map seen l.columns)) l.most l.kept.items l.last;
}
