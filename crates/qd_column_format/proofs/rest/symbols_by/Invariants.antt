use Rattle.std.proofs.Common.{◌≡◌}
use Rattle.std.specs.List.{range_with_len}
use Rattle.qd_column_format.proofs.rest.symbols_by.Given as goal

-- the ids so far are in order
abbrev pub invariant-loop-id : goal.invariant-loop-id
invariant-loop-id g l = l.all.items ≡ range_with_len 0 l.id
