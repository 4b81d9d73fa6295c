use Rattle.std.proofs.Common.{◌≡◌, [], get_or, map, take}
use Rattle.qd_order.specs.Cuts.{shown_rows}
use Rattle.qd_query.proofs.output.rows_of_rows.Given as goal

-- the rows so far
abbrev pub invariant-loop-k : goal.invariant-loop-k
invariant-loop-k l = l.list ≡ take l.k (map (λ i. get_or (shown_rows l.plan l.rows) i []) l.places)
