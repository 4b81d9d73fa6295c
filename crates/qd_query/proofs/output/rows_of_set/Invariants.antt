use Rattle.std.proofs.Common.{◌≡◌, [], get_or, map, take}
use Rattle.qd_meaning.specs.Grouped.{key_of}
use Rattle.qd_order.specs.Cuts.{shown_rows}
use Rattle.qd_rows.specs.Sets.{rows_in}
use Rattle.qd_query.proofs.output.rows_of_set.Given as goal

-- the rows so far
abbrev pub invariant-loop-k : goal.invariant-loop-k
invariant-loop-k g l = l.list ≡ take l.k (map (λ i. get_or (shown_rows l.plan (map (key_of l.exprs) (rows_in l.rows))) i []) l.places)
