use Rattle.std.proofs.Common.{◌≡◌, ◌+◌, [], get_or, length, map, min, sum_by, take}
use Rattle.qd_base.specs.declared.schema.Col.{Col}
use Rattle.qd_print.specs.Printed.{csv_line, csv_text}
use Rattle.qd_order.specs.Cuts.{shown_rows}
use Rattle.qd_query.proofs.Lines.{line_bytes}
use Rattle.qd_query.proofs.output.are_rows_too_large.Given as goal

-- the header and the rows so far are counted
abbrev pub invariant-loop-k : goal.invariant-loop-k
invariant-loop-k l = l.len ≡ min (length (csv_line (map (λ (c : Col). csv_text c.name) l.plan.out)) + sum_by line_bytes (take l.k (map (λ i. get_or (shown_rows l.plan l.rows) i []) l.places))) 18446744073709551615
