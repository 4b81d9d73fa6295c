use Rattle.std.proofs.Common.{◌≡◌, ◌+◌, length, min, sum_by, take}
use Rattle.qd_base.specs.declared.schema.Col.{Col}
use Rattle.qd_print.specs.Printed.{csv_text}
use Rattle.qd_print.proofs.lengths.header_len.Given as goal

-- the names so far are counted, and a byte behind each
abbrev pub invariant-loop-col : goal.invariant-loop-col
invariant-loop-col l = l.len ≡ min (sum_by (λ (c : Col). length (csv_text c.name) + 1) (take l.col-index l.cols)) 18446744073709551615
