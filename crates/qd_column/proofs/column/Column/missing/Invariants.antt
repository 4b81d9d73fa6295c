use Rattle.std.proofs.Common.{◌≡◌, replicate}
use Rattle.qd_base.specs.Database.{missing}
use Rattle.qd_column.proofs.column.Column.missing.Given as goal

-- the rows so far lack the column
abbrev pub invariant-loop : goal.invariant-loop
invariant-loop g l = l.column ≡ record { kind = l.fn.kind; cells = replicate l.counter (missing l.fn.kind) }
