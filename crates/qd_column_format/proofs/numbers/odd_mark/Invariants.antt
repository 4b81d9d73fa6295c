use Rattle.std.proofs.Common.{◌≡◌, ◌<◌, ◌^◌, take}
use Rattle.qd_base.specs.declared.schema.ColType.TheVariants as kind
use Rattle.qd_column_format.specs.Fields.{end_of, AreFields}
use Rattle.qd_column_format.proofs.numbers.odd_mark.Given as goal

-- the marks so far keep the rule, and the last text ends at `start`
abbrev pub invariant-loop-i : goal.invariant-loop-i
invariant-loop-i l = record { start : l.start ≡ end_of (take l.i l.marks); small : l.start < 2 ^ 63; kept : AreFields kind.Varchar (take l.i l.marks) }
