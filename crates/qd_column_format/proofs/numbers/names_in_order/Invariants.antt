use Rattle.std.proofs.Common.{◌≡◌, take}
use Rattle.qd_base.specs.declared.schema.ColType.TheVariants as kind
use Rattle.qd_column_format.specs.Fields.{named, AreFields}
use Rattle.qd_column_format.proofs.numbers.names_in_order.Given as goal

-- the ids so far keep the rule, and the texts that they name are counted
abbrev pub invariant-loop-i : goal.invariant-loop-i
invariant-loop-i l = record { count : l.count ≡ named (take l.i l.ids); kept : AreFields kind.Symbol (take l.i l.ids) }
