use Rattle.std.proofs.Common.{◌≡◌, take}
use Rattle.qd_column_format.specs.Fields.{named}
use Rattle.qd_column_format.proofs.numbers.named_by.Given as goal

-- the texts that the ids so far name are counted
abbrev pub invariant-loop-id : goal.invariant-loop-id
invariant-loop-id l = l.count ≡ named (take l.id-index l.ids)
