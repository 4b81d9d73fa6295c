use Rattle.std.proofs.Common.{◌≡◌, map, take}
use Rattle.qd_column_format.specs.Tails.{id_anew}
use Rattle.qd_column_format.proofs.tail.ids_anew.Given as goal

-- the ids so far are renamed
abbrev pub invariant-loop-id : goal.invariant-loop-id
invariant-loop-id l = l.anew.items ≡ map (id_anew l.names) (take l.id-index l.ids)
