use Rattle.std.proofs.Common.{◌≡◌, true, take}
use Rattle.std.specs.List.{list_all}
use Rattle.qd_ilp.specs.Value.{is_digit}
use Rattle.qd_ilp.proofs.Numbers.{capped}
use Rattle.qd_ilp.proofs.value.number.Given as goal

abbrev pub invariant-loop-byte : goal.invariant-loop-byte
invariant-loop-byte l = record { all : list_all is_digit (take l.byte-index l.word) ≡ true; number : l.number ≡ capped (take l.byte-index l.word) }
