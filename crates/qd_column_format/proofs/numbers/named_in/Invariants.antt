use Rattle.std.proofs.Common.{◌≡◌, ℕ, ◌^◌, ◌<◌, List, length, take, All}
use Rattle.std.specs.List.{flat_map}
use Rattle.byteorder.specs.Endian.{little_bytes}
use Rattle.qd_column_format.specs.Fields.{named}
use Rattle.qd_column_format.specs.Spelling.{BeginsWith}
use Rattle.qd_column_format.proofs.numbers.named_in.Given as goal

-- the texts that the ids so far name are counted
abbrev pub invariant-loop-i : goal.invariant-loop-i
invariant-loop-i l = (ids : List ℕ) → length ids ≡ l.rows → All (λ n. n < 256 ^ 8) ids → BeginsWith l.main (flat_map (little_bytes 8) ids) → l.count ≡ named (take l.i ids)
