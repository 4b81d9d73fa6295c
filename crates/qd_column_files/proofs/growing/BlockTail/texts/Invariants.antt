use Rattle.std.proofs.Common.{◌≡◌, ◌-◌, ◌^◌, min, take}
use Rattle.qd_column_files.specs.Growing.{all_texts}
use Rattle.qd_column_files.proofs.growing.BlockTail.texts.Given as goal

-- the texts of the columns so far
abbrev pub invariant-loop-tail : goal.invariant-loop-tail
invariant-loop-tail l = l.texts ≡ min (all_texts (take l.tail-index l.tail-items)) (2 ^ 64 - 1)
