use Rattle.std.proofs.Common.{◌≡◌, length, map, take}
use Rattle.std.specs.Arc.{arc_value}
use Rattle.std.specs.List.{range_with_len}
use Rattle.qd_versions.specs.declared.published.NewBlock.{NewBlock}
use Rattle.qd_store.proofs.merging.numbered.Given as goal

abbrev pub invariant-loop-i : goal.invariant-loop-i
invariant-loop-i l = record {
  count : length l.list.items ≡ l.i;
  numbers : map (λ (b : NewBlock). b.block) l.list.items ≡ range_with_len l.first l.i;
  rows : map (λ (b : NewBlock). arc_value b.of) l.list.items ≡ map arc_value (take l.i l.blocks);
}
