use Rattle.std.proofs.Common.{◌≡◌, ◌-◌, ◌≤◌, List, length, drop}
use Rattle.qd_ilp.specs.Cut.{Grows}
use Rattle.qd_ilp.specs.Line.{Item, items_at}
use Rattle.qd_ilp.specs.Kept.{PutsItems}
use Rattle.qd_ilp.proofs.Lines.{with_items}
use Rattle.qd_ilp.proofs.item.push_items.Given as goal

abbrev pub invariant-loop : goal.invariant-loop
invariant-loop l = record {
  items : List Item;
  puts : PutsItems l.fn.bytes.items l.bytes.items l.fn.pairs.items l.pairs.items items;
  so_far : with_items items (items_at l.is_tag (length l.text - l.at - l.counter) (drop l.next l.text)) ≡ items_at l.is_tag (length l.text - l.at) (drop l.at l.text);
  begins : Grows l.text l.bytes.items;
  grows : Grows l.fn.bytes.items l.bytes.items;
  pairs_grow : Grows l.fn.pairs.items l.pairs.items;
  onward : l.at ≤ l.next;
  inside : l.next ≤ length l.text;
}
