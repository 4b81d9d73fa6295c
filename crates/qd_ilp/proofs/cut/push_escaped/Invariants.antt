use Rattle.std.proofs.Common.{◌≡◌, ◌≤◌, ◌+◌, length, false, drop}
use Rattle.qd_ilp.specs.Cut.{cut, fronted, Grows}
use Rattle.qd_ilp.proofs.cut.push_escaped.Given as goal

abbrev pub invariant-loop-i : goal.invariant-loop-i
invariant-loop-i l = record {
  so_far : fronted l.bytes.items (cut l.plain (drop l.i l.text)) ≡ fronted l.fn.bytes.items (cut false l.text);
  few : length l.bytes.items ≤ length l.fn.bytes.items + l.i;
  grows : Grows l.fn.bytes.items l.bytes.items;
}
