use Rattle.std.proofs.Common.{◌≡◌, ◌≤◌, ◌+◌, length, false, drop}
use Rattle.qd_ilp.specs.Cut.{closed_behind, Grows}
use Rattle.qd_ilp.proofs.cut.push_closed_escaped.Given as goal

abbrev pub invariant-loop-i : goal.invariant-loop-i
invariant-loop-i l = record {
  so_far : closed_behind l.bytes.items l.plain (drop l.i l.text) ≡ closed_behind l.fn.bytes.items false l.text;
  few : length l.bytes.items ≤ length l.fn.bytes.items + l.i;
  grows : Grows l.fn.bytes.items l.bytes.items;
}
