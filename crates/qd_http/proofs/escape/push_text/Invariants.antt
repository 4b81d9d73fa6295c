use Rattle.std.proofs.Common.{◌≡◌, ◌≤◌, ◌-◌, ◌++◌, flat_map, take, drop}
use Rattle.qd_http.specs.Json.{escaped}
use Rattle.qd_http.proofs.escape.push_text.Given as goal

-- with the stretch from `start` on, what is written is the bytes so far
abbrev pub invariant-loop-i : goal.invariant-loop-i
invariant-loop-i l = record {
  in_order : l.start ≤ l.i;
  written : l.out.items ++ take (l.i - l.start) (drop l.start l.text) ≡ l.initial.out.items ++ flat_map escaped (take l.i l.text);
}
