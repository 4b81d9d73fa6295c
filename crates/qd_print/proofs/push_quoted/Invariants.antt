use Rattle.std.proofs.Common.{◌≡◌, ◌≤◌, ◌-◌, [], ◌∷◌, ◌++◌, ◌==◌, if◌then◌else◌, flat_map, take, drop}
use Rattle.qd_print.proofs.push_quoted.Given as goal

-- with the stretch from `start` on, what is written is the bytes so far with their quotes doubled
abbrev pub invariant-loop-i : goal.invariant-loop-i
invariant-loop-i l = record {
  in_order : l.start ≤ l.i;
  written : l.out.items ++ take (l.i - l.start) (drop l.start l.text) ≡ l.initial.out.items ++ flat_map (λ b. if b == 34 then 34 ∷ 34 ∷ [] else b ∷ []) (take l.i l.text);
}
