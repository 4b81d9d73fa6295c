use Rattle.std.proofs.Common.{◌≡◌, ◌∷◌, ◌++◌, decimal, flat_map, take}
use Rattle.qd_print.proofs.push_line.Given as goal

-- the numbers so far stand behind the letter
abbrev pub invariant-loop-n : goal.invariant-loop-n
invariant-loop-n l = l.out.items ≡ l.initial.out.items ++ flat_map (λ n. 32 ∷ decimal n) (take l.n-index l.numbers)
