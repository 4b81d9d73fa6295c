use Rattle.std.proofs.Common.{◌≡◌, ◌≤◌, ◌<◌, ◌+◌, ℕ, false, eqb, length, get_or, drop}
use Rattle.std.specs.List.{list_any}
use Rattle.qd_merge.proofs.classes.repeated.Given as goal

-- the flags from a place on, and the classes seen from there on
abbrev pub invariant-loop-place : goal.invariant-loop-place
invariant-loop-place l = record {
  within : l.place ≤ length l.classes;
  seen_size : length l.seen.items ≡ length l.classes;
  size : length l.flags.items ≡ length l.classes;
  seen : (c : ℕ) → c < length l.classes → get_or l.seen.items c false ≡ list_any (λ d. eqb c d) (drop l.place l.classes);
  flags : (k : ℕ) → l.place ≤ k → k < length l.classes → get_or l.flags.items k false ≡ list_any (λ d. eqb (get_or l.classes k 0) d) (drop (k + 1) l.classes);
}

abbrev pub decreases-loop-place : goal.decreases-loop-place
decreases-loop-place l = l.place
