use Rattle.std.proofs.Common.{◌≡◌, ◌<◌, ℕ, false, eqb, get_or, length, take}
use Rattle.std.specs.List.{list_any}
use Rattle.qd_merge.proofs.taken.marks_of.Given as goal

-- the numbers so far are marked
abbrev pub invariant-loop-number : goal.invariant-loop-number
invariant-loop-number l = record {
  size : length l.marks.items ≡ l.count;
  marks : (n : ℕ) → n < l.count → get_or l.marks.items n false ≡ list_any (λ m. eqb n m) (take l.number-index l.numbers);
}
