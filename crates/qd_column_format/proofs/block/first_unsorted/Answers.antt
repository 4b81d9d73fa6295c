use Rattle.std.proofs.Common.{◌≡◌, ◌+◌, ◌-◌, ◌<◌, ◌≤◌, inl, inr, length, map, get_or, refl, sym, subst, arith}
use Rattle.std.proofs.lemmas.Bool.{cases_lt}
use Rattle.std.proofs.lemmas.List.{take_all}
use Rattle.qd_column.specs.Cells.{time_cell}
use Rattle.qd_column_format.specs.Unsorted.{IsUnsortedAt}
use Rattle.qd_column_format.proofs.BlockLemmas.{row_sorted}
use Rattle.qd_column_format.proofs.BlockLemmas.{rises_more}
use Rattle.qd_column_format.proofs.block.first_unsorted.Goals as goal

pub loop-i-preserved : goal.loop-i-preserved
loop-i-preserved c =
    let i = c.loop-i.i in
    let times = c.args.times.now in
    let low : i < length times = omega arith in
    let rises : 0 < i → get_or times (i - 1) 0 ≤ get_or times i 0 = λ pos. omega (arith, c.loop-i.invariant.last pos, c.if-time-last.false) in
    record {
      sorted = λ k lt. elim (cases_lt k i) [
        | inl before ↦ c.loop-i.invariant.sorted k before
        | inr here ↦ (let is : k ≡ i = omega arith in subst (λ n. IsUnsortedAt (map time_cell times) n → ⊥) (sym is) (row_sorted times i low c.if-time.false rises))
      ];
      rises = rises_more times i low c.loop-i.invariant.rises rises;
      first = λ e. absurd (omega arith);
      last = λ pos. let e : i + 1 - 1 ≡ i = omega arith in rw e refl;
    }

pub returns-clause-rises : goal.returns-clause-rises
returns-clause-rises c = rw (take_all c.loop-i.i c.args.times.now (omega arith)) at c.loop-i.invariant.rises
