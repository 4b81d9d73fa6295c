use Rattle.std.proofs.Common.{arith, ap, sym, ◌∙◌, length}
use Rattle.qd_time.specs.Reading.{count_at}
use Rattle.qd_time.proofs.DigitLemmas.{digit_at-some}
use Rattle.qd_time.proofs.SuffixLemmas.{count_at-digit, count_at-none}
use Rattle.qd_time.proofs.suffix.read_count.Goals as goal

pub loop-low-smaller : goal.loop-low-smaller
loop-low-smaller c =
    omega (arith, ap length (digit_at-some c.loop-low.rest.now (c.in-Some.low, c.in-Some.tail.now) c.in-Some.ensures.value).1)

pub loop-low-preserved : goal.loop-low-preserved
loop-low-preserved c =
    let step = count_at-digit c.loop-low.count c.loop-low.rest.now (c.in-Some.low, c.in-Some.tail.now) c.in-Some.ensures.value in
    (ap (λ k. count_at k c.in-Some.tail.now) c.min-count.ensures ∙ sym step ∙ c.loop-low.invariant.0, omega arith)

pub returns-clause-value : goal.returns-clause-value
returns-clause-value c =
    c.read_letter.ensures.value ∙ sym (count_at-none c.loop-low.count c.loop-low.rest.now c.in_default.ensures.value) ∙ c.loop-low.invariant.0
