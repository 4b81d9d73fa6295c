-- What is sampled, with a fill and without.
use Rattle.std.proofs.Common.{◌≡◌, ℕ, ◌<◌, ◌≤◌, true, false, List, length, map, get_or, sym, ap, ◌∙◌, subst, arith, All}
use Rattle.std.proofs.lemmas.Bool.{cond-false, cond-true}
use Rattle.std.proofs.lemmas.List.{length-map}
use Rattle.qd_base.specs.declared.limits.TheConstants.{MAX_TIME}
use Rattle.qd_base.specs.Laws.{IsInOrder}
use Rattle.qd_base.specs.Rows.{time_of}
use Rattle.qd_group.proofs.Assembly.{length_rows}
use Rattle.qd_meaning.specs.declared.parts.SampleSpec.{SampleSpec}
use Rattle.qd_meaning.specs.Grouped.{keys_of}
use Rattle.qd_meaning.specs.Sampled.{align_of, sampled, sampled_over, skips, unfilled}
use Rattle.qd_rows.specs.Sets.{ResultRows, rows_in}
use Rattle.qd_time.specs.declared.buckets.Align.{Align}
use Rattle.qd_time.specs.Buckets.{IsAlign}
use Rattle.qd_sample.specs.Sampling.{filled_whole, starts_of, IsOffset}
use Rattle.qd_sample.specs.Starts.{AreTimes}
use Rattle.qd_sample.proofs.TimeLemmas.{align_is, highs, sampled_is, times_are}

module _ (spec : SampleSpec) (col : ℕ) (s : ResultRows) (times : List ℕ) (align : Align) (first : ℕ) (some : 0 < length s.places) (is : times ≡ map (time_of col) (rows_in s)) (first_is : first ≡ get_or times 0 0) (aligned : align ≡ align_of spec.offset first) where
  pub sized : length times ≡ length s.places
  sized = ap length is ∙ length-map (rows_in s) (time_of col) ∙ length_rows s

  from_first : align ≡ align_of spec.offset (get_or times 0 0)
  from_first = aligned ∙ ap (align_of spec.offset) first_is

  pub in_order : IsInOrder col (rows_in s) → All (λ row. time_of col row ≤ MAX_TIME) (rows_in s) → AreTimes align times
  in_order order high =
      subst (λ (a : Align). AreTimes a times) (sym from_first) (subst (λ (ts : List ℕ). AreTimes (align_of spec.offset (get_or ts 0 0)) ts) (sym is) (times_are col (rows_in s) order high spec.offset))

  pub is_align : IsInOrder col (rows_in s) → All (λ row. time_of col row ≤ MAX_TIME) (rows_in s) → IsOffset spec.offset → IsAlign align
  is_align order high offset =
      subst IsAlign (sym from_first)
      (align_is spec.offset (get_or times 0 0) (subst (λ (ts : List ℕ). get_or ts 0 0 ≤ MAX_TIME) (sym is) (highs col (rows_in s) order high 0 (omega (arith, some, length-map (rows_in s) (time_of col), length_rows s)))) offset)

  over : sampled spec col (rows_in s) ≡ sampled_over spec align col (starts_of spec align times) (rows_in s)
  over = sampled_is spec col (rows_in s) times (omega (arith, some, length_rows s)) is ∙ ap (λ (a : Align). sampled_over spec a col (starts_of spec a times) (rows_in s)) (sym from_first)

  pub unfilled_sampled : skips spec.fills ≡ true → sampled spec col (rows_in s) ≡ unfilled spec align col (keys_of spec.group.keys (rows_in s)) (starts_of spec align times) (rows_in s)
  unfilled_sampled skip = over ∙ cond-true (skips spec.fills) (unfilled spec align col (keys_of spec.group.keys (rows_in s)) (starts_of spec align times) (rows_in s)) (filled_whole spec align col (starts_of spec align times) (rows_in s)) skip

  pub filled_sampled : skips spec.fills ≡ false → sampled spec col (rows_in s) ≡ filled_whole spec align col (starts_of spec align times) (rows_in s)
  filled_sampled fill = over ∙ cond-false (skips spec.fills) (unfilled spec align col (keys_of spec.group.keys (rows_in s)) (starts_of spec align times) (rows_in s)) (filled_whole spec align col (starts_of spec align times) (rows_in s)) fill
