-- A batch has at least as many rows as its acts write blocks.
use Rattle.std.proofs.Common.{ℕ, suc, ◌+◌, ◌-◌, ◌≤◌, max, List, [], ◌∷◌, ◌++◌, length, map, sym, arith, subst}
use Rattle.std.specs.List.{AllByRecursion}
use Rattle.std.proofs.lemmas.List.{length-map}
use Rattle.qd_base.specs.declared.limits.TheConstants.{MAX_TIME}
use Rattle.qd_base.specs.declared.schema.Schema.{Schema}
use Rattle.qd_base.specs.declared.unit.TimeUnit.{TimeUnit}
use Rattle.qd_base.specs.Rows.{Row, time_of}
use Rattle.qd_time.specs.Units.{start_of, unit_of}
use Rattle.qd_time.proofs.UnitLemmas.{in_unit}
use Rattle.qd_merge.specs.declared.plan.Act.{Act}
use Rattle.qd_merge.specs.declared.shares.Rules.{Rules}
use Rattle.qd_merge.specs.Acts.{before, between, new_part, part_end, partitions}
use Rattle.qd_merge.proofs.Plans.{between_slice, last_between}
use Rattle.qd_apply.specs.Next.{blocks_made, rules_of, Piece}
use Rattle.qd_apply.proofs.LeaveLemmas.{end_is, moments, rising, IsBatchOf}
use Rattle.qd_apply.proofs.NumberLemmas.{made_append, made_gap, made_on}
use Rattle.qd_apply.proofs.PieceLemmas.{IsPiece}
use Rattle.qd_apply.proofs.RangeLemmas.{before_mono, before_within}
use Rattle.qd_apply.proofs.ShareLemmas.{acts_last, acts_more, here_acts, walked_acts, AreAscending}

module _ (s : Schema) (old : List Piece) (rows : List Row) (batch : IsBatchOf s rows) (counts : List ℕ) (split : ℕ) (olds : ℕ → List ℕ) where
  abbrev u : TimeUnit
  u = unit_of s.unit

  abbrev r : Rules
  r = rules_of split s

  abbrev times : List ℕ
  times = map (time_of s.time_col) rows

  gap_few : (a b : ℕ) → length (blocks_made s old rows (map (new_part u times) (partitions u (between a b times)))) ≤ before b times - before a times
  gap_few a b = subst (λ (l : List ℕ). length (blocks_made s old rows (map (new_part u times) (partitions u l))) ≤ before b times - before a times) (sym (between_slice a b times (rising s old rows batch))) (made_gap s old rows u times (before a times) (before b times))

  made_since : (xs : List Piece) (done number : ℕ) → AllByRecursion (IsPiece s) xs → AreAscending xs → AllByRecursion (λ x. done ≤ x.part.lo) xs
      → length (blocks_made s old rows (walked_acts r counts olds times done number (map (λ (x : Piece). x.part) xs))) ≤ length times - before done times
  made_since [] done number each up low =
      let few = gap_few done (MAX_TIME + 1) in
      let within = before_within (MAX_TIME + 1) times in
      subst (λ (l : List Act). length (blocks_made s old rows l) ≤ length times - before done times) (sym (acts_last r counts olds times done number))
      (subst (λ (l : List ℕ). length (blocks_made s old rows (map (new_part u times) (partitions u l))) ≤ length times - before done times) (last_between done times (moments s old rows batch)) (omega (arith, few, within)))
  made_since (x ∷ xs) done number each up low =
      let lo = x.part.lo in
      let parts = map (λ (y : Piece). y.part) xs in
      let from = max done (start_of u lo) in
      let to = part_end u x.part parts in
      let is : IsPiece s x = each.0 in
      let end = end_is s x xs is up.0 each.1 up.1 in
      let il = in_unit u lo in
      let first : done ≤ lo = low.0 in
      let le : from ≤ to = omega (arith, first, il.0, is.in_order, end.past) in
      let later = walked_acts r counts olds times to (suc number) parts in
      let gap = map (new_part u times) (partitions u (between done from times)) in
      let here = here_acts r counts olds times number x.part (before from times) (before to times) in
      let rest = made_since xs to (suc number) each.1 up.1 end.later in
      let a = made_append s old rows gap (here ++ later) in
      let b = gap_few done from in
      let c = made_on s old rows r counts olds times number x.part (before from times) (before to times) later in
      let d = before_mono done from times (omega arith) in
      let e = before_mono from to times le in
      let f = before_within to times in
      subst (λ (l : List Act). length (blocks_made s old rows l) ≤ length times - before done times) (sym (acts_more r counts olds times done number x.part parts)) (omega (arith, a, b, c, d, e, f, rest))

  pub made_few : (xs : List Piece) → AllByRecursion (IsPiece s) xs → AreAscending xs → length (blocks_made s old rows (walked_acts r counts olds times 0 0 (map (λ (x : Piece). x.part) xs))) ≤ length rows
  made_few xs each up =
      let few = made_since xs 0 0 each up (all_low xs) in
      omega (arith, few, length-map rows (time_of s.time_col))
    where
      all_low : (ys : List Piece) → AllByRecursion (λ x. 0 ≤ x.part.lo) ys
      all_low [] = tt
      all_low (y ∷ ys) = (omega arith, all_low ys)
