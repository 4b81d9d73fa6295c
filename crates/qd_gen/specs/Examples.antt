-- Worked examples of the generated input.
use Rattle.std.specs.Prelude.{◌≡◌, [], ◌∷◌, ◌++◌, codes}
use Rattle.qd_gen.specs.Generated.{kept, late_before, line, own}

pub record WorkedExamples : Type 0 where
  -- the first line, the last of a day, and one of the greatest number
  pub first : line 1 0 ≡ codes "gen,sensor=s0 v=1i 1704067200000000000" ++ 10 ∷ []
  pub last : line 1 8639 ≡ codes "gen,sensor=s2 v=474i 1704153570000000000" ++ 10 ∷ []
  pub great : line 4294967295 999999 ≡ codes "gen,sensor=s0 v=288i 1714067190000000000" ++ 10 ∷ []
  -- batches have as many lines, or one more or less
  pub even : own 400 2 ≡ 8 ∷ 9 ∷ 10 ∷ 11 ∷ []
  pub two : own 250 1 ≡ 3 ∷ 4 ∷ []
  pub three : own 250 2 ≡ 5 ∷ 6 ∷ 7 ∷ []
  pub none : own 8 1 ≡ []
  -- a late line goes to the front of the next batch; the last batch keeps its own
  pub without : late_before 400 1 ++ kept 400 1 ≡ 4 ∷ 5 ∷ 6 ∷ []
  pub in_front : late_before 400 2 ++ kept 400 2 ≡ 7 ∷ 8 ∷ 9 ∷ 10 ∷ 11 ∷ []
  pub at_the_end : late_before 400 99 ++ kept 400 99 ≡ 396 ∷ 397 ∷ 398 ∷ 399 ∷ []
  pub front_of_none : late_before 8 88 ++ kept 8 88 ≡ 7 ∷ []
