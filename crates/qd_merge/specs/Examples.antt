-- Worked examples: what becomes of the parts of one day, where four rows that stand before all late ones stay.
use Rattle.std.specs.Prelude.{◌≡◌, ℕ, ◌*◌, Bool, true, false, List, [], ◌∷◌, None, Some, map}
use Rattle.qd_base.specs.declared.part.Part.{Part}
use Rattle.qd_base.specs.declared.schema.PartUnit.TheVariants as unit
use Rattle.qd_merge.specs.declared.plan.Act.{Act}
use Rattle.qd_merge.specs.declared.plan.Act.TheVariants as act
use Rattle.qd_merge.specs.declared.shares.Rules.{Rules}
use Rattle.qd_merge.specs.Shares.{acts}

-- tenths of a second, as times
abbrev pub tenths : List ℕ → List ℕ
tenths list = map (λ t. t * 100000) list

abbrev pub rules : Bool → Rules
rules keyed = record { unit = unit.Day; keyed = keyed; cols = 2; split_rows = 4 }

-- a part of some rows of a block, with all columns, from a first to a last tenth of a second
abbrev pub part : ℕ → ℕ → ℕ → ℕ → Part
part block rows lo hi = record { block = block; rows = rows; cols = 2; lo = lo * 100000; hi = hi * 100000 }

-- the times of one part's rows
abbrev pub rows_of : List ℕ → ℕ → List ℕ
rows_of list n = tenths list

abbrev pub seven : List ℕ
seven = 10 ∷ 20 ∷ 30 ∷ 40 ∷ 50 ∷ 60 ∷ 70 ∷ []

abbrev pub six : List ℕ
six = 10 ∷ 20 ∷ 30 ∷ 40 ∷ 50 ∷ 60 ∷ []

pub record WorkedExamples : Type 0 where
  -- seconds 1 to 6, over no part
  pub first : acts (rules false) [] [] (tenths six) (rows_of []) ≡ act.Write None 0 0 6 ∷ []
  -- second 7 goes behind them
  pub behind : acts (rules false) (part 0 6 10 60 ∷ []) (6 ∷ []) (tenths (70 ∷ [])) (rows_of six) ≡ act.Append 0 0 1 ∷ []
  -- second 6.5 is late by one row: the first six stay
  pub late : acts (rules false) (part 0 7 10 70 ∷ []) (7 ∷ []) (tenths (65 ∷ [])) (rows_of seven) ≡ act.Shorten 0 6 ∷ act.Write (Some 0) 6 0 1 ∷ []
  -- second 8 goes behind the second part
  pub next : acts (rules false) (part 0 6 10 60 ∷ part 1 2 65 70 ∷ []) (7 ∷ 2 ∷ []) (tenths (80 ∷ [])) (rows_of six) ≡ act.Keep 0 ∷ act.Append 1 0 1 ∷ []
  -- second 6.2 stands behind all that the first part shows, but not behind what its files hold
  pub past_shown : acts (rules false) (part 0 6 10 60 ∷ part 1 3 65 80 ∷ []) (7 ∷ 3 ∷ []) (tenths (62 ∷ [])) (rows_of six) ≡ act.Keep 0 ∷ act.Write (Some 0) 6 0 1 ∷ act.Keep 1 ∷ []
  -- too few rows stand before second 2.5
  pub early : acts (rules false) (part 0 6 10 60 ∷ []) (6 ∷ []) (tenths (25 ∷ [])) (rows_of six) ≡ act.Write (Some 0) 0 0 1 ∷ []
  -- four rows do before second 4.5
  pub edge : acts (rules false) (part 0 6 10 60 ∷ []) (6 ∷ []) (tenths (45 ∷ [])) (rows_of six) ≡ act.Shorten 0 4 ∷ act.Write (Some 0) 4 0 1 ∷ []
  -- another row of the last time goes behind, but not with keys, since it may replace that one
  pub same_time : acts (rules false) (part 0 6 10 60 ∷ []) (6 ∷ []) (tenths (60 ∷ [])) (rows_of six) ≡ act.Append 0 0 1 ∷ []
  pub same_time_keyed : acts (rules true) (part 0 6 10 60 ∷ []) (6 ∷ []) (tenths (60 ∷ [])) (rows_of six) ≡ act.Shorten 0 5 ∷ act.Write (Some 0) 5 0 1 ∷ []
