-- Intervals of times, and those that have the time of every row that passes a test.
use Rattle.std.specs.Prelude.{◌≡◌, ℕ, ◌≤◌, Bool, true, Option, Some, None}
use Rattle.qd_base.specs.declared.cell.Cell.{Cell}
use Rattle.qd_base.specs.declared.cell.Cell.TheVariants as cell
use Rattle.qd_base.specs.declared.limits.TheConstants.{MAX_TIME}
use Rattle.qd_base.specs.Rows.{Row, time_in, time_of}
use Rattle.qd_value.specs.declared.bound.Bound.{Bound}
use Rattle.qd_value.specs.declared.bound.Comparison.{Comparison}
use Rattle.qd_value.specs.Cells.{compares}
use Rattle.qd_value.specs.Value.{passes}

-- Each row that passes has its time in a column from `lo` to `hi`, where that is none past the greatest.
pub record Catches (test : Row → Bool) (col lo hi : ℕ) : Type 0 where
  pub low : (row : Row) → time_of col row ≤ MAX_TIME → test row ≡ true → lo ≤ time_of col row
  pub high : (row : Row) → time_of col row ≤ MAX_TIME → test row ≡ true → time_of col row ≤ hi

-- Each cell of which a comparison with a moment holds has a time from `lo` to `hi`, where that is none past the greatest.
pub record Spans (op : Comparison) (moment lo hi : ℕ) : Type 0 where
  pub low : (c : Cell) → time_in c ≤ MAX_TIME → compares op c (cell.Time moment) ≡ true → lo ≤ time_in c
  pub high : (c : Cell) → time_in c ≤ MAX_TIME → compares op c (cell.Time moment) ≡ true → time_in c ≤ hi

-- whether WHERE keeps a row
abbrev pub is_kept : Option Bound → Row → Bool
is_kept None row = true
is_kept (Some test) row = passes test row
