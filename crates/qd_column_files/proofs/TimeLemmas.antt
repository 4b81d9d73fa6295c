-- Times of a column, as they are stored and as the part asks.
use Rattle.std.proofs.Common.{◌≡◌, inl, inr, ℕ, ◌<◌, ◌≤◌, Bool, true, false, List, length, map, get_or, ap}
use Rattle.std.proofs.lemmas.Bool.{cases_lt, false≢true}
use Rattle.std.proofs.lemmas.List.{get_or-map}
use Rattle.qd_base.specs.declared.cell.Cell.{Cell}
use Rattle.qd_base.specs.declared.cell.Cell.TheVariants as cell
use Rattle.qd_base.specs.declared.limits.TheConstants.{MAX_TIME}
use Rattle.qd_base.specs.declared.part.Part.{Part}
use Rattle.qd_base.specs.Rows.{time_in}
use Rattle.qd_column.specs.Cells.{time_cell}
use Rattle.qd_column_files.specs.Columns.{AreTimely, HasEnds, IsUntimelyAt, time_at}
use Rattle.qd_column_files.specs.Damage.{IsMistimedAt, IsOtherEnd}

abbrev pub cells : List ℕ → List Cell
cells times = map time_cell times

pub shown_at : (times : List ℕ) (i : ℕ) → i < length times → time_at (cells times) i ≡ time_in (time_cell (get_or times i 0))
shown_at times i h = ap time_in (get_or-map time_cell times i 0 cell.Null h)

-- a late time
pub late : (designated : Bool) (xs : List Cell) (i : ℕ) → MAX_TIME < time_at xs i → IsUntimelyAt designated xs i
late true xs i h = inl h
late false xs i h = h

-- none is late
pub timely_low : (designated : Bool) (xs : List Cell) → AreTimely designated xs → (i : ℕ) → i < length xs → time_at xs i ≤ MAX_TIME
timely_low designated xs timely i h = elim (cases_lt MAX_TIME (time_at xs i)) [ inl less ↦ absurd (timely i h (late designated xs i less)) | inr most ↦ most ]

-- times that are as a part asks aren't mistimed
pub not_mistimed : (designated : Bool) (p : Part) (xs : List Cell) (row : ℕ) → AreTimely designated xs → HasEnds designated p xs → IsMistimedAt designated p xs row → ⊥
not_mistimed false p xs row timely ends d = timely row d.there d.untimely
not_mistimed true p xs row timely ends (inl d) = timely row d.there d.untimely
not_mistimed true p xs row timely ends (inr (are, inl d)) = d.1 ends.0
not_mistimed true p xs row timely ends (inr (are, inr d)) = d.2 ends.1

-- an end that isn't the part's
pub other_end : (designated : Bool) (p : Part) (xs : List Cell) (row : ℕ) → designated ≡ true → AreTimely designated xs → IsOtherEnd p xs row → IsMistimedAt designated p xs row
other_end true p xs row on timely end = inr (timely, end)
other_end false p xs row on timely end = absurd (false≢true on)
