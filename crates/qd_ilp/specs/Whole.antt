-- What a batch keeps of lines, as the definitions have them, and what a whole text is.
use Rattle.std.specs.Prelude.{◌≡◌, ℕ, zero, suc, ◌+◌, ◌-◌, ◌<◌, ◌≤◌, Bool, true, false, List, [], ◌∷◌, ◌++◌, take, drop, length, map, Option, Some, None, is_none, ◌&&◌, if◌then◌else◌}
use Rattle.std.specs.List.{AllByRecursion, list_any}
use Rattle.qd_ilp.specs.declared.item.Pair.{Pair}
use Rattle.qd_ilp.specs.declared.row.Head.{Head}
use Rattle.qd_ilp.specs.declared.row.KeptRow.{KeptRow}
use Rattle.qd_ilp.specs.declared.row.KeptLine.{KeptLine}
use Rattle.qd_ilp.specs.declared.row.KeptLine.TheVariants as kept
use Rattle.qd_ilp.specs.Line.{Line, Row, Blank, Gives}
use Rattle.qd_ilp.specs.Grammar.{ReadsLine}
use Rattle.qd_ilp.specs.Kept.{bytes_in, item_in, moment_in, SpanFits, PairFits}

-- the pairs of a row
abbrev pub pairs_in : List Pair → Head → List Pair
pairs_in pairs head = take (head.end - head.first) (drop head.first pairs)

abbrev pub row_in : List ℕ → List Pair → Head → Row
row_in bytes pairs head = record { table = bytes_in bytes head.table; items = map (item_in bytes) (pairs_in pairs head); moment = moment_in head.when }

-- a line, as it is read
abbrev pub line_in : List ℕ → List Pair → KeptLine → Line
line_in bytes pairs kept.Blank = Blank
line_in bytes pairs (kept.Row head) = Gives (row_in bytes pairs head)

-- so many lines that give no row
abbrev pub blanks : ℕ → List Line
blanks zero = []
blanks (suc n) = Blank ∷ blanks n

-- rows, each with as many lines before it that give none, and the lines behind them
abbrev pub lines_in : List ℕ → List Pair → List KeptRow → ℕ → List Line
lines_in bytes pairs [] behind = blanks behind
lines_in bytes pairs (row ∷ rows) behind = blanks row.blanks ++ Gives (row_in bytes pairs row.head) ∷ lines_in bytes pairs rows behind

-- what is kept of a row lies within the buffers
pub record HeadFits (bytes : List ℕ) (pairs : List Pair) (head : Head) : Type 0 where
  pub table : SpanFits (length bytes) head.table
  pub order : head.first ≤ head.end
  pub within : head.end ≤ length pairs
  pub each : AllByRecursion (PairFits (length bytes)) (pairs_in pairs head)

abbrev pub LineFits : List ℕ → List Pair → KeptLine → Type 0
LineFits bytes pairs kept.Blank = Unit {0}
LineFits bytes pairs (kept.Row head) = HeadFits bytes pairs head

abbrev pub RowFits : List ℕ → List Pair → KeptRow → Type 0
RowFits bytes pairs row = HeadFits bytes pairs row.head

-- a line was added to rows, and to the lines behind them
abbrev pub Adds : List KeptRow → ℕ → KeptLine → List KeptRow → ℕ → Type 0
Adds rows behind kept.Blank rows' behind' = (rows' ≡ rows) × (behind' ≡ behind + 1)
Adds rows behind (kept.Row head) rows' behind' = (rows' ≡ rows ++ record { blanks = behind; head = head } ∷ []) × (behind' ≡ 0)

-- what a batch keeps lies within its buffers, and its next number is that of the line behind its last one
pub record BatchFits (bytes : List ℕ) (pairs : List Pair) (rows : List KeptRow) (behind next : ℕ) : Type 0 where
  pub each : AllByRecursion (RowFits bytes pairs) rows
  pub counted : next ≡ length (lines_in bytes pairs rows behind) + 1

-- The text is these lines, each with its end, and then the rest. Their numbers are their places, counted from 1. The
-- last line may have no end; it isn't empty then.
abbrev pub BeginsWith : List ℕ → List Line → List ℕ → Type 0
BeginsWith text [] rest = text ≡ rest
BeginsWith text (line ∷ lines) rest = (0 < length text) × (behind : List ℕ) × ReadsLine text line behind × BeginsWith behind lines rest

-- The lines of a text up to its end, or up to the first that is no line.
pub record Reading : Type 0 where
  pub lines : List Line
  pub whole : Bool

-- all of the text was read; or what is left begins with no line
abbrev pub EndsSo : Bool → List ℕ → Type 0
EndsSo true rest = rest ≡ []
EndsSo false rest = (0 < length rest) × ((line : Line) (behind : List ℕ) → ReadsLine rest line behind → ⊥)

abbrev pub IsReading : List ℕ → Reading → Type 0
IsReading text reading = (rest : List ℕ) × BeginsWith text reading.lines rest × EndsSo reading.whole rest

-- a line that gives a row and has no stamp
abbrev pub is_timeless : Line → Bool
is_timeless Blank = false
is_timeless (Gives row) = is_none row.moment

-- all lines are of the grammar, and one of them gives a row and has no stamp
abbrev pub lacks_time : Reading → Bool
lacks_time reading = reading.whole && list_any is_timeless reading.lines

-- the same of what is kept of a row
abbrev pub is_timeless_kept : KeptRow → Bool
is_timeless_kept row = is_none (moment_in row.head.when)

-- the number of the first line that is none, counted from 1
abbrev pub faulty_line : Reading → Option ℕ
faulty_line reading = if reading.whole then None else Some (length reading.lines + 1)
