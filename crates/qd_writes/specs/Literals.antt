-- What a column takes of a literal, by the kinds of literals.
use Rattle.std.specs.Prelude.{ℕ, ◌<◌, ◌≤◌, ◌<ℤ◌, ◌≤ℤ◌, Bool, [], ◌∷◌, All, Result, Ok, Err, ℤ}
use Rattle.qd_base.specs.declared.cell.Cell.{Cell}
use Rattle.qd_base.specs.declared.cell.Cell.TheVariants as cell
use Rattle.qd_base.specs.declared.limits.TheConstants.{MAX_LONG, MAX_TIME, NULL_LONG}
use Rattle.qd_base.specs.declared.schema.ColType.{ColType}
use Rattle.qd_base.specs.declared.schema.ColType.TheVariants as kind
use Rattle.qd_sql_ast.specs.declared.tree.Text.{Text}
use Rattle.qd_meaning.specs.declared.refusal.Refusal.{Refusal}
use Rattle.qd_meaning.specs.TimeTexts.{time_of_text, time_of_number}
use Rattle.qd_meaning.specs.Typing.{time_cell, time_faults}
use Rattle.qd_meaning.specs.Inserting.{Taken, takes, refuses}
use Rattle.qd_writes.specs.declared.literal.Lent.{Lent}
use Rattle.qd_writes.specs.declared.literal.Lent.TheVariants as lent

-- the cell that is lent
abbrev pub lent_cell : Lent → Cell
lent_cell lent.Null = cell.Null
lent_cell (lent.Long x) = cell.Long x
lent_cell (lent.Truth b) = cell.Bool b
lent_cell (lent.Text t) = cell.Text t.now
lent_cell (lent.Time t) = cell.Time t

-- a cell without a refusal, or NULL with one
abbrev pub taking : Result Lent Refusal → Taken
taking (Ok view) = (lent_cell view, [])
taking (Err r) = (cell.Null, r ∷ [])

-- ---- each kind of literal by itself

abbrev pub number_taken_by : ColType → ℤ → ℕ → Taken
number_taken_by kind.Long n place = takes (cell.Long n)
number_taken_by kind.Bool n place = refuses place
number_taken_by kind.Symbol n place = refuses place
number_taken_by kind.Varchar n place = refuses place
number_taken_by kind.Time n place = (time_cell (time_of_number n), time_faults (time_of_number n) place)

abbrev pub text_taken_by : ColType → Text → Taken
text_taken_by kind.Long t = refuses t.at
text_taken_by kind.Bool t = refuses t.at
text_taken_by kind.Symbol t = takes (cell.Text t.text)
text_taken_by kind.Varchar t = takes (cell.Text t.text)
text_taken_by kind.Time t = (time_cell (time_of_text t.text), time_faults (time_of_text t.text) t.at)

abbrev pub truth_taken_by : ColType → Bool → ℕ → Taken
truth_taken_by kind.Long b place = refuses place
truth_taken_by kind.Bool b place = takes (cell.Bool b)
truth_taken_by kind.Symbol b place = refuses place
truth_taken_by kind.Varchar b place = refuses place
truth_taken_by kind.Time b place = refuses place

-- ---- cells that can be stored, the length of a text aside

-- a 64-bit number that doesn't stand for NULL, bytes, or a timestamp
abbrev pub IsFit : Cell → Type 0
IsFit cell.Null = Unit {0}
IsFit (cell.Long x) = (NULL_LONG <ℤ x) × (x ≤ℤ MAX_LONG)
IsFit (cell.Bool b) = Unit {0}
IsFit (cell.Text t) = All (λ b. b < 256) t
IsFit (cell.Time t) = t ≤ MAX_TIME
