-- Stored columns: the number that stands for each row in a column's main file, and the rules of these numbers.
use Rattle.std.specs.Prelude.{◌≡◌, ℕ, ◌+◌, ◌*◌, ◌/◌, ◌%◌, ◌^◌, ◌<◌, ◌≤◌, ℤ, true, List, [], ◌∷◌, ◌==◌, ◌⊎◌, if◌then◌else◌, length, map, fold, max, take, All, slice_index}
use Rattle.std.specs.List.{flat_map}
use Rattle.std.specs.Int.{cast_unsigned, w64}
use Rattle.byteorder.specs.Endian.{little_bytes}
use Rattle.qd_base.specs.declared.cell.Cell.{Cell}
use Rattle.qd_base.specs.declared.cell.Cell.TheVariants as cell
use Rattle.qd_base.specs.declared.limits.TheConstants.{MAX_TEXT_BYTES, NULL_ID, NULL_LONG, NULL_TIME}
use Rattle.qd_base.specs.declared.schema.ColType.{ColType}
use Rattle.qd_base.specs.declared.schema.ColType.TheVariants as kind
use Rattle.qd_base.specs.Dictionary.{id_for}
use Rattle.qd_column.specs.Symbols.{texts_in}

-- how many bytes a row takes in the main file
abbrev pub field_size : ColType → ℕ
field_size kind.Bool = 1
field_size _ = 8

-- the bytes of a row's number, the lowest first
abbrev pub field_bytes : ColType → ℕ → List ℕ
field_bytes k n = little_bytes (field_size k) n

-- a LONG cell: its two's complement, that of the least number for NULL
abbrev pub long_of : Cell → ℤ
long_of (cell.Long x) = x
long_of _ = NULL_LONG

-- a TIMESTAMP cell: its microseconds, and the greatest number for NULL
abbrev pub time_field : Cell → ℕ
time_field (cell.Time t) = t
time_field _ = NULL_TIME

-- a BOOLEAN cell
abbrev pub truth_field : Cell → ℕ
truth_field (cell.Bool true) = 1
truth_field _ = 0

-- a SYMBOL cell: the position of its text among those of the column, and the greatest number for NULL
abbrev pub id_field : List (List ℕ) → Cell → ℕ
id_field texts (cell.Text t) = id_for texts t
id_field texts _ = NULL_ID

-- VARCHAR cells: twice the place behind the row's text among the bytes of all, and 1 more for NULL
abbrev pub marks_from : ℕ → List Cell → List ℕ
marks_from start [] = []
marks_from start (cell.Text t ∷ cells) = (2 * (start + length t)) ∷ marks_from (start + length t) cells
marks_from start (_ ∷ cells) = (2 * start + 1) ∷ marks_from start cells

-- the number of each row
abbrev pub fields_of : ColType → List Cell → List ℕ
fields_of kind.Long cells = map (λ c. cast_unsigned w64 (long_of c)) cells
fields_of kind.Bool cells = map truth_field cells
fields_of kind.Symbol cells = map (id_field (texts_in cells)) cells
fields_of kind.Varchar cells = marks_from 0 cells
fields_of kind.Time cells = map time_field cells

-- how many texts the ids of SYMBOL rows name: one more than the greatest of them
abbrev pub named_with : ℕ → ℕ → ℕ
named_with n id = if id == NULL_ID then n else max n (id + 1)

abbrev pub named : List ℕ → ℕ
named ids = fold named_with 0 ids

-- where the text of the last VARCHAR row ends
abbrev pub end_of : List ℕ → ℕ
end_of marks = fold (λ start mark. mark / 2) 0 marks

-- The rule of a row's number, by the numbers of the rows before it. A truth value is 0 or 1. An id is that of a text
-- named before, or the next one. A text ends no earlier than the one before, and is short enough; NULL has no bytes.
abbrev pub Follows : ColType → List ℕ → ℕ → Type 0
Follows kind.Bool before n = n < 2
Follows kind.Symbol before n = (n ≡ NULL_ID) ⊎ (n ≤ named before)
Follows kind.Varchar before n = (end_of before ≤ n / 2) × (n / 2 ≤ end_of before + MAX_TEXT_BYTES) × (n % 2 ≡ 1 → n / 2 ≡ end_of before)
Follows _ before n = Unit {0}

-- numbers of rows that keep the rules, each one small enough for its bytes
pub record AreFields (k : ColType) (fields : List ℕ) : Type 0 where
  pub fit : All (λ n. n < 256 ^ field_size k) fields
  pub kept : (i : ℕ) → i < length fields → Follows k (take i fields) (slice_index fields i)

-- the bytes of the numbers of rows
abbrev pub bytes_of_fields : ColType → List ℕ → List ℕ
bytes_of_fields k fields = flat_map (field_bytes k) fields
