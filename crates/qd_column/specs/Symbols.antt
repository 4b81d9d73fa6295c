-- Columns of symbols: ids, and the texts that they stand for.
use Rattle.std.specs.Prelude.{◌≡◌, ℕ, ◌<◌, ◌≤◌, List, [], ◌∷◌, ◌==◌, ◌⊎◌, Option, Some, None, if◌then◌else◌, length, fold, map, All, slice_index_or}
use Rattle.qd_base.specs.declared.cell.Cell.{Cell}
use Rattle.qd_base.specs.declared.cell.Cell.TheVariants as cell
use Rattle.qd_base.specs.declared.limits.TheConstants.{MAX_TEXT_BYTES, NULL_ID}
use Rattle.qd_base.specs.Dictionary.{with_text}

-- the texts with that of a cell
abbrev pub with_text_of : List (List ℕ) → Cell → List (List ℕ)
with_text_of texts cell.Null = texts
with_text_of texts (cell.Long x) = texts
with_text_of texts (cell.Bool b) = texts
with_text_of texts (cell.Text t) = with_text texts t
with_text_of texts (cell.Time t) = texts

-- the distinct texts of cells, in the order in which they first appear
abbrev pub texts_in : List Cell → List (List ℕ)
texts_in cells = fold with_text_of [] cells

-- the cell that an id stands for
abbrev pub symbol_cell : List (List ℕ) → ℕ → Cell
symbol_cell texts id = if id == NULL_ID then cell.Null else cell.Text (slice_index_or texts id [])

-- an id, or NULL
abbrev pub id_or_null : Option ℕ → ℕ
id_or_null None = NULL_ID
id_or_null (Some id) = id

-- NULL, or the id of a text
abbrev pub IsIdOf : List (List ℕ) → ℕ → Type 0
IsIdOf texts id = (id ≡ NULL_ID) ⊎ (id < length texts)

-- ids and the texts of a column: each id is NULL or that of a text, the texts stand in the order in which they first
-- appear, and each is short enough for a cell
pub record AreSymbols (texts : List (List ℕ)) (ids : List ℕ) : Type 0 where
  pub each : All (IsIdOf texts) ids
  pub appeared : texts_in (map (symbol_cell texts) ids) ≡ texts
  pub short : All (λ t. length t ≤ MAX_TEXT_BYTES) texts

-- numbers that lead from the ids of some texts to those of others: NULL, or the id of the same text
abbrev pub LeadsTo : List (List ℕ) → List (List ℕ) → List ℕ → Type 0
LeadsTo from to table = (k : ℕ) → k < length from → (slice_index_or table k NULL_ID ≡ NULL_ID) ⊎ ((slice_index_or table k NULL_ID < length to) × (slice_index_or to (slice_index_or table k NULL_ID) [] ≡ slice_index_or from k []))
