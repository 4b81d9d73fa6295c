-- The bytes of single fields of stored files. This layout is the project's own. Whole numbers have their lowest byte first.
--
-- A schema: name, number of columns (2), the columns, each as type (1) and name, number of the time column (2), unit (1),
-- number of keys (2), and the keys (2 each). A name is its length in one byte and its bytes, a text its length in two bytes
-- and its bytes.
use Rattle.std.specs.Prelude.{ℕ, ◌^◌, ◌<◌, List, ◌∷◌, ◌++◌, length, All}
use Rattle.std.specs.List.{flat_map}
use Rattle.std.specs.Int.{w16, w32, w64, to_le_bytes}
use Rattle.qd_base.specs.declared.schema.Col.{Col}
use Rattle.qd_base.specs.declared.schema.ColType.{ColType}
use Rattle.qd_base.specs.declared.schema.ColType.TheVariants as kind
use Rattle.qd_base.specs.declared.schema.PartUnit.{PartUnit}
use Rattle.qd_base.specs.declared.schema.PartUnit.TheVariants as unit
use Rattle.qd_base.specs.declared.schema.Schema.{Schema}

abbrev pub u16_bytes : ℕ → List ℕ
u16_bytes n = to_le_bytes w16 n

abbrev pub u32_bytes : ℕ → List ℕ
u32_bytes n = to_le_bytes w32 n

abbrev pub u64_bytes : ℕ → List ℕ
u64_bytes n = to_le_bytes w64 n

-- a name behind its length, and a text
abbrev pub name_bytes : List ℕ → List ℕ
name_bytes name = length name ∷ name

abbrev pub text_bytes : List ℕ → List ℕ
text_bytes text = u16_bytes (length text) ++ text

abbrev pub code_of_kind : ColType → ℕ
code_of_kind kind.Long = 1
code_of_kind kind.Bool = 2
code_of_kind kind.Symbol = 3
code_of_kind kind.Varchar = 4
code_of_kind kind.Time = 5

abbrev pub code_of_unit : PartUnit → ℕ
code_of_unit unit.Hour = 1
code_of_unit unit.Day = 2
code_of_unit unit.Month = 3
code_of_unit unit.Year = 4

unfoldable pub column_bytes : Col → List ℕ
column_bytes c = code_of_kind c.kind ∷ name_bytes c.name

unfoldable pub schema_bytes : Schema → List ℕ
schema_bytes s = name_bytes s.name ++ (u16_bytes (length s.cols) ++ (flat_map column_bytes s.cols ++ (u16_bytes s.time_col ++ (code_of_unit s.unit ∷ (u16_bytes (length s.keys) ++ flat_map u16_bytes s.keys)))))

-- keys behind their number
abbrev pub keys_bytes : List ℕ → List ℕ
keys_bytes keys = u16_bytes (length keys) ++ flat_map u16_bytes keys

-- What is short enough for its fields.
abbrev pub FitsName : List ℕ → Type 0
FitsName name = length name < 2 ^ 8

abbrev pub FitsColumn : Col → Type 0
FitsColumn c = FitsName c.name

pub record FitsSchema (s : Schema) : Type 0 where
  pub name : FitsName s.name
  pub columns : length s.cols < 2 ^ 16
  pub each_column : All FitsColumn s.cols
  pub time : s.time_col < 2 ^ 16
  pub keys : length s.keys < 2 ^ 16
  pub each_key : All (λ k. k < 2 ^ 16) s.keys

pub record FitsKeys (keys : List ℕ) : Type 0 where
  pub few : length keys < 2 ^ 16
  pub each : All (λ k. k < 2 ^ 16) keys
