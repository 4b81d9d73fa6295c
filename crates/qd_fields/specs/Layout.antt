-- Fields read from the front of bytes. A field is read as what it holds and the bytes behind it. Where bytes are missing, or
-- a field breaks its rule, it is read as a number of bytes: those from the damage on. The damage is at the end of all bytes
-- where some are missing, and else at the first byte of the field.
use Rattle.std.specs.Prelude.{ℕ, zero, suc, Bool, nat_lt, if◌then◌else◌, List, [], ◌∷◌, ◌++◌, ◌==◌, length, take, drop, Option, Some, None, Result, Ok, Err}
use Rattle.std.specs.List.{find}
use Rattle.std.specs.Int.{Width, w16, byte_len, from_le_bytes}
use Rattle.qd_base.specs.declared.schema.Col.{Col}
use Rattle.qd_base.specs.declared.schema.ColType.{ColType}
use Rattle.qd_base.specs.declared.schema.ColType.TheVariants as kind
use Rattle.qd_base.specs.declared.schema.PartUnit.{PartUnit}
use Rattle.qd_base.specs.declared.schema.PartUnit.TheVariants as unit
use Rattle.qd_base.specs.declared.schema.Schema.{Schema}
use Rattle.qd_fields.specs.Spelling.{code_of_kind, code_of_unit}

-- what is read of the front of bytes, and the bytes behind it; or how many bytes there are from the damage on
abbrev pub Read : Type 0 → Type 0
Read A = Result (A × List ℕ) ℕ

infixl 10 ◌>>=◌
abbrev pub ◌>>=◌ : {A B : Type 0} → Result A ℕ → (A → Result B ℕ) → Result B ℕ
(Ok x) >>= f = f x
(Err left) >>= f = Err left

-- what is read keeps a rule, or is damaged where it begins
abbrev pub kept : {A : Type 0} → (A → Bool) → List ℕ → Read A → Read A
kept rule bytes read = read >>= λ x. if rule x.0 then Ok x else Err (length bytes)

-- so many, one after another, each by those before, from a source
unfoldable pub items : {A B : Type 0} → (List A → B → Result (A × B) ℕ) → ℕ → List A → B → Result (List A × B) ℕ
items f zero before source = Ok (before, source)
items f (suc n) before source = do
  x ← f before source
  items f n (before ++ x.0 ∷ []) x.1

-- an item is read alike, whatever stands before it
abbrev pub each : {A B : Type 0} → (B → Result (A × B) ℕ) → List A → B → Result (A × B) ℕ
each f before source = f source

-- a number in as many bytes as its width has, the lowest first
abbrev pub number_at : Width → List ℕ → Read ℕ
number_at w bytes = if nat_lt (length bytes) (byte_len w) then Err 0 else Ok (from_le_bytes w (take (byte_len w) bytes), drop (byte_len w) bytes)

abbrev pub byte_at : List ℕ → Read ℕ
byte_at [] = Err 0
byte_at (b ∷ bytes) = Ok (b, bytes)

-- what a code stands for, where it stands for something
abbrev pub meaning : {A : Type 0} → List ℕ → Option A → List ℕ → Read A
meaning bytes None rest = Err (length bytes)
meaning bytes (Some a) rest = Ok (a, rest)

abbrev pub coded : {A : Type 0} → (ℕ → Option A) → List ℕ → Read ℕ → Read A
coded f bytes read = read >>= λ x. meaning bytes (f x.0) x.1

-- the type and the unit of a code
abbrev pub kind_of_code : ℕ → Option ColType
kind_of_code code = find (λ k. code_of_kind k == code) (kind.Long ∷ kind.Bool ∷ kind.Symbol ∷ kind.Varchar ∷ kind.Time ∷ [])

abbrev pub unit_of_code : ℕ → Option PartUnit
unit_of_code code = find (λ u. code_of_unit u == code) (unit.Hour ∷ unit.Day ∷ unit.Month ∷ unit.Year ∷ [])

-- bytes behind their number
abbrev pub behind : Read ℕ → Read (List ℕ)
behind read = read >>= λ n. if nat_lt (length n.1) n.0 then Err 0 else Ok (take n.0 n.1, drop n.0 n.1)

-- a name behind its length in one byte, and a text behind its length in two
unfoldable pub name_at : List ℕ → Read (List ℕ)
name_at bytes = behind (byte_at bytes)

unfoldable pub text_at : List ℕ → Read (List ℕ)
text_at bytes = behind (number_at w16 bytes)

unfoldable pub column_at : List ℕ → Read Col
column_at bytes = do
  kind ← coded kind_of_code bytes (byte_at bytes)
  name ← name_at kind.1
  Ok (record { name = name.0; kind = kind.0 }, name.1)

-- a list behind its number of items in two bytes
abbrev pub listed : {A : Type 0} → (List ℕ → Read A) → List ℕ → Read (List A)
listed f bytes = number_at w16 bytes >>= λ n. items (each f) n.0 [] n.1

-- keys behind their number
abbrev pub keys_at : List ℕ → Read (List ℕ)
keys_at bytes = listed (number_at w16) bytes

-- a schema, of whatever names, columns and keys
unfoldable pub schema_at : List ℕ → Read Schema
schema_at bytes = do
  name ← name_at bytes
  cols ← listed column_at name.1
  time ← number_at w16 cols.1
  unit ← coded unit_of_code time.1 (byte_at time.1)
  keys ← listed (number_at w16) unit.1
  Ok (record { name = name.0; cols = cols.0; time_col = time.0; unit = unit.0; keys = keys.0 }, keys.1)
