-- Names of tables and columns. The rules are this project's own; the signs that they leave out are those that
-- QuestDB's documentation on tables and columns leaves out.
use Rattle.std.specs.Prelude.{◌≡◌, ◌≢◌, ℕ, ◌-◌, ◌<◌, ◌≤◌, Bool, not, ◌||◌, ◌&&◌, List, [], ◌∷◌, ◌==◌, nat_lt, length, IsTrue, All, slice_index}
use Rattle.std.specs.List.{list_any}
use Rattle.std.specs.Str.{IsUtf8}
use Rattle.qd_base.specs.declared.limits.TheConstants.{MAX_NAME_BYTES}

-- no control character, and none of  ? , ' " \ / : ( ) + * % ~
abbrev pub is_table_byte : ℕ → Bool
is_table_byte b = not (nat_lt b 32 || b == 127 || list_any (λ c. c == b) (63 ∷ 44 ∷ 39 ∷ 34 ∷ 92 ∷ 47 ∷ 58 ∷ 40 ∷ 41 ∷ 43 ∷ 42 ∷ 37 ∷ 126 ∷ []))

-- nor  .  nor  -
abbrev pub is_column_byte : ℕ → Bool
is_column_byte b = not (b == 46) && not (b == 45) && is_table_byte b

-- each dot stands behind a byte that is no dot, and the last byte is none
pub record IsApart (name : List ℕ) : Type 0 where
  pub each : (i : ℕ) → i < length name → slice_index name i ≡ 46 → (0 < i) × (slice_index name (i - 1) ≢ 46)
  pub last : slice_index name (length name - 1) ≢ 46

-- what a column may be called
pub record IsColumnName (name : List ℕ) : Type 0 where
  pub some : 1 ≤ length name
  pub short : length name ≤ MAX_NAME_BYTES
  pub text : IsUtf8 name
  pub bytes : All (λ b. IsTrue (is_column_byte b)) name

-- what a table may be called
pub record IsTableName (name : List ℕ) : Type 0 where
  pub some : 1 ≤ length name
  pub short : length name ≤ MAX_NAME_BYTES
  pub text : IsUtf8 name
  pub bytes : All (λ b. IsTrue (is_table_byte b)) name
  pub dots : IsApart name
