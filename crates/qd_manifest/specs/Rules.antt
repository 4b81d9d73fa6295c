-- The rule of each field of a manifest, by the fields before it: a test of what the field holds.
use Rattle.std.specs.Prelude.{ℕ, zero, suc, ◌+◌, ◌-◌, ◌*◌, Bool, true, false, not, ◌&&◌, ◌||◌, ◌==◌, nat_le, nat_lt, nat_eq, is_none, Option, Some, None, List, [], ◌∷◌, length, slice_index, slice_index_or}
use Rattle.std.specs.List.{find, list_all, list_any, position}
use Rattle.std.specs.Str.{is_utf8}
use Rattle.qd_base.specs.declared.limits.TheConstants.{MAX_NAME_BYTES, MAX_TIME}
use Rattle.qd_base.specs.declared.part.Part.{Part}
use Rattle.qd_base.specs.declared.schema.Col.{Col}
use Rattle.qd_base.specs.declared.schema.ColType.{ColType}
use Rattle.qd_base.specs.declared.schema.ColType.TheVariants as kind
use Rattle.qd_base.specs.declared.schema.PartUnit.{PartUnit}
use Rattle.qd_base.specs.declared.schema.Schema.{Schema}
use Rattle.qd_base.specs.Names.{is_column_byte, is_table_byte}
use Rattle.qd_base.specs.Schemas.{same_name, column_at}
use Rattle.qd_time.specs.Units.{unit_of, start_of}
use Rattle.qd_manifest.specs.declared.shape.TableParts.{TableParts}
use Rattle.qd_manifest.specs.declared.shape.TheConstants.{BLOCKS_PER_TRANSACTION}
use Rattle.qd_manifest.specs.Spelling.{no_part, rows_shown}

-- each number below n passes
abbrev pub each_below : (ℕ → Bool) → ℕ → Bool
each_below passes zero = true
each_below passes (suc n) = each_below passes n && passes n

abbrev pub is_short_text : List ℕ → Bool
is_short_text name = nat_le 1 (length name) && (nat_le (length name) MAX_NAME_BYTES && is_utf8 name)

-- a column may be called so
unfoldable pub is_column_name : List ℕ → Bool
is_column_name name = is_short_text name && list_all is_column_byte name

-- a dot at a place of a name stands behind a byte that is no dot
abbrev pub dot_apart : List ℕ → ℕ → Bool
dot_apart name i = not (slice_index name i == 46) || (nat_lt 0 i && not (slice_index name (i - 1) == 46))

-- a table may be called so
unfoldable pub is_table_name : List ℕ → Bool
is_table_name name = is_short_text name && (list_all is_table_byte name && (each_below (dot_apart name) (length name) && not (slice_index name (length name - 1) == 46)))

-- the next block of a version of n transactions
abbrev pub may_be_next : ℕ → ℕ → Bool
may_be_next n next = nat_le next (n * BLOCKS_PER_TRANSACTION)

-- a table's name, by the tables before
abbrev pub may_be_table : List TableParts → List ℕ → Bool
may_be_table before name = is_table_name name && is_none (position (λ t. same_name t.schema.name name) before)

-- a column's name, by the columns before
abbrev pub may_be_column : List Col → List ℕ → Bool
may_be_column before name = is_column_name name && is_none (column_at before name)

abbrev pub kind_is_time : ColType → Bool
kind_is_time kind.Time = true
kind_is_time _ = false

-- the time column
abbrev pub is_time : Option Col → Bool
is_time None = false
is_time (Some c) = kind_is_time c.kind

-- there are more keys to come, or one of those so far is the time column
abbrev pub is_timed : ℕ → ℕ → List ℕ → ℕ → Bool
is_timed time count before key = nat_lt (length before + 1) count || (nat_eq key time || list_any (nat_eq time) before)

-- a key among so many, by the keys before: a column that is none of them; and one of all is the time column
abbrev pub may_be_key : ℕ → ℕ → ℕ → List ℕ → ℕ → Bool
may_be_key columns time count before key = nat_lt key columns && (not (list_any (nat_eq key) before) && is_timed time count before key)

-- a part's block, by the blocks that are named before
abbrev pub may_be_block : ℕ → List ℕ → ℕ → Bool
may_be_block next named block = nat_lt block next && not (list_any (nat_eq block) named)

-- the number of a part's rows, by the parts before, in a table of at most so many
abbrev pub may_be_rows : ℕ → List Part → ℕ → Bool
may_be_rows most before rows = nat_le 1 rows && nat_le (rows_shown before + rows) most

-- the number of a part's columns
abbrev pub may_be_width : Schema → ℕ → Bool
may_be_width s cols = nat_lt s.time_col cols && nat_le cols (length s.cols)

-- one row has one time
abbrev pub may_be_one : ℕ → ℕ → ℕ → Bool
may_be_one rows lo hi = not (nat_eq rows 1) || nat_eq lo hi

-- a part's first time, by the parts before; and its last
abbrev pub may_begin : List Part → ℕ → Bool
may_begin before lo = nat_le lo MAX_TIME && (nat_eq (length before) 0 || nat_lt (slice_index_or before (length before - 1) no_part).hi lo)

abbrev pub may_end : PartUnit → ℕ → ℕ → ℕ → Bool
may_end u rows lo hi = nat_le lo hi && (nat_le hi MAX_TIME && (nat_eq (start_of (unit_of u) lo) (start_of (unit_of u) hi) && may_be_one rows lo hi))
