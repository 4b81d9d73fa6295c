-- A manifest read from its first field to its last, each as qd_fields reads it, and by the rule that it keeps. Damage is at
-- the end of all bytes where some are missing, and else at the first byte of the first field that breaks its rule.
use Rattle.std.specs.Prelude.{ℕ, ◌*◌, nat_le, nat_eq, if◌then◌else◌, List, [], ◌++◌, length, slice_get, Result, Ok, Err}
use Rattle.std.specs.Int.{w16, w64}
use Rattle.qd_base.specs.declared.limits.TheConstants.{MAX_COLUMNS, MAX_TABLES}
use Rattle.qd_base.specs.declared.part.Part.{Part}
use Rattle.qd_base.specs.declared.schema.Col.{Col}
use Rattle.qd_base.specs.declared.schema.Schema.{Schema}
use Rattle.qd_fields.specs.Layout.{Read, ◌>>=◌, kept, items, number_at, byte_at, coded, kind_of_code, unit_of_code, name_at}
use Rattle.qd_manifest.specs.declared.shape.TableParts.{TableParts}
use Rattle.qd_manifest.specs.declared.shape.Manifest.{Manifest}
use Rattle.qd_manifest.specs.declared.shape.TheConstants.{BLOCKS_PER_TRANSACTION}
use Rattle.qd_manifest.specs.Spelling.{blocks_in, blocks_of}
use Rattle.qd_manifest.specs.Rules.{may_be_next, may_be_table, may_be_column, is_time, may_be_key, may_be_block, may_be_rows, may_be_width, may_begin, may_end}

unfoldable pub column_from : List Col → List ℕ → Read Col
column_from before bytes = do
  kind ← coded kind_of_code bytes (byte_at bytes)
  name ← kept (may_be_column before) kind.1 (name_at kind.1)
  Ok (record { name = name.0; kind = kind.0 }, name.1)

unfoldable pub columns_from : List ℕ → Read (List Col)
columns_from bytes = do
  count ← kept (λ n. nat_le n MAX_COLUMNS) bytes (number_at w16 bytes)
  items column_from count.0 [] count.1

unfoldable pub key_from : ℕ → ℕ → ℕ → List ℕ → List ℕ → Read ℕ
key_from columns time count before bytes = kept (may_be_key columns time count before) bytes (number_at w16 bytes)

unfoldable pub keys_from : ℕ → ℕ → List ℕ → Read (List ℕ)
keys_from columns time bytes = do
  count ← number_at w16 bytes
  items (key_from columns time count.0) count.0 [] count.1

-- a schema, by the tables before
unfoldable pub schema_from : List TableParts → List ℕ → Read Schema
schema_from before bytes = do
  name ← kept (may_be_table before) bytes (name_at bytes)
  cols ← columns_from name.1
  time ← kept (λ n. is_time (slice_get cols.0 n)) cols.1 (number_at w16 cols.1)
  unit ← coded unit_of_code time.1 (byte_at time.1)
  keys ← keys_from (length cols.0) time.0 unit.1
  Ok (record { name = name.0; cols = cols.0; time_col = time.0; unit = unit.0; keys = keys.0 }, keys.1)

-- a part of a table of at most so many rows, by the blocks that are taken and by the parts before
unfoldable pub part_from : ℕ → ℕ → List ℕ → Schema → List Part → List ℕ → Read Part
part_from most next taken s before bytes = do
  block ← kept (may_be_block next taken) bytes (number_at w64 bytes)
  rows ← kept (may_be_rows most before) block.1 (number_at w64 block.1)
  cols ← kept (may_be_width s) rows.1 (number_at w16 rows.1)
  lo ← kept (may_begin before) cols.1 (number_at w64 cols.1)
  hi ← kept (may_end s.unit rows.0 lo.0) lo.1 (number_at w64 lo.1)
  Ok (record { block = block.0; rows = rows.0; cols = cols.0; lo = lo.0; hi = hi.0 }, hi.1)

-- the blocks that tables before name are taken, and those that parts before do
abbrev pub part_in : ℕ → ℕ → List ℕ → Schema → List Part → List ℕ → Read Part
part_in most next named s before = part_from most next (named ++ blocks_in before) s before

unfoldable pub parts_from : ℕ → ℕ → List ℕ → Schema → List ℕ → Read (List Part)
parts_from most next named s bytes = do
  count ← number_at w64 bytes
  items (part_in most next named s) count.0 [] count.1

unfoldable pub table_from : ℕ → ℕ → List TableParts → List ℕ → Read TableParts
table_from most next before bytes = do
  schema ← schema_from before bytes
  parts ← parts_from most next (blocks_of before) schema.0 schema.1
  Ok (record { schema = schema.0; parts = parts.0 }, parts.1)

-- all of the bytes, as the manifest of a version of n transactions: a table has at most as many rows as they may insert, and nothing
-- follows the last part
unfoldable pub manifest_from : ℕ → List ℕ → Result Manifest ℕ
manifest_from n bytes = do
  next ← kept (may_be_next n) bytes (number_at w64 bytes)
  count ← kept (λ k. nat_le k MAX_TABLES) next.1 (number_at w16 next.1)
  tables ← items (table_from (n * BLOCKS_PER_TRANSACTION) next.0) count.0 [] count.1
  if nat_eq (length tables.1) 0 then Ok (record { next_block = next.0; shape = tables.0 }) else Err (length tables.1)
