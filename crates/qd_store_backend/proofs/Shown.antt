-- The current version of a store, as a source: its tables and their parts, and what is told of them.
use Rattle.std.proofs.Common.{◌≡◌, ℕ, ◌<◌, List, [], ◌∷◌, ◌++◌, length, map, Option, Some, None, Ok, Err, is_some, true, get_or, slice_get, refl, sym, ap, ap₂, ◌∙◌, subst, arith, IfSome}
use Rattle.std.specs.List.{flat_map, AllByRecursion}
use Rattle.std.proofs.lemmas.Bool.{false≢true}
use Rattle.std.proofs.lemmas.List.{get_or-map, length-map}
use Rattle.std.proofs.lemmas.List.Elements.{recursion_from_All}
use Rattle.std.proofs.lemmas.Option.{slice_get-get_or}
use Rattle.qd_base.specs.declared.op.Entry.{Entry}
use Rattle.qd_base.specs.declared.part.Part.{Part}
use Rattle.qd_base.specs.declared.schema.Schema.{Schema}
use Rattle.qd_base.specs.Database.{Database, StoredTable}
use Rattle.qd_base.specs.Lawful.{AreSchemas}
use Rattle.qd_base.specs.Replay.{first}
use Rattle.qd_base.specs.Rows.{Row}
use Rattle.qd_block.specs.Blocks.{Block}
use Rattle.qd_catalog.specs.declared.version.Version as catalog
use Rattle.qd_catalog.specs.Versions.{IsLive}
use Rattle.qd_apply.specs.Stands.{rows_in_parts, StandsFor}
use Rattle.qd_manifest.specs.declared.shape.TableParts.{TableParts}
use Rattle.qd_manifest.specs.Spelling.{no_part, schemas_in, AreParts}
use Rattle.qd_scan.specs.Sources.{no_schema, no_table, part_at, parts_at, rows_at, rows_in_part, schema_at, table_rows, HasRowsOf, IsBlockOf, IsSource, SourceView, Tells}
use Rattle.qd_store.specs.Owned.{Store}
use Rattle.qd_store.specs.Reading.{IsShownPart}
use Rattle.qd_column_files.specs.Reading.{IsBlockRead}
use Rattle.qd_durable.specs.declared.fault.LogFault.{LogFault}
use Rattle.qd_durable.specs.declared.fault.LogFault.TheVariants as fault
use Rattle.qd_store.specs.Stores.{IsStore, Book}
use Rattle.qd_store.proofs.PartsRead.{part_rows}
use Rattle.qd_txnfile.specs.Versions.{Version}
use Rattle.qd_versions.specs.Reading.{IsPartAt}
use Rattle.qd_versions.specs.Stores as versions
use Rattle.qd_versions.specs.Stores.{AreTables}
use Rattle.qd_volume.specs.Disk.{Disk, reads_of}
use Rattle.qd_store_backend.specs.Backs.{current, database_in, n_in, shape_in, source_of, IsPartDamage, IsPartDamaged, IsParts, IsTold, Parts}

abbrev pub no_table_parts : TableParts
no_table_parts = record { schema = no_schema; parts = [] }

-- ---- the tables of a version

-- what a source of tables shows
abbrev pub source_over : List Schema → List TableParts → Option Database → ℕ → ℕ → Option (ℕ × ℕ) → SourceView
source_over schemas shape database faults damages last = record {
  schemas = schemas;
  parts = map (λ (t : TableParts). t.parts) shape;
  database = database;
  faults = faults;
  damages = damages;
  last_damage = last;
}

-- the blocks of tables are told: they stand for a database
abbrev pub AreHeld : List TableParts → Database → Type 0
AreHeld shape db = (blocks : ℕ → Block) × StandsFor blocks shape db

-- one table of them
pub record IsTable (schemas : List Schema) (shape : List TableParts) (table : ℕ) (t : TableParts) : Type 0 where
  pub within : table < length shape
  pub there : slice_get shape table ≡ Some t
  pub schema : get_or schemas table no_schema ≡ t.schema
  pub parts : get_or (map (λ (u : TableParts). u.parts) shape) table [] ≡ t.parts

pub is_table : (schemas : List Schema) (shape : List TableParts) (table : ℕ) → schemas ≡ schemas_in shape → table < length schemas → IsTable schemas shape table (get_or shape table no_table_parts)
is_table schemas shape table same lt =
    let low : table < length shape = omega (arith, lt, ap length same, length-map shape (λ (u : TableParts). u.schema)) in
    record {
      within = low;
      there = slice_get-get_or shape table no_table_parts low;
      schema = ap (λ (l : List Schema). get_or l table no_schema) same ∙ get_or-map (λ (u : TableParts). u.schema) shape table no_table_parts no_schema low;
      parts = get_or-map (λ (u : TableParts). u.parts) shape table no_table_parts [] low;
    }

flat_map_agree : {X Y : Type 0} (f g : X → List Y) (xs : List X) → AllByRecursion (λ x. f x ≡ g x) xs → flat_map f xs ≡ flat_map g xs
flat_map_agree f g [] h = refl
flat_map_agree f g (x ∷ xs) h = ap₂ (λ a l. a ++ l) h.0 (flat_map_agree f g xs h.1)

-- a table's rows are those of its parts' blocks
pub rows_of_parts : (blocks : ℕ → Block) (shape : List TableParts) (db : Database) (table : ℕ) → StandsFor blocks shape db → table < length shape
    → rows_at db table ≡ rows_in_parts (get_or shape table no_table_parts).schema.cols blocks (get_or shape table no_table_parts).parts
rows_of_parts blocks shape db table stands low =
    let f : TableParts → List Row = λ (u : TableParts). rows_in_parts u.schema.cols blocks u.parts in
    let rows : StoredTable → List Row = λ (u : StoredTable). u.rows in
    let few : table < length db = omega (arith, low, ap length stands.rows, length-map shape f, length-map db rows) in
    sym (get_or-map rows db table no_table [] few)
    ∙ sym (ap (λ (l : List (List Row)). get_or l table []) stands.rows)
    ∙ get_or-map f shape table no_table_parts [] low

-- each row of a table lies in a part
all_told : (blocks : ℕ → Block) (shape : List TableParts) (db : Database) (table : ℕ) (t : TableParts) → StandsFor blocks shape db → table < length shape → t ≡ get_or shape table no_table_parts
    → flat_map (rows_in_part t.schema.time_col (rows_at db table)) t.parts ≡ rows_at db table
all_told blocks shape db table t stands low is =
    let there : slice_get shape table ≡ Some t = slice_get-get_or shape table no_table_parts low ∙ ap Some (sym is) in
    flat_map_agree (rows_in_part t.schema.time_col (rows_at db table)) (λ (p : Part). table_rows t.schema.cols (blocks p.block)) t.parts
    (recursion_from_All (λ (p : Part). rows_in_part t.schema.time_col (rows_at db table) p ≡ table_rows t.schema.cols (blocks p.block)) t.parts
    (λ i d lt. part_rows blocks shape db stands table i t (get_or t.parts i d) there (slice_get-get_or t.parts i d lt)))
    ∙ ap (λ (u : TableParts). rows_in_parts u.schema.cols blocks u.parts) is
    ∙ sym (rows_of_parts blocks shape db table stands low)

-- the law of a source of tables
pub tables_law : (schemas : List Schema) (shape : List TableParts) (database : Option Database) (faults damages : ℕ) (last : Option (ℕ × ℕ)) → schemas ≡ schemas_in shape → AreTables shape → IfSome database (AreHeld shape)
    → IsSource (source_over schemas shape database faults damages last)
tables_law schemas shape database faults damages last same are held = record {
  schemas = subst AreSchemas (sym same) are.schemas;
  parts = λ table lt.
      let one = is_table schemas shape table same lt in
      subst (λ (s : Schema). AreParts s (get_or (map (λ (u : TableParts). u.parts) shape) table [])) (sym one.schema)
      (subst (AreParts (get_or shape table no_table_parts).schema) (sym one.parts) (are.parts table no_table_parts one.within));
  told = tells database held;
}
  where
    tells : (o : Option Database) → IfSome o (AreHeld shape) → IfSome o (Tells (source_over schemas shape database faults damages last))
    tells None held = tt
    tells (Some db) held = record {
      schemas = sym (same ∙ held.1.schemas);
      rows = λ table lt.
          let one = is_table schemas shape table same lt in
          ap₂ (λ (c : ℕ) (ps : List Part). flat_map (rows_in_part c (rows_at db table)) ps) (ap (λ (s : Schema). s.time_col) one.schema) one.parts
          ∙ all_told held.0 shape db table (get_or shape table no_table_parts) held.1 one.within refl;
    }

-- ---- the current version

version_there : (o : Option catalog.Version) → is_some o ≡ true → (x : catalog.Version) × (o ≡ Some x)
version_there None live = absurd (false≢true live)
version_there (Some x) live = (x, refl)

-- its tables stand for the first transactions, where they are told
told_held : (o : Option (List Entry)) (owned : Store) (x : catalog.Version) → current owned.store ≡ Some x → IfSome o (IsTold owned) → IfSome (database_in o (n_in (current owned.store))) (AreHeld (shape_in (current owned.store)))
told_held None owned x at told = tt
told_held (Some h) owned x at told =
    let (disk, next, same, is) = told in
    let shown = is.versions.live owned.store.versions.versions.current x at in
    subst (λ (v : Option catalog.Version). AreHeld (shape_in v) (first h (n_in v))) (sym at) (shown.blocks, shown.stands)

pub source_law : (p : Parts) → IsParts p → versions.IsStore p.owned.store.versions → IsSource (source_of p)
source_law p are law =
    let (x, at) = version_there (current p.owned.store) law.live in
    let tables : AreTables (shape_in (current p.owned.store)) = subst (λ (v : Option catalog.Version). AreTables (shape_in v)) (sym at) (law.tables p.owned.store.versions.versions.current x at) in
    tables_law p.schemas (shape_in (current p.owned.store)) (database_in p.history (n_in (current p.owned.store))) p.owned.storage.faults p.damages p.last_damage are.schemas tables (told_held p.history p.owned x at are.told)

-- ---- a part of it

-- a part that the source shows is one of the version in a row
record HasPart (p : Parts) (row table i : ℕ) : Type 0 where
  pub t : TableParts
  pub part : Part
  pub at : IsPartAt p.owned.store.versions.versions row table i t part
  pub its_schema : schema_at (source_of p) table ≡ t.schema
  pub is : part_at (source_of p) table i ≡ part
  pub n : n_in (current p.owned.store) ≡ at.version.n

has_current : (p : Parts) (table i : ℕ) → IsParts p → IsLive p.owned.store.versions.versions p.owned.store.versions.versions.current → table < length p.schemas → i < length (parts_at (source_of p) table)
    → HasPart p p.owned.store.versions.versions.current table i
has_current p table i are live lt within =
    let (x, at) = version_there (current p.owned.store) live in
    let shape = shape_in (current p.owned.store) in
    let one = is_table p.schemas shape table are.schemas lt in
    let t : TableParts = get_or shape table no_table_parts in
    let low : i < length t.parts = subst (λ (ps : List Part). i < length ps) one.parts within in
    record {
      t = t;
      part = get_or t.parts i no_part;
      at = record { version = x; live = at; its_table = subst (λ (v : Option catalog.Version). slice_get (shape_in v) table ≡ Some t) at one.there; its_part = slice_get-get_or t.parts i no_part low };
      its_schema = one.schema;
      is = ap (λ (ps : List Part). get_or ps i no_part) one.parts;
      n = ap n_in at;
    }

-- what contracts see of a source, and its fields
module _ (p q : Parts) (row table i : ℕ) (same : p ≡ q) (are : IsParts p) (is : row ≡ p.owned.store.versions.versions.current) (live : IsLive p.owned.store.versions.versions row) (lt : table < length q.schemas) (within : i < length (parts_at (source_of q) table)) where
  has_part : HasPart p row table i
  has_part =
      subst (λ (r : ℕ). HasPart p r table i) (sym is)
      (has_current p table i are (subst (IsLive p.owned.store.versions.versions) is live) (subst (λ (x : Parts). table < length x.schemas) (sym same) lt) (subst (λ (x : Parts). i < length (parts_at (source_of x) table)) (sym same) within))

  pub part_there : (t : TableParts) × (part : Part) × IsPartAt p.owned.store.versions.versions row table i t part
  part_there = (has_part.t, has_part.part, has_part.at)

  -- what is read of it is a block of the part
  pub block_fits : (b : Block) → ((t : TableParts) (part : Part) → IsPartAt p.owned.store.versions.versions row table i t part → IsBlockOf t.schema part b) → IsBlockOf (schema_at (source_of q) table) (part_at (source_of q) table i) b
  block_fits b fits =
      subst (λ (x : Parts). IsBlockOf (schema_at (source_of x) table) (part_at (source_of x) table i) b) same
      (subst (λ (s : Schema). IsBlockOf s (part_at (source_of p) table i) b) (sym has_part.its_schema)
      (subst (λ (part : Part). IsBlockOf has_part.t.schema part b) (sym has_part.is) (fits has_part.t has_part.part has_part.at)))

  -- and has its rows, where they are told
  pub rows_told : (b : Block) → IfSome p.owned.storage.disk (λ disk. (h : List Entry) (next : Version) → IsStore p.owned.store h next disk → IsShownPart (Ok b) p.owned.store h row table i) → HasRowsOf (source_of q) table i b
  rows_told b shown = subst (λ (x : Parts). HasRowsOf (source_of x) table i b) same (rows_of p.history are.told)
    where
      rows_of : (o : Option (List Entry)) → IfSome o (IsTold p.owned)
          → IfSome (database_in o (n_in (current p.owned.store))) (λ db. table_rows (schema_at (source_of p) table).cols b ≡ rows_in_part (schema_at (source_of p) table).time_col (rows_at db table) (part_at (source_of p) table i))
      rows_of None told = tt
      rows_of (Some h) told =
          let (disk, next, on, store) = told in
          let now : (h : List Entry) (next : Version) → IsStore p.owned.store h next disk → IsShownPart (Ok b) p.owned.store h row table i =
          subst (λ (o : Option Disk). IfSome o (λ disk. (h : List Entry) (next : Version) → IsStore p.owned.store h next disk → IsShownPart (Ok b) p.owned.store h row table i)) on shown in
          ap (λ (s : Schema). table_rows s.cols b) has_part.its_schema
          ∙ now h next store has_part.t has_part.part has_part.at
          ∙ sym (ap₂ (λ (s : Schema) (part : Part). rows_in_part s.time_col (rows_at (first h (n_in (current p.owned.store))) table) part) has_part.its_schema has_part.is
          ∙ ap (λ (n : ℕ). rows_in_part has_part.t.schema.time_col (rows_at (first h n) table) has_part.part) has_part.n)

  -- damage of its files is that of a part of the current version
  pub damage_found : (owned : Store) (file at : ℕ) (cause : LogFault) → cause ≡ fault.Damaged file at → owned.store ≡ p.owned.store → owned.storage.disk ≡ p.owned.storage.disk
      → ((t : TableParts) (part : Part) → IsPartAt p.owned.store.versions.versions row table i t part → IfSome p.owned.storage.disk (λ disk. IsBlockRead (Err cause) t.schema part (reads_of disk))) → IsPartDamaged owned file at
  damage_found owned file at cause damaged store disk read =
      subst (λ (s : Book). IsPartDamaged (record { store = s; storage = owned.storage }) file at) (sym store)
      (subst (λ (o : Option Disk). IfSome o (λ d. IsPartDamage p.owned.store (reads_of d) file at)) (sym disk)
      (by p.owned.storage.disk (subst (λ (f : LogFault). IfSome p.owned.storage.disk (λ disk. IsBlockRead (Err f) has_part.t.schema has_part.part (reads_of disk))) damaged (read has_part.t has_part.part has_part.at))))
    where
      by : (o : Option Disk) → IfSome o (λ disk. IsBlockRead (Err (fault.Damaged file at)) has_part.t.schema has_part.part (reads_of disk)) → IfSome o (λ d. IsPartDamage p.owned.store (reads_of d) file at)
      by None h = tt
      by (Some d) h = record { row = row; table = table; i = i; of = has_part.t; part = has_part.part; there = has_part.at; its_row = is; damaged = h }
