-- The next version stands for the database that replay gives, and has a manifest.
use Rattle.std.proofs.Common.{◌≡◌, ℕ, zero, suc, ◌+◌, ◌*◌, ◌-◌, ◌^◌, ◌<◌, ◌≤◌, Bool, true, false, cond, if◌then◌else◌, nat_eq, List, [], ◌∷◌, ◌++◌, Option, Some, None, IfSome, length, drop, map, get_or, refl, sym, ap, ap₂, ◌∙◌, arith, All, Contains, subst, append-nil, length-append, true≢false}
use Rattle.std.specs.Prelude.{sum_by}
use Rattle.std.specs.List.{AllByRecursion, IsDistinct, flat_map, fold}
use Rattle.std.proofs.lemmas.List.{length-map}
use Rattle.std.proofs.lemmas.List.Elements.{All-contains, All-from_recursion, recursion_from_All}
use Rattle.std.proofs.lemmas.List.Sorted.{length_permutation}
use Rattle.std.proofs.lemmas.List.Sums.{sum_by-cons}
use Rattle.qd_base.specs.declared.op.Entry.{Entry}
use Rattle.qd_base.specs.declared.op.Op.{Op}
use Rattle.qd_base.specs.declared.op.Op.TheVariants as op
use Rattle.qd_base.specs.declared.part.Part.{Part}
use Rattle.qd_base.specs.declared.schema.Col.{Col}
use Rattle.qd_base.specs.declared.schema.ColType.TheVariants as kind
use Rattle.qd_base.specs.declared.schema.Schema.{Schema}
use Rattle.qd_base.specs.Database.{Database, missing, rekeyed, schemas_of, widened, StoredTable}
use Rattle.qd_base.specs.Lawful.{cells_in, AreLawful, AreSchemas, IsRowOf, IsSchema, IsSound, LawfulFrom}
use Rattle.qd_base.specs.Replay.{replay}
use Rattle.qd_base.specs.Rows.{same_on, Row}
use Rattle.qd_base.specs.Schemas.{at_name, same_name, schema_of, schemas_from, schemas_step, HasNoSetKeys}
use Rattle.qd_base.proofs.Lawful.{AreSchemas-ops, HasKinds-length}
use Rattle.qd_block.specs.Blocks.{Block, in_time_order, IsWhole}
use Rattle.qd_manifest.specs.declared.shape.TableParts.{TableParts}
use Rattle.qd_manifest.specs.declared.shape.Manifest.{Manifest}
use Rattle.qd_manifest.specs.declared.shape.TheConstants.{BLOCKS_PER_TRANSACTION}
use Rattle.qd_manifest.specs.Spelling.{blocks_of, rows_shown, schemas_in, AreParts, IsManifest}
use Rattle.qd_merge.specs.declared.plan.Act.{Act}
use Rattle.qd_merge.specs.Batch.{lasts, last_of_equals}
use Rattle.qd_merge.proofs.Batches.{put-moves}
use Rattle.qd_scan.specs.Sources.{IsBlockOf}
use Rattle.qd_apply.specs.Arrivals.{all_settled, arrivals, arrivals_from, arrived, arrives, first_rows, rest, wide, without_rows}
use Rattle.qd_apply.specs.Laws.{GoesOnFrom, IsDatabase, IsGrowth, Merges}
use Rattle.qd_apply.specs.Next.{all_made, all_pieces, batch_of, blocks_made, blocks_shown, first_counts, first_parts, grown_after, pieces_in, rules_of, shape_after, table_made, times_in, Piece}
use Rattle.qd_apply.specs.Stands.{rows_in_parts, StandsFor}
use Rattle.qd_apply.specs.Waiting.{Waits}
use Rattle.qd_apply.proofs.ArrivalLemmas.{all_arrive, schemas_arrive, schemas_entries, schemas_ops, AreOver}
use Rattle.qd_apply.proofs.CountLemmas.{made_few}
use Rattle.qd_apply.proofs.EachLemmas.{each_append, each_then}
use Rattle.qd_apply.proofs.GrowLemmas.{all_go_on, all_growths, all_new, as_shown, contains_map, contains_mapped, growths_apart, old_numbers, GoesOn}
use Rattle.qd_apply.proofs.LeaveLemmas.{joined}
use Rattle.qd_apply.proofs.PieceLemmas.{piece_each, rows_of, IsPiece}
use Rattle.qd_apply.proofs.PutCountLemmas.{fold_few}
use Rattle.qd_apply.proofs.ShapeLemmas.{first_pieces, first_up, pieces_numbers, pieces_shown, shape_distinct, shape_numbers, shape_stands, shown, AreGrown, FirstGrows, IsOld, StandAll}
use Rattle.qd_apply.proofs.ShareLemmas.{walked_acts, AreAscending}
use Rattle.qd_apply.proofs.TableLemmas.{acts_are, ascend, batch_is, grows_keys, grows_none, grows_one, olds_of, parts_of_pieces, rows_of_pieces, shown_joined, Grows}

-- ---- the tables that arrive have grown

first_one : (shape : List TableParts) (t : StoredTable) (change : StoredTable → StoredTable) → ((old : Schema) → Grows old t.schema → Grows old (change t).schema) → FirstGrows shape t → FirstGrows shape (change t)
first_one [] t change f h = tt
first_one (x ∷ xs) t change f h = f x.schema h

grown_name : (shape : List TableParts) (ts : List StoredTable) (name : List ℕ) (change : StoredTable → StoredTable) → ((t : StoredTable) (old : Schema) → Grows old t.schema → Grows old (change t).schema) → AreGrown shape ts
    → AreGrown shape (at_name (λ (t : StoredTable). t.schema.name) change name ts)
grown_name shape [] name change f h = h
grown_name shape (t ∷ ts) name change f h = step (same_name t.schema.name name) (grown_name (rest shape) ts name change f h.1)
  where
    step : (b : Bool) → AreGrown (rest shape) (at_name (λ (t : StoredTable). t.schema.name) change name ts) → AreGrown shape (if b then change t ∷ ts else t ∷ at_name (λ (t : StoredTable). t.schema.name) change name ts)
    step true later = (first_one shape t change (f t) h.0, h.1)
    step false later = (h.0, later)

grown_more : (shape : List TableParts) (ts : List StoredTable) (t : StoredTable) → AreGrown shape ts → AreGrown shape (ts ++ t ∷ [])
grown_more shape [] t h = subst (λ (l : List TableParts). FirstGrows l t × (rest l ≡ [])) (sym h) (tt, refl)
grown_more shape (x ∷ ts) t h = (h.0, grown_more (rest shape) ts t h.1)

grown_arrives : (shape : List TableParts) (ts : List StoredTable) (o : Op) → AreGrown shape ts → AreGrown shape (arrives ts o)
grown_arrives shape ts (op.Create schema) h = grown_more shape ts (record { schema = schema; rows = [] }) h
grown_arrives shape ts (op.AddColumn table col) h = grown_name shape ts table (widened col) (λ t old g. grows_one old t.schema col g) h
grown_arrives shape ts (op.Insert table rows) h = grown_name shape ts table (arrived rows) (λ t old g. g) h
grown_arrives shape ts (op.SetKeys table keys) h = grown_name shape ts table (rekeyed keys) (λ t old g. grows_keys old t.schema keys g) h

grown_ops : (shape : List TableParts) (ts : List StoredTable) (ops : List Op) → AreGrown shape ts → AreGrown shape (fold arrives ts ops)
grown_ops shape ts [] h = h
grown_ops shape ts (o ∷ os) h = grown_ops shape (arrives ts o) os (grown_arrives shape ts o h)

pub grown_entries : (shape : List TableParts) (ts : List StoredTable) (entries : List Entry) → AreGrown shape ts → AreGrown shape (arrivals_from ts entries)
grown_entries shape ts [] h = h
grown_entries shape ts (e ∷ es) h = grown_entries shape (fold arrives ts e.ops) es (grown_ops shape ts e.ops h)

pub none_grown : (shape : List TableParts) → AreGrown shape (without_rows (schemas_in shape))
none_grown [] = refl
none_grown (x ∷ xs) = (grows_none x.schema, none_grown xs)

-- ---- how many rows arrive

abbrev pub total : List StoredTable → ℕ
total [] = 0
total (t ∷ ts) = length t.rows + total ts

pub rows_cells : (s : Schema) (rows : List Row) → IsSchema s → AllByRecursion (IsRowOf s) rows → length rows ≤ sum_by length rows
rows_cells s [] schema fit = omega arith
rows_cells s (r ∷ rows) schema fit =
    let some = wide_enough s.cols s.time_col schema.designated in
    let size = HasKinds-length s.cols r fit.0.kinds in
    let later = rows_cells s rows schema fit.1 in
    let e = sum_by-cons length r rows in
    omega (arith, some, size, later, e)
  where
    wide_enough : (cols : List Col) (i : ℕ) → Rattle.std.specs.Prelude.IsSomeAnd (Rattle.std.proofs.Common.slice_get cols i) (λ c. c.kind ≡ kind.Time) → 0 < length cols
    wide_enough [] i h = absurd h
    wide_enough (c ∷ cs) i h = omega arith

total_more : (ts : List StoredTable) (s : Schema) → total (ts ++ record { schema = s; rows = [] } ∷ []) ≡ total ts
total_more [] s = omega arith
total_more (t ∷ ts) s = ap (λ (n : ℕ). length t.rows + n) (total_more ts s)

total_wider : (ts : List StoredTable) (name : List ℕ) (c : Col) → total (at_name (λ (t : StoredTable). t.schema.name) (widened c) name ts) ≡ total ts
total_wider [] name c = refl
total_wider (t ∷ ts) name c = step (same_name t.schema.name name) (total_wider ts name c)
  where
    step : (b : Bool) → total (at_name (λ (t : StoredTable). t.schema.name) (widened c) name ts) ≡ total ts → total (if b then widened c t ∷ ts else t ∷ at_name (λ (t : StoredTable). t.schema.name) (widened c) name ts) ≡ length t.rows + total ts
    step true e = ap (λ (n : ℕ). n + total ts) (length-map t.rows (λ (r : Row). r ++ missing c.kind ∷ []))
    step false e = ap (λ (n : ℕ). length t.rows + n) e

total_rekeyed : (ts : List StoredTable) (name keys : List ℕ) → total (at_name (λ (t : StoredTable). t.schema.name) (rekeyed keys) name ts) ≡ total ts
total_rekeyed [] name keys = refl
total_rekeyed (t ∷ ts) name keys = step (same_name t.schema.name name) (total_rekeyed ts name keys)
  where
    step : (b : Bool) → total (at_name (λ (t : StoredTable). t.schema.name) (rekeyed keys) name ts) ≡ total ts → total (if b then rekeyed keys t ∷ ts else t ∷ at_name (λ (t : StoredTable). t.schema.name) (rekeyed keys) name ts) ≡ length t.rows + total ts
    step true e = refl
    step false e = ap (λ (n : ℕ). length t.rows + n) e

total_filled : (ts : List StoredTable) (name : List ℕ) (rows : List Row) → AllByRecursion IsSchema (schemas_of ts) → IfSome (schema_of (schemas_of ts) name) (λ (s : Schema). All (IsRowOf s) rows)
    → total (at_name (λ (t : StoredTable). t.schema.name) (arrived rows) name ts) ≤ total ts + sum_by length rows
total_filled [] name rows schemas fit = omega arith
total_filled (t ∷ ts) name rows schemas fit = step (same_name t.schema.name name) fit (total_filled ts name rows schemas.1)
  where
    step : (b : Bool) → IfSome (if b then Some t.schema else schema_of (schemas_of ts) name) (λ (s : Schema). All (IsRowOf s) rows)
        → (IfSome (schema_of (schemas_of ts) name) (λ (s : Schema). All (IsRowOf s) rows) → total (at_name (λ (t : StoredTable). t.schema.name) (arrived rows) name ts) ≤ total ts + sum_by length rows)
        → total (if b then arrived rows t ∷ ts else t ∷ at_name (λ (t : StoredTable). t.schema.name) (arrived rows) name ts) ≤ (length t.rows + total ts) + sum_by length rows
    step true h ih = (let few = rows_cells t.schema rows schemas.0 (recursion_from_All (IsRowOf t.schema) rows h) in omega (arith, few, length-append t.rows rows))
    step false h ih = (let few = ih h in omega (arith, few))

total_arrives : (ts : List StoredTable) (o : Op) → AreSchemas (schemas_of ts) → IsSound (schemas_of ts) o → total (arrives ts o) ≤ total ts + cells_in o
total_arrives ts (op.Create schema) are sound = let e = total_more ts schema in omega (arith, e)
total_arrives ts (op.AddColumn table col) are sound = let e = total_wider ts table col in omega (arith, e)
total_arrives ts (op.SetKeys table keys) are sound = let e = total_rekeyed ts table keys in omega (arith, e)
total_arrives ts (op.Insert table rows) are sound = total_filled ts table rows (recursion_from_All IsSchema (schemas_of ts) are.each) sound

total_ops : (ts : List StoredTable) (ops : List Op) → AreSchemas (schemas_of ts) → AreLawful (schemas_of ts) ops → total (fold arrives ts ops) ≤ total ts + sum_by cells_in ops
total_ops ts [] are lawful = omega arith
total_ops ts (o ∷ os) are lawful =
    let same = schemas_arrive ts o in
    let next : AreSchemas (schemas_of (arrives ts o)) = subst AreSchemas (sym same) (Rattle.qd_base.proofs.Lawful.AreSchemas-step (schemas_of ts) o are lawful.0 lawful.1) in
    let one = total_arrives ts o are lawful.1 in
    let more = total_ops (arrives ts o) os next (subst (λ (l : List Schema). AreLawful l os) (sym same) lawful.2) in
    omega (arith, one, more, sum_by-cons cells_in o os)

pub total_entries : (ts : List StoredTable) (entries : List Entry) → AreSchemas (schemas_of ts) → LawfulFrom (schemas_of ts) entries → total (arrivals_from ts entries) ≤ total ts + length entries * BLOCKS_PER_TRANSACTION
total_entries ts [] are lawful = omega arith
total_entries ts (e ∷ es) are lawful =
    let same = schemas_ops ts e.ops in
    let next : AreSchemas (schemas_of (fold arrives ts e.ops)) = subst AreSchemas (sym same) (AreSchemas-ops (schemas_of ts) e.ops are lawful.0) in
    let one = total_ops ts e.ops are lawful.0 in
    let few : sum_by cells_in e.ops ≤ BLOCKS_PER_TRANSACTION = lawful.1 in
    let more = total_entries (fold arrives ts e.ops) es next (subst (λ (l : List Schema). LawfulFrom l es) (sym same) lawful.3) in
    omega (arith, one, few, more)

total_none : (schemas : List Schema) → total (without_rows schemas) ≡ 0
total_none [] = refl
total_none (s ∷ ss) = let e = total_none ss in omega (arith, e)

-- ---- how many blocks are written

lasts_few : (keys : List ℕ) (rows : List Row) → length (lasts keys rows) ≤ length rows
lasts_few keys [] = omega arith
lasts_few keys (r ∷ rows) = step (Rattle.std.specs.List.list_any (same_on keys r) rows) (lasts_few keys rows)
  where
    step : (b : Bool) → length (lasts keys rows) ≤ length rows → length (if b then lasts keys rows else r ∷ lasts keys rows) ≤ suc (length rows)
    step true h = omega (arith, h)
    step false h = omega (arith, h)

last_few : (keys : List ℕ) (rows : List Row) → length (last_of_equals keys rows) ≤ length rows
last_few [] rows = omega arith
last_few (k ∷ ks) rows = lasts_few (k ∷ ks) rows

batch_few : (t : StoredTable) → length (batch_of t) ≤ length t.rows
batch_few t =
    let sorted = in_time_order t.schema.time_col t.rows in
    let same : length sorted ≡ length t.rows = length_permutation t.rows sorted (put-moves t.schema.time_col [] t.rows) in
    let few = last_few t.schema.keys sorted in
    omega (arith, same, few)

table_few : (blocks : ℕ → Block) (counts : List ℕ) (split : ℕ) (ps : List Part) (t : StoredTable) → Waits t → AllByRecursion (IsPiece t.schema) (pieces_in blocks ps) → AreAscending (pieces_in blocks ps) → length (table_made blocks counts split ps t) ≤ length t.rows
table_few blocks counts split ps t waits each up =
    let s : Schema = t.schema in
    let old = pieces_in blocks ps in
    let rows = batch_of t in
    let batch = batch_is t waits.schema waits.fit in
    let r = rules_of split s in
    let olds = olds_of s blocks ps in
    let few = made_few s old rows batch counts split olds old each up in
    let made : length (table_made blocks counts split ps t) ≤ length rows =
    subst (λ (l : List Act). length (blocks_made s old rows l) ≤ length rows) (sym (acts_are blocks counts split ps t batch each up))
    (subst (λ (l : List Part). length (blocks_made s old rows (walked_acts r counts olds (times_in s rows) 0 0 l)) ≤ length rows) (parts_of_pieces blocks ps) few) in
    let less = batch_few t in
    omega (arith, made, less)

all_few : (blocks : ℕ → Block) (split : ℕ) (written : List (List ℕ)) (shape : List TableParts) (ts : List StoredTable) → AllByRecursion (IsOld blocks) shape → AreGrown shape ts → AllByRecursion Waits ts → length (all_made blocks written split shape ts) ≤ total ts
all_few blocks split written shape [] old grown waits = omega arith
all_few blocks split written shape (t ∷ ts) old grown waits =
    let first = table_few blocks (first_counts written) split (first_parts shape) t waits.0 (first_pieces blocks shape t old grown.0) (first_up blocks shape old) in
    let later = all_few blocks split (rest written) (rest shape) ts (rest_old shape old) grown.1 waits.1 in
    omega (arith, first, later, length-append (table_made blocks (first_counts written) split (first_parts shape) t) (all_made blocks (rest written) split (rest shape) ts))
  where
    rest_old : (xs : List TableParts) → AllByRecursion (IsOld blocks) xs → AllByRecursion (IsOld blocks) (rest xs)
    rest_old [] h = tt
    rest_old (x ∷ xs) h = h.1

-- ---- how many rows tables have

first_most : (most : ℕ) (db : Database) → AllByRecursion (λ (t : StoredTable). length t.rows ≤ most) db → length (first_rows db) ≤ most
first_most most [] few = omega arith
first_most most (t ∷ ts) few = few.0

rest_most : (most : ℕ) (db : Database) → AllByRecursion (λ (t : StoredTable). length t.rows ≤ most) db → AllByRecursion (λ (t : StoredTable). length t.rows ≤ most) (rest db)
rest_most most [] few = tt
rest_most most (t ∷ ts) few = few.1

-- no more than they had, and than arrive
settled_most : (most : ℕ) (db : Database) (ts : List StoredTable) → AllByRecursion (λ (t : StoredTable). length t.rows ≤ most) db → AllByRecursion (λ (t : StoredTable). length t.rows ≤ most + total ts) (all_settled db ts)
settled_most most db [] few = tt
settled_most most db (t ∷ ts) few =
    let so_far = map (wide t.schema.cols) (first_rows db) in
    let here = fold_few t.schema.time_col t.schema.keys so_far t.rows in
    let long : length so_far ≡ length (first_rows db) = length-map (first_rows db) (wide t.schema.cols) in
    let had = first_most most db few in
    let later = settled_most most (rest db) ts (rest_most most db few) in
    (omega (arith, here, long, had), each_then (λ (x : StoredTable). length x.rows ≤ most + total ts) (λ (x : StoredTable). length x.rows ≤ most + (length t.rows + total ts)) (λ x le. omega (arith, le)) (all_settled (rest db) ts) later)

-- those that the parts of a version show
shown_most : (most : ℕ) (blocks : ℕ → Block) (shape : List TableParts) → AllByRecursion (IsOld blocks) shape → AllByRecursion (λ (t : TableParts). rows_shown t.parts ≤ most) shape → AllByRecursion (λ (t : StoredTable). length t.rows ≤ most) (shown blocks shape)
shown_most most blocks [] old few = tt
shown_most most blocks (x ∷ xs) old few =
    let pieces = pieces_in blocks x.parts in
    let rows = ap length (rows_of_pieces x.schema blocks x.parts) in
    let parts = ap rows_shown (parts_of_pieces blocks x.parts) in
    let both = shown_joined x.schema pieces old.0.each in
    (omega (arith, few.0, rows, parts, both), shown_most most blocks xs old.1 few.1)

stand_most : (most : ℕ) (blocks : ℕ → Block) (shape : List TableParts) (db : Database) → StandAll blocks shape db → AllByRecursion (λ (t : StoredTable). length t.rows ≤ most) db → AllByRecursion (λ (t : TableParts). rows_shown t.parts ≤ most) shape
stand_most most blocks [] db all few = tt
stand_most most blocks (x ∷ xs) [] all few = absurd all
stand_most most blocks (x ∷ xs) (t ∷ ts) all few = (omega (arith, all.1.shown, few.0), stand_most most blocks xs ts all.2 few.1)

-- ---- what a version is, table by table

shown_is : (blocks : ℕ → Block) (shape : List TableParts) (db : Database) → schemas_in shape ≡ schemas_of db → map (λ (t : TableParts). rows_in_parts t.schema.cols blocks t.parts) shape ≡ map (λ (t : StoredTable). t.rows) db → shown blocks shape ≡ db
shown_is blocks [] [] schemas rows = refl
shown_is blocks [] (t ∷ ts) schemas rows = absurd (cc (schemas))
shown_is blocks (x ∷ xs) [] schemas rows = absurd (cc (schemas))
shown_is blocks (x ∷ xs) (t ∷ ts) schemas rows =
    let first : x.schema ≡ t.schema = cc in
    let first_rows : rows_in_parts x.schema.cols blocks x.parts ≡ t.rows = cc in
    let later : schemas_in xs ≡ schemas_of ts = cc in
    let later_rows : map (λ (y : TableParts). rows_in_parts y.schema.cols blocks y.parts) xs ≡ map (λ (y : StoredTable). y.rows) ts = cc in
    ap₂ (λ (y : StoredTable) (l : Database). y ∷ l)
    (ap₂ (λ (s : Schema) (l : List Row). let y : StoredTable = record { schema = s; rows = l } in y) first first_rows)
    (shown_is blocks xs ts later later_rows)

table_old : (blocks : ℕ → Block) (t : TableParts) → AreParts t.schema t.parts → All (λ (p : Part). IsWhole (blocks p.block)) t.parts → All (λ (p : Part). IsBlockOf t.schema p (blocks p.block)) t.parts → IsOld blocks t
table_old blocks t parts whole fit =
    let s : Schema = t.schema in
    let P : Part → Type 0 = λ p. IsPiece s (record { part = p; block = blocks p.block }) in
    let all : AllByRecursion P t.parts = recursion_from_All P t.parts
    (λ k d lt. let is = parts.each k d lt in record { whole = whole k d lt; block = fit k d lt; some = is.some; timed = is.timed; columns = is.columns; in_order = is.in_order; timely = is.timely; together = is.together }) in
    record {
      each = pieces t.parts all;
      up = ascend blocks t.parts (recursion_from_All (λ (p : Part). p.lo ≤ p.hi) t.parts (λ k d lt. (parts.each k d lt).in_order)) parts.apart;
    }
  where
    pieces : (ps : List Part) → AllByRecursion (λ (p : Part). IsPiece t.schema (record { part = p; block = blocks p.block })) ps → AllByRecursion (IsPiece t.schema) (pieces_in blocks ps)
    pieces [] h = tt
    pieces (p ∷ ps) h = (h.0, pieces ps h.1)

pub all_old : (blocks : ℕ → Block) (shape : List TableParts) (db : Database) → StandsFor blocks shape db → AllByRecursion (IsOld blocks) shape
all_old blocks shape db stands = recursion_from_All (IsOld blocks) shape (λ k d lt. table_old blocks (get_or shape k d) (stands.parts k d lt) (stands.whole k d lt) (stands.fit k d lt))

old_rows_fit : (s : Schema) (xs : List Piece) → AllByRecursion (IsPiece s) xs → AllByRecursion (IsRowOf s) (joined s xs)
old_rows_fit s [] each = tt
old_rows_fit s (x ∷ xs) each =
    each_append (IsRowOf s) (rows_of s x) (joined s xs)
    (each_then (λ r. IsRowOf s r × (x.part.lo ≤ Rattle.qd_base.specs.Rows.time_of s.time_col r) × (Rattle.qd_base.specs.Rows.time_of s.time_col r ≤ x.part.hi)) (IsRowOf s) (λ r h. h.0) (rows_of s x) (piece_each s x each.0))
    (old_rows_fit s xs each.1)

shown_fit : (blocks : ℕ → Block) (shape : List TableParts) → AllByRecursion (IsOld blocks) shape → AllByRecursion (λ (t : StoredTable). All (IsRowOf t.schema) t.rows) (shown blocks shape)
shown_fit blocks [] old = tt
shown_fit blocks (x ∷ xs) old = (
  subst (All (IsRowOf x.schema)) (rows_of_pieces x.schema blocks x.parts) (All-from_recursion (IsRowOf x.schema) (joined x.schema (pieces_in blocks x.parts)) (old_rows_fit x.schema (pieces_in blocks x.parts) old.0.each)),
  shown_fit blocks xs old.1,
)

waits_of : (db : Database) (ts : List StoredTable) → AreOver db ts → AllByRecursion IsSchema (schemas_of ts) → AllByRecursion Waits ts
waits_of db [] over schemas = tt
waits_of db (t ∷ ts) over schemas = (record { schema = schemas.0; fit = over.0.fit }, waits_of (rest db) ts over.1 schemas.1)

-- tables that stand for tables, as a version
all_stand : (blocks : ℕ → Block) (shape : List TableParts) (db : Database) → StandAll blocks shape db → StandsFor blocks shape db
all_stand blocks shape db all = record {
  schemas = schemas shape db all;
  parts = All-from_recursion (λ (t : TableParts). AreParts t.schema t.parts) shape (parts shape db all);
  whole = All-from_recursion (λ (t : TableParts). All (λ (p : Part). IsWhole (blocks p.block)) t.parts) shape (whole shape db all);
  fit = All-from_recursion (λ (t : TableParts). All (λ (p : Part). IsBlockOf t.schema p (blocks p.block)) t.parts) shape (fit shape db all);
  rows = rows shape db all;
}
  where
    schemas : (xs : List TableParts) (ts : Database) → StandAll blocks xs ts → schemas_in xs ≡ schemas_of ts
    schemas [] [] h = refl
    schemas [] (t ∷ ts) h = absurd h
    schemas (x ∷ xs) [] h = absurd h
    schemas (x ∷ xs) (t ∷ ts) h = ap₂ (λ (s : Schema) (l : List Schema). s ∷ l) h.0 (schemas xs ts h.2)

    parts : (xs : List TableParts) (ts : Database) → StandAll blocks xs ts → AllByRecursion (λ (t : TableParts). AreParts t.schema t.parts) xs
    parts [] ts h = tt
    parts (x ∷ xs) [] h = absurd h
    parts (x ∷ xs) (t ∷ ts) h = (h.1.parts, parts xs ts h.2)

    whole : (xs : List TableParts) (ts : Database) → StandAll blocks xs ts → AllByRecursion (λ (t : TableParts). All (λ (p : Part). IsWhole (blocks p.block)) t.parts) xs
    whole [] ts h = tt
    whole (x ∷ xs) [] h = absurd h
    whole (x ∷ xs) (t ∷ ts) h = (h.1.whole, whole xs ts h.2)

    fit : (xs : List TableParts) (ts : Database) → StandAll blocks xs ts → AllByRecursion (λ (t : TableParts). All (λ (p : Part). IsBlockOf t.schema p (blocks p.block)) t.parts) xs
    fit [] ts h = tt
    fit (x ∷ xs) [] h = absurd h
    fit (x ∷ xs) (t ∷ ts) h = (h.1.fit, fit xs ts h.2)

    rows : (xs : List TableParts) (ts : Database) → StandAll blocks xs ts → map (λ (t : TableParts). rows_in_parts t.schema.cols blocks t.parts) xs ≡ map (λ (t : StoredTable). t.rows) ts
    rows [] [] h = refl
    rows [] (t ∷ ts) h = absurd h
    rows (x ∷ xs) [] h = absurd h
    rows (x ∷ xs) (t ∷ ts) h = ap₂ (λ (r : List Row) (l : List (List Row)). r ∷ l) h.1.rows_are (rows xs ts h.2)

schemas_lawful : (schemas : List Schema) (entries : List Entry) → AreSchemas schemas → LawfulFrom schemas entries → AreSchemas (schemas_from schemas entries)
schemas_lawful schemas [] are lawful = are
schemas_lawful schemas (e ∷ es) are lawful = schemas_lawful (fold schemas_step schemas e.ops) es (AreSchemas-ops schemas e.ops are lawful.0) lawful.3

-- ---- the law

pub merges : (blocks : ℕ → Block) (written : List (List ℕ)) (split base : ℕ) (m : Manifest) (db : Database) (entries : List Entry) → IsManifest base m → StandsFor blocks m.shape db → LawfulFrom (schemas_of db) entries → HasNoSetKeys (drop 1 entries)
    → (base + length entries) * BLOCKS_PER_TRANSACTION < 2 ^ 64 → All (λ (t : StoredTable). length t.rows < 2 ^ 64) (replay db entries) → Merges blocks written split base m db entries
merges blocks written split base m db entries manifest stands lawful alone room few =
    let shape : List TableParts = m.shape in
    let bound : ℕ = m.next_block in
    let ts : List StoredTable = arrivals (schemas_in shape) entries in
    let made = all_made blocks written split shape ts in
    let pieces = all_pieces blocks bound written split shape ts in
    let after = shape_after blocks bound written split shape ts in
    let new : ℕ → Block = blocks_shown blocks pieces in
    let grows = grown_after blocks written split shape entries in
    let old = all_old blocks shape db stands in
    let is : shown blocks shape ≡ db = shown_is blocks shape db stands.schemas stands.rows in
    let same : schemas_in shape ≡ schemas_of db = stands.schemas in
    let are : AreSchemas (schemas_of db) = subst AreSchemas same manifest.schemas in
    let database : IsDatabase db = record { schemas = are; rows = subst (AllByRecursion (λ (t : StoredTable). All (IsRowOf t.schema) t.rows)) is (shown_fit blocks shape old) } in
    let arrive = all_arrive db entries database lawful alone in
    let ts_are : arrivals (schemas_of db) entries ≡ ts = ap (λ (l : List Schema). arrivals l entries) (sym same) in
    let over : AreOver db ts = subst (AreOver db) ts_are arrive.over in
    let settled_is : all_settled (shown blocks shape) ts ≡ replay db entries = ap₂ (λ (d : Database) (l : List StoredTable). all_settled d l) is (sym ts_are) ∙ arrive.settled in
    let none : schemas_of (without_rows (schemas_in shape)) ≡ schemas_in shape = no_rows (schemas_in shape) in
    let schemas_are : schemas_of ts ≡ schemas_from (schemas_of db) entries = schemas_entries (without_rows (schemas_in shape)) entries ∙ ap (λ (l : List Schema). schemas_from l entries) (none ∙ same) in
    let are_after : AreSchemas (schemas_of ts) = subst AreSchemas (sym schemas_are) (schemas_lawful (schemas_of db) entries are lawful) in
    let waits = waits_of db ts over (recursion_from_All IsSchema (schemas_of ts) are_after.each) in
    let grown = grown_entries shape (without_rows (schemas_in shape)) entries (none_grown shape) in
    let low : AllByRecursion (λ (n : ℕ). n < bound) (blocks_of shape) = recursion_from_All (λ (n : ℕ). n < bound) (blocks_of shape) manifest.below in
    let few' : AllByRecursion (λ (t : StoredTable). length t.rows < 2 ^ 64) (all_settled (shown blocks shape) ts) =
    subst (AllByRecursion (λ (t : StoredTable). length t.rows < 2 ^ 64)) (sym settled_is) (recursion_from_All (λ (t : StoredTable). length t.rows < 2 ^ 64) (replay db entries) few) in
    let distinct = shape_distinct blocks bound written split shape ts bound (omega arith) low manifest.distinct in
    let numbers : blocks_of after ≡ map (λ (x : Piece). x.part.block) pieces = pieces_numbers blocks split written shape ts bound in
    let named : AllByRecursion (λ (x : Piece). new x.part.block ≡ x.block) pieces = pieces_shown blocks pieces (subst (IsDistinct nat_eq) numbers distinct) in
    let all = shape_stands blocks new split written shape ts bound old grown waits named few' in
    let stand : StandsFor new after (replay db entries) = subst (StandsFor new after) settled_is (all_stand new after (all_settled (shown blocks shape) ts) all) in
    let start = without_rows (schemas_in shape) in
    let first : AreSchemas (schemas_of start) = subst AreSchemas (sym none) manifest.schemas in
    let come = total_entries start entries first (subst (λ (l : List Schema). LawfulFrom l entries) (sym (none ∙ same)) lawful) in
    let nothing = total_none (schemas_in shape) in
    let writes = all_few blocks split written shape ts old grown waits in
    let next : bound + length made ≤ (base + length entries) * BLOCKS_PER_TRANSACTION = (let before = manifest.next in omega (arith, before, come, nothing, writes)) in
    let had = shown_most (base * BLOCKS_PER_TRANSACTION) blocks shape old (recursion_from_All (λ (t : TableParts). rows_shown t.parts ≤ base * BLOCKS_PER_TRANSACTION) shape manifest.few) in
    let most = stand_most (base * BLOCKS_PER_TRANSACTION + total ts) new after (all_settled (shown blocks shape) ts) all (settled_most (base * BLOCKS_PER_TRANSACTION) (shown blocks shape) ts had) in
    record {
      stands = stand;
      manifest = record {
        next = next;
        next_fits = omega (arith, next, room);
        schemas = subst AreSchemas (sym (schemas_shape blocks bound written shape ts)) are_after;
        parts = stand.parts;
        few = All-from_recursion (λ (t : TableParts). rows_shown t.parts ≤ (base + length entries) * BLOCKS_PER_TRANSACTION) after
            (each_then (λ (t : TableParts). rows_shown t.parts ≤ base * BLOCKS_PER_TRANSACTION + total ts) (λ (t : TableParts). rows_shown t.parts ≤ (base + length entries) * BLOCKS_PER_TRANSACTION) (λ t le. omega (arith, le, come, nothing)) after most);
        below = All-from_recursion (λ (n : ℕ). n < bound + length made) (blocks_of after)
            (shape_numbers (λ (n : ℕ). n < bound + length made) blocks written split shape ts bound (each_then (λ (n : ℕ). n < bound) (λ (n : ℕ). n < bound + length made) (λ n lt. omega (arith, lt)) (blocks_of shape) low) (λ n ge lt. lt));
        distinct = distinct;
      };
      goes_on = λ b there lt.
          (let each = all_go_on blocks bound split shape written ts low in
          let all_so : All (λ (x : Piece). new x.part.block ≡ x.block) pieces = All-from_recursion (λ (x : Piece). new x.part.block ≡ x.block) pieces named in
          let found = contains_map (λ (x : Piece). x.part.block) pieces b (subst (λ (l : List ℕ). Contains l b) numbers there) in
          let x : Piece = found.0 in
          let here = All-contains (GoesOn blocks bound shape grows) pieces x (All-from_recursion (GoesOn blocks bound shape grows) pieces each) found.1 in
          let shows = All-contains (λ (y : Piece). new y.part.block ≡ y.block) pieces x all_so found.1 in
          let number : x.part.block ≡ b = found.2 in
          subst (GoesOnFrom shape blocks grows new) number (as_shown shape blocks grows new x shows (here (omega (arith, number, lt)))));
      made = λ k lt.
          (let found = all_new blocks split written shape ts bound k lt in
          let shows = All-contains (λ (y : Piece). new y.part.block ≡ y.block) pieces found.0 (All-from_recursion (λ (x : Piece). new x.part.block ≡ x.block) pieces named) found.1 in
          ap new (sym found.2) ∙ shows ∙ found.3);
      old_named = λ b there lt. old_numbers blocks written split shape ts bound b there lt;
      new_named = λ k lt.
          (let found = all_new blocks split written shape ts bound k lt in
          subst (λ (l : List ℕ). Contains l (bound + k)) (sym numbers) (subst (Contains (map (λ (x : Piece). x.part.block) pieces)) found.2 (contains_mapped (λ (x : Piece). x.part.block) pieces found.0 found.1)));
      grown = All-from_recursion (IsGrowth shape written) grows (all_growths blocks split shape written ts old grown waits);
      apart = growths_apart blocks split shape written ts manifest.distinct;
    }
  where
    no_rows : (ss : List Schema) → schemas_of (without_rows ss) ≡ ss
    no_rows [] = refl
    no_rows (s ∷ ss) = ap (λ (l : List Schema). s ∷ l) (no_rows ss)

    schemas_shape : (b : ℕ → Block) (n : ℕ) (w : List (List ℕ)) (xs : List TableParts) (ys : List StoredTable) → schemas_in (shape_after b n w split xs ys) ≡ schemas_of ys
    schemas_shape b n w xs [] = refl
    schemas_shape b n w xs (y ∷ ys) = ap (λ (l : List Schema). y.schema ∷ l) (schemas_shape b (n + length (table_made b (first_counts w) split (first_parts xs) y)) (rest w) (rest xs) ys)
