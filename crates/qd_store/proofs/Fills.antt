-- A version has blocks: whatever its parts are, and the blocks of some of them, over some blocks by their numbers it
-- stands for a database.
use Rattle.std.proofs.Common.{◌≡◌, ℕ, ◌+◌, ◌*◌, ◌^◌, ◌<◌, ◌≤◌, nat_eq, List, [], ◌∷◌, ◌++◌, All, drop, length, map, get_or, refl, sym, ap, ap₂, ◌∙◌, arith, subst, length-append}
use Rattle.std.specs.List.{AllByRecursion, AllZip, IsDistinct}
use Rattle.std.proofs.lemmas.List.{length-map}
use Rattle.std.proofs.lemmas.List.Elements.{All-from_recursion, All-head, All-tail, recursion_from_All}
use Rattle.std.proofs.lemmas.List.Sums.{sum_by-cons}
use Rattle.qd_base.specs.declared.op.Entry.{Entry}
use Rattle.qd_base.specs.declared.part.Part.{Part}
use Rattle.qd_base.specs.declared.schema.Schema.{Schema}
use Rattle.qd_base.specs.Database.{Database, StoredTable, schemas_of}
use Rattle.qd_base.specs.Lawful.{AreSchemas, IsSchema, LawfulFrom}
use Rattle.qd_base.specs.Replay.{replay}
use Rattle.qd_base.specs.Rows.{Row}
use Rattle.qd_base.specs.Schemas.{HasNoSetKeys}
use Rattle.qd_base.proofs.Lists.{each-from_map}
use Rattle.qd_block.specs.Blocks.{Block}
use Rattle.qd_catalog.specs.declared.version.Version.{Version}
use Rattle.qd_manifest.specs.declared.shape.TableParts.{TableParts}
use Rattle.qd_manifest.specs.declared.shape.TheConstants.{BLOCKS_PER_TRANSACTION}
use Rattle.qd_manifest.specs.Spelling.{rows_shown, schemas_in, AreParts, IsManifest}
use Rattle.qd_merge.proofs.Wide.{map-map}
use Rattle.qd_rows.specs.Sets.{absent}
use Rattle.qd_scan.specs.Sources.{table_rows}
use Rattle.qd_apply.specs.declared.olds.Late.{Late}
use Rattle.qd_apply.specs.declared.olds.OldPart.{OldPart}
use Rattle.qd_apply.specs.Olds.{all_late, cut, old_read}
use Rattle.qd_apply.specs.Stands.{rows_in_parts, StandsFor}
use Rattle.qd_apply.proofs.ShapeLemmas.{shown}
use Rattle.qd_versions.specs.Stores.{manifest_in}
use Rattle.qd_store.specs.Drafting.{number_there, old_there, AreRead, IsReadOf}
use Rattle.qd_store.specs.Drafts.{plan_of, Drafted, IsDraftInto}
use Rattle.qd_store.proofs.Fillers.{Fits, filler, filler_fits}
use Rattle.qd_apply.proofs.RowCountLemmas.{replay_few, AreFew}
use Rattle.qd_store.proofs.PlacedParts.{among_tables, each_placed, number, numbers_are, of_each, place, placed, Placed}
use Rattle.qd_store.proofs.Serving.{chosen, chosen_are, chosen_serve, fillers, fillers_serve, one_serves, HaveFillers, Serves}
use Rattle.qd_store.proofs.LateNumbers.{its_number, numbers_apart, numbers_at}
use Rattle.qd_store.proofs.LateParts.{all_read}

-- ---- blocks of which what is read is

-- what is read of some parts, over their blocks
abbrev cuts : ℕ → List Late → List Block → List OldPart
cuts split [] blocks = []
cuts split (l ∷ ls) [] = []
cuts split (l ∷ ls) (b ∷ bs) = cut split l.first b ∷ cuts split ls bs

module _ (split : ℕ) (shape : List TableParts) where
  blocks_read : (lates : List Late) (olds : List OldPart) → AllZip (IsReadOf split shape) lates olds → List Block
  blocks_read [] [] read = []
  blocks_read [] (o ∷ os) read = absurd read
  blocks_read (l ∷ ls) [] read = absurd read
  blocks_read (l ∷ ls) (o ∷ os) read = read.0.block ∷ blocks_read ls os read.1

  olds_are : (lates : List Late) (olds : List OldPart) (read : AllZip (IsReadOf split shape) lates olds) → olds ≡ cuts split lates (blocks_read lates olds read)
  unfolding blocks_read
  olds_are [] [] read = refl
  olds_are [] (o ∷ os) read = absurd read
  olds_are (l ∷ ls) [] read = absurd read
  olds_are (l ∷ ls) (o ∷ os) read = ap₂ (λ (a : OldPart) (l : List OldPart). a ∷ l) read.0.read (olds_are ls os read.1)

  cuts_of : (contents : ℕ → Block) (lates : List Late) → cuts split lates (map contents (map (number_there shape) lates)) ≡ map (old_there contents split shape) lates
  cuts_of contents [] = refl
  cuts_of contents (l ∷ ls) = ap (λ (os : List OldPart). old_there contents split shape l ∷ os) (cuts_of contents ls)

  module _ (apart : IsDistinct nat_eq (map number (placed shape))) where
    read_serves : (late : Late) (old : OldPart) (is : IsReadOf split shape late old) → Serves (placed shape) (number_there shape late) is.block
    read_serves late old is =
        let there = is.there in
        subst (λ (n : ℕ). Serves (placed shape) n is.block) (sym (its_number shape late there.table there.part there.its_table there.its_part))
        (one_serves (placed shape) (place there.table.schema there.part) is.block apart (among_tables shape late.table late.part there.table there.part there.its_table there.its_part) (record { of = is.of; whole = is.whole }))

    blocks_serve : (lates : List Late) (olds : List OldPart) (read : AllZip (IsReadOf split shape) lates olds) → AllZip (Serves (placed shape)) (map (number_there shape) lates) (blocks_read lates olds read)
    unfolding blocks_read
    blocks_serve [] [] read = tt
    blocks_serve [] (o ∷ os) read = absurd read
    blocks_serve (l ∷ ls) [] read = absurd read
    blocks_serve (l ∷ ls) (o ∷ os) read = (read_serves l o read.0, blocks_serve ls os read.1)

-- blocks that serve for all numbers fit each part by its own
own_fits : (contents : ℕ → Block) (list : List Placed) → ((n : ℕ) → Serves list n (contents n))
    → AllByRecursion (λ (x : Placed). Fits x.schema x.part (contents (number x))) list
own_fits contents [] serve = tt
own_fits contents (x ∷ xs) serve = ((serve (number x)).0 refl, own_fits contents xs (λ n. (serve n).1))

-- ---- the tables that they come to

abbrev pub HaveBlocks : (ℕ → Block) → List TableParts → Type 0
HaveBlocks contents shape = All (λ (t : TableParts). All (λ (p : Part). Fits t.schema p (contents p.block)) t.parts) shape

stand : (contents : ℕ → Block) (shape : List TableParts) → All (λ (t : TableParts). AreParts t.schema t.parts) shape → HaveBlocks contents shape
    → StandsFor contents shape (shown contents shape)
stand contents shape parts have = record {
  schemas = sym (map-map (λ (t : StoredTable). t.schema) (λ (t : TableParts). let x : StoredTable = record { schema = t.schema; rows = rows_in_parts t.schema.cols contents t.parts } in x) shape);
  parts = parts;
  whole = λ k d lt i e within. (have k d lt i e within).whole;
  fit = λ k d lt i e within. (have k d lt i e within).of;
  rows = sym (map-map (λ (t : StoredTable). t.rows) (λ (t : TableParts). let x : StoredTable = record { schema = t.schema; rows = rows_in_parts t.schema.cols contents t.parts } in x) shape);
}

-- a table has as many rows as its parts show
rows_count : (s : Schema) (contents : ℕ → Block) (parts : List Part) → All (λ (p : Part). Fits s p (contents p.block)) parts
    → length (rows_in_parts s.cols contents parts) ≡ rows_shown parts
rows_count s contents [] have = refl
rows_count s contents (p ∷ ps) have =
    let Own : Part → Type 0 = λ q. Fits s q (contents q.block) in
    let b : Block = contents p.block in
    let here : length (table_rows s.cols b) ≡ p.rows = length-map b.rows (λ (r : Row). r ++ absent (drop (length b.kinds) s.cols)) ∙ (All-head Own p ps have).of.rows in
    let later = rows_count s contents ps (All-tail Own p ps have) in
    omega (arith, here, later, length-append (table_rows s.cols b) (rows_in_parts s.cols contents ps), sum_by-cons (λ (q : Part). q.rows) p ps)

shown_few : (most : ℕ) (contents : ℕ → Block) (shape : List TableParts) → All (λ (t : TableParts). rows_shown t.parts ≤ most) shape
    → HaveBlocks contents shape → AreFew most (shown contents shape)
shown_few most contents [] few have = tt
shown_few most contents (t ∷ ts) few have =
    let Few : TableParts → Type 0 = λ x. rows_shown x.parts ≤ most in
    let Have : TableParts → Type 0 = λ x. All (λ (p : Part). Fits x.schema p (contents p.block)) x.parts in
    let count = rows_count t.schema contents t.parts (All-head Have t ts have) in
    let first = All-head Few t ts few in
    (omega (arith, count, first), shown_few most contents ts (All-tail Few t ts few) (All-tail Have t ts have))

-- ---- a version has fillers

have_fillers : (shape : List TableParts) → AreSchemas (schemas_in shape) → All (λ (t : TableParts). AreParts t.schema t.parts) shape
    → HaveFillers (placed shape)
have_fillers shape schemas parts =
    let sound : All (λ (t : TableParts). IsSchema t.schema) shape =
    All-from_recursion (λ (t : TableParts). IsSchema t.schema) shape (each-from_map (λ (t : TableParts). t.schema) IsSchema shape (recursion_from_All IsSchema (schemas_in shape) schemas.each)) in
    each_placed (λ (x : Placed). Fits x.schema x.part (filler x.schema x.part)) shape
    (λ k d lt i e within. filler_fits (get_or shape k d).schema (get_or (get_or shape k d).parts i e) (sound k d lt) ((parts k d lt).each i e within) ((parts k d lt).each i e within).one_time)

-- A version whose manifest is sound may have blocks: of those of the parts that rows are merged into it is read what is at hand. The
-- database that it then stands for has room for the transactions.
pub filled : (written : List (List ℕ)) (split next : ℕ) (x : Version) (es : List Entry) (olds : List OldPart)
    → IsManifest x.n (manifest_in next x.shape) → LawfulFrom (schemas_in x.shape) es
    → x.n + length es ≤ 2 ^ 30
    → AreRead written split x.shape (plan_of written split next x es).tables olds
    → (contents : ℕ → Block) × (db : Database) × StandsFor contents x.shape db × (schemas_of db ≡ schemas_in x.shape) × (olds ≡ old_read contents written split x.shape (plan_of written split next x es).tables) × All (λ (t : StoredTable). length t.rows < 2 ^ 64) (replay db es)
filled written split next x es olds manifest lawful room read =
    let shape : List TableParts = x.shape in
    let list : List Placed = placed shape in
    let ts : List StoredTable = (plan_of written split next x es).tables in
    let lates : List Late = all_late 0 written split shape ts in
    let ns : List ℕ = map (number_there shape) lates in
    let blocks : List Block = blocks_read split shape lates olds read in
    let contents : ℕ → Block = chosen ns blocks (fillers list) in
    let db : Database = shown contents shape in
    let apart : IsDistinct nat_eq (map number list) = subst (IsDistinct nat_eq) (sym (numbers_are shape)) manifest.distinct in
    let fill = have_fillers shape manifest.schemas manifest.parts in
    let zip : AllZip (Serves list) ns blocks = blocks_serve split shape apart lates olds read in
    let serve : (n : ℕ) → Serves list n (contents n) = chosen_serve list ns blocks (fillers list) zip (λ n. fillers_serve list n apart fill) in
    let have : HaveBlocks contents shape = of_each (λ (y : Placed). Fits y.schema y.part (contents (number y))) shape (own_fits contents list serve) in
    let stands : StandsFor contents shape db = stand contents shape manifest.parts have in
    let same : schemas_of db ≡ schemas_in shape = sym stands.schemas in
    let ns_apart : IsDistinct nat_eq ns = subst (IsDistinct nat_eq) (sym (numbers_at written split shape ts)) (numbers_apart written split shape ts manifest.distinct) in
    let are : map contents ns ≡ blocks = chosen_are (Serves list) ns blocks (fillers list) ns_apart zip in
    let most : ℕ = x.n * BLOCKS_PER_TRANSACTION in
    let few = shown_few most contents shape manifest.few have in
    let grown = replay_few most db es (subst AreSchemas (sym same) manifest.schemas) (subst (λ (l : List Schema). LawfulFrom l es) (sym same) lawful) few in (
      contents,
      db,
      stands,
      same,
      (olds_are split shape lates olds read ∙ ap (cuts split lates) (sym are) ∙ cuts_of split shape contents lates ∙ all_read shape contents split 0 written shape ts refl),
      (λ k d lt. let le = All-from_recursion (λ (t : StoredTable). length t.rows ≤ most + length es * BLOCKS_PER_TRANSACTION) (replay db es) grown k d lt in omega (arith, le, room)),
    )

-- So transactions that come behind such a version, planned, with what their merge reads, are a draft into it.
pub drafted : (written : List (List ℕ)) (split next : ℕ) (x : Version) (es : List Entry) (d : Drafted)
    → IsManifest x.n (manifest_in next x.shape) → LawfulFrom (schemas_in x.shape) es → HasNoSetKeys (drop 1 es)
    → 0 < length es → x.n + length es ≤ 2 ^ 30
    → d.plan ≡ plan_of written split next x es → AreRead written split x.shape (plan_of written split next x es).tables d.olds
    → IsDraftInto next x d
drafted written split next x es d manifest lawful keys some room plan read =
    let found = filled written split next x es d.olds manifest lawful room read in (
      es,
      found.0,
      found.1,
      record {
        follows = record {
          manifest = manifest;
          stands = found.2;
          lawful = subst (λ (l : List Schema). LawfulFrom l es) (sym found.3) lawful;
          keys = keys;
          some = some;
          room = room;
          few = found.5;
        };
        written = written;
        split = split;
        plan = plan;
        read = found.4;
      },
    )
