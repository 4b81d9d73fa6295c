-- The parts that rows are merged into: each is there, and what is read of it is of the block that its files hold.
use Rattle.std.proofs.Common.{◌≡◌, ℕ, zero, suc, ◌+◌, ◌<◌, ◌≤◌, Bool, true, false, cond, ◌&&◌, leb, ltb, nat_eq, ◌-◌, List, [], ◌∷◌, ◌++◌, drop, filter, length, map, Some, Ok, Err, get_or, slice_get, refl, sym, ap, ap₂, ◌∙◌, arith}
use Rattle.std.specs.List.{AllByRecursion}
use Rattle.std.proofs.lemmas.List.{map-append}
use Rattle.std.proofs.lemmas.List.Elements.{All-contains}
use Rattle.std.proofs.lemmas.Option.{slice_get-get_or}
use Rattle.qd_base.specs.declared.op.Entry.{Entry}
use Rattle.qd_base.specs.declared.part.Part.{Part}
use Rattle.qd_base.specs.declared.schema.Schema.{Schema}
use Rattle.qd_base.specs.Database.{StoredTable}
use Rattle.qd_base.specs.Replay.{first}
use Rattle.qd_base.specs.Rows.{Row, cell_at, time_in, time_of}
use Rattle.qd_block.specs.Blocks.{Block, IsWhole, column_in}
use Rattle.qd_catalog.specs.declared.version.Version as catalog
use Rattle.qd_catalog.specs.Versions.{version_at}
use Rattle.qd_column.specs.Cells.{CellsOf}
use Rattle.qd_column_format.specs.Laws.{OneColumnIsSpelled}
use Rattle.qd_column_files.specs.Files.{HoldsBlock, column_file}
use Rattle.qd_column_files.specs.Laws.{OneBlockIsHeld}
use Rattle.qd_column_files.specs.Rests.{rest_of}
use Rattle.qd_column_files.proofs.ColumnLemmas.{block_column}
use Rattle.qd_durable.specs.declared.fault.LogFault.TheVariants as fault
use Rattle.qd_manifest.specs.declared.shape.TableParts.{TableParts}
use Rattle.qd_manifest.specs.Spelling.{blocks_of, no_part, AreParts, IsPart}
use Rattle.qd_merge.specs.declared.shares.Share.{Share}
use Rattle.qd_merge.specs.declared.shares.Share.TheVariants as share
use Rattle.qd_merge.specs.Acts.{before}
use Rattle.qd_merge.proofs.Wide.{map-map}
use Rattle.qd_scan.specs.Sources.{IsBlockOf}
use Rattle.qd_txnfile.specs.Versions.{Version}
use Rattle.qd_volume.specs.Disk.{Disk, Image, reads_of}
use Rattle.qd_apply.specs.declared.olds.Late.{Late}
use Rattle.qd_apply.specs.declared.olds.OldPart.{OldPart}
use Rattle.qd_apply.specs.declared.olds.Stay.{Stay}
use Rattle.qd_apply.specs.declared.olds.Stay.TheVariants as stay
use Rattle.qd_apply.specs.Arrivals.{rest}
use Rattle.qd_apply.specs.Next.{batch_of, first_counts, first_parts, shares_of, times_in}
use Rattle.qd_apply.specs.Olds.{all_late, cut, cut_at, late_by, old_read, part_read, rows_staying, stay_of, table_late, times_of}
use Rattle.qd_apply.specs.Stands.{StandsFor}
use Rattle.qd_store.specs.Damage.{IsOldOf, IsPartRead, IsThere}
use Rattle.qd_store.specs.Drafting.{old_there}
use Rattle.qd_store.specs.Prefixes.{IsShown}
use Rattle.qd_store.specs.Stores.{Book, IsStore}
use Rattle.qd_store.proofs.LateNumbers.{drop_rest, its_number, rises_low, table_rises, touched}
use Rattle.qd_store.proofs.Opened.{in_shape}
use Rattle.qd_store.proofs.PartsRead.{got, held_there, not_damaged, part_fits, there_whole}
use Rattle.qd_store.proofs.Unique.{stands_one}

-- ---- the parts of all tables

parts_low : (counts : List ℕ) (split : ℕ) (parts : List Part) (t : StoredTable) → AllByRecursion (λ n. n < length parts) (touched (shares_of counts split parts t))
parts_low counts split parts t = rises_low (length parts) 0 (touched (shares_of counts split parts t)) (table_rises counts split parts t)

table_there : (n : ℕ) (whole : List TableParts) (t : TableParts) (ts : List TableParts) → drop n whole ≡ t ∷ ts → slice_get whole n ≡ Some t
table_there zero [] t ts e = cc
table_there zero (u ∷ us) t ts e = ap (λ (l : List TableParts). slice_get l 0) e
table_there (suc n) [] t ts e = cc
table_there (suc n) (u ∷ us) t ts e = table_there n us t ts e

each_joined : {X : Type 0} (P : X → Type 0) (xs ys : List X) → AllByRecursion P xs → AllByRecursion P ys → AllByRecursion P (xs ++ ys)
each_joined P [] ys a b = b
each_joined P (x ∷ xs) ys a b = (a.0, each_joined P xs ys a.1 b)

module _ (whole : List TableParts) where
  in_table : (n : ℕ) (times : List ℕ) (t : TableParts) (ts : List TableParts) → drop n whole ≡ t ∷ ts → (list : List Share) → AllByRecursion (λ k. k < length t.parts) (touched list) → AllByRecursion (IsThere whole) (late_by n times list)
  in_table n times t ts e [] low = tt
  in_table n times t ts e (share.Keep k ∷ list) low = in_table n times t ts e list low
  in_table n times t ts e (share.Append k i j ∷ list) low = in_table n times t ts e list low
  in_table n times t ts e (share.Merge k i j ∷ list) low =
      (record { table = t; part = get_or t.parts k no_part; its_table = table_there n whole t ts e; its_part = slice_get-get_or t.parts k no_part low.0 }, in_table n times t ts e list low.1)
  in_table n times t ts e (share.New i j ∷ list) low = in_table n times t ts e list low

  none_in_table : (n : ℕ) (times : List ℕ) (list : List Share) → AllByRecursion (λ k. k < 0) (touched list) → AllByRecursion (IsThere whole) (late_by n times list)
  none_in_table n times [] low = tt
  none_in_table n times (share.Keep k ∷ list) low = none_in_table n times list low
  none_in_table n times (share.Append k i j ∷ list) low = none_in_table n times list low
  none_in_table n times (share.Merge k i j ∷ list) low = absurd (omega (arith, low.0))
  none_in_table n times (share.New i j ∷ list) low = none_in_table n times list low

  one_table : (n : ℕ) (counts : List ℕ) (split : ℕ) (shape : List TableParts) → drop n whole ≡ shape → (t : StoredTable) → AllByRecursion (IsThere whole) (table_late n counts split (first_parts shape) t)
  one_table n counts split [] e t = none_in_table n (times_in t.schema (batch_of t)) (shares_of counts split [] t) (parts_low counts split [] t)
  one_table n counts split (u ∷ us) e t = in_table n (times_in t.schema (batch_of t)) u us e (shares_of counts split u.parts t) (parts_low counts split u.parts t)

  pub all_there : (n : ℕ) (written : List (List ℕ)) (split : ℕ) (shape : List TableParts) (tables : List StoredTable) → drop n whole ≡ shape → AllByRecursion (IsThere whole) (all_late n written split shape tables)
  all_there n written split shape [] e = tt
  all_there n written split shape (t ∷ ts) e =
      each_joined (IsThere whole) (table_late n (first_counts written) split (first_parts shape) t) (all_late (n + 1) (rest written) split (rest shape) ts)
      (one_table n (first_counts written) split shape e t) (all_there (n + 1) (rest written) split (rest shape) ts (drop_rest n whole shape e))

  -- what is read of them, over blocks by their numbers
  module _ (contents : ℕ → Block) (split : ℕ) where
    table_read : (n : ℕ) (times : List ℕ) (shape : List TableParts) → drop n whole ≡ shape → (list : List Share) → map (old_there contents split whole) (late_by n times list) ≡ map (part_read contents split (first_parts shape)) (late_by 0 times list)
    table_read n times shape e [] = refl
    table_read n times shape e (share.Keep k ∷ list) = table_read n times shape e list
    table_read n times shape e (share.Append k i j ∷ list) = table_read n times shape e list
    table_read n times shape e (share.Merge k i j ∷ list) =
        let first : ℕ = get_or times i 0 in
        ap₂ (λ (o : OldPart) (os : List OldPart). o ∷ os) (ap (λ (l : List TableParts). cut split first (contents (get_or (first_parts l) k no_part).block)) e) (table_read n times shape e list)
    table_read n times shape e (share.New i j ∷ list) = table_read n times shape e list

    pub all_read : (n : ℕ) (written : List (List ℕ)) (shape : List TableParts) (tables : List StoredTable) → drop n whole ≡ shape → map (old_there contents split whole) (all_late n written split shape tables) ≡ old_read contents written split shape tables
    all_read n written shape [] e = refl
    all_read n written shape (t ∷ ts) e =
        map-append (old_there contents split whole) (table_late n (first_counts written) split (first_parts shape) t) (all_late (n + 1) (rest written) split (rest shape) ts)
        ∙ ap₂ (λ (a b : List OldPart). a ++ b)
        (table_read n (times_in t.schema (batch_of t)) shape e (shares_of (first_counts written) split (first_parts shape) t))
        (all_read (n + 1) (rest written) (rest shape) ts (drop_rest n whole shape e))

-- ---- how many rows stay

before_few : (moment : ℕ) (times : List ℕ) → before moment times ≤ length times
before_few moment [] = omega arith
before_few moment (t ∷ ts) = by (ltb t moment) (before_few moment ts)
  where
    by : (low : Bool) → before moment ts ≤ length ts → length (cond low (t ∷ filter (λ x. ltb x moment) ts) (filter (λ x. ltb x moment) ts)) ≤ length (t ∷ ts)
    by true few = omega (arith, few)
    by false few = omega (arith, few)

pub staying_few : (split moment : ℕ) (times : List ℕ) → rows_staying (stay_of split moment times) (length times) ≤ length times
staying_few split moment times = by (ltb 0 (before moment times) && leb split (before moment times)) (nat_eq (before moment times) (length times))
  where
    by : (some all : Bool) → rows_staying (cond some (cond all stay.All (stay.First (before moment times) (get_or times (before moment times - 1) 0))) stay.Nothing) (length times) ≤ length times
    by true true = omega arith
    by true false = before_few moment times
    by false all = omega arith

-- ---- what is read of a part's files, over a block that they hold

module _ (spelled : OneColumnIsSpelled) (s : Schema) (p : Part) (part : IsPart s p) (split moment : ℕ) (old : OldPart) (image : Image) (is : IsOldOf split moment s p old image) (b : Block) (held : HoldsBlock p.block b image) (of : IsBlockOf s p b) (whole : IsWhole b) where
  abbrev times : CellsOf
  times = is.times

  -- the times that are read are the block's
  timed : column_in b s.time_col ≡ times
  timed =
      let own = block_column s p b s.time_col of part.timed whole part in
      let its = is.spelled.0 in
      spelled (image (column_file p.block s.time_col 0)) (image (column_file p.block s.time_col 1)) (column_in b s.time_col) times (own.kind ∙ sym its.kind) (own.rows ∙ sym its.rows)
      (held.each s.time_col (let few = part.timed in omega (arith, of.columns, few))) is.spelled.1

  moments_is : times_of b ≡ map time_in times.cells
  moments_is =
      ap (λ (n : ℕ). map (time_of n) b.rows) of.time_col
      ∙ sym (map-map time_in (λ (r : Row). cell_at r s.time_col) b.rows)
      ∙ ap (λ (c : CellsOf). map time_in c.cells) timed

  pub cut_is : old ≡ cut split moment b
  cut_is =
      let stays : old.stay ≡ stay_of split moment (times_of b) = is.stay ∙ ap (stay_of split moment) (sym moments_is) in
      let behind : old.rest ≡ rest_of (rows_staying old.stay p.rows) b = is.rest b (record { held = held; is = of; timed = timed }) in
      ap (λ (r : Block). let o : OldPart = record { stay = old.stay; rest = r } in o)
      (behind ∙ ap (λ (n : ℕ). rest_of (rows_staying old.stay n) b) (sym of.rows))
      ∙ ap (λ (y : Stay). cut_at y b) stays

-- ---- over a history

module _ (one : OneBlockIsHeld) (spelled : OneColumnIsSpelled) (s : Book) (h : List Entry) (next : Version) (disk : Disk) (is : IsStore s h next disk) (x : catalog.Version) (at : version_at s.versions.versions s.versions.versions.current ≡ Some x) (split : ℕ) (late : Late) where
  shown : IsShown h x.n x.shape disk
  shown = is.versions.live s.versions.versions.current x at

  its_part : (there : IsThere x.shape late) → IsPart there.table.schema there.part
  its_part there =
      let parts : AreParts there.table.schema there.table.parts = All-contains (λ (u : TableParts). AreParts u.schema u.parts) x.shape there.table shown.stands.parts (got x.shape late.table there.table there.its_table) in
      All-contains (IsPart there.table.schema) there.table.parts there.part parts.each (got there.table.parts late.part there.part there.its_part)

  -- it is what a merge reads over blocks by which the version stands for the history
  pub old_is : (old : OldPart) → IsPartRead split x.shape late (Ok old) (reads_of disk) → (contents : ℕ → Block) → StandsFor contents x.shape (first h x.n) → old ≡ old_there contents split x.shape late
  old_is old read contents stands =
      let there = read.there in
      let t : TableParts = there.table in
      let p : Part = there.part in
      let held = held_there one h x.n x.shape disk shown t p late.table late.part there.its_table there.its_part in
      let of = part_fits shown.blocks x.shape (first h x.n) shown.stands late.table late.part t p there.its_table there.its_part in
      let whole = there_whole one h x.n x.shape disk shown t p late.table late.part there.its_table there.its_part in
      let same : contents p.block ≡ shown.blocks p.block = All-contains (λ n. contents n ≡ shown.blocks n) (blocks_of x.shape) p.block
      (stands_one contents shown.blocks x.shape (first h x.n) stands shown.stands)
      (in_shape x.shape t p (got x.shape late.table t there.its_table) (got t.parts late.part p there.its_part)) in
      cut_is spelled t.schema p (its_part there) split late.first old (reads_of disk) read.read (shown.blocks p.block) held of whole
      ∙ ap (cut split late.first) (sym same ∙ ap contents (sym (its_number x.shape late t p there.its_table there.its_part)))

  -- its files aren't damaged
  pub not_lost : (file place : ℕ) → IsPartRead split x.shape late (Err (fault.Damaged file place)) (reads_of disk) → ⊥
  not_lost file place read =
      let there = read.there in
      not_damaged one h x.n x.shape disk shown there.table there.part late.table late.part there.its_table there.its_part file place read.read
