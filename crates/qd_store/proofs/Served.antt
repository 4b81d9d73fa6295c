-- What a draft has read serves its merge, and there are numbers for those that it writes.
use Rattle.std.proofs.Common.{◌≡◌, ℕ, ◌+◌, ◌*◌, ◌^◌, ◌<◌, ◌≤◌, ◌++◌, ◌&&◌, leb, nat_eq, cond, Bool, true, false, List, [], ◌∷◌, Some, get_or, length, map, take, refl, sym, ◌∙◌, ap, subst, arith, length-append}
use Rattle.std.specs.List.{flat_map, AllByRecursion}
use Rattle.std.proofs.lemmas.List.{drop_at, get_or-map, length-map, take_at}
use Rattle.std.proofs.lemmas.List.Elements.{All-from_recursion}
use Rattle.qd_base.specs.declared.op.Entry.{Entry}
use Rattle.qd_base.specs.declared.part.Part.{Part}
use Rattle.qd_base.specs.declared.schema.Schema.{Schema}
use Rattle.qd_base.specs.Database.{Database, StoredTable}
use Rattle.qd_base.specs.Rows.{Row}
use Rattle.qd_block.specs.Blocks.{Block, kinds_in}
use Rattle.qd_catalog.specs.declared.version.Version.{Version}
use Rattle.qd_manifest.specs.declared.shape.TableParts.{TableParts}
use Rattle.qd_manifest.specs.declared.shape.TheConstants.{BLOCKS_PER_TRANSACTION}
use Rattle.qd_manifest.specs.Spelling.{no_part, schemas_in}
use Rattle.qd_merge.specs.declared.plan.Act.{Act}
use Rattle.qd_merge.specs.declared.plan.Act.TheVariants as act
use Rattle.qd_merge.specs.declared.shares.Rules.{Rules}
use Rattle.qd_merge.specs.declared.shares.Share.{Share}
use Rattle.qd_merge.specs.declared.shares.Share.TheVariants as share
use Rattle.qd_merge.specs.Acts.{before}
use Rattle.qd_merge.specs.Shares.{acts_on, split_on}
use Rattle.qd_scan.specs.Sources.{IsBlockOf}
use Rattle.qd_versions.specs.Stores.{manifest_in}
use Rattle.qd_apply.specs.Arrivals.{arrivals, rest}
use Rattle.qd_apply.specs.Drafts.{Planning}
use Rattle.qd_apply.specs.declared.olds.OldPart.{OldPart}
use Rattle.qd_apply.specs.Given.{reads, writes, written_by, IsEarlier, IsOld as IsOldRest}
use Rattle.qd_apply.specs.Laws.{Merges, MergingStands}
use Rattle.qd_apply.specs.Next.{all_made, batch_of, blocks_made, first_counts, first_parts, made_after, no_piece, pieces_in, rules_of, shares_of, table_made, times_in, Piece}
use Rattle.qd_apply.specs.Olds.{late_by, old_read, part_read}
use Rattle.qd_apply.specs.Plans.{writes_in, AreOldsFor}
use Rattle.qd_apply.proofs.PieceLemmas.{IsPiece}
use Rattle.qd_apply.proofs.ServeLemmas.{made_again}
use Rattle.qd_apply.proofs.ShapeLemmas.{first_pieces, AreGrown, IsOld}
use Rattle.qd_apply.proofs.VersionLemmas.{all_old}
use Rattle.qd_store.specs.Drafts.{plan_of, Drafted, IsSomeDraft, MayFollow}
use Rattle.qd_store.proofs.GrownTables.{batches_grown}
use Rattle.qd_store.proofs.LateNumbers.{rises_low, table_rises, touched}

-- ---- what is read

-- a part's block is one of the table's first columns
earlier_block : (s : Schema) (p : Part) (b : Block) → IsBlockOf s p b → IsEarlier s b
earlier_block s p b is = record {
  kinds = ap (λ (n : ℕ). take n (kinds_in s.cols)) is.columns ∙ sym is.kinds;
  time_col = is.time_col;
}

late_count : (n : ℕ) (times : List ℕ) (list : List Share) → length (late_by n times list) ≡ reads list
late_count n times [] = refl
late_count n times (share.Keep k ∷ list) = let e = late_count n times list in omega (arith, e)
late_count n times (share.Append k i j ∷ list) = let e = late_count n times list in omega (arith, e)
late_count n times (share.Merge k i j ∷ list) = let e = late_count n times list in omega (arith, e)
late_count n times (share.New i j ∷ list) = let e = late_count n times list in omega (arith, e)

earlier_part : (blocks : ℕ → Block) (s : Schema) (parts : List Part) (n : ℕ) → AllByRecursion (IsPiece s) (pieces_in blocks parts) → n < length parts → IsEarlier s (blocks (get_or parts n no_part).block)
earlier_part blocks s parts n each low = earlier_block s (get_or parts n no_part) (blocks (get_or parts n no_part).block) there.block
  where
    within : n < length (pieces_in blocks parts)
    within = omega (arith, low, length-map parts (λ (q : Part). let x : Piece = record { part = q; block = blocks q.block } in x))

    there : IsPiece s (record { part = get_or parts n no_part; block = blocks (get_or parts n no_part).block })
    there = subst (IsPiece s) (get_or-map (λ (q : Part). let x : Piece = record { part = q; block = blocks q.block } in x) parts n no_part no_piece low) (All-from_recursion (IsPiece s) (pieces_in blocks parts) each n no_piece within)

earlier_parts : (blocks : ℕ → Block) (split : ℕ) (s : Schema) (parts : List Part) (n : ℕ) (times : List ℕ) (list : List Share) → AllByRecursion (IsPiece s) (pieces_in blocks parts)
    → AllByRecursion (λ (k : ℕ). k < length parts) (touched list) → AllByRecursion (IsOldRest s) (map (part_read blocks split parts) (late_by n times list))
earlier_parts blocks split s parts n times [] each low = tt
earlier_parts blocks split s parts n times (share.Keep k ∷ list) each low = earlier_parts blocks split s parts n times list each low
earlier_parts blocks split s parts n times (share.Append k i j ∷ list) each low = earlier_parts blocks split s parts n times list each low
earlier_parts blocks split s parts n times (share.Merge k i j ∷ list) each low =
    let e = earlier_part blocks s parts k each low.0 in
    (record { kinds = e.kinds; time_col = e.time_col }, earlier_parts blocks split s parts n times list each low.1)
earlier_parts blocks split s parts n times (share.New i j ∷ list) each low = earlier_parts blocks split s parts n times list each low

old_rest : (blocks : ℕ → Block) (shape : List TableParts) → AllByRecursion (IsOld blocks) shape → AllByRecursion (IsOld blocks) (rest shape)
old_rest blocks [] old = tt
old_rest blocks (x ∷ xs) old = old.1

serves : (blocks : ℕ → Block) (written : List (List ℕ)) (split : ℕ) (shape : List TableParts) (ts : List StoredTable) → AllByRecursion (IsOld blocks) shape → AreGrown shape ts
    → AreOldsFor written split shape ts (old_read blocks written split shape ts)
serves blocks written split shape [] old grown = refl
serves blocks written split shape (t ∷ ts) old grown =
    let parts : List Part = first_parts shape in
    let list : List Share = shares_of (first_counts written) split parts t in
    let times : List ℕ = times_in t.schema (batch_of t) in
    let front : List OldPart = map (part_read blocks split parts) (late_by 0 times list) in
    let back : List OldPart = old_read blocks (rest written) split (rest shape) ts in
    let count : length front ≡ reads list = length-map (late_by 0 times list) (part_read blocks split parts) ∙ late_count 0 times list in
    let low = rises_low (length parts) 0 (touched list) (table_rises (first_counts written) split parts t) in
    let here = earlier_parts blocks split t.schema parts 0 times list (first_pieces blocks shape t old grown.0) low in (
      omega (arith, count, length-append front back),
      subst (AllByRecursion (IsOldRest t.schema)) (sym (take_at front back (reads list) count)) here,
      subst (AreOldsFor (rest written) split (rest shape) ts) (sym (drop_at front back (reads list) count)) (serves blocks (rest written) split (rest shape) ts (old_rest blocks shape old) grown.1),
    )

-- ---- blocks that are written

acts_written : (s : Schema) (old : List Piece) (rows : List Row) (a b : List Act) → length (blocks_made s old rows (a ++ b)) ≡ length (blocks_made s old rows a) + length (blocks_made s old rows b)
acts_written s old rows [] b = omega arith
acts_written s old rows (act.Keep p ∷ a) b = acts_written s old rows a b
acts_written s old rows (act.Append p i j ∷ a) b = acts_written s old rows a b
acts_written s old rows (act.Shorten p n ∷ a) b = acts_written s old rows a b
acts_written s old rows (act.Write p skip i j ∷ a) b = let e = acts_written s old rows a b in omega (arith, e)

-- a part whose first rows stay writes one block, as one that is written whole does
split_written : (s : Schema) (old : List Piece) (rows : List Row) (r : Rules) (part count all i j : ℕ) → length (blocks_made s old rows (split_on r part count all i j)) ≡ 1
split_written s old rows r part count all i j = by (leb 1 count && leb r.split_rows count) (nat_eq count all)
  where
    by : (splits whole : Bool) → length (blocks_made s old rows (cond splits (cond whole (act.Keep part) (act.Shorten part count) ∷ act.Write (Some part) count i j ∷ []) (act.Write (Some part) 0 i j ∷ []))) ≡ 1
    by true true = refl
    by true false = refl
    by false whole = refl

share_written : (s : Schema) (old : List Piece) (rows : List Row) (r : Rules) (olds : ℕ → List ℕ) (times : List ℕ) (a : Share) → length (blocks_made s old rows (acts_on r olds times a)) ≡ written_by a
share_written s old rows r olds times (share.Keep n) = refl
share_written s old rows r olds times (share.Append n i j) = refl
share_written s old rows r olds times (share.Merge n i j) = split_written s old rows r n (before (get_or times i 0) (olds n)) (length (olds n)) i j
share_written s old rows r olds times (share.New i j) = refl

shares_written : (s : Schema) (old : List Piece) (rows : List Row) (r : Rules) (olds : ℕ → List ℕ) (times : List ℕ) (list : List Share) → length (blocks_made s old rows (flat_map (acts_on r olds times) list)) ≡ writes list
shares_written s old rows r olds times [] = refl
shares_written s old rows r olds times (a ∷ list) =
    let here = share_written s old rows r olds times a in
    let later = shares_written s old rows r olds times list in
    omega (arith, acts_written s old rows (acts_on r olds times a) (flat_map (acts_on r olds times) list), here, later)

all_written : (blocks : ℕ → Block) (written : List (List ℕ)) (split : ℕ) (shape : List TableParts) (ts : List StoredTable) → length (all_made blocks written split shape ts) ≡ writes_in written split shape ts
all_written blocks written split shape [] = refl
all_written blocks written split shape (t ∷ ts) =
    let parts : List Part = first_parts shape in
    let counts : List ℕ = first_counts written in
    let here : length (table_made blocks counts split parts t) ≡ writes (shares_of counts split parts t) =
    shares_written t.schema (pieces_in blocks parts) (batch_of t) (rules_of split t.schema) (λ n. times_in t.schema (blocks (get_or parts n no_part).block).rows) (times_in t.schema (batch_of t)) (shares_of counts split parts t) in
    let later = all_written blocks (rest written) split (rest shape) ts in
    omega (arith, here, later, length-append (table_made blocks counts split parts t) (all_made blocks (rest written) split (rest shape) ts))

-- ---- a draft

module _ (law : MergingStands) (next : ℕ) (x : Version) (es : List Entry) (contents : ℕ → Block) (db : Database) (written : List (List ℕ)) (split : ℕ) where
  -- transactions that may follow a version make one that stands
  pub followed : MayFollow next x es contents db → Merges contents written split x.n (manifest_in next x.shape) db es
  followed follows = (
      let few : x.n + length es ≤ 2 ^ 30 = follows.room in
      let room : (x.n + length es) * BLOCKS_PER_TRANSACTION < 2 ^ 64 = omega (arith, few) in
      law contents written split x.n (manifest_in next x.shape) db es follows.manifest follows.stands follows.lawful follows.keys room follows.few
      )

  plan_served : MayFollow next x es contents db → AreOldsFor written split x.shape (plan_of written split next x es).tables (old_read contents written split x.shape (plan_of written split next x es).tables)
  plan_served follows = serves contents written split x.shape (plan_of written split next x es).tables (all_old contents x.shape db follows.stands) (batches_grown x.shape es)

  -- how many blocks the plan writes
  pub plan_written : length (made_after contents written split x.shape es) ≡ writes_in written split x.shape (plan_of written split next x es).tables
  plan_written =
      ap length (sym (made_again contents written split x.shape (arrivals (schemas_in x.shape) es)))
      ∙ all_written contents written split x.shape (plan_of written split next x es).tables

  plan_room : MayFollow next x es contents db → next + writes_in written split x.shape (plan_of written split next x es).tables < 2 ^ 64
  plan_room follows = let fits = (followed follows).manifest.next_fits in omega (arith, fits, plan_written)

-- what a plan's merge asks for
abbrev pub IsServed : Planning → List OldPart → Type 0
IsServed plan given = AreOldsFor plan.written plan.split_rows plan.shape plan.tables given × (plan.next_block + writes_in plan.written plan.split_rows plan.shape plan.tables < 2 ^ 64)

pub draft_serves : MergingStands → (d : Drafted) → IsSomeDraft d → IsServed d.plan d.olds
draft_serves law d (next, x, (es, contents, db, is)) =
    subst (λ (g : List OldPart). IsServed d.plan g) (sym is.read)
    (subst (λ (plan : Planning). IsServed plan (old_read contents is.written is.split x.shape (plan_of is.written is.split next x es).tables)) (sym is.plan)
    (plan_served law next x es contents db is.written is.split is.follows, plan_room law next x es contents db is.written is.split is.follows))
