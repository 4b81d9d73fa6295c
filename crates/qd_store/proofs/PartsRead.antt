-- A part that is read of a version that stands for a history: its block, and its rows among the table's.
use Rattle.std.proofs.Common.{◌≡◌, ℕ, zero, suc, ◌+◌, ◌-◌, ◌<◌, ◌≤◌, List, [], ◌∷◌, ◌++◌, length, map, All, Contains, Option, Some, None, Result, Ok, Err, get_or, slice_get, refl, sym, ap, ap₂, ◌∙◌, subst, arith, append-nil, IfSome}
use Rattle.std.specs.List.{AllByRecursion}
use Rattle.std.proofs.lemmas.List.Elements.{All-contains, All-from_recursion, All-head, All-tail, All-weaker, filter-append}
use Rattle.std.proofs.lemmas.Option.{get_or_from_slice_get, slice_get_within}
use Rattle.qd_base.specs.declared.op.Entry.{Entry}
use Rattle.qd_base.specs.declared.part.Part.{Part}
use Rattle.qd_base.specs.declared.schema.Schema.{Schema}
use Rattle.qd_base.specs.Database.{Database, StoredTable}
use Rattle.qd_base.specs.Replay.{first}
use Rattle.qd_base.specs.Rows.{Row, time_of}
use Rattle.qd_block.specs.Blocks.{Block, IsWhole}
use Rattle.qd_apply.specs.Stands.{StandsFor, rows_in_parts}
use Rattle.qd_durable.specs.declared.fault.LogFault.{LogFault}
use Rattle.qd_durable.specs.declared.fault.LogFault.TheVariants as fault
use Rattle.qd_column_files.specs.Files.{HoldsBlock}
use Rattle.qd_column_files.specs.Laws.{OneBlockIsHeld}
use Rattle.qd_column_files.specs.Reading.{IsBlockRead}
use Rattle.qd_column_files.proofs.Below.{reads_left}
use Rattle.qd_manifest.specs.declared.shape.TableParts.{TableParts}
use Rattle.qd_manifest.specs.Spelling.{blocks_of, no_part, AreParts, IsPart}
use Rattle.qd_scan.specs.Sources.{rows_at, rows_between, rows_in_part, table_rows, IsBlockOf}
use Rattle.qd_scan.proofs.RowLemmas.{between_ends, table_each}
use Rattle.qd_scan.proofs.TimeLemmas.{all_between, is_between, none_between_before, none_between_behind}
use Rattle.qd_txnfile.specs.Versions.{Version}
use Rattle.qd_versions.specs.Reading.{IsPartAt}
use Rattle.qd_volume.specs.Disk.{Disk, reads_of}
use Rattle.qd_store.specs.Prefixes.{IsShown}
use Rattle.qd_store.specs.Reading.{IsShownPart}
use Rattle.qd_store.specs.Stores.{Book, IsStore}
use Rattle.qd_store.proofs.Opened.{in_shape}

-- ---- the rows of parts that stand in order of time

-- each part ends before the later ones begin
abbrev Ascends : List Part → Type 0
Ascends [] = Unit {0}
Ascends (p ∷ ps) = AllByRecursion (λ (q : Part). p.hi < q.lo) ps × Ascends ps

later : (s : Schema) (p q : Part) (qs : List Part) → p.hi < q.lo → q.lo ≤ q.hi → AllByRecursion (λ (r : Part). q.hi < r.lo) qs → AllByRecursion (λ (r : Part). p.hi < r.lo) qs
later s p q [] low up h = tt
later s p q (r ∷ rs) low up h = (omega (arith, low, up, h.0), later s p q rs low up h.1)

ascends : (s : Schema) (parts : List Part) → All (IsPart s) parts → ((i : ℕ) → suc i < length parts → (get_or parts i no_part).hi < (get_or parts (suc i) no_part).lo) → Ascends parts
ascends s [] each apart = tt
ascends s (p ∷ []) each apart = (tt, tt)
ascends s (p ∷ q ∷ qs) each apart =
    let rest = ascends s (q ∷ qs) (All-tail (IsPart s) p (q ∷ qs) each) (λ i lt. apart (suc i) (omega (arith, lt))) in
    let low : p.hi < q.lo = apart 0 (omega arith) in
    ((low, later s p q qs low (All-head (IsPart s) q qs (All-tail (IsPart s) p (q ∷ qs) each)).in_order rest.0), rest)

ascending : (s : Schema) (parts : List Part) → AreParts s parts → Ascends parts
ascending s parts are =
    ascends s parts are.each
    (λ i lt. subst (λ k. (get_or parts i no_part).hi < (get_or parts k no_part).lo) (one_more i) (are.apart i (omega (arith, lt))))
  where
    one_more : (i : ℕ) → i + 1 ≡ suc i
    one_more i = omega arith

-- a part with its block, as a version has it
record IsHeldPart (s : Schema) (blocks : ℕ → Block) (p : Part) : Type 0 where
  pub of : IsBlockOf s p (blocks p.block)
  pub whole : IsWhole (blocks p.block)

module _ (s : Schema) (blocks : ℕ → Block) where
  rows_here : Part → List Row
  rows_here p = table_rows s.cols (blocks p.block)

  each_between : (p : Part) → IsHeldPart s blocks p → All (λ (r : Row). (p.lo ≤ time_of s.time_col r) × (time_of s.time_col r ≤ p.hi)) (table_rows s.cols (blocks p.block))
  each_between p held =
      let b : Block = blocks p.block in
      let last : time_of s.time_col (get_or b.rows (length b.rows - 1) []) ≡ p.hi = ap (λ (n : ℕ). time_of s.time_col (get_or b.rows (n - 1) [])) held.of.rows ∙ held.of.last in
      let ends : All (λ (r : Row). (p.lo ≤ time_of b.time_col r) × (time_of b.time_col r ≤ p.hi)) b.rows =
      between_ends b.time_col p.lo p.hi b.rows held.whole.order
      (subst (λ (c : ℕ). time_of c (get_or b.rows 0 []) ≡ p.lo) (sym held.of.time_col) held.of.first)
      (subst (λ (c : ℕ). time_of c (get_or b.rows (length b.rows - 1) []) ≡ p.hi) (sym held.of.time_col) last) in
      subst (λ (c : ℕ). All (λ (r : Row). (p.lo ≤ time_of c r) × (time_of c r ≤ p.hi)) (table_rows s.cols b)) held.of.time_col
      (table_each (λ (t : ℕ). (p.lo ≤ t) × (t ≤ p.hi)) s.cols b held.whole ends)

  own_between : (p : Part) → IsHeldPart s blocks p → rows_between s.time_col p.lo p.hi (table_rows s.cols (blocks p.block)) ≡ table_rows s.cols (blocks p.block)
  own_between p held = all_between s.time_col p.lo p.hi (table_rows s.cols (blocks p.block)) (each_between p held)

  -- rows of a part that ends before another begins
  none_early : (p q : Part) → IsHeldPart s blocks p → p.hi < q.lo → rows_between s.time_col q.lo q.hi (table_rows s.cols (blocks p.block)) ≡ []
  none_early p q held low =
      none_between_before s.time_col q.lo q.hi (table_rows s.cols (blocks p.block))
      (All-weaker (λ (r : Row). (p.lo ≤ time_of s.time_col r) × (time_of s.time_col r ≤ p.hi)) (λ (r : Row). time_of s.time_col r < q.lo) (λ r both. omega (arith, both.1, low)) (table_rows s.cols (blocks p.block)) (each_between p held))

  none_late : (p q : Part) → IsHeldPart s blocks q → p.hi < q.lo → rows_between s.time_col p.lo p.hi (table_rows s.cols (blocks q.block)) ≡ []
  none_late p q held low =
      none_between_behind s.time_col p.lo p.hi (table_rows s.cols (blocks q.block))
      (All-weaker (λ (r : Row). (q.lo ≤ time_of s.time_col r) × (time_of s.time_col r ≤ q.hi)) (λ (r : Row). p.hi < time_of s.time_col r) (λ r both. omega (arith, both.0, low)) (table_rows s.cols (blocks q.block)) (each_between q held))

  none_later : (p : Part) (ps : List Part) → AllByRecursion (IsHeldPart s blocks) ps → AllByRecursion (λ (q : Part). p.hi < q.lo) ps → rows_between s.time_col p.lo p.hi (rows_in_parts s.cols blocks ps) ≡ []
  none_later p [] held up = refl
  none_later p (q ∷ qs) held up =
      filter-append (is_between s.time_col p.lo p.hi) (table_rows s.cols (blocks q.block)) (rows_in_parts s.cols blocks qs)
      ∙ ap₂ (λ (a c : List Row). a ++ c) (none_late p q held.0 up.0) (none_later p qs held.1 up.1)

  own_rows : (parts : List Part) (i : ℕ) (p : Part) → AllByRecursion (IsHeldPart s blocks) parts → Ascends parts → slice_get parts i ≡ Some p → rows_in_part s.time_col (rows_in_parts s.cols blocks parts) p ≡ table_rows s.cols (blocks p.block)
  own_rows [] i p held up there = cc
  own_rows (q ∷ qs) zero p held up there =
      subst (λ (x : Part). rows_in_part s.time_col (rows_in_parts s.cols blocks (q ∷ qs)) x ≡ table_rows s.cols (blocks x.block)) (get_or_from_slice_get (q ∷ qs) 0 p q there)
      (filter-append (is_between s.time_col q.lo q.hi) (table_rows s.cols (blocks q.block)) (rows_in_parts s.cols blocks qs)
      ∙ ap₂ (λ (a c : List Row). a ++ c) (own_between q held.0) (none_later q qs held.1 up.0)
      ∙ append-nil (table_rows s.cols (blocks q.block)))
  own_rows (q ∷ qs) (suc i) p held up there =
      let low : q.hi < p.lo = subst (λ (x : Part). q.hi < x.lo) (get_or_from_slice_get qs i p p there) (All-from_recursion (λ (x : Part). q.hi < x.lo) qs up.0 i p (slice_get_within qs i p there)) in
      filter-append (is_between s.time_col p.lo p.hi) (table_rows s.cols (blocks q.block)) (rows_in_parts s.cols blocks qs)
      ∙ ap₂ (λ (a c : List Row). a ++ c) (none_early q p held.0 low) (own_rows qs i p held.1 up.1 there)

both_held : (s : Schema) (blocks : ℕ → Block) (parts : List Part) → All (λ (p : Part). IsWhole (blocks p.block)) parts → All (λ (p : Part). IsBlockOf s p (blocks p.block)) parts → AllByRecursion (IsHeldPart s blocks) parts
both_held s blocks [] whole of = tt
both_held s blocks (p ∷ ps) whole of = (
  record { of = All-head (λ (q : Part). IsBlockOf s q (blocks q.block)) p ps of; whole = All-head (λ (q : Part). IsWhole (blocks q.block)) p ps whole },
  both_held s blocks ps (All-tail (λ (q : Part). IsWhole (blocks q.block)) p ps whole) (All-tail (λ (q : Part). IsBlockOf s q (blocks q.block)) p ps of),
)

-- ---- a part of a version

pub got : {X : Type 0} (xs : List X) (i : ℕ) (x : X) → slice_get xs i ≡ Some x → Contains xs x
got xs i x there = (i, slice_get_within xs i x there, get_or_from_slice_get xs i x x there)

rows_there : (f : TableParts → List Row) (shape : List TableParts) (db : Database) (table : ℕ) (t : TableParts) → map f shape ≡ map (λ (u : StoredTable). u.rows) db → slice_get shape table ≡ Some t → rows_at db table ≡ f t
rows_there f [] db table t same there = cc
rows_there f (u ∷ us) [] table t same there = cc
rows_there f (u ∷ us) (d ∷ ds) zero t same there = head_is same ∙ ap f (get_or_from_slice_get (u ∷ us) 0 t u there)
  where
    head : List (List Row) → List Row
    head [] = []
    head (r ∷ rs) = r

    head_is : f u ∷ map f us ≡ d.rows ∷ map (λ (u : StoredTable). u.rows) ds → d.rows ≡ f u
    head_is e = sym (ap head e)
rows_there f (u ∷ us) (d ∷ ds) (suc table) t same there = rows_there f us ds table t (ap tail same) there
  where
    tail : List (List Row) → List (List Row)
    tail [] = []
    tail (r ∷ rs) = rs

module _ (blocks : ℕ → Block) (shape : List TableParts) (db : Database) (stands : StandsFor blocks shape db) (table i : ℕ) (t : TableParts) (p : Part) (its_table : slice_get shape table ≡ Some t) (its_part : slice_get t.parts i ≡ Some p) where
  pub part_fits : IsBlockOf t.schema p (blocks p.block)
  part_fits =
      All-contains (λ (q : Part). IsBlockOf t.schema q (blocks q.block)) t.parts p
      (All-contains (λ (u : TableParts). All (λ (q : Part). IsBlockOf u.schema q (blocks q.block)) u.parts) shape t stands.fit (got shape table t its_table)) (got t.parts i p its_part)

  pub part_rows : rows_in_part t.schema.time_col (rows_at db table) p ≡ table_rows t.schema.cols (blocks p.block)
  part_rows =
      let in_tables = got shape table t its_table in
      let parts : AreParts t.schema t.parts = All-contains (λ (u : TableParts). AreParts u.schema u.parts) shape t stands.parts in_tables in
      let held = both_held t.schema blocks t.parts
      (All-contains (λ (u : TableParts). All (λ (q : Part). IsWhole (blocks q.block)) u.parts) shape t stands.whole in_tables)
      (All-contains (λ (u : TableParts). All (λ (q : Part). IsBlockOf u.schema q (blocks q.block)) u.parts) shape t stands.fit in_tables) in
      ap (λ (rows : List Row). rows_in_part t.schema.time_col rows p) (rows_there (λ (u : TableParts). rows_in_parts u.schema.cols blocks u.parts) shape db table t stands.rows its_table)
      ∙ own_rows t.schema blocks t.parts i p held (ascending t.schema t.parts parts) its_part

-- ---- what is read

module _ (one : OneBlockIsHeld) (h : List Entry) (n : ℕ) (shape : List TableParts) (disk : Disk) (shown : IsShown h n shape disk) (t : TableParts) (p : Part) (table i : ℕ) (its_table : slice_get shape table ≡ Some t) (its_part : slice_get t.parts i ≡ Some p) where
  pub held_there : HoldsBlock p.block (shown.blocks p.block) (reads_of disk)
  held_there =
      All-contains (λ b. HoldsBlock b (shown.blocks b) (reads_of disk)) (blocks_of shape) p.block (shown.held (reads_of disk) (reads_left disk))
      (in_shape shape t p (got shape table t its_table) (got t.parts i p its_part))

  fits : IsBlockOf t.schema p (shown.blocks p.block)
  fits = part_fits shown.blocks shape (first h n) shown.stands table i t p its_table its_part

  pub read_is : (b : Block) → IsBlockRead (Ok b) t.schema p (reads_of disk) → b ≡ shown.blocks p.block
  read_is b read = one t.schema p p.block b (shown.blocks p.block) (reads_of disk) read.1 fits read.0 held_there

  pub there_whole : IsWhole (shown.blocks p.block)
  there_whole =
      All-contains (λ (q : Part). IsWhole (shown.blocks q.block)) t.parts p
      (All-contains (λ (u : TableParts). All (λ (q : Part). IsWhole (shown.blocks q.block)) u.parts) shape t shown.stands.whole (got shape table t its_table)) (got t.parts i p its_part)

  pub not_damaged : (file at : ℕ) → IsBlockRead (Err (fault.Damaged file at)) t.schema p (reads_of disk) → ⊥
  not_damaged file at read = read.1 (shown.blocks p.block) held_there fits there_whole

module _ (one : OneBlockIsHeld) (s : Book) (h : List Entry) (next : Version) (row table i : ℕ) (disk : Disk) (is : IsStore s h next disk) where
  -- what a part of a live version shows
  live_there : (t : TableParts) (p : Part) (at : IsPartAt s.versions.versions row table i t p) → IsShown h at.version.n at.version.shape disk
  live_there t p at = is.versions.live row at.version at.live

  pub shown_part : (result : Result Block LogFault) → (t : TableParts) (p : Part) → IsPartAt s.versions.versions row table i t p
      → ((u : TableParts) (q : Part) → IsPartAt s.versions.versions row table i u q → IsBlockRead result u.schema q (reads_of disk)) → IsShownPart result s h row table i
  shown_part (Ok b) t p at read = λ u q there.
      let shown = live_there u q there in
      ap (λ (x : Block). table_rows u.schema.cols x) (read_is one h there.version.n there.version.shape disk shown u q table i there.its_table there.its_part b (read u q there))
      ∙ sym (part_rows shown.blocks there.version.shape (first h there.version.n) shown.stands table i u q there.its_table there.its_part)
  shown_part (Err (fault.Damaged file place)) t p at read = not_damaged one h at.version.n at.version.shape disk (live_there t p at) t p table i at.its_table at.its_part file place (read t p at)
  shown_part (Err fault.Vol) t p at read = tt
  shown_part (Err fault.Memory) t p at read = tt

pub shown_told : (one : OneBlockIsHeld) (result : Result Block LogFault) (s : Book) (row table i : ℕ) (o : Option Disk) → (t : TableParts) (p : Part) → IsPartAt s.versions.versions row table i t p
    → ((u : TableParts) (q : Part) → IsPartAt s.versions.versions row table i u q → IfSome o (λ disk. IsBlockRead result u.schema q (reads_of disk)))
    → IfSome o (λ disk. (h : List Entry) (next : Version) → IsStore s h next disk → IsShownPart result s h row table i)
shown_told one result s row table i None t p at read = tt
shown_told one result s row table i (Some disk) t p at read = λ h next is. shown_part one s h next row table i disk is result t p at read
