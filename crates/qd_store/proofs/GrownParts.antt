-- The parts behind whose rows a publication puts others, and what each live version keeps of their blocks.
use Rattle.std.proofs.Common.{◌≡◌, ◌≢◌, ℕ, zero, suc, ◌^◌, ◌<◌, ◌≤◌, nat_eq, Bool, true, false, List, [], ◌∷◌, length, map, All, Option, Some, Contains, get_or, slice_get, refl, sym, ◌∙◌, ap, subst, arith, true≢false}
use Rattle.std.specs.List.{list_any}
use Rattle.std.proofs.lemmas.List.Elements.{All-contains, All-contains_itself, All-weaker}
use Rattle.std.proofs.lemmas.Option.{get_or_from_slice_get}
use Rattle.qd_base.specs.declared.op.Entry.{Entry}
use Rattle.qd_base.specs.declared.part.Part.{Part}
use Rattle.qd_base.specs.Replay.{first}
use Rattle.qd_block.specs.Blocks.{Block, IsWhole}
use Rattle.qd_catalog.specs.declared.version.Version as catalog
use Rattle.qd_catalog.specs.Versions.{Versions, lists, parts_of, version_at, written_of}
use Rattle.qd_catalog.specs.Versions as rows
use Rattle.qd_durable.specs.Moments.{ComesFrom, SameBut}
use Rattle.qd_column_files.specs.Files.{HoldsBlock}
use Rattle.qd_column_files.specs.Laws.{FirstRowsAreHeld}
use Rattle.qd_column_format.specs.Laws.{OneColumnIsSpelled}
use Rattle.qd_manifest.specs.declared.shape.TableParts.{TableParts}
use Rattle.qd_manifest.specs.Spelling.{blocks_of, no_part}
use Rattle.qd_scan.specs.Sources.{IsBlockOf}
use Rattle.qd_apply.specs.Laws.{growth_block, parts_at}
use Rattle.qd_apply.specs.Next.{TableGrowth}
use Rattle.qd_versions.specs.declared.published.GrownBlock.{GrownBlock}
use Rattle.qd_versions.specs.Publishing.{AreHeldBy, KeepsGrown, MayGrow, block_of_part, grown_block, grown_blocks, is_published_file, part_in_table, part_in_version}
use Rattle.qd_versions.specs.Reading.{IsPartAt}
use Rattle.qd_versions.specs.Stores as versions
use Rattle.qd_versions.proofs.Blocks.{in_listed, listed_in}
use Rattle.qd_versions.proofs.Files.{held_kept}
use Rattle.qd_volume.specs.Disk.{Disk, Image, images_now}
use Rattle.qd_store.specs.Prefixes.{HoldsBlocks, IsShown}
use Rattle.qd_store.proofs.Fronts.{front_held, has_block, shape_shows}
use Rattle.qd_store.proofs.GrownFiles.{old_spared}
use Rattle.qd_store.proofs.Opened.{in_shape}
use Rattle.qd_store.proofs.PartsRead.{got}
use Rattle.qd_store.proofs.Sides.{Spares, blocks_whole}

-- ---- lists

pub contains_map : {X Y : Type 0} (f : X → Y) (xs : List X) (y : Y) → Contains (map f xs) y → (x : X) × Contains xs x × (f x ≡ y)
contains_map f [] y there = absurd (omega (arith, there.1))
contains_map f (x ∷ xs) y (zero, low, is) = (x, (0, omega arith, refl), is)
contains_map f (x ∷ xs) y (suc k, low, is) =
    let later = contains_map f xs y (k, omega (arith, low), is) in
    let lt = later.1.1 in
    (later.0, (suc later.1.0, omega (arith, lt), later.1.2), later.2)

-- whether a number is among some
pub among_or_not : (ns : List ℕ) (n : ℕ) (P : Type 0) → (Contains ns n → P) → ((Contains ns n → ⊥) → P) → P
among_or_not ns n P among apart = by (list_any (nat_eq n) ns) refl
  where
    by : (there : Bool) → list_any (nat_eq n) ns ≡ there → P
    by true e = among (listed_in n ns e)
    by false e = apart (λ c. true≢false (sym (in_listed n ns c) ∙ e))

-- ---- the part of a table of a version

parts_there : (shape : List TableParts) (table : ℕ) (t : TableParts) → slice_get shape table ≡ Some t → parts_at shape table ≡ t.parts
parts_there [] table t there = cc
parts_there (s ∷ ss) zero t there = ap (λ (x : TableParts). x.parts) (get_or_from_slice_get (s ∷ ss) 0 t s there)
parts_there (s ∷ ss) (suc table) t there = parts_there ss table t there

pub growth_there : (shape : List TableParts) (g : TableGrowth) (t : TableParts) (p : Part) → slice_get shape g.table ≡ Some t → slice_get t.parts g.part ≡ Some p → growth_block shape g ≡ p.block
growth_there shape g t p its_table its_part =
    ap (λ (ps : List Part). (get_or ps g.part no_part).block) (parts_there shape g.table t its_table)
    ∙ ap (λ (x : Part). x.block) (get_or_from_slice_get t.parts g.part p no_part its_part)

one_there : (o : Option catalog.Version) (x y : catalog.Version) → o ≡ Some x → o ≡ Some y → y ≡ x
one_there o x y a b = let e : Some y ≡ Some x = sym b ∙ a in cc

-- ---- blocks that grow

module _ (v : Versions) (x : catalog.Version) (at : version_at v v.current ≡ Some x) where
  -- the part of the current version at the place of rows that are put behind, of a block of a number
  pub record GrownAt (grown : List GrownBlock) (b : ℕ) : Type 0 where
    pub g : GrownBlock
    pub among : Contains grown g
    pub table : TableParts
    pub part : Part
    pub there : IsPartAt v v.current g.table g.part table part
    pub its_table : slice_get x.shape g.table ≡ Some table
    pub its_part : slice_get table.parts g.part ≡ Some part
    pub all : part.rows ≡ written_of v part.block
    pub named : part.block ≡ b

  pub here_table : (g : GrownBlock) (t : TableParts) (p : Part) (there : IsPartAt v v.current g.table g.part t p) → slice_get x.shape g.table ≡ Some t
  here_table g t p there = subst (λ (y : catalog.Version). slice_get y.shape g.table ≡ Some t) (one_there (version_at v v.current) x there.version at there.live) there.its_table

  pub named_there : (g : GrownBlock) (t : TableParts) (p : Part) (there : IsPartAt v v.current g.table g.part t p) → p.block ≡ grown_block v g
  named_there g t p there =
      sym
      (ap (λ (o : Option catalog.Version). block_of_part (part_in_version o g.table g.part)) there.live
      ∙ ap (λ (o : Option TableParts). block_of_part (part_in_table o g.part)) there.its_table
      ∙ ap block_of_part there.its_part)

  grown_here : (grown : List GrownBlock) (g : GrownBlock) → Contains grown g → MayGrow v g → GrownAt grown (grown_block v g)
  grown_here grown g among may = record {
    g = g;
    among = among;
    table = may.t;
    part = may.p;
    there = may.there;
    its_table = here_table g may.t may.p may.there;
    its_part = may.there.its_part;
    all = may.all;
    named = named_there g may.t may.p may.there;
  }

  pub grown_at : (grown : List GrownBlock) → All (MayGrow v) grown → (b : ℕ) → Contains (grown_blocks v grown) b → GrownAt grown b
  grown_at grown may b there =
      let found = contains_map (grown_block v) grown b there in
      subst (GrownAt grown) found.2 (grown_here grown found.0 found.1 (All-contains (MayGrow v) grown found.0 may found.1))

  -- they are blocks of the current version
  pub grown_listed : (grown : List GrownBlock) → All (MayGrow v) grown → (b : ℕ) → Contains (grown_blocks v grown) b → Contains (blocks_of x.shape) b
  grown_listed grown may b there =
      let is = grown_at grown may b there in
      subst (Contains (blocks_of x.shape)) is.named (in_shape x.shape is.table is.part (got x.shape is.g.table is.table is.its_table) (got is.table.parts is.g.part is.part is.its_part))

-- so their files are those of blocks
pub small_numbers : (s : versions.Store) → versions.IsStore s → (grown : List GrownBlock) → All (MayGrow s.versions) grown → (b : ℕ) → Contains (grown_blocks s.versions grown) b → b < 2 ^ 52
small_numbers s law grown may b there =
    let found = contains_map (grown_block s.versions) grown b there in
    let m = All-contains (MayGrow s.versions) grown found.0 may found.1 in
    let x = m.there.version in
    let listed = grown_listed s.versions x m.there.live grown may b there in
    let low = law.below b (s.versions.current, subst (λ (o : Option catalog.Version). lists o b ≡ true) (sym m.there.live) (in_listed b (blocks_of x.shape) listed)) in
    omega (arith, low, law.small)

-- ---- what versions keep of them

pub fits_in : (shape : List TableParts) (blocks : ℕ → Block) → All (λ (t : TableParts). All (λ (p : Part). IsBlockOf t.schema p (blocks p.block)) t.parts) shape → (t : TableParts) (p : Part) → Contains shape t → Contains t.parts p → IsBlockOf t.schema p (blocks p.block)
fits_in shape blocks fit t p there in_parts =
    All-contains (λ (q : Part). IsBlockOf t.schema q (blocks q.block)) t.parts p
    (All-contains (λ (u : TableParts). All (λ (q : Part). IsBlockOf u.schema q (blocks q.block)) u.parts) shape t fit there) in_parts

module _ (fronts : FirstRowsAreHeld) (columns : OneColumnIsSpelled) (s : versions.Store) (law : versions.IsStore s) (grown : List GrownBlock) (may : All (MayGrow s.versions) grown)
    (x : catalog.Version) (at : version_at s.versions s.versions.current ≡ Some x) (h : List Entry) (before : Disk) where
  abbrev numbers : List ℕ
  numbers = grown_blocks s.versions grown

  abbrev touched : ℕ → Bool
  touched = is_published_file s.versions.next_block numbers

  module _ (row : ℕ) (y : catalog.Version) (there : version_at s.versions row ≡ Some y) (theirs : IsShown h y.n y.shape before) where
    -- a block that doesn't grow
    spared : (b : ℕ) → Contains (blocks_of y.shape) b → (Contains numbers b → ⊥) → Spares touched b
    spared b in_shape_b apart =
        old_spared s.versions.next_block numbers b (law.below b (row, subst (λ (o : Option catalog.Version). lists o b ≡ true) (sym there) (in_listed b (blocks_of y.shape) in_shape_b))) apart

    held_before : (image : Image) → images_now before image → (b : ℕ) → Contains (blocks_of y.shape) b → HoldsBlock b (theirs.blocks b) image
    held_before image now b in_shape_b = All-contains (λ c. HoldsBlock c (theirs.blocks c) image) (blocks_of y.shape) b (theirs.held image now) in_shape_b

    stays_spared : (earlier image : Image) → images_now before earlier → SameBut touched earlier image → (b : ℕ) → Contains (blocks_of y.shape) b → (Contains numbers b → ⊥) → HoldsBlock b (theirs.blocks b) image
    stays_spared earlier image now same b in_shape_b apart =
        held_kept b (theirs.blocks b) touched earlier image
        (All-contains (λ c. IsWhole (theirs.blocks c)) (blocks_of y.shape) b (blocks_whole theirs.blocks y.shape (first h y.n) theirs.stands) in_shape_b).few
        (spared b in_shape_b apart) same (held_before earlier now b in_shape_b)

    each_held : (image : Image) → ((b : ℕ) → Contains (blocks_of y.shape) b → HoldsBlock b (theirs.blocks b) image) → HoldsBlocks y.shape theirs.blocks image
    each_held image each = All-weaker (Contains (blocks_of y.shape)) (λ b. HoldsBlock b (theirs.blocks b) image) each (blocks_of y.shape) (All-contains_itself (blocks_of y.shape))

  -- the current version's own
  module _ (theirs : IsShown h x.n x.shape before) where
    pub held_by : AreHeldBy s.versions theirs.blocks grown before
    held_by k d lt t p there =
        let g = get_or grown k d in
        let its_table = here_table s.versions x at g t p there in
        let in_tables = got x.shape g.table t its_table in
        let in_parts = got t.parts g.part p there.its_part in (
          fits_in x.shape theirs.blocks theirs.stands.fit t p in_tables in_parts,
          λ image now. held_before s.versions.current x at theirs image now p.block (in_shape x.shape t p in_tables in_parts),
        )

    pub own_kept : (image : Image) → ComesFrom (SameBut touched) before image → KeepsGrown s.versions theirs.blocks grown image → HoldsBlocks x.shape theirs.blocks image
    own_kept image (earlier, now, same) keeps =
        each_held s.versions.current x at theirs image
        (λ b in_shape_b. among_or_not numbers b (HoldsBlock b (theirs.blocks b) image)
        (λ among.
        let is = grown_at s.versions x at grown may b among in
        subst (λ (c : ℕ). HoldsBlock c (theirs.blocks c) image) is.named
        (All-contains (λ (g : GrownBlock). (t : TableParts) (p : Part) → IsPartAt s.versions s.versions.current g.table g.part t p → HoldsBlock p.block (theirs.blocks p.block) image) grown is.g keeps is.among is.table is.part is.there))
        (stays_spared s.versions.current x at theirs earlier image now same b in_shape_b))

  -- those of another version, which show a beginning of the files
  module _ (row : ℕ) (y : catalog.Version) (there : version_at s.versions row ≡ Some y) (other : row ≢ s.versions.current) (theirs : IsShown h y.n y.shape before) (mine : IsShown h x.n x.shape before) where
    pub other_kept : (image : Image) → ComesFrom (SameBut touched) before image → KeepsGrown s.versions mine.blocks grown image → HoldsBlocks y.shape theirs.blocks image
    other_kept image (earlier, now, same) keeps =
        each_held row y there theirs image
        (λ b in_shape_b. among_or_not numbers b (HoldsBlock b (theirs.blocks b) image) (λ among. shown_front b in_shape_b among) (stays_spared row y there theirs earlier image now same b in_shape_b))
      where
        shown_front : (b : ℕ) → Contains (blocks_of y.shape) b → Contains numbers b → HoldsBlock b (theirs.blocks b) image
        shown_front b in_shape_b among =
            let is = grown_at s.versions x at grown may b among in
            let own = has_block y.shape b in_shape_b in
            let in_tables = got x.shape is.g.table is.table is.its_table in
            let in_parts = got is.table.parts is.g.part is.part is.its_part in
            let of_mine : IsBlockOf is.table.schema is.part (mine.blocks b) = subst (λ (c : ℕ). IsBlockOf is.table.schema is.part (mine.blocks c)) is.named (fits_in x.shape mine.blocks mine.stands.fit is.table is.part in_tables in_parts) in
            let of_theirs : IsBlockOf own.table.schema own.part (theirs.blocks b) = subst (λ (c : ℕ). IsBlockOf own.table.schema own.part (theirs.blocks c)) own.named (fits_in y.shape theirs.blocks theirs.stands.fit own.table own.part own.in_tables own.in_parts) in
            let kinds : (theirs.blocks b).kinds ≡ (mine.blocks b).kinds =
            of_theirs.kinds ∙ law.alike row s.versions.current y x other there at own.table is.table own.part is.part own.in_tables own.in_parts in_tables in_parts (own.named ∙ sym is.named) ∙ sym of_mine.kinds in
            let most : own.part.rows ≤ rows.shown (parts_of y.shape) b = subst (λ (c : ℕ). own.part.rows ≤ rows.shown (parts_of y.shape) c) own.named (shape_shows y.shape own.table own.part own.in_tables own.in_parts) in
            let written : is.part.rows ≡ written_of s.versions b = is.all ∙ ap (written_of s.versions) is.named in
            let covered : rows.shown (parts_of y.shape) b ≤ written_of s.versions b = law.covered row y b there in
            let fewer : length (theirs.blocks b).rows ≤ length (mine.blocks b).rows = omega (arith, of_theirs.rows, of_mine.rows, most, written, covered) in
            let now_held : HoldsBlock b (mine.blocks b) image =
            subst (λ (c : ℕ). HoldsBlock c (mine.blocks c) image) is.named
            (All-contains (λ (g : GrownBlock). (t : TableParts) (p : Part) → IsPartAt s.versions s.versions.current g.table g.part t p → HoldsBlock p.block (mine.blocks p.block) image) grown is.g keeps is.among is.table is.part is.there) in
            front_held fronts columns b (theirs.blocks b) (mine.blocks b) earlier image kinds fewer (held_before row y there theirs earlier now b in_shape_b)
            (held_before s.versions.current x at mine earlier now b (grown_listed s.versions x at grown may b among)) now_held
