-- A merge of a version: it may be published where that is the current one, and its parts stand over the blocks by their numbers.
use Rattle.std.proofs.Common.{◌≡◌, inl, inr, ℕ, ◌+◌, ◌-◌, ◌^◌, ◌<◌, ◌≤◌, nat_eq, true, List, [], ◌∷◌, ◌++◌, length, map, take, get_or, slice_get, All, Option, Some, Contains, refl, sym, ◌∙◌, ap, ap₂, subst, arith}
use Rattle.std.specs.Arc.{arc_value}
use Rattle.std.specs.List.{IsDistinct}
use Rattle.std.proofs.lemmas.List.{get_or-map, length-map}
use Rattle.std.proofs.lemmas.List.Elements.{All-contains, All-head, All-tail}
use Rattle.std.proofs.lemmas.Option.{same_Some}
use Rattle.qd_base.specs.declared.op.Entry.{Entry}
use Rattle.qd_base.specs.declared.part.Part.{Part}
use Rattle.qd_base.specs.Database.{Database}
use Rattle.qd_base.specs.Replay.{replay}
use Rattle.qd_block.specs.Blocks.{Block, kinds_in}
use Rattle.qd_catalog.specs.declared.version.Version as catalog
use Rattle.qd_catalog.specs.Versions.{Versions, lists, n_of, version_at}
use Rattle.qd_apply.specs.Laws.{GoesOnFrom, IsGrowth, Merges, MergingStands, growth_block}
use Rattle.qd_apply.specs.Next.{TableGrowth, grown_after, made_after, manifest_after, versions_blocks}
use Rattle.qd_apply.specs.Stands.{StandsFor}
use Rattle.qd_manifest.specs.declared.shape.TableParts.{TableParts}
use Rattle.qd_manifest.specs.Spelling.{IsManifest, blocks_of}
use Rattle.qd_merge.proofs.Wide.{map-map}
use Rattle.qd_rows.specs.Sets.{no_block}
use Rattle.qd_versions.specs.declared.published.GrownBlock.{GrownBlock}
use Rattle.qd_versions.specs.declared.published.NewBlock.{NewBlock}
use Rattle.qd_versions.specs.Publishing.{MayGrow, MayPublish, grown_block, grown_blocks}
use Rattle.qd_versions.specs.Stores.{HaveOneKinds, manifest_in}
use Rattle.qd_versions.proofs.Blocks.{in_listed, listed_in}
use Rattle.qd_versions.proofs.Steps.{numbered_at}
use Rattle.qd_store.specs.Drafts.{Extends, IsMerged, IsMergedOver, Merging}
use Rattle.qd_store.specs.Grown.{IsShownWhole, growth_of}
use Rattle.qd_store.proofs.GrownParts.{fits_in, growth_there, here_table, named_there}
use Rattle.qd_store.proofs.Opened.{in_shape}
use Rattle.qd_store.proofs.Served.{followed}
use Rattle.qd_store.proofs.Unique.{stands_one}

-- what a block shows has its kinds
kinds_go_on : (shape : List TableParts) (old : ℕ → Block) (grown : List TableGrowth) (new : ℕ → Block) (b : ℕ) → GoesOnFrom shape old grown new b → (new b).kinds ≡ (old b).kinds
kinds_go_on shape old grown new b (inl (k, is)) = ap (λ (c : Block). c.kinds) is
kinds_go_on shape old grown new b (inr (g, among, named, is)) = ap (λ (c : Block). c.kinds) is

-- it goes on so from other blocks that are the same there
same_go_on : (shape : List TableParts) (old held : ℕ → Block) (grown more : List TableGrowth) (new : ℕ → Block) (b : ℕ) → old b ≡ held b → grown ≡ more → GoesOnFrom shape old grown new b → GoesOnFrom shape held more new b
same_go_on shape old held grown more new b same rows (inl (k, is)) = inl (k, is ∙ ap (λ (c : Block). record c { rows = take k c.rows }) same)
same_go_on shape old held grown more new b same rows (inr (g, among, named, is)) =
    inr (g, subst (λ (l : List TableGrowth). Contains l g) rows among, named, is ∙ ap (λ (c : Block). record c { rows = c.rows ++ g.rows.rows }) same)

map_same : {X Y : Type 0} (f g : X → Y) (xs : List X) → All (λ (x : X). f x ≡ g x) xs → map f xs ≡ map g xs
map_same f g [] all = refl
map_same {X} f g (x ∷ xs) all =
    ap₂ (λ y ys. y ∷ ys) (All-head (λ (z : X). f z ≡ g z) x xs all) (map_same f g xs (All-tail (λ (z : X). f z ≡ g z) x xs all))

module _ (law : MergingStands) (next : ℕ) (x : catalog.Version) (es : List Entry) (contents : ℕ → Block) (db : Database) (m : Merging) (is : IsMerged next x es contents db m) where
  abbrev made : List Block
  made = made_after contents is.written is.split x.shape es

  abbrev put_behind : List TableGrowth
  put_behind = grown_after contents is.written is.split x.shape es

  count : length m.blocks ≡ length made
  count = sym (length-map m.blocks (λ (b : NewBlock). arc_value b.of)) ∙ ap length is.blocks

  stands : Merges contents is.written is.split x.n (manifest_in next x.shape) db es
  stands = followed law next x es contents db is.written is.split is.follows

  pub newer : x.n < m.upto
  newer = let some = is.follows.some in omega (arith, some, is.upto)

  few : m.upto ≤ 2 ^ 30
  few = let room = is.follows.room in omega (arith, room, is.upto)

  sound : IsManifest m.upto (manifest_in (next + length m.blocks) m.shape)
  sound =
      subst (λ (n : ℕ). IsManifest n (manifest_in (next + length m.blocks) m.shape)) (sym is.upto)
      (subst (λ (n : ℕ). IsManifest (x.n + length es) (manifest_in (next + n) m.shape)) (sym count)
      (subst (λ (l : List TableParts). IsManifest (x.n + length es) (manifest_in (next + length made) l)) (sym is.shape) stands.manifest))

  in_next : (b : ℕ) → Contains (blocks_of m.shape) b → Contains (blocks_of (manifest_after contents is.written is.split (manifest_in next x.shape) es).shape) b
  in_next b there = subst (λ (l : List TableParts). Contains (blocks_of l) b) is.shape there

  old_listed : (b : ℕ) → Contains (blocks_of m.shape) b → b < next → lists (Some x) b ≡ true
  old_listed b there low = in_listed b (blocks_of x.shape) (stands.old_named b (in_next b there) low)

  new_there : (b : ℕ) → next ≤ b → b < next + length m.blocks → Contains (blocks_of m.shape) b
  new_there b low high =
      let there : next + (b - next) ≡ b = omega (arith, low) in
      subst (Contains (blocks_of m.shape)) there
      (subst (λ (l : List TableParts). Contains (blocks_of l) (next + (b - next))) (sym is.shape) (stands.new_named (b - next) (omega (arith, low, high, count))))

  -- ---- its blocks by their numbers

  abbrev after : ℕ → Block
  after = versions_blocks contents is.written is.split (manifest_in next x.shape) es

  pub stands_after : StandsFor after m.shape (replay db es)
  stands_after = subst (λ (l : List TableParts). StandsFor after l (replay db es)) (sym is.shape) stands.stands

  pub old_goes_on : (held : ℕ → Block) → StandsFor held x.shape db → (b : ℕ) → lists (Some x) b ≡ true → Contains (blocks_of m.shape) b → b < next → GoesOnFrom x.shape held (map growth_of m.grown) after b
  old_goes_on held other b listed there low =
      let same = stands_one contents held x.shape db is.follows.stands other in
      same_go_on x.shape contents held put_behind (map growth_of m.grown) after b
      (All-contains (λ (n : ℕ). contents n ≡ held n) (blocks_of x.shape) b same (listed_in b (blocks_of x.shape) listed)) (sym is.grown) (stands.goes_on b (in_next b there) low)

  pub new_made : All (λ (b : NewBlock). after b.block ≡ arc_value b.of) m.blocks
  new_made k d lt =
      let number : (get_or m.blocks k d).block ≡ next + k = numbered_at next m.blocks is.numbered k d lt in
      ap after number
      ∙ stands.made k (omega (arith, lt, count))
      ∙ ap (λ (l : List Block). get_or l k no_block) (sym is.blocks)
      ∙ get_or-map (λ (b : NewBlock). arc_value b.of) m.blocks k d no_block lt

  -- old files are read as the same kinds
  alike : HaveOneKinds m.shape x.shape
  alike t u p q in_next_shape in_parts in_shape_x in_its same =
      let mine = fits_in m.shape after stands_after.fit t p in_next_shape in_parts in
      let theirs = fits_in x.shape contents is.follows.stands.fit u q in_shape_x in_its in
      let there : Contains (blocks_of m.shape) p.block = in_shape m.shape t p in_next_shape in_parts in
      let low : q.block < next = All-contains (λ (b : ℕ). b < next) (blocks_of x.shape) q.block is.follows.manifest.below (in_shape x.shape u q in_shape_x in_its) in
      sym mine.kinds
      ∙ kinds_go_on x.shape contents put_behind after p.block (stands.goes_on p.block (in_next p.block there) (omega (arith, low, same)))
      ∙ ap (λ (b : ℕ). (contents b).kinds) same
      ∙ theirs.kinds

  -- ---- it may be published where the version is the current one

  pub may_publish : (v : Versions) → version_at v v.current ≡ Some x → v.next_block ≡ next → MayPublish v m.upto m.shape (length m.blocks)
  may_publish v at number = record {
    newer = λ k e. let same : Some x.n ≡ Some k = sym (ap n_of at) ∙ e in let n_is : x.n ≡ k = cc in omega (arith, newer, n_is);
    few = few;
    sound = subst (λ (n : ℕ). IsManifest m.upto (manifest_in (n + length m.blocks) m.shape)) (sym number) sound;
    old = λ b there low. ap (λ (o : Option catalog.Version). lists o b) at ∙ old_listed b there (subst (λ (n : ℕ). b < n) number low);
    whole = λ b low high. new_there b (subst (λ (n : ℕ). n ≤ b) number low) (subst (λ (n : ℕ). b < n + length m.blocks) number high);
    alike = λ y there. subst (λ (z : catalog.Version). HaveOneKinds m.shape z.shape) (same_Some x y (sym at ∙ there)) alike;
  }

  growths : All (IsGrowth x.shape is.written) (map growth_of m.grown)
  growths = subst (All (IsGrowth x.shape is.written)) (sym is.grown) stands.grown

  module _ (v : Versions) (at : version_at v v.current ≡ Some x) where
    may_grow : (g : GrownBlock) → IsShownWhole v g → IsGrowth x.shape is.written (growth_of g) → MayGrow v g
    may_grow g whole growth =
        let table : growth.table ≡ whole.table = same_Some growth.table whole.table (sym growth.its_table ∙ here_table v x at g whole.table whole.part whole.there) in
        let part : growth.part ≡ whole.part =
        same_Some growth.part whole.part (sym growth.its_part ∙ ap (λ (t : TableParts). slice_get t.parts g.part) table ∙ whole.there.its_part) in
        record {
          t = whole.table;
          p = whole.part;
          there = whole.there;
          all = whole.all;
          kinds = growth.kinds ∙ ap₂ (λ (p : Part) (t : TableParts). take p.cols (kinds_in t.schema.cols)) part table;
          time_col = growth.time_col ∙ ap (λ (t : TableParts). t.schema.time_col) table;
        }

    pub may_extend : Extends v m → All (MayGrow v) m.grown
    may_extend extends k d lt =
        let g = get_or m.grown k d in
        may_grow g (extends k d lt)
        (subst (IsGrowth x.shape is.written) (get_or-map growth_of m.grown k d (growth_of d) lt)
        (growths k (growth_of d) (omega (arith, lt, length-map m.grown growth_of))))

    one_number : (g : GrownBlock) → IsShownWhole v g → grown_block v g ≡ growth_block x.shape (growth_of g)
    one_number g whole =
        sym (named_there v x at g whole.table whole.part whole.there)
        ∙ sym (growth_there x.shape (growth_of g) whole.table whole.part (here_table v x at g whole.table whole.part whole.there) whole.there.its_part)

    pub extends_apart : Extends v m → IsDistinct nat_eq (grown_blocks v m.grown)
    extends_apart extends =
        let numbers : grown_blocks v m.grown ≡ map (growth_block x.shape) put_behind =
        map_same (grown_block v) (λ (g : GrownBlock). growth_block x.shape (growth_of g)) m.grown (λ k d lt. one_number (get_or m.grown k d) (extends k d lt))
        ∙ sym (map-map (growth_block x.shape) growth_of m.grown)
        ∙ ap (map (growth_block x.shape)) is.grown in
        subst (IsDistinct nat_eq) (sym numbers) stands.apart

-- a merge of the current version may be published
pub may_over : MergingStands → (v : Versions) (m : Merging) → IsMergedOver v m → MayPublish v m.upto m.shape (length m.blocks)
may_over law v m (x, at, (es, contents, db, is), extends) = may_publish law v.next_block x es contents db m is v at refl

pub grows_over : MergingStands → (v : Versions) (m : Merging) → IsMergedOver v m → All (MayGrow v) m.grown
grows_over law v m (x, at, (es, contents, db, is), extends) = may_extend law v.next_block x es contents db m is v at extends

pub apart_over : MergingStands → (v : Versions) (m : Merging) → IsMergedOver v m → IsDistinct nat_eq (grown_blocks v m.grown)
apart_over law v m (x, at, (es, contents, db, is), extends) = extends_apart law v.next_block x es contents db m is v at extends
