-- What is known of kept tails: what they say of parts of the current version, and what calls leave of them.
use Rattle.std.proofs.Common.{◌≡◌, ◌≢◌, ◌⊎◌, inl, inr, ℕ, ◌<◌, ◌≤◌, Bool, true, false, List, [], ◌∷◌, length, get_or, suc, take, All, Contains, Option, None, Some, slice_get, Ok, refl, sym, ap, ◌∙◌, subst, arith}
use Rattle.std.specs.Arc.{arc_value}
use Rattle.std.proofs.lemmas.List.{get_or-map, get_or_default, length-map, same_lists}
use Rattle.std.proofs.lemmas.List.Elements.{All-contains, All-contains_itself, All-nil, All-weaker}
use Rattle.std.proofs.lemmas.List.FromFn.{get_or-map-range_with_len, length-map-range_with_len}
use Rattle.std.proofs.lemmas.Option.{get_or_from_slice_get, same_Some, slice_get_within}
use Rattle.qd_base.specs.declared.limits.TheConstants.{MAX_COLUMNS}
use Rattle.qd_base.specs.declared.part.Part.{Part}
use Rattle.qd_base.specs.declared.schema.ColType.{ColType}
use Rattle.qd_base.specs.declared.schema.ColType.TheVariants as kind
use Rattle.qd_base.specs.Rows.{Row, cell_at}
use Rattle.qd_block.specs.Blocks.{Block, column_in, kinds_in}
use Rattle.qd_column_format.specs.Tails.{Behind, behind}
use Rattle.qd_column_format.specs.Laws.{OneColumnIsSpelled}
use Rattle.qd_volume.specs.Disk.{Disk, Image, reads_of}
use Rattle.qd_durable.specs.Moments.{EachNow, Moves, SameBut}
use Rattle.qd_durable.proofs.Moved.{but_same, moves_still, now_has}
use Rattle.qd_manifest.specs.declared.shape.TableParts.{TableParts}
use Rattle.qd_manifest.specs.Spelling.{blocks_of}
use Rattle.qd_catalog.specs.declared.version.Version.{Version}
use Rattle.qd_catalog.specs.Versions.{IsLive, Retires, SameVersions, Sweeps, Versions, lists, version_at}
use Rattle.qd_column_files.specs.Files.{HoldsBlock, column_file, is_file_of}
use Rattle.qd_column_files.specs.Growing.{BlockBehind, GoesOn, block_behind, tails_of}
use Rattle.qd_column_files.proofs.Below.{reads_left}
use Rattle.qd_scan.specs.Sources.{IsBlockOf}
use Rattle.qd_txnfile.specs.Versions.{is_version_file}
use Rattle.qd_versions.specs.declared.growing.Growing.{Growing}
use Rattle.qd_versions.specs.declared.keeping.KeptTail.{KeptTail}
use Rattle.qd_versions.specs.declared.published.GrownBlock.{GrownBlock}
use Rattle.qd_versions.specs.Kept.{IsBehind, IsNamed, IsOfKinds, KeepsTails}
use Rattle.qd_versions.specs.Laws.{OtherFilesLeaveTails}
use Rattle.qd_versions.specs.Publishing.{MayGrow, MayPublish, is_file_among, is_file_from, is_published_file, is_put_file}
use Rattle.qd_versions.specs.Reading.{IsPartAt}
use Rattle.qd_versions.specs.Stores.{IsStore, Store}
use Rattle.qd_versions.specs.Tails.{AreAllGrown, AreGrowing, AreReady, HoldsMore, IsGrowing, IsLeft, IsTailFound, blocks_growing, grown_of, tails_in}
use Rattle.qd_versions.proofs.Alike.{listed_at, named, names_block}
use Rattle.qd_versions.proofs.Blocks.{listed_in}
use Rattle.qd_versions.proofs.Files.{held_kept, of_not_from, of_not_version}
use Rattle.qd_versions.proofs.Growths.{of_not_other, or_none}
use Rattle.qd_versions.proofs.Stores.{left_current, part_block, swept_current}

-- ---- what they say

-- two blocks of the same kinds, and as many rows, that an image holds in the same files
module _ (one_column : OneColumnIsSpelled) (block : ℕ) (a b : Block) (image : Image) (kinds : a.kinds ≡ b.kinds) (rows : length a.rows ≡ length b.rows) (in_a : HoldsBlock block a image) (in_b : HoldsBlock block b image) where
  one_count : length a.kinds ≡ length b.kinds
  one_count = ap (λ (ks : List ColType). length ks) kinds

  one_behind : (col : ℕ) → col < length a.kinds → behind (column_in a col) ≡ behind (column_in b col)
  one_behind col low =
      ap behind
      (one_column (image (column_file block col 0)) (image (column_file block col 1)) (column_in a col) (column_in b col)
      (ap (λ (ks : List ColType). get_or ks col kind.Time) kinds)
      (length-map a.rows (λ (r : Row). cell_at r col) ∙ rows ∙ sym (length-map b.rows (λ (r : Row). cell_at r col)))
      (in_a.each col low)
      (in_b.each col (omega (arith, low, one_count))))

  length_tails : (c : Block) → length (tails_of c) ≡ length c.kinds
  length_tails c = length-map-range_with_len (λ col. behind (column_in c col)) 0 (length c.kinds)

  one_tails : tails_of a ≡ tails_of b
  one_tails =
      same_lists (tails_of a) (tails_of b) (length_tails a ∙ one_count ∙ sym (length_tails b))
      (λ col d less.
      let low : col < length a.kinds = omega (arith, less, length_tails a) in
      get_or-map-range_with_len (λ k. behind (column_in a k)) 0 (length a.kinds) col col d low (omega arith)
      ∙ one_behind col low
      ∙ sym (get_or-map-range_with_len (λ k. behind (column_in b k)) 0 (length b.kinds) col col d (omega (arith, low, one_count)) (omega arith)))

  -- have one tail
  one_tail : block_behind a ≡ block_behind b
  one_tail = ap (λ n. record { rows = n; columns = tails_of a }) rows ∙ ap (λ (l : List Behind). record { rows = length b.rows; columns = l }) one_tails

-- an item by its place
place_of : {X : Type 0} (xs : List X) (k : ℕ) (x : X) → slice_get xs k ≡ Some x → Contains xs x
place_of xs k x e = (k, slice_get_within xs k x e, get_or_from_slice_get xs k x x e)

-- the current version names the block of its part
part_is_named : (v : Versions) (table i : ℕ) (t : TableParts) (p : Part) → IsPartAt v v.current table i t p → IsNamed v p.block
part_is_named v table i t p at =
    ap (λ (o : Option Version). lists o p.block) at.live ∙ names_block at.version.shape t p (place_of at.version.shape table t at.its_table) (place_of t.parts i p at.its_part)

-- what is found for a part is the tail of the block that the files hold
pub found_tail : OneColumnIsSpelled → (s : Store) (disk : Disk) (table i : ℕ) (t : TableParts) (p : Part) (tail : BlockBehind) (b : Block) → KeepsTails s disk → IsPartAt s.versions s.versions.current table i t p → tail.rows ≡ p.rows → IsTailFound (Ok tail) s.kept t.schema p (reads_of disk) → HoldsBlock p.block b (reads_of disk) → IsBlockOf t.schema p b → tail ≡ block_behind b
found_tail one_column s disk table i t p tail b keeps at rows (inr read) holds is = read b holds is
found_tail one_column s disk table i t p tail b keeps at rows (inl kept) holds is =
    let k : KeptTail = record { block = p.block; tail = tail } in
    let h = All-contains (λ (k : KeptTail). IsNamed s.versions k.block → (held : Block) × IsBehind s.versions k held disk) s.kept k keeps.each kept (part_is_named s.versions table i t p at) in
    let kinds : h.0.kinds ≡ b.kinds = h.1.kinds at.version t p at.live (place_of at.version.shape table t at.its_table) (place_of t.parts i p at.its_part) refl ∙ sym is.kinds in
    let count : length h.0.rows ≡ length b.rows = sym (ap (λ (x : BlockBehind). x.rows) h.1.tail) ∙ rows ∙ sym is.rows in
    h.1.tail ∙ one_tail one_column p.block h.0 b (reads_of disk) kinds count (h.1.holds (reads_of disk) (reads_left disk)) holds

-- ---- what calls leave of them

-- a block is left where its files are
pub behind_on : (v w : Versions) (k : KeptTail) (held : Block) (touched : ℕ → Bool) (a b : Disk) → Moves (SameBut touched) a b → ((file : ℕ) → is_file_of k.block file ≡ true → touched file ≡ false) → IsOfKinds w k.block held → IsBehind v k held a → IsBehind w k held b
behind_on v w k held touched a b moves apart kinds is = record {
  tail = is.tail;
  holds = now_has (SameBut touched) (HoldsBlock k.block held) (HoldsBlock k.block held) a b moves is.holds (λ earlier image holds same. held_kept k.block held touched earlier image is.few apart same holds);
  kinds = kinds;
  few = is.few;
}

-- the current version is the same
pub record OneCurrent (v w : Versions) : Type 0 where
  pub at : version_at w w.current ≡ version_at v v.current
  pub next : w.next_block ≡ v.next_block

pub same_current : (v w : Versions) → SameVersions v w → OneCurrent v w
same_current v w same = record {
  at = ap (λ r. version_at w r) same.current ∙ ap (λ (l : List (Option Version)). get_or l v.current None) same.versions;
  next = same.next_block;
}

pub one_current : (v : Versions) → OneCurrent v v
one_current v = record { at = refl; next = refl }

pub one_swept : (old new : Store) (block : ℕ) → IsStore old → (sweeps : Sweeps old.versions new.versions block) → new.root.n ≡ old.root.n → OneCurrent old.versions new.versions
one_swept old new block keeps sweeps number = record { at = swept_current old new block keeps sweeps number; next = sweeps.next_block }

pub one_retired : (old new : Store) (row : ℕ) → IsStore old → row ≢ old.versions.current → IsLive old.versions row → Retires old.versions new.versions row → new.root ≡ old.root → OneCurrent old.versions new.versions
one_retired old new row keeps older live retires root = record { at = left_current old new row keeps older live retires root; next = retires.next_block }

-- files that a call leaves of a kept tail whose block the current version names
abbrev pub IsApart : Versions → (ℕ → Bool) → KeptTail → Type 0
IsApart v touched k = IsNamed v k.block → (file : ℕ) → is_file_of k.block file ≡ true → touched file ≡ false

module _ (old new : Store) (one : OneCurrent old.versions new.versions) (touched : ℕ → Bool) (a b : Disk) (moves : Moves (SameBut touched) a b) where
  was_named : (block : ℕ) → IsNamed new.versions block → IsNamed old.versions block
  was_named block is = sym (ap (λ (o : Option Version). lists o block) one.at) ∙ is

  -- some of the kept tails stay
  pub tails_left : All (λ k. Contains old.kept k × IsApart old.versions touched k) new.kept → KeepsTails old a → KeepsTails new b
  tails_left left keeps = record {
    below = All-weaker (λ (k : KeptTail). Contains old.kept k × IsApart old.versions touched k) (λ (k : KeptTail). k.block < new.versions.next_block) (λ k is. omega (arith, one.next, All-contains (λ (k : KeptTail). k.block < old.versions.next_block) old.kept k keeps.below is.0)) new.kept left;
    each = All-weaker (λ (k : KeptTail). Contains old.kept k × IsApart old.versions touched k) (λ (k : KeptTail). IsNamed new.versions k.block → (held : Block) × IsBehind new.versions k held b) (λ k is name. stays k is.0 is.1 (was_named k.block name)) new.kept left;
  }
    where
      stays : (k : KeptTail) → Contains old.kept k → IsApart old.versions touched k → IsNamed old.versions k.block → (held : Block) × IsBehind new.versions k held b
      stays k among apart name =
          let h = All-contains (λ (k : KeptTail). IsNamed old.versions k.block → (held : Block) × IsBehind old.versions k held a) old.kept k keeps.each among name in
          (h.0, behind_on old.versions new.versions k h.0 touched a b moves (apart name) (λ x t p e ct cp same. h.1.kinds x t p (sym one.at ∙ e) ct cp same) h.1)

  -- all of them do
  pub tails_stay : new.kept ≡ old.kept → ((block file : ℕ) → IsNamed old.versions block → is_file_of block file ≡ true → touched file ≡ false) → KeepsTails old a → KeepsTails new b
  tails_stay same apart keeps =
      tails_left
      (subst (λ (l : List KeptTail). All (λ k. Contains old.kept k × IsApart old.versions touched k) l) (sym same)
      (All-weaker (Contains old.kept) (λ k. Contains old.kept k × IsApart old.versions touched k) (λ k among. (among, λ name file of. apart k.block file name of)) old.kept (All-contains_itself old.kept)))
      keeps

-- on the same volume
pub tails_still : (old new : Store) (disk : Disk) → OneCurrent old.versions new.versions → new.kept ≡ old.kept → KeepsTails old disk → KeepsTails new disk
tails_still old new disk one same keeps =
    tails_stay old new one (λ file. false) disk disk (moves_still (SameBut (λ file. false)) disk (but_same (λ file. false))) same (λ block file name of. refl) keeps

-- nothing is kept
pub none_kept : (s : Store) (disk : Disk) → s.kept ≡ [] → KeepsTails s disk
none_kept s disk none = record {
  below = subst (λ (l : List KeptTail). All (λ k. k.block < s.versions.next_block) l) (sym none) (All-nil (λ (k : KeptTail). k.block < s.versions.next_block));
  each = subst (λ (l : List KeptTail). All (λ k. IsNamed s.versions k.block → (held : Block) × IsBehind s.versions k held disk) l) (sym none) (All-nil (λ (k : KeptTail). IsNamed s.versions k.block → (held : Block) × IsBehind s.versions k held disk));
}

pub others_leave : OtherFilesLeaveTails
others_leave touched before after s apart moves keeps = tails_stay s s (one_current s.versions) touched before after moves refl apart keeps

-- ---- the next version

module _ (old new : Versions) (n : ℕ) (shape : List TableParts) (count : ℕ) (may : MayPublish old n shape count) (current : version_at new new.current ≡ Some (record { n = n; shape = shape })) where
  -- it names no old block that the current one didn't
  pub named_before : (block : ℕ) → block < old.next_block → IsNamed new block → IsNamed old block
  named_before block less is = may.old block (listed_in block (blocks_of shape) (sym (ap (λ (o : Option Version). lists o block) current) ∙ is)) less

  -- and reads them as the same kinds
  pub kinds_by : (block : ℕ) (held : Block) (y : Version) (u : TableParts) (q : Part) → version_at old old.current ≡ Some y → Contains y.shape u → Contains u.parts q → block ≡ q.block → held.kinds ≡ take q.cols (kinds_in u.schema.cols) → IsOfKinds new block held
  kinds_by block held y u q live cu cq same kinds x t p e ct cp is =
      let there = subst (λ (v : Version). Contains v.shape t) (sym (same_Some (record { n = n; shape = shape }) x (sym current ∙ e))) ct in
      kinds ∙ sym (may.alike y live t u p q there cp cu cq (is ∙ same))

  pub kinds_before : (block : ℕ) (held : Block) → IsNamed old block → IsOfKinds old block held → IsOfKinds new block held
  kinds_before block held name kinds =
      let y = listed_at (version_at old old.current) block name in
      let q = named y.0.shape block y.2 in
      kinds_by block held y.0 q.t q.p y.1 q.its_table q.its_part q.same (kinds y.0 q.t q.p y.1 q.its_table q.its_part (sym q.same))

-- ---- behind a publication

-- a list that reaches past a place has an item
pub some_item : {X : Type 0} (xs : List X) (k : ℕ) → k < length xs → X
some_item [] k less = absurd (omega arith)
some_item (x ∷ xs) k less = x

-- a file of a block is none of others
not_among : (blocks : List ℕ) (block file : ℕ) → (Contains blocks block → ⊥) → is_file_of block file ≡ true → is_file_among blocks file ≡ false
not_among [] block file apart is = refl
not_among (b ∷ bs) block file apart is =
    or_none (is_file_of b file) (is_file_among bs file) (of_not_other block b file (λ same. apart (0, omega arith, sym same)) is)
    (not_among bs block file (λ c. apart (suc c.0, omega (arith, c.1), c.2)) is)

-- a publication touches no file of an older block that doesn't grow
published_apart : (next : ℕ) (blocks : List ℕ) (block file : ℕ) → block < next → (Contains blocks block → ⊥) → is_file_of block file ≡ true → is_published_file next blocks file ≡ false
published_apart next blocks block file less apart is =
    or_none (is_version_file file) (is_put_file next blocks file) (of_not_version block file is)
    (or_none (is_file_from next file) (is_file_among blocks file) (of_not_from next block file less is) (not_among blocks block file apart is))

-- one that failed
pub tails_failed : (old new : Store) (growing : List Growing) (a b : Disk) → OneCurrent old.versions new.versions → Moves (SameBut (is_published_file old.versions.next_block (blocks_growing growing))) a b → All (IsLeft old.kept (blocks_growing growing)) new.kept → KeepsTails old a → KeepsTails new b
tails_failed old new growing a b one moves left keeps =
    let touched = is_published_file old.versions.next_block (blocks_growing growing) in
    tails_left old new one touched a b moves
    (All-weaker (IsLeft old.kept (blocks_growing growing)) (λ (k : KeptTail). Contains old.kept k × IsApart old.versions touched k)
    (λ k is. (is.among, λ name file of. published_apart old.versions.next_block (blocks_growing growing) k.block file (All-contains (λ (k : KeptTail). k.block < old.versions.next_block) old.kept k keeps.below is.among) is.apart of)) new.kept left)
    keeps

-- one that was done: the blocks that grew have other tails
module _ (old new : Store) (n : ℕ) (shape : List TableParts) (count : ℕ) (may : MayPublish old.versions n shape count) (current : version_at new.versions new.versions.current ≡ Some (record { n = n; shape = shape })) (next : old.versions.next_block ≤ new.versions.next_block)
    (grown : List GrownBlock) (growing now : List Growing) (grows : All (MayGrow old.versions) grown) (are : AreGrowing old.versions grown growing) (a b : Disk) (moves : Moves (SameBut (is_published_file old.versions.next_block (blocks_growing growing))) a b)
    (held : ℕ → Block) (ready : AreReady held growing a) (more : EachNow b (HoldsMore held growing)) (tails : AreAllGrown held growing now) (keeps : KeepsTails old a)
  where
    -- what is known of a kept tail
    abbrev IsGood : KeptTail → Type 0
    IsGood k = (k.block < new.versions.next_block) × (IsNamed new.versions k.block → (h : Block) × IsBehind new.versions k h b)

    stayed : (k : KeptTail) → IsLeft old.kept (blocks_growing growing) k → IsGood k
    stayed k is = (
      omega (arith, low, next),
      λ name.
          let was = named_before old.versions new.versions n shape count may current k.block low name in
          let h = All-contains (λ (k : KeptTail). IsNamed old.versions k.block → (held : Block) × IsBehind old.versions k held a) old.kept k keeps.each is.among was in
          (h.0, behind_on old.versions new.versions k h.0 (is_published_file old.versions.next_block (blocks_growing growing)) a b moves (λ file of. published_apart old.versions.next_block (blocks_growing growing) k.block file low is.apart of) (kinds_before old.versions new.versions n shape count may current k.block h.0 was h.1.kinds) h.1),
    )
      where
        low : k.block < old.versions.next_block
        low = All-contains (λ (k : KeptTail). k.block < old.versions.next_block) old.kept k keeps.below is.among

    -- a block that grew
    grew : (j : ℕ) (g : GrownBlock) (x : Growing) → j < length growing → ((d : GrownBlock) → get_or grown j d ≡ g) → ((d : Growing) → get_or growing j d ≡ x) → IsGood (record { block = x.block; tail = block_behind (grown_of held x) })
    grew j g x less at_g at_x = (
      omega (arith, is.fit.below, next),
      λ name. (
        grown_of held x,
        record {
          tail = refl;
          holds = λ image there. subst (λ (y : Growing). HoldsBlock y.block (grown_of held y) image) (at_x x) (more image there j x less);
          kinds = kinds_by old.versions new.versions n shape count may current x.block (grown_of held x) m.there.version m.t m.p m.there.live (place_of m.there.version.shape g.table m.t m.there.its_table) (place_of m.t.parts g.part m.p m.there.its_part)
              (is.block ∙ part_block old.versions g m.t m.p m.there) (goes.kinds ∙ ap (λ (r : Block). r.kinds) is.rows ∙ m.kinds);
          few = subst (λ (ks : List ColType). length ks ≤ MAX_COLUMNS) (sym goes.kinds) is.fit.few;
        },
      ),
    )
      where
        here : j < length grown
        here = omega (arith, less, are.count)

        m : MayGrow old.versions g
        m = subst (MayGrow old.versions) (at_g g) (grows j g here)

        is : IsGrowing old.versions g x
        is = subst (λ (h : GrownBlock). IsGrowing old.versions h x) (at_g g) (subst (λ (y : Growing). IsGrowing old.versions (get_or grown j g) y) (at_x x) (are.each j g x here))

        goes : GoesOn (held x.block) x.tail (arc_value x.rows)
        goes = subst (λ (y : Growing). GoesOn (held y.block) y.tail (arc_value y.rows)) (at_x x) (ready j x less).0

    of_grown : (k : KeptTail) → Contains (tails_in now) k → IsGood k
    of_grown k c =
        let j = c.0 in
        let f : Growing → KeptTail = λ y. record { block = y.block; tail = y.tail } in
        let there : j < length now = omega (arith, c.1, length-map now f) in
        let less : j < length growing = omega (arith, there, tails.count) in
        let y0 = some_item now j there in
        let x = get_or growing j (some_item growing j less) in
        let g = get_or grown j (some_item grown j (omega (arith, less, are.count))) in
        let y = get_or now j y0 in
        let t = tails.each j (some_item growing j less) y0 less in
        let e : record { block = x.block; tail = block_behind (grown_of held x) } ≡ k =
        ap (λ b. record { block = b; tail = block_behind (grown_of held x) }) (sym t.block) ∙ ap (λ (z : BlockBehind). record { block = y.block; tail = z }) (sym t.tail) ∙ sym (get_or-map f now j y0 k there) ∙ c.2 in
        subst IsGood e (grew j g x less (λ d. get_or_default grown j d (some_item grown j (omega (arith, less, are.count))) (omega (arith, less, are.count))) (λ d. get_or_default growing j d (some_item growing j less) less))

    pub tails_done : (mid : List KeptTail) → All (IsLeft old.kept (blocks_growing growing)) mid → All (λ k. Contains mid k ⊎ Contains (tails_in now) k) new.kept → KeepsTails new b
    tails_done mid left kept = record {
      below = All-weaker (λ (k : KeptTail). Contains mid k ⊎ Contains (tails_in now) k) (λ (k : KeptTail). k.block < new.versions.next_block) (λ k is. (good k is).0) new.kept kept;
      each = All-weaker (λ (k : KeptTail). Contains mid k ⊎ Contains (tails_in now) k) (λ (k : KeptTail). IsNamed new.versions k.block → (held : Block) × IsBehind new.versions k held b) (λ k is. (good k is).1) new.kept kept;
    }
      where
        good : (k : KeptTail) → Contains mid k ⊎ Contains (tails_in now) k → IsGood k
        good k (inl stays) = stayed k (All-contains (IsLeft old.kept (blocks_growing growing)) mid k left stays)
        good k (inr new) = of_grown k new
