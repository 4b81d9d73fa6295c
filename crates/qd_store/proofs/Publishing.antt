-- What a publication leaves of a store.
use Rattle.std.proofs.Common.{◌≡◌, ◌⊎◌, inl, inr, ℕ, zero, suc, ◌+◌, ◌-◌, ◌^◌, ◌<◌, ◌≤◌, ◌++◌, nat_eq, nat_lt, Bool, true, false, List, [], ◌∷◌, length, map, All, Option, Some, None, Contains, refl, sym, ◌∙◌, ap, subst, arith, get_or}
use Rattle.std.specs.Arc.{arc_value}
use Rattle.std.specs.Prelude.{slice_set, unwrap_or}
use Rattle.std.proofs.lemmas.Bool.{eqb-false, eqb-true}
use Rattle.std.proofs.lemmas.Bool.Decides.{nat_tests}
use Rattle.std.proofs.lemmas.List.Elements.{All-contains, All-contains_itself, All-weaker}
use Rattle.qd_base.specs.declared.op.Entry.{Entry}
use Rattle.qd_base.specs.declared.part.Part.{Part}
use Rattle.qd_base.specs.Replay.{first}
use Rattle.qd_base.specs.Rows.{Row}
use Rattle.qd_block.specs.Blocks.{Block}
use Rattle.qd_catalog.specs.declared.version.Version as catalog
use Rattle.qd_catalog.specs.Versions.{Adds, SameVersions, lists, version_at}
use Rattle.qd_apply.specs.Laws.{GoesOnFrom, growth_block}
use Rattle.qd_apply.specs.Next.{TableGrowth}
use Rattle.qd_durable.specs.Moments.{ComesFrom, EachNow, LeavesOnly, Moves, SameBut}
use Rattle.qd_durable.proofs.Moved.{leaves_weaker}
use Rattle.qd_column_files.specs.Files.{HoldsBlock}
use Rattle.qd_column_files.specs.Growing.{with_rows}
use Rattle.qd_column_files.specs.Laws.{FirstRowsAreHeld}
use Rattle.qd_column_format.specs.Laws.{OneColumnIsSpelled}
use Rattle.qd_manifest.specs.declared.shape.TableParts.{TableParts}
use Rattle.qd_manifest.specs.Spelling.{IsManifest, blocks_of}
use Rattle.qd_sequencer.specs.Histories as histories
use Rattle.qd_sequencer.specs.Histories.{MayHold}
use Rattle.qd_sequencer.specs.Laws.{OtherFilesLeaveTheSequence}
use Rattle.qd_sequencer.specs.Sequences.{IsSequence}
use Rattle.qd_txnfile.specs.declared.half.Other.{Other}
use Rattle.qd_txnfile.specs.declared.half.Other.TheVariants as other
use Rattle.qd_txnfile.specs.States.{IsDirty}
use Rattle.qd_txnfile.specs.Versions.{GivesVersion, Version, is_version_file}
use Rattle.qd_versions.specs.declared.published.GrownBlock.{GrownBlock}
use Rattle.qd_versions.specs.declared.published.NewBlock.{NewBlock}
use Rattle.qd_versions.specs.Publishing.{AreHeldBy, GivesBefore, GivesWhole, HoldsAll, HoldsGrown, KeepsGrown, MayGrow, MayPublish, grown_blocks, is_published_file}
use Rattle.qd_versions.specs.Kept.{KeepsTails}
use Rattle.qd_versions.specs.Reading.{IsPartAt}
use Rattle.qd_versions.specs.Stores as versions
use Rattle.qd_versions.specs.Stores.{IsRooted, current_version, manifest_in, stored}
use Rattle.qd_versions.proofs.Blocks.{listed_in}
use Rattle.qd_versions.proofs.Files.{of_not_version}
use Rattle.qd_versions.proofs.Kept.{leaves_and}
use Rattle.qd_volume.specs.Disk.{Disk, Image, images_now}
use Rattle.qd_store.specs.Grown.{growth_of}
use Rattle.qd_store.specs.Marks.{IsMade}
use Rattle.qd_store.specs.Prefixes.{HoldsBlocks, HoldsTables, IsLeft, IsShown}
use Rattle.qd_store.specs.Stores.{Book, IsStore}
use Rattle.qd_store.specs.Calls.{MayShow, ShowsOneOf, StandsNext}
use Rattle.qd_store.proofs.Committing.{the_current}
use Rattle.qd_store.proofs.GrownFiles.{publish_elsewhere, publish_zero}
use Rattle.qd_store.proofs.GrownParts.{contains_map, growth_there, here_table, held_by, other_kept, own_kept, small_numbers}
use Rattle.qd_store.proofs.OneOf.{current_is, one_of, shows_one_of}
use Rattle.qd_store.proofs.OpenedStore.{never_dirty}
use Rattle.qd_store.proofs.Sides.{LeftTables, Shows, Spares, blocks_kept, made_kept, made_now, shown_kept}

pub version_spares : (shape : List TableParts) → All (Spares is_version_file) (blocks_of shape)
version_spares shape k d lt file is = of_not_version (get_or (blocks_of shape) k d) file is

-- ---- a row of the catalogue

pub set_some : (xs : List (Option catalog.Version)) (i j : ℕ) (y x : catalog.Version) → get_or (slice_set xs i (Some y)) j None ≡ Some x → (x ≡ y) ⊎ (get_or xs j None ≡ Some x)
set_some [] i j y x at = inr at
set_some (z ∷ zs) zero zero y x at = inl (some_is at)
  where
    some_is : Some y ≡ Some x → x ≡ y
    some_is e = sym (ap (λ (o : Option catalog.Version). unwrap_or o y) e)
set_some (z ∷ zs) zero (suc j) y x at = inr at
set_some (z ∷ zs) (suc i) zero y x at = inr at
set_some (z ∷ zs) (suc i) (suc j) y x at = set_some zs i j y x at

-- ---- the new blocks

-- the block of a number is among them
new_held : (blocks : List NewBlock) (next k : ℕ) (contents : ℕ → Block) (image : Image) → ((i : ℕ) (d : NewBlock) → i < length blocks → (get_or blocks i d).block ≡ next + i) → All (λ new. contents new.block ≡ arc_value new.of) blocks → HoldsAll blocks image
    → k < length blocks → HoldsBlock (next + k) (contents (next + k)) image
new_held [] next k contents image at made held low = absurd (omega (arith, low))
new_held (b ∷ bs) next k contents image at made held low =
    let new = get_or (b ∷ bs) k b in
    subst (λ (n : ℕ). HoldsBlock n (contents n) image) (at k b low)
    (subst (λ (c : Block). HoldsBlock new.block c image) (sym (made k b low)) (held k b low))

pub shows_weaker : (h : List Entry) (More : Entry → Type 0) (P Q : Version → Type 0) (image : Image) → ((v : Version) → P v → Q v) → ShowsOneOf h More P image → ShowsOneOf h More Q image
shows_weaker h More P Q image weaker shows = record { found = shows.found; finds = shows.finds; history = shows.history; version = weaker _ shows.version }

-- ---- blocks of the current version, as the next one shows them

module _ (fronts : FirstRowsAreHeld) (s : versions.Store) (x : catalog.Version) (at : version_at s.versions s.versions.current ≡ Some x) (grown : List GrownBlock) (may : All (MayGrow s.versions) grown)
    (held contents : ℕ → Block) (b : ℕ) (image : Image) where
  with_more : (g : GrownBlock) (to : TableGrowth) → Contains grown g → growth_of g ≡ to → growth_block x.shape to ≡ b → contents b ≡ record (held b) { rows = (held b).rows ++ to.rows.rows } → HoldsGrown s.versions held grown image → HoldsBlock b (contents b) image
  with_more g to among same named is all =
      let m = All-contains (MayGrow s.versions) grown g may among in
      let there : m.p.block ≡ b = sym (growth_there x.shape (growth_of g) m.t m.p (here_table s.versions x at g m.t m.p m.there) m.there.its_part) ∙ ap (growth_block x.shape) same ∙ named in
      let rows : (arc_value g.rows).rows ≡ to.rows.rows = ap (λ (k : TableGrowth). k.rows.rows) same in
      let whole : HoldsBlock m.p.block (with_rows (held m.p.block) (arc_value g.rows).rows) image =
      All-contains (λ (k : GrownBlock). (t : TableParts) (p : Part) → IsPartAt s.versions s.versions.current k.table k.part t p → HoldsBlock p.block (with_rows (held p.block) (arc_value k.rows).rows) image) grown g all among m.t m.p m.there in
      let here : HoldsBlock b (with_rows (held b) (arc_value g.rows).rows) image = subst (λ (c : ℕ). HoldsBlock c (with_rows (held c) (arc_value g.rows).rows) image) there whole in
      subst (λ (c : Block). HoldsBlock b c image) (sym is) (subst (λ (rs : List Row). HoldsBlock b (with_rows (held b) rs) image) rows here)

  pub goes_on_held : GoesOnFrom x.shape held (map growth_of grown) contents b → HoldsBlock b (held b) image → HoldsGrown s.versions held grown image → HoldsBlock b (contents b) image
  goes_on_held (inl (k, is)) there all = subst (λ (c : Block). HoldsBlock b c image) (sym is) (fronts b k (held b) image there)
  goes_on_held (inr (to, among, named, is)) there all = let found = contains_map growth_of grown to among in with_more found.0 to found.1 found.2 named is all

-- ---- a publication

module _ (old : Book) (n : ℕ) (shape : List TableParts) (blocks : List NewBlock) (grown : List GrownBlock) (v : Version) (before after : Disk) (law : versions.IsStore old.versions) (logs : OtherFilesLeaveTheSequence)
    (fronts : FirstRowsAreHeld) (columns : OneColumnIsSpelled)
    (v_is : v ≡ stored n (old.versions.versions.next_block + length blocks) shape) (may : MayPublish old.versions.versions n shape (length blocks)) (grows : All (MayGrow old.versions.versions) grown)
    (numbered : (i : ℕ) (d : NewBlock) → i < length blocks → (get_or blocks i d).block ≡ old.versions.versions.next_block + i)
    (moves : Moves (SameBut (is_published_file old.versions.versions.next_block (grown_blocks old.versions.versions grown))) before after)
    (keeps : (held : ℕ → Block) → AreHeldBy old.versions.versions held grown before → LeavesOnly before after (KeepsGrown old.versions.versions held grown) × EachNow after (KeepsGrown old.versions.versions held grown))
    (h : List Entry) (last : Version) (is : IsStore old h last before) (next : StandsNext old h n shape blocks grown) where
  abbrev from : ℕ
  from = old.versions.versions.next_block

  abbrev touched : ℕ → Bool
  touched = is_published_file from (grown_blocks old.versions.versions grown)

  abbrev x : catalog.Version
  x = (the_current (version_at old.versions.versions old.versions.versions.current) law.live).0

  at : version_at old.versions.versions old.versions.versions.current ≡ Some x
  at = (the_current (version_at old.versions.versions old.versions.versions.current) law.live).1

  pub shown : IsShown h x.n x.shape before
  shown = is.versions.live old.versions.versions.current x at

  pub shown_held : AreHeldBy old.versions.versions shown.blocks grown before
  shown_held = held_by fronts columns old.versions law grown grows x at h before shown

  old_moments : LeavesOnly before after (HoldsBlocks x.shape shown.blocks)
  old_moments =
      leaves_weaker (λ image. ComesFrom (SameBut touched) before image × KeepsGrown old.versions.versions shown.blocks grown image) (HoldsBlocks x.shape shown.blocks) before after
      (λ image both. own_kept fronts columns old.versions law grown grows x at h before shown image both.0 both.1)
      (leaves_and (ComesFrom (SameBut touched) before) (KeepsGrown old.versions.versions shown.blocks grown) before after moves.moments (keeps shown.blocks shown_held).0)

  old_now : EachNow after (HoldsBlocks x.shape shown.blocks)
  old_now image now = own_kept fronts columns old.versions law grown grows x at h before shown image (moves.now image now) ((keeps shown.blocks shown_held).1 image now)

  -- the blocks of the new version
  module _ (image : Image) (held : HoldsBlocks x.shape shown.blocks image) (all : HoldsAll blocks image) (rows : HoldsGrown old.versions.versions shown.blocks grown image) where
    by_place : (b : ℕ) → Contains (blocks_of shape) b → (low : Bool) → nat_lt b from ≡ low → HoldsBlock b (next.contents b) image
    by_place b in_shape true e =
        let low : b < from = grind (arith, nat_tests) in
        let listed : lists (Some x) b ≡ true = subst (λ (o : Option catalog.Version). lists o b ≡ true) at (may.old b in_shape low) in
        goes_on_held fronts old.versions x at grown grows shown.blocks next.contents b image (next.kept x shown.blocks at shown.stands b listed in_shape low)
        (All-contains (λ c. HoldsBlock c (shown.blocks c) image) (blocks_of x.shape) b held (listed_in b (blocks_of x.shape) listed)) rows
    by_place b in_shape false e =
        let high : from ≤ b = grind (arith, nat_tests) in
        let low : b < from + length blocks = All-contains (λ c. c < from + length blocks) (blocks_of shape) b may.sound.below in_shape in
        let there : from + (b - from) ≡ b = omega (arith, high) in
        subst (λ (c : ℕ). HoldsBlock c (next.contents c) image) there
        (new_held blocks from (b - from) next.contents image numbered next.made all (omega (arith, high, low)))

    new_blocks : HoldsBlocks shape next.contents image
    new_blocks = All-weaker (Contains (blocks_of shape)) (λ b. HoldsBlock b (next.contents b) image) (λ b in_shape. by_place b in_shape (nat_lt b from) refl) (blocks_of shape) (All-contains_itself (blocks_of shape))

    new_tables : HoldsTables shape (first h n) image
    new_tables = record { blocks = next.contents; stands = next.stands; held = new_blocks }

  new_small : All (λ b. b < 2 ^ 52) (blocks_of shape)
  new_small = All-weaker (λ b. b < from + length blocks) (λ b. b < 2 ^ 52) (λ b low. omega (arith, low, may.sound.next, may.few)) (blocks_of shape) may.sound.below

  pub new_shown : EachNow after (λ image. HoldsAll blocks image × HoldsGrown old.versions.versions shown.blocks grown image) → IsShown h n shape after
  new_shown all = record {
    few = next.few;
    small = new_small;
    blocks = next.contents;
    stands = next.stands;
    held = λ image now. let both = all image now in new_blocks image (old_now image now) both.0 both.1;
  }

  pub sequence_kept : IsSequence old.sequence h after
  sequence_kept = (logs touched old.sequence h before after (publish_elsewhere from (grown_blocks old.versions.versions grown) (small_numbers old.versions law grown grows)) moves is.sequence).1

  -- ---- at each moment

  few_shown : x.n ≤ length h
  few_shown = shown.few

  sound : IsManifest x.n (manifest_in from x.shape)
  sound = (law.current x at).sound

  -- an image that gives what was known before has all but the version files as it was
  lefts : (known : Other) (left : IsDirty known → IsLeft h last before) (image earlier : Image) → images_now before earlier → SameBut is_version_file earlier image → LeftTables h last before known left image
  lefts (other.Opening k) left image earlier now same =
      let p = left tt in record {
        blocks = p.shown.blocks;
        stands = p.shown.stands;
        held = blocks_kept is_version_file p.manifest.shape p.shown.blocks (first h last.n) earlier image p.shown.stands (version_spares p.manifest.shape) same (p.shown.held earlier now);
      }
  lefts other.Older left image earlier now same = tt
  lefts other.Closed left image earlier now same = tt
  lefts (other.Written k) left image earlier now same = tt

  one_image : (image : Image) → IsMade image → MayHold old.sequence.refs h (histories.IsPending old.sequence.pending before) image → HoldsBlocks x.shape shown.blocks image
      → GivesBefore old.versions.root.other (current_version old.versions.versions) last before image ⊎ GivesVersion (current_version old.versions.versions) image ⊎ (GivesWhole v blocks image × HoldsGrown old.versions.versions shown.blocks grown image)
      → ShowsOneOf h (histories.IsPending old.sequence.pending before) (λ w. MayShow old last w ⊎ (w ≡ v)) image
  one_image image made may_hold held (inl (given, (earlier, now, same))) =
      let current : HoldsTables x.shape (first h x.n) image = record { blocks = shown.blocks; stands = shown.stands; held = held } in
      let shows : Shows old.versions h last x before (λ d. (is.versions.pending d).left) image = record {
        made = made;
        given = given;
        current = current;
        others = lefts old.versions.root.other (λ d. (is.versions.pending d).left) image earlier now same;
      } in
      shows_weaker h (histories.IsPending old.sequence.pending before) (MayShow old last) (λ w. MayShow old last w ⊎ (w ≡ v)) image (λ w m. inl m)
      (shows_one_of old.versions h (histories.IsPending old.sequence.pending before) old.sequence.refs last x before (λ d. (is.versions.pending d).left) image at sound few_shown shows may_hold)
  one_image image made may_hold held (inr (inl gives)) =
      one_of h (histories.IsPending old.sequence.pending before) (λ w. MayShow old last w ⊎ (w ≡ v)) old.sequence.refs x.n (manifest_in from x.shape) image made
      (subst (λ (w : Version). GivesVersion w image) (current_is old.versions x at) gives) sound few_shown (record { blocks = shown.blocks; stands = shown.stands; held = held })
      (inl (inl (sym (current_is old.versions x at)))) may_hold
  one_image image made may_hold held (inr (inr (whole, rows))) =
      one_of h (histories.IsPending old.sequence.pending before) (λ w. MayShow old last w ⊎ (w ≡ v)) old.sequence.refs n (manifest_in (from + length blocks) shape) image made
      (subst (λ (w : Version). GivesVersion w image) v_is whole.0) may.sound next.few (new_tables image held whole.1 rows)
      (inr (sym v_is)) may_hold

  pub publish_moments : LeavesOnly before after (λ image. GivesBefore old.versions.root.other (current_version old.versions.versions) last before image ⊎ GivesVersion (current_version old.versions.versions) image ⊎ (GivesWhole v blocks image × HoldsGrown old.versions.versions shown.blocks grown image))
      → LeavesOnly before after (ShowsOneOf h (histories.IsPending old.sequence.pending before) (λ w. MayShow old last w ⊎ (w ≡ v)))
  publish_moments given =
      leaves_weaker
      (λ image. IsMade image × (MayHold old.sequence.refs h (histories.IsPending old.sequence.pending before) image × (HoldsBlocks x.shape shown.blocks image
      × (GivesBefore old.versions.root.other (current_version old.versions.versions) last before image ⊎ GivesVersion (current_version old.versions.versions) image ⊎ (GivesWhole v blocks image × HoldsGrown old.versions.versions shown.blocks grown image)))))
      (ShowsOneOf h (histories.IsPending old.sequence.pending before) (λ w. MayShow old last w ⊎ (w ≡ v))) before after
      (λ image f. one_image image f.0 f.1.0 f.1.1.0 f.1.1.1)
      (leaves_and IsMade (λ image. MayHold old.sequence.refs h (histories.IsPending old.sequence.pending before) image × (HoldsBlocks x.shape shown.blocks image
      × (GivesBefore old.versions.root.other (current_version old.versions.versions) last before image ⊎ GivesVersion (current_version old.versions.versions) image ⊎ (GivesWhole v blocks image × HoldsGrown old.versions.versions shown.blocks grown image)))) before after
      (made_kept touched before after moves (publish_zero from (grown_blocks old.versions.versions grown)) is.versions.made)
      (leaves_and (MayHold old.sequence.refs h (histories.IsPending old.sequence.pending before)) (λ image. HoldsBlocks x.shape shown.blocks image
      × (GivesBefore old.versions.root.other (current_version old.versions.versions) last before image ⊎ GivesVersion (current_version old.versions.versions) image ⊎ (GivesWhole v blocks image × HoldsGrown old.versions.versions shown.blocks grown image))) before after
      (logs touched old.sequence h before after (publish_elsewhere from (grown_blocks old.versions.versions grown) (small_numbers old.versions law grown grows)) moves is.sequence).0
      (leaves_and (HoldsBlocks x.shape shown.blocks)
      (λ image. GivesBefore old.versions.root.other (current_version old.versions.versions) last before image ⊎ GivesVersion (current_version old.versions.versions) image ⊎ (GivesWhole v blocks image × HoldsGrown old.versions.versions shown.blocks grown image)) before after
      old_moments given)))

  -- ---- behind it

  -- versions that show beginnings of the same files
  own_live : (y : catalog.Version) → y ≡ x → (theirs : IsShown h y.n y.shape before) → EachNow after (HoldsBlocks y.shape theirs.blocks)
  own_live y same =
      subst (λ (z : catalog.Version). (theirs : IsShown h z.n z.shape before) → EachNow after (HoldsBlocks z.shape theirs.blocks)) (sym same)
      (λ theirs image now.
      own_kept fronts columns old.versions law grown grows x at h before theirs image (moves.now image now) ((keeps theirs.blocks (held_by fronts columns old.versions law grown grows x at h before theirs)).1 image now))

  live_held : (row : ℕ) (y : catalog.Version) → version_at old.versions.versions row ≡ Some y → (theirs : IsShown h y.n y.shape before) → (same : Bool) → nat_eq row old.versions.versions.current ≡ same → EachNow after (HoldsBlocks y.shape theirs.blocks)
  live_held row y there theirs true e =
      let here : version_at old.versions.versions old.versions.versions.current ≡ Some y = subst (λ (r : ℕ). version_at old.versions.versions r ≡ Some y) (eqb-true row old.versions.versions.current e) there in
      own_live y (one_current here) theirs
    where
      one_current : version_at old.versions.versions old.versions.versions.current ≡ Some y → y ≡ x
      one_current here = let both : Some y ≡ Some x = sym here ∙ at in cc
  live_held row y there theirs false e = λ image now.
      other_kept fronts columns old.versions law grown grows x at h before row y there (λ same. eqb-false row old.versions.versions.current e same) theirs shown image (moves.now image now) ((keeps shown.blocks shown_held).1 image now)

  live_kept : (row : ℕ) (y : catalog.Version) → version_at old.versions.versions row ≡ Some y → IsShown h y.n y.shape after
  live_kept row y there =
      let theirs = is.versions.live row y there in record {
        few = theirs.few;
        small = theirs.small;
        blocks = theirs.blocks;
        stands = theirs.stands;
        held = live_held row y there theirs (nat_eq row old.versions.versions.current) refl;
      }

  module _ (new : Book) (logs_same : new.sequence ≡ old.sequence) (kept : KeepsTails new.versions after) where
    sequence_now : IsSequence new.sequence h after
    sequence_now = subst (λ (s : _). IsSequence s h after) (sym logs_same) sequence_kept

    pub is_published : (row : ℕ) → Adds old.versions.versions new.versions.versions n shape row → EachNow after (λ image. GivesWhole v blocks image × HoldsGrown old.versions.versions shown.blocks grown image) → ((later : Version) → IsRooted new.versions later after) → (later : Version) → IsStore new h later after
    is_published row adds whole rooted later = record {
      sequence = sequence_now;
      versions = record {
        made = made_now touched before after moves (publish_zero from (grown_blocks old.versions.versions grown)) is.versions.made;
        rooted = rooted later;
        pending = λ dirty. absurd (never_dirty new.versions after rooted dirty);
        live = λ r y there. by r y (set_some old.versions.versions.versions row r (record { n = n; shape = shape }) y (subst (λ (l : List (Option catalog.Version)). get_or l r None ≡ Some y) adds.versions there));
        kept = kept;
      };
    }
      where
        by : (r : ℕ) (y : catalog.Version) → (y ≡ record { n = n; shape = shape }) ⊎ (get_or old.versions.versions.versions r None ≡ Some y) → IsShown h y.n y.shape after
        by r y (inl new_one) = subst (λ (z : catalog.Version). IsShown h z.n z.shape after) (sym new_one) (new_shown (λ image now. let both = whole image now in (both.0.1, both.1)))
        by r y (inr old_one) = live_kept r y old_one

    -- where it failed, the versions are as before
    module _ (same : SameVersions old.versions.versions new.versions.versions) where
      live_same : (row : ℕ) (y : catalog.Version) → version_at new.versions.versions row ≡ Some y → IsShown h y.n y.shape after
      live_same row y there = live_kept row y (subst (λ (l : List (Option catalog.Version)). get_or l row None ≡ Some y) same.versions there)

      lists_same : (b : ℕ) → lists (version_at old.versions.versions old.versions.versions.current) b ≡ true → lists (version_at new.versions.versions new.versions.versions.current) b ≡ true
      lists_same b listed =
          subst (λ (k : ℕ). lists (version_at new.versions.versions k) b ≡ true) (sym same.current)
          (subst (λ (l : List (Option catalog.Version)). lists (get_or l old.versions.versions.current None) b ≡ true) (sym same.versions) listed)

      made_same : EachNow after IsMade
      made_same = made_now touched before after moves (publish_zero from (grown_blocks old.versions.versions grown)) is.versions.made

      -- in its repair
      pub failed_in_repair : (IsDirty new.versions.root.other → IsDirty old.versions.root.other) → IsRooted new.versions last after → Moves (SameBut is_version_file) before after → IsStore new h last after
      failed_in_repair before_too rooted alone = record {
        sequence = sequence_now;
        versions = record {
          made = made_same;
          rooted = rooted;
          pending = λ dirty. let p = is.versions.pending (before_too dirty) in record {
            left = record { manifest = p.left.manifest; sound = p.left.sound; spelled = p.left.spelled; shown = shown_kept is_version_file before after alone h last.n p.left.manifest.shape (version_spares p.left.manifest.shape) p.left.shown };
            blocks = λ b in_shape. by b (p.blocks b in_shape);
          };
          live = live_same;
          kept = kept;
        };
      }
        where
          by : (b : ℕ) → (lists (version_at old.versions.versions old.versions.versions.current) b ≡ true) ⊎ (old.versions.versions.next_block ≤ b) → (lists (version_at new.versions.versions new.versions.versions.current) b ≡ true) ⊎ (new.versions.versions.next_block ≤ b)
          by b (inl listed) = inl (lists_same b listed)
          by b (inr high) = inr (subst (λ (k : ℕ). k ≤ b) (sym same.next_block) high)

      -- with nothing left
      pub failed_clean : (IsDirty new.versions.root.other → ⊥) → IsRooted new.versions last after → IsStore new h last after
      failed_clean clean rooted = record {
        sequence = sequence_now;
        versions = record { made = made_same; rooted = rooted; pending = λ dirty. absurd (clean dirty); live = live_same; kept = kept };
      }

      -- at the gate of the new version
      pub failed_at_gate : IsRooted new.versions v after → EachNow after (λ image. HoldsAll blocks image × HoldsGrown old.versions.versions shown.blocks grown image) → IsStore new h v after
      failed_at_gate rooted all = record {
        sequence = sequence_now;
        versions = record {
          made = made_same;
          rooted = rooted;
          pending = λ dirty. record {
            left = record {
              manifest = manifest_in (from + length blocks) shape;
              sound = subst (λ (k : ℕ). IsManifest k (manifest_in (from + length blocks) shape)) (sym number) may.sound;
              spelled = v_is ∙ ap (λ (k : ℕ). stored k (from + length blocks) shape) (sym number);
              shown = subst (λ (k : ℕ). IsShown h k shape after) (sym number) (new_shown all);
            };
            blocks = λ b in_shape. by b in_shape (nat_lt b from) refl;
          };
          live = live_same;
          kept = kept;
        };
      }
        where
          number : v.n ≡ n
          number = ap (λ (w : Version). w.n) v_is

          by : (b : ℕ) → Contains (blocks_of shape) b → (low : Bool) → nat_lt b from ≡ low → (lists (version_at new.versions.versions new.versions.versions.current) b ≡ true) ⊎ (new.versions.versions.next_block ≤ b)
          by b in_shape true e = inl (lists_same b (may.old b in_shape (grind (arith, nat_tests))))
          by b in_shape false e = let high : from ≤ b = grind (arith, nat_tests) in inr (subst (λ (k : ℕ). k ≤ b) (sym same.next_block) high)
