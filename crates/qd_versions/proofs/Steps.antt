-- What the writing of a version leaves at each moment, from what its calls leave.
use Rattle.std.proofs.Common.{◌≡◌, ◌⊎◌, inl, inr, ℕ, zero, suc, ◌+◌, ◌^◌, ◌<◌, ◌≤◌, Bool, true, false, List, [], ◌∷◌, map, length, slice_index_or, All, Result, Ok, Err, OnOk, refl, sym, ap, ◌∙◌, subst, ◌||◌, arith}
use Rattle.std.specs.Arc.{arc_value}
use Rattle.std.proofs.lemmas.List.FromFn.{get_or-range_with_len}
use Rattle.qd_base.specs.declared.limits.TheConstants.{MAX_COLUMNS}
use Rattle.qd_block.specs.Blocks.{Block}
use Rattle.qd_io.specs.Ends.{Counts, HasRisen}
use Rattle.qd_io.specs.declared.fault.IoFault.{IoFault}
use Rattle.qd_io.specs.declared.fault.IoFault.TheVariants as io
use Rattle.qd_volume.specs.Disk.{Disk, Image, reads_of}
use Rattle.qd_durable.specs.Moments.{ComesFrom, EachNow, LeavesOnly, Moves, SameBut}
use Rattle.qd_durable.proofs.Moved.{but_both, but_same, leaves_both, leaves_weaker, moments_have, moves_both, moves_still, moves_weaker, now_has}
use Rattle.qd_txnfile.specs.Calls.{Flips, Repairs, WritesBody}
use Rattle.qd_txnfile.specs.States.{GivesKnown, GivesOneOf, IsDirty, Knows, Root, with_other}
use Rattle.qd_txnfile.specs.declared.half.Half.{Half}
use Rattle.qd_txnfile.specs.declared.half.Other.{Other}
use Rattle.qd_txnfile.specs.declared.half.Other.TheVariants as other
use Rattle.qd_txnfile.specs.Versions.{GivesVersion, Version, is_version_file}
use Rattle.qd_txnfile.proofs.Steps.{known_given}
use Rattle.qd_column_files.specs.Calls.{IsGone, PutsBlock, RemovesBlock}
use Rattle.qd_column_files.specs.Files.{HoldsBlock, column_file, is_file_of}
use Rattle.qd_versions.specs.declared.fault.PublishFault.{PublishFault}
use Rattle.qd_versions.specs.declared.fault.PublishFault.TheVariants as publish
use Rattle.qd_versions.specs.declared.published.NewBlock.{NewBlock}
use Rattle.qd_versions.specs.Faults.{CountsPublish, graver, publish_fault, together}
use Rattle.qd_versions.specs.declared.growing.Growing.{Growing}
use Rattle.qd_versions.specs.Publishing.{AreNumbered, GivesBefore, GivesWhole, HoldsAll, is_file_among, is_file_from, is_published_file, is_put_file}
use Rattle.qd_versions.specs.Tails.{AreReady, GrowsAll, GrowsBlocks, HoldsMore, IsFit, Keeps, blocks_growing, grown_of}
use Rattle.qd_versions.specs.Writing.{Clears, GivesUp, IsLate, LaysDown, PutsBeside, PutsBlocks, PutsFiles, RemovesBlocks}
use Rattle.qd_versions.proofs.Files.{but_more, but_version, column_of, held_kept, low_from, low_of, of_is_from, of_not_from, of_not_later, of_not_version, or_left, or_right}
use Rattle.qd_versions.proofs.Growths.{AreLeft, each_moments, each_now, low_among, narrow_grown, narrow_was, new_not_among, ready_keeps, ready_kept}
use Rattle.qd_versions.proofs.Kept.{knows_kept, leaves_and, version_kept}

-- ---- the files of new blocks

-- the first blocks are held, and have files for their columns
pub record HasPut (next count : ℕ) (blocks : List NewBlock) (before after : Disk) : Type 0 where
  pub elsewhere : Moves (SameBut (is_file_from next)) before after
  pub held : (k : ℕ) (d : NewBlock) → k < count → EachNow after (HoldsBlock (slice_index_or blocks k d).block (arc_value (slice_index_or blocks k d).of))

-- blocks are numbered upwards, by their places
abbrev pub AreAt : ℕ → List NewBlock → Type 0
AreAt next blocks = (k : ℕ) (d : NewBlock) → k < length blocks → (slice_index_or blocks k d).block ≡ next + k

-- an element is the same whatever stands for none
item_same : {X : Type 0} (xs : List X) (k : ℕ) (d e : X) → k < length xs → slice_index_or xs k d ≡ slice_index_or xs k e
item_same [] k d e less = absurd (omega arith)
item_same (x ∷ xs) zero d e less = refl
item_same (x ∷ xs) (suc k) d e less = item_same xs k d e (omega (arith, less))

pub item_is : {X : Type 0} (xs : List X) (k : ℕ) (x : X) → k < length xs → x ≡ slice_index_or xs k x → (d : X) → slice_index_or xs k d ≡ x
item_is xs k x less is d = item_same xs k d x less ∙ sym is

-- the number of a block of so many behind a first one
pub block_at : (next count : ℕ) (blocks : List NewBlock) (new : NewBlock) → AreAt next blocks → count < length blocks → ((d : NewBlock) → slice_index_or blocks count d ≡ new) → new.block ≡ next + count
block_at next count blocks new at here is = sym (ap (λ (b : NewBlock). b.block) (is new)) ∙ at count new here

number_at : (blocks : List NewBlock) (k : ℕ) (d : NewBlock) → slice_index_or (map (λ (b : NewBlock). b.block) blocks) k d.block ≡ (slice_index_or blocks k d).block
number_at [] k d = refl
number_at (b ∷ bs) zero d = refl
number_at (b ∷ bs) (suc k) d = number_at bs k d

pub numbered_at : (next : ℕ) (blocks : List NewBlock) → AreNumbered next blocks → AreAt next blocks
numbered_at next blocks numbered k d less =
    sym (number_at blocks k d) ∙ ap (λ (l : List ℕ). slice_index_or l k d.block) numbered ∙ get_or-range_with_len next (length blocks) k d.block less

-- the first blocks have few columns
abbrev pub AreFew : ℕ → List NewBlock → Type 0
AreFew count blocks = (k : ℕ) (d : NewBlock) → k < count → length (arc_value (slice_index_or blocks k d).of).kinds ≤ MAX_COLUMNS

pub put_none : (next : ℕ) (blocks : List NewBlock) (disk : Disk) → HasPut next 0 blocks disk disk
put_none next blocks disk = record {
  elsewhere = moves_still (SameBut (is_file_from next)) disk (but_same (is_file_from next));
  held = λ k d less. absurd (omega arith);
}

-- a call that changes the files of one block changes those from a number on
one_elsewhere : (next block : ℕ) (before after : Disk) → next ≤ block → block < 2 ^ 52 → Moves (SameBut (is_file_of block)) before after → Moves (SameBut (is_file_from next)) before after
one_elsewhere next block before after low small moves =
    moves_weaker (SameBut (is_file_of block)) (SameBut (is_file_from next)) before after
    (λ earlier image same file e. same file (apart file e)) moves
  where
    apart : (file : ℕ) → is_file_from next file ≡ false → is_file_of block file ≡ false
    apart file e = by (is_file_of block file) refl
      where
        by : (is : Bool) → is_file_of block file ≡ is → is ≡ false
        by false f = refl
        by true f = let h = of_is_from next block file low small f in cc

module _ (next count : ℕ) (blocks : List NewBlock) (at : AreAt next blocks) (small : next + length blocks ≤ 2 ^ 52) (here : count < length blocks) (a b c : Disk) (had : HasPut next count blocks a b) where
  both_elsewhere : (block : ℕ) → block ≡ next + count → Moves (SameBut (is_file_of block)) b c → Moves (SameBut (is_file_from next)) a c
  both_elsewhere block is moves =
      moves_both (SameBut (is_file_from next)) (SameBut (is_file_from next)) (SameBut (is_file_from next)) a b c (λ x y r. r) (but_both (is_file_from next)) had.elsewhere
      (one_elsewhere next block b c (omega arith) (omega arith) moves)

  pub put_failed : {T E : Type 0} (fault answer : E) (new : NewBlock) → new.block ≡ next + count → PutsBlock {T = T} {E = E} (Err fault) new.block (arc_value new.of) b c → PutsBlocks {T = T} {E = E} (Err answer) next blocks a c
  put_failed fault answer new is puts = record { elsewhere = both_elsewhere new.block is puts.elsewhere; held = tt }

  pub put_more : {T E : Type 0} (done : T) (new : NewBlock) → ((d : NewBlock) → slice_index_or blocks count d ≡ new) → AreFew (count + 1) blocks → PutsBlock {T = T} {E = E} (Ok done) new.block (arc_value new.of) b c → HasPut next (count + 1) blocks a c
  put_more done new is few puts = record {
    elsewhere = both_elsewhere new.block (numbered new) puts.elsewhere;
    held = λ k d less. by k d (cases k less);
  }
    where
      numbered : (d : NewBlock) → new.block ≡ next + count
      numbered d = let e = is d in let f = at count d here in cc

      cases : (k : ℕ) → k < count + 1 → (k < count) ⊎ (k ≡ count)
      cases k less = grind arith

      by : (k : ℕ) (d : NewBlock) → (k < count) ⊎ (k ≡ count) → EachNow c (HoldsBlock (slice_index_or blocks k d).block (arc_value (slice_index_or blocks k d).of))
      by k d (inl less) =
          let old = slice_index_or blocks k d in
          now_has (SameBut (is_file_of new.block)) (HoldsBlock old.block (arc_value old.of)) (HoldsBlock old.block (arc_value old.of)) b c puts.elsewhere (had.held k d less)
          (λ earlier image holds same. held_kept old.block (arc_value old.of) (is_file_of new.block) earlier image (few k d (omega arith))
          (λ file of. of_not_later old.block new.block file (omega (arith, at k d (omega arith), numbered d)) of) same holds)
      by k d (inr same) =
          subst (λ (x : NewBlock). EachNow c (HoldsBlock x.block (arc_value x.of))) (sym (ap (λ n. slice_index_or blocks n d) same ∙ is d)) puts.held.0

pub few_more : (count : ℕ) (blocks : List NewBlock) (new : NewBlock) → ((d : NewBlock) → slice_index_or blocks count d ≡ new) → length (arc_value new.of).kinds ≤ MAX_COLUMNS → AreFew count blocks → AreFew (count + 1) blocks
few_more count blocks new is few before k d less = by (cases k less)
  where
    cases : (k : ℕ) → k < count + 1 → (k < count) ⊎ (k ≡ count)
    cases k less = grind arith

    by : (k < count) ⊎ (k ≡ count) → length (arc_value (slice_index_or blocks k d).of).kinds ≤ MAX_COLUMNS
    by (inl lower) = before k d lower
    by (inr same) = subst (λ (x : NewBlock). length (arc_value x.of).kinds ≤ MAX_COLUMNS) (sym (ap (λ n. slice_index_or blocks n d) same ∙ is d)) few

pub all_put : {T E : Type 0} (done : T) (next : ℕ) (blocks : List NewBlock) (before after : Disk) → HasPut next (length blocks) blocks before after → PutsBlocks {T = T} {E = E} (Ok done) next blocks before after
all_put done next blocks before after had = record { elsewhere = had.elsewhere; held = λ image now k d less. had.held k d less image now }

-- a root behind its repair isn't dirty
pub repaired_clean : (old new : Root) → (IsDirty old.other × (new ≡ with_other old other.Closed)) ⊎ ((IsDirty old.other → ⊥) × (new ≡ old)) → IsDirty new.other → ⊥
repaired_clean old new (inl was) dirty = subst (λ (r : Root). IsDirty r.other) was.1 dirty
repaired_clean old new (inr clean) dirty = clean.0 (subst (λ (r : Root). IsDirty r.other) clean.1 dirty)

-- ---- a version beside the current one

-- nothing is known of a version beside the current one
abbrev pub IsAlone : Other → Type 0
IsAlone other.Older = Unit {0}
IsAlone other.Closed = Unit {0}
IsAlone (other.Written n) = ⊥
IsAlone (other.Opening n) = ⊥

-- what is known of the current version alone
knows_any : (half : Half) (n : ℕ) (known : Other) → IsAlone known → (current last next : Version) (disk : Disk) → Knows (record { current = half; n = n; other = known }) current last disk → Knows (record { current = half; n = n; other = known }) current next disk
knows_any half n other.Older alone current last next disk knows = record { number = knows.number; follows = tt; holds = knows.holds; known = knows.known }
knows_any half n other.Closed alone current last next disk knows = record { number = knows.number; follows = tt; holds = knows.holds; known = knows.known }
knows_any half n (other.Written m) alone current last next disk knows = absurd alone
knows_any half n (other.Opening m) alone current last next disk knows = absurd alone

pub alone_behind : (old new : Root) → (new ≡ with_other old other.Older) ⊎ (new ≡ with_other old other.Closed) → IsAlone new.other
alone_behind old new (inl is) = subst (λ (r : Root). IsAlone r.other) (sym is) tt
alone_behind old new (inr is) = subst (λ (r : Root). IsAlone r.other) (sym is) tt

alone_clean : (known : Other) → IsAlone known → IsDirty known → ⊥
alone_clean other.Older alone dirty = dirty
alone_clean other.Closed alone dirty = dirty
alone_clean (other.Written n) alone dirty = dirty
alone_clean (other.Opening n) alone dirty = alone

pub clean_behind : (old new : Root) → (new ≡ with_other old other.Older) ⊎ (new ≡ with_other old other.Closed) → IsDirty new.other → ⊥
clean_behind old new is dirty = alone_clean new.other (alone_behind old new is) dirty

-- a root that isn't dirty gives the current version
clean_given : (known : Other) (current last : Version) (image : Image) → (IsDirty known → ⊥) → GivesKnown known current last image → GivesVersion current image
clean_given other.Older current last image clean gives = gives
clean_given other.Closed current last image clean gives = gives
clean_given (other.Written n) current last image clean gives = gives
clean_given (other.Opening n) current last image clean gives = absurd (clean tt)

-- the files that a publication may touch, with those of some blocks
module _ (next : ℕ) (grown : List ℕ) where
  version_files : (before after : Disk) → Moves (SameBut is_version_file) before after → Moves (SameBut (is_published_file next grown)) before after
  version_files before after moves = moves_weaker (SameBut is_version_file) (SameBut (is_published_file next grown)) before after (but_version (is_put_file next grown)) moves

  put_files : (before after : Disk) → Moves (SameBut (is_put_file next grown)) before after → Moves (SameBut (is_published_file next grown)) before after
  put_files before after moves = moves_weaker (SameBut (is_put_file next grown)) (SameBut (is_published_file next grown)) before after (but_more (is_put_file next grown)) moves

  from_put : (before after : Disk) → Moves (SameBut (is_file_from next)) before after → Moves (SameBut (is_put_file next grown)) before after
  from_put before after moves =
      moves_weaker (SameBut (is_file_from next)) (SameBut (is_put_file next grown)) before after
      (λ earlier image same file e. same file (or_left (is_file_from next file) (is_file_among grown file) e)) moves

  among_put : (before after : Disk) → Moves (SameBut (is_file_among grown)) before after → Moves (SameBut (is_put_file next grown)) before after
  among_put before after moves =
      moves_weaker (SameBut (is_file_among grown)) (SameBut (is_put_file next grown)) before after
      (λ earlier image same file e. same file (or_right (is_file_from next file) (is_file_among grown file) e)) moves

  both_put : (a b c : Disk) → Moves (SameBut (is_put_file next grown)) a b → Moves (SameBut (is_put_file next grown)) b c → Moves (SameBut (is_put_file next grown)) a c
  both_put a b c first second = moves_both (SameBut (is_put_file next grown)) (SameBut (is_put_file next grown)) (SameBut (is_put_file next grown)) a b c (λ x y r. r) (but_both (is_put_file next grown)) first second

  both_files : (a b c : Disk) → Moves (SameBut (is_published_file next grown)) a b → Moves (SameBut (is_published_file next grown)) b c → Moves (SameBut (is_published_file next grown)) a c
  both_files a b c first second = moves_both (SameBut (is_published_file next grown)) (SameBut (is_published_file next grown)) (SameBut (is_published_file next grown)) a b c (λ x y r. r) (but_both (is_published_file next grown)) first second

  low_put : (file : ℕ) → file ≤ 3 → is_put_file next grown file ≡ false
  low_put file low = neither (is_file_from next file) (is_file_among grown file) (low_from next file low) (low_among grown file low)
    where
      neither : (a b : Bool) → a ≡ false → b ≡ false → (a || b) ≡ false
      neither true b first second = first
      neither false b first second = second

  -- calls for these files of blocks leave what is known of versions
  module _ (a b : Disk) (moves : Moves (SameBut (is_put_file next grown)) a b) where
    put_leave : (v : Version) → EachNow a (GivesVersion v) → LeavesOnly a b (GivesVersion v)
    put_leave v gives = version_kept (is_put_file next grown) (low_put 2 (omega arith)) (low_put 3 (omega arith)) a b moves v gives

    put_known : (r : Root) (current last : Version) → Knows r current last a → Knows r current last b
    put_known r current last knows = knows_kept (is_put_file next grown) (low_put 2 (omega arith)) (low_put 3 (omega arith)) a b moves r current last knows

-- the files of blocks stay while version files change
module _ (blocks : List NewBlock) (few : AreFew (length blocks) blocks) (a b : Disk) (moves : Moves (SameBut is_version_file) a b) (held : EachNow a (HoldsAll blocks)) where
  all_kept : (earlier image : Image) → HoldsAll blocks earlier → SameBut is_version_file earlier image → HoldsAll blocks image
  all_kept earlier image holds same k d less =
      let x = slice_index_or blocks k d in
      held_kept x.block (arc_value x.of) is_version_file earlier image (few k d less) (λ file of. of_not_version x.block file of) same (holds k d less)

  held_moments : LeavesOnly a b (HoldsAll blocks)
  held_moments = moments_have (SameBut is_version_file) (HoldsAll blocks) (HoldsAll blocks) a b moves held all_kept

  held_now : EachNow b (HoldsAll blocks)
  held_now = now_has (SameBut is_version_file) (HoldsAll blocks) (HoldsAll blocks) a b moves held all_kept

-- ---- the files of new blocks, and rows behind those of others

left_version : (growing : List Growing) → AreLeft is_version_file growing
left_version growing k file d less is = of_not_version (slice_index_or growing k d).block file is

left_from : (next : ℕ) (growing : List Growing) → All (IsFit next) growing → AreLeft (is_file_from next) growing
left_from next growing fit k file d less is = of_not_from next (slice_index_or growing k d).block file (fit k d less).below is

-- what files of others leave of the blocks that go on
module _ (next : ℕ) (growing : List Growing) (fit : All (IsFit next) growing) (touched : ℕ → Bool) (left : AreLeft touched growing) (a b : Disk) (moves : Moves (SameBut touched) a b) (held : ℕ → Block) (ready : AreReady held growing a) where
  left_moments : LeavesOnly a b (Keeps held growing)
  left_moments = each_moments (λ x. held x.block) growing (narrow_was next growing fit held a ready) touched left a b moves (ready_keeps next growing fit held a ready)

  left_now : EachNow b (Keeps held growing)
  left_now = each_now (λ x. held x.block) growing (narrow_was next growing fit held a ready) touched left a b moves (ready_keeps next growing fit held a ready)

  left_ready : AreReady held growing b
  left_ready = ready_kept next growing fit held touched left a b moves ready

-- and of blocks that were ready earlier
module _ (next : ℕ) (growing : List Growing) (fit : All (IsFit next) growing) (touched : ℕ → Bool) (left : AreLeft touched growing) (first a b : Disk) (moves : Moves (SameBut touched) a b) (held : ℕ → Block) (ready : AreReady held growing first) where
  keeps_moments : EachNow a (Keeps held growing) → LeavesOnly a b (Keeps held growing)
  keeps_moments keeps = each_moments (λ x. held x.block) growing (narrow_was next growing fit held first ready) touched left a b moves keeps

  keeps_now : EachNow a (Keeps held growing) → EachNow b (Keeps held growing)
  keeps_now keeps = each_now (λ x. held x.block) growing (narrow_was next growing fit held first ready) touched left a b moves keeps

  more_moments : EachNow a (HoldsMore held growing) → LeavesOnly a b (HoldsMore held growing)
  more_moments more = each_moments (grown_of held) growing (narrow_grown next growing fit held first ready) touched left a b moves more

  more_now : EachNow a (HoldsMore held growing) → EachNow b (HoldsMore held growing)
  more_now more = each_now (grown_of held) growing (narrow_grown next growing fit held first ready) touched left a b moves more

module _ (next : ℕ) (blocks : List NewBlock) (growing : List Growing) (fit : All (IsFit next) growing) where
  pub files_not_put : {T E : Type 0} (fault answer : E) (a b : Disk) → PutsBlocks {T = T} {E = E} (Err fault) next blocks a b → (grown : List Growing) → PutsFiles {T = T} {E = E} (Err answer) next blocks growing grown a b
  files_not_put fault answer a b puts grown = record {
    elsewhere = from_put next (blocks_growing growing) a b puts.elsewhere;
    held = tt;
    grows = λ held ready. record {
      moments = left_moments next growing fit (is_file_from next) (left_from next growing fit) a b puts.elsewhere held ready;
      stays = left_now next growing fit (is_file_from next) (left_from next growing fit) a b puts.elsewhere held ready;
      grown = tt;
      tails = tt;
    };
  }

  module _ {T E : Type 0} (done : T) (a b c : Disk) (puts : PutsBlocks {T = T} {E = E} (Ok done) next blocks a b) where
    put_elsewhere : Moves (SameBut (is_file_among (blocks_growing growing))) b c → Moves (SameBut (is_put_file next (blocks_growing growing))) a c
    put_elsewhere moves = both_put next (blocks_growing growing) a b c (from_put next (blocks_growing growing) a b puts.elsewhere) (among_put next (blocks_growing growing) b c moves)

    put_ready : (held : ℕ → Block) → AreReady held growing a → AreReady held growing b
    put_ready held ready = left_ready next growing fit (is_file_from next) (left_from next growing fit) a b puts.elsewhere held ready

    put_moments : (held : ℕ → Block) → AreReady held growing a → LeavesOnly b c (Keeps held growing) → LeavesOnly a c (Keeps held growing)
    put_moments held ready grown = leaves_both a b c (Keeps held growing) (left_moments next growing fit (is_file_from next) (left_from next growing fit) a b puts.elsewhere held ready) grown

    pub files_not_grown : (fault answer : E) (grown : List Growing) → GrowsBlocks {T = T} {E = E} (Err fault) growing grown b c → PutsFiles {T = T} {E = E} (Err answer) next blocks growing grown a c
    files_not_grown fault answer grown grows = record {
      elsewhere = put_elsewhere grows.elsewhere;
      held = tt;
      grows = λ held ready.
          let g = grows.grows held (put_ready held ready) in
          record { moments = put_moments held ready g.moments; stays = g.stays; grown = tt; tails = tt };
    }

    pub files_put : (again answer : T) → AreFew (length blocks) blocks → AreAt next blocks → (grown : List Growing) → GrowsBlocks {T = T} {E = E} (Ok again) growing grown b c → PutsFiles {T = T} {E = E} (Ok answer) next blocks growing grown a c
    files_put again answer few at grown grows = record {
      elsewhere = put_elsewhere grows.elsewhere;
      held = now_has (SameBut (is_file_among (blocks_growing growing))) (HoldsAll blocks) (HoldsAll blocks) b c grows.elsewhere puts.held new_kept;
      grows = λ held ready.
          let g = grows.grows held (put_ready held ready) in
          record { moments = put_moments held ready g.moments; stays = g.stays; grown = g.grown; tails = g.tails };
    }
      where
        new_kept : (earlier image : Image) → HoldsAll blocks earlier → SameBut (is_file_among (blocks_growing growing)) earlier image → HoldsAll blocks image
        new_kept earlier image holds same k d less =
            let x = slice_index_or blocks k d in
            held_kept x.block (arc_value x.of) (is_file_among (blocks_growing growing)) earlier image (few k d less)
            (λ file of. new_not_among next x.block growing file fit (omega (arith, at k d less)) of) same (holds k d less)

module _ (old : Root) (next : ℕ) (v : Version) (blocks : List NewBlock) (growing grown : List Growing) (fit : All (IsFit next) growing) where
  pub beside_not_put : {T E : Type 0} (fault answer : E) (a b : Disk) → PutsFiles {T = T} {E = E} (Err fault) next blocks growing grown a b → PutsBeside {T = T} {E = E} (Err answer) old old next v blocks growing grown a b
  beside_not_put fault answer a b puts = record {
    any_moment = λ current last knows gives. put_leave next (blocks_growing growing) a b puts.elsewhere current gives;
    behind = λ current last knows. put_known next (blocks_growing growing) a b puts.elsewhere old current last knows;
    held = tt;
    grows = λ held ready.
        let g = puts.grows held ready in
        record { moments = g.moments; stays = g.stays; grown = tt; tails = tt };
    elsewhere = put_files next (blocks_growing growing) a b puts.elsewhere;
  }

  module _ {T E : Type 0} (new : Root) (few : AreFew (length blocks) blocks) (done : T) (a b c : Disk) (puts : PutsFiles {T = T} {E = E} (Ok done) next blocks growing grown a b) (wrote : WritesBody old new v b c) where
    beside_moments : (current last : Version) → Knows old current last a → EachNow a (GivesVersion current) → LeavesOnly a c (GivesVersion current)
    beside_moments current last knows gives =
        leaves_both a b c (GivesVersion current) (put_leave next (blocks_growing growing) a b puts.elsewhere current gives)
        (wrote.any_moment current last (put_known next (blocks_growing growing) a b puts.elsewhere old current last knows))

    beside_known : (current last : Version) → Knows old current last a → Knows new current v c
    beside_known current last knows = wrote.known current last (put_known next (blocks_growing growing) a b puts.elsewhere old current last knows)

    beside_files : Moves (SameBut (is_published_file next (blocks_growing growing))) a c
    beside_files = both_files next (blocks_growing growing) a b c (put_files next (blocks_growing growing) a b puts.elsewhere) (version_files next (blocks_growing growing) b c wrote.elsewhere)

    beside_keeps : (held : ℕ → Block) → AreReady held growing a → LeavesOnly a c (Keeps held growing)
    beside_keeps held ready =
        let g = puts.grows held ready in
        leaves_both a b c (Keeps held growing) g.moments (keeps_moments next growing fit is_version_file (left_version growing) a b c wrote.elsewhere held ready g.stays)

    beside_stays : (held : ℕ → Block) → AreReady held growing a → EachNow c (Keeps held growing)
    beside_stays held ready = keeps_now next growing fit is_version_file (left_version growing) a b c wrote.elsewhere held ready (puts.grows held ready).stays

    pub beside_written : (answer : T) → PutsBeside {T = T} {E = E} (Ok answer) old new next v blocks growing grown a c
    beside_written answer = record {
      any_moment = beside_moments;
      behind = beside_known;
      held = held_now blocks few b c wrote.elsewhere puts.held;
      grows = λ held ready. record {
        moments = beside_keeps held ready;
        stays = beside_stays held ready;
        grown = more_now next growing fit is_version_file (left_version growing) a b c wrote.elsewhere held ready (puts.grows held ready).grown;
        tails = (puts.grows held ready).tails;
      };
      elsewhere = beside_files;
    }

    pub beside_not_written : (answer : E) → IsAlone new.other → PutsBeside {T = T} {E = E} (Err answer) old new next v blocks growing grown a c
    beside_not_written answer alone = record {
      any_moment = beside_moments;
      behind = λ current last knows. knows_any new.current new.n new.other alone current v last c (beside_known current last knows);
      held = tt;
      grows = λ held ready. record { moments = beside_keeps held ready; stays = beside_stays held ready; grown = tt; tails = tt };
      elsewhere = beside_files;
    }

-- ---- what was put is removed

-- of the first blocks the files are removed, where all calls succeeded
pub record HasRemoved (outcome : Result (Unit {0}) IoFault) (next count : ℕ) (blocks : List NewBlock) (before after : Disk) : Type 0 where
  pub elsewhere : Moves (SameBut (is_file_from next)) before after
  pub gone : OnOk outcome ((k : ℕ) (d : NewBlock) → k < count → IsGone {T = Unit {0}} {E = Unit {0}} (Ok tt) (slice_index_or blocks k d).block after)

pub removed_none : (next : ℕ) (blocks : List NewBlock) (disk : Disk) → HasRemoved (Ok tt) next 0 blocks disk disk
removed_none next blocks disk = record {
  elsewhere = moves_still (SameBut (is_file_from next)) disk (but_same (is_file_from next));
  gone = λ k d less. absurd (omega arith);
}

module _ (next count : ℕ) (blocks : List NewBlock) (at : AreAt next blocks) (small : next + length blocks ≤ 2 ^ 52) (here : count < length blocks) (a b c : Disk) (new : NewBlock) (is : (d : NewBlock) → slice_index_or blocks count d ≡ new) where
  removed_number : (d : NewBlock) → new.block ≡ next + count
  removed_number d = let e = is d in let f = at count d here in cc

  removed_elsewhere : Moves (SameBut (is_file_from next)) a b → Moves (SameBut (is_file_of new.block)) b c → Moves (SameBut (is_file_from next)) a c
  removed_elsewhere first second =
      moves_both (SameBut (is_file_from next)) (SameBut (is_file_from next)) (SameBut (is_file_from next)) a b c (λ x y r. r) (but_both (is_file_from next)) first
      (one_elsewhere next new.block b c (omega (arith, removed_number new)) (omega (arith, removed_number new, small, here)) second)

  -- an earlier block's files stay removed
  gone_kept : (k : ℕ) (d : NewBlock) → k < count → SameBut (is_file_of new.block) (reads_of b) (reads_of c) → IsGone {T = Unit {0}} {E = Unit {0}} (Ok tt) (slice_index_or blocks k d).block b → IsGone {T = Unit {0}} {E = Unit {0}} (Ok tt) (slice_index_or blocks k d).block c
  gone_kept k d less same gone col half low two =
      let block = (slice_index_or blocks k d).block in
      let before : block < new.block = omega (arith, at k d (omega (arith, less, here)), removed_number d, less) in
      let file = column_file block col half in
      same file (of_not_later block new.block file before (column_of block col half (omega (arith, low)) two)) ∙ gone col half low two

  gone_more : (done : Unit {0}) (first : (k : ℕ) (d : NewBlock) → k < count → IsGone {T = Unit {0}} {E = Unit {0}} (Ok tt) (slice_index_or blocks k d).block b) → RemovesBlock {E = IoFault} (Ok done) new.block b c
      → (k : ℕ) (d : NewBlock) → k < count + 1 → IsGone {T = Unit {0}} {E = Unit {0}} (Ok tt) (slice_index_or blocks k d).block c
  gone_more done first removes k d less = by (cases k less)
    where
      cases : (k : ℕ) → k < count + 1 → (k < count) ⊎ (k ≡ count)
      cases k less = grind arith

      by : (k < count) ⊎ (k ≡ count) → IsGone {T = Unit {0}} {E = Unit {0}} (Ok tt) (slice_index_or blocks k d).block c
      by (inl lower) = gone_kept k d lower removes.others (first k d lower)
      by (inr same) =
          subst (λ (x : NewBlock). IsGone {T = Unit {0}} {E = Unit {0}} (Ok tt) x.block c) (sym (ap (λ n. slice_index_or blocks n d) same ∙ is d))
          (λ col half low two. removes.gone col half low two)

  pub removed_more : (outcome removed : Result (Unit {0}) IoFault) → HasRemoved outcome next count blocks a b → RemovesBlock removed new.block b c → HasRemoved (together outcome removed) next (count + 1) blocks a c
  removed_more (Ok done) (Ok again) had removes = record { elsewhere = removed_elsewhere had.elsewhere removes.elsewhere; gone = gone_more again had.gone removes }
  removed_more (Ok done) (Err fault) had removes = record { elsewhere = removed_elsewhere had.elsewhere removes.elsewhere; gone = tt }
  removed_more (Err first) (Ok again) had removes = record { elsewhere = removed_elsewhere had.elsewhere removes.elsewhere; gone = tt }
  removed_more (Err first) (Err second) had removes = record { elsewhere = removed_elsewhere had.elsewhere removes.elsewhere; gone = tt }

pub removed_all : (outcome : Result (Unit {0}) IoFault) (next : ℕ) (blocks : List NewBlock) (before after : Disk) → HasRemoved outcome next (length blocks) blocks before after → RemovesBlocks outcome next blocks before after
removed_all (Ok done) next blocks before after had = record { elsewhere = had.elsewhere; gone = λ k d less. had.gone k d less }
removed_all (Err fault) next blocks before after had = record { elsewhere = had.elsewhere; gone = tt }

pub given_up : (cause : IoFault) (done : Unit {0}) (next : ℕ) (blocks : List NewBlock) (before after : Disk) → RemovesBlocks {E = IoFault} (Ok done) next blocks before after → GivesUp (publish_fault cause) next blocks before after
given_up io.Failed done next blocks before after removes = record { elsewhere = removes.elsewhere; cleared = removes.gone }
given_up io.Memory done next blocks before after removes = record { elsewhere = removes.elsewhere; cleared = removes.gone }

pub left_over : (cause fault : IoFault) (next : ℕ) (blocks : List NewBlock) (before after : Disk) → RemovesBlocks {T = Unit {0}} (Err fault) next blocks before after → GivesUp (publish.Unremoved cause) next blocks before after
left_over cause fault next blocks before after removes = record { elsewhere = removes.elsewhere; cleared = tt }

pub is_late : (cause : IoFault) → IsLate (publish_fault cause)
is_late io.Failed = tt
is_late io.Memory = tt

-- counts of faults of two calls, one behind the other
pub counts_graver : (a b c : ℕ) (first second : IoFault) → Counts {T = Unit {0}} a b (Err first) → Counts {T = Unit {0}} b c (Err second) → Counts {T = Unit {0}} a c (Err (graver first second))
counts_graver a b c io.Failed io.Failed rose again = (omega (arith, rose.0, again.0), by again.1)
  where
    by : HasRisen b c → HasRisen a c
    by (inl less) = inl (omega (arith, rose.0, less))
    by (inr last) = inr last
counts_graver a b c io.Failed io.Memory rose same = subst (λ n. (a ≤ n) × HasRisen a n) (sym same) rose
counts_graver a b c io.Memory io.Failed same rose = subst (λ n. (n ≤ c) × HasRisen n c) same rose
counts_graver a b c io.Memory io.Memory same again = again ∙ same

pub counts_together : (a b c : ℕ) (first second : Result (Unit {0}) IoFault) → Counts a b first → Counts b c second → Counts a c (together first second)
counts_together a b c (Ok done) (Ok again) same rest = rest ∙ same
counts_together a b c (Ok done) (Err io.Failed) same rose = subst (λ n. (n ≤ c) × HasRisen n c) same rose
counts_together a b c (Ok done) (Err io.Memory) same rest = rest ∙ same
counts_together a b c (Err io.Failed) (Ok again) rose same = subst (λ n. (a ≤ n) × HasRisen a n) (sym same) rose
counts_together a b c (Err io.Memory) (Ok again) same rest = rest ∙ same
counts_together a b c (Err first) (Err second) one other = counts_graver a b c first second one other

pub counts_given_up : (a b c : ℕ) (cause : IoFault) → Counts {T = Unit {0}} a b (Err cause) → c ≡ b → CountsPublish {T = Unit {0}} a c (Err (publish_fault cause))
counts_given_up a b c io.Failed rose same = subst (λ n. (a ≤ n) × HasRisen a n) (sym same) rose
counts_given_up a b c io.Memory first same = same ∙ first

-- ---- all of it

-- while the root is repaired
repair_moments : {T E : Type 0} (result : Result T E) (old mid : Root) (before after : Disk) → Repairs result old mid before after → (current last : Version) → Knows old current last before → LeavesOnly before after (GivesBefore old.other current last before)
repair_moments result old mid before after repairs current last knows =
    leaves_and (GivesKnown old.other current last) (ComesFrom (SameBut is_version_file) before) before after (repairs.any_moment current last knows) repairs.elsewhere.moments

module _ (old new : Root) (next : ℕ) (v : Version) (blocks : List NewBlock) (growing grown : List Growing) (fit : All (IsFit next) growing) where
  -- what a crash may leave
  abbrev Left : (ℕ → Block) → Version → Version → Disk → Image → Type 0
  Left held current last before image = GivesBefore old.other current last before image ⊎ GivesVersion current image ⊎ (GivesWhole v blocks image × HoldsMore held growing image)

  pub lay_not_repaired : {T E : Type 0} (fault : E) (answer : PublishFault) (before after : Disk) → (IsDirty new.other → IsDirty old.other) → Repairs {T = T} {E = E} (Err fault) old new before after → LaysDown {T = T} (Err answer) old new next v blocks growing grown before after
  lay_not_repaired {T} {E} fault answer before after dirty repairs = record {
    any_moment = λ current last held knows ready. leaves_weaker (GivesBefore old.other current last before) (Left held current last before) before after (λ image gives. inl gives) (repair_moments {T = T} {E = E} (Err fault) old new before after repairs current last knows);
    keeps = λ held ready. (
      left_moments next growing fit is_version_file (left_version growing) before after repairs.elsewhere held ready,
      left_now next growing fit is_version_file (left_version growing) before after repairs.elsewhere held ready,
    );
    behind = λ current last held knows ready. inl (dirty, (repairs.behind current last knows, repairs.elsewhere));
    tails = λ held ready. tt;
    elsewhere = version_files next (blocks_growing growing) before after repairs.elsewhere;
    removed = inl repairs.elsewhere;
  }

  -- the root is repaired, and a version is written beside the current one, whether that failed or not
  module _ {T E : Type 0} (mid late : Root) (done : T) (result : Result T E) (a b c : Disk) (repairs : Repairs {T = T} {E = E} (Ok done) old mid a b) (beside : PutsBeside result mid late next v blocks growing grown b c) where
    first_moments : (held : ℕ → Block) (current last : Version) → Knows old current last a → LeavesOnly a c (Left held current last a)
    first_moments held current last knows =
        let repaired = repairs.behind current last knows in
        leaves_both a b c (Left held current last a)
        (leaves_weaker (GivesBefore old.other current last a) (Left held current last a) a b (λ image gives. inl gives) (repair_moments {T = T} {E = E} (Ok done) old mid a b repairs current last knows))
        (leaves_weaker (GivesVersion current) (Left held current last a) b c (λ image gives. inr (inl gives)) (beside.any_moment current last repaired.1 repaired.0))

    first_files : Moves (SameBut (is_published_file next (blocks_growing growing))) a c
    first_files = both_files next (blocks_growing growing) a b c (version_files next (blocks_growing growing) a b repairs.elsewhere) beside.elsewhere

    first_ready : (held : ℕ → Block) → AreReady held growing a → AreReady held growing b
    first_ready held ready = left_ready next growing fit is_version_file (left_version growing) a b repairs.elsewhere held ready

    first_grows : (held : ℕ → Block) → AreReady held growing a → GrowsAll result held growing grown b c
    first_grows held ready = beside.grows held (first_ready held ready)

    first_keeps : (held : ℕ → Block) → AreReady held growing a → LeavesOnly a c (Keeps held growing)
    first_keeps held ready =
        leaves_both a b c (Keeps held growing) (left_moments next growing fit is_version_file (left_version growing) a b repairs.elsewhere held ready) (first_grows held ready).moments

  pub lay_given_up : {T E : Type 0} (mid : Root) (done : T) (fault : E) (answer : PublishFault) (a b c d : Disk) → (IsDirty new.other → ⊥) → Repairs {T = T} {E = E} (Ok done) old mid a b
      → PutsBeside {T = T} {E = E} (Err fault) mid new next v blocks growing grown b c → GivesUp answer next blocks c d → LaysDown {T = T} (Err answer) old new next v blocks growing grown a d
  lay_given_up {T} {E} mid done fault answer a b c d clean repairs beside gives_up = record {
    any_moment = λ current last held knows ready. leaves_both a c d (Left held current last a) (first_moments {T = T} {E = E} mid new done (Err fault) a b c repairs beside held current last knows)
        (leaves_weaker (GivesVersion current) (Left held current last a) c d (λ image gives. inr (inl gives))
        (put_leave next (blocks_growing growing) c d up_files current (λ image now. clean_given new.other current last image clean (known_given new current last c (stands current last knows) image now))));
    keeps = λ held ready.
        let g = first_grows {T = T} {E = E} mid new done (Err fault) a b c repairs beside held ready in (
          leaves_both a c d (Keeps held growing) (first_keeps {T = T} {E = E} mid new done (Err fault) a b c repairs beside held ready)
              (keeps_moments next growing fit (is_file_from next) (left_from next growing fit) a c d gives_up.elsewhere held ready g.stays),
          keeps_now next growing fit (is_file_from next) (left_from next growing fit) a c d gives_up.elsewhere held ready g.stays,
        );
    behind = λ current last held knows ready. inr (inl (put_known next (blocks_growing growing) c d up_files new current last (stands current last knows), clean));
    tails = λ held ready. tt;
    elsewhere = both_files next (blocks_growing growing) a c d (first_files {T = T} {E = E} mid new done (Err fault) a b c repairs beside) (put_files next (blocks_growing growing) c d up_files);
    removed = inr (inr gives_up.cleared);
  }
    where
      up_files : Moves (SameBut (is_put_file next (blocks_growing growing))) c d
      up_files = from_put next (blocks_growing growing) c d gives_up.elsewhere

      stands : (current last : Version) → Knows old current last a → Knows new current last c
      stands current last knows = beside.behind current last (repairs.behind current last knows).1

  module _ {T E : Type 0} (mid late : Root) (few : AreFew (length blocks) blocks) (done again : T) (result : Result T E) (a b c d : Disk)
      (repairs : Repairs {T = T} {E = E} (Ok done) old mid a b) (beside : PutsBeside {T = T} {E = E} (Ok again) mid late next v blocks growing grown b c) (flips : Flips result late new c d)
    where
      stands_beside : (current last : Version) → Knows old current last a → Knows late current v c
      stands_beside current last knows = beside.behind current last (repairs.behind current last knows).1

      grows_beside : (held : ℕ → Block) → AreReady held growing a → GrowsAll {T = T} {E = E} (Ok again) held growing grown b c
      grows_beside held ready = first_grows {T = T} {E = E} mid late done (Ok again) a b c repairs beside held ready

      left : (held : ℕ → Block) (current last : Version) (image : Image) → GivesOneOf current v image × (HoldsAll blocks image × HoldsMore held growing image) → Left held current last a image
      left held current last image both = by both.0
        where
          by : GivesOneOf current v image → Left held current last a image
          by (inl gives) = inr (inl gives)
          by (inr gives) = inr (inr ((gives, both.1.0), both.1.1))

      all_moments : (current last : Version) (held : ℕ → Block) → Knows old current last a → AreReady held growing a → LeavesOnly a d (Left held current last a)
      all_moments current last held knows ready =
          leaves_both a c d (Left held current last a) (first_moments {T = T} {E = E} mid late done (Ok again) a b c repairs beside held current last knows)
          (leaves_weaker (λ image. GivesOneOf current v image × (HoldsAll blocks image × HoldsMore held growing image)) (Left held current last a) c d (left held current last)
          (leaves_and (GivesOneOf current v) (λ image. HoldsAll blocks image × HoldsMore held growing image) c d (flips.any_moment current v (stands_beside current last knows))
          (leaves_and (HoldsAll blocks) (HoldsMore held growing) c d (held_moments blocks few c d flips.elsewhere beside.held)
          (more_moments next growing fit is_version_file (left_version growing) a c d flips.elsewhere held ready (grows_beside held ready).grown))))

      all_keeps : (held : ℕ → Block) → AreReady held growing a → LeavesOnly a d (Keeps held growing) × EachNow d (Keeps held growing)
      all_keeps held ready =
          let stays = (grows_beside held ready).stays in (
            leaves_both a c d (Keeps held growing) (first_keeps {T = T} {E = E} mid late done (Ok again) a b c repairs beside held ready)
                (keeps_moments next growing fit is_version_file (left_version growing) a c d flips.elsewhere held ready stays),
            keeps_now next growing fit is_version_file (left_version growing) a c d flips.elsewhere held ready stays,
          )

      all_files : Moves (SameBut (is_published_file next (blocks_growing growing))) a d
      all_files = both_files next (blocks_growing growing) a c d (first_files {T = T} {E = E} mid late done (Ok again) a b c repairs beside) (version_files next (blocks_growing growing) c d flips.elsewhere)

      now_held : EachNow d (HoldsAll blocks)
      now_held = held_now blocks few c d flips.elsewhere beside.held

      now_more : (held : ℕ → Block) → AreReady held growing a → EachNow d (HoldsMore held growing)
      now_more held ready = more_now next growing fit is_version_file (left_version growing) a c d flips.elsewhere held ready (grows_beside held ready).grown

  module _ {T E : Type 0} (mid late : Root) (few : AreFew (length blocks) blocks) (done again : T) (a b c d : Disk)
      (repairs : Repairs {T = T} {E = E} (Ok done) old mid a b) (beside : PutsBeside {T = T} {E = E} (Ok again) mid late next v blocks growing grown b c)
    where
      pub lay_flipped : (flipped answer : T) → Flips {T = T} {E = E} (Ok flipped) late new c d → LaysDown {T = T} (Ok answer) old new next v blocks growing grown a d
      lay_flipped flipped answer flips = record {
        any_moment = all_moments {T = T} {E = E} mid late few done again (Ok flipped) a b c d repairs beside flips;
        keeps = all_keeps {T = T} {E = E} mid late few done again (Ok flipped) a b c d repairs beside flips;
        behind = λ current last held knows ready.
            let turned = flips.behind current v (stands_beside {T = T} {E = E} mid late few done again (Ok flipped) a b c d repairs beside flips current last knows) in
            (λ image now. ((turned.0 image now, now_held {T = T} {E = E} mid late few done again (Ok flipped) a b c d repairs beside flips image now), now_more {T = T} {E = E} mid late few done again (Ok flipped) a b c d repairs beside flips held ready image now), turned.1);
        tails = λ held ready. (now_more {T = T} {E = E} mid late few done again (Ok flipped) a b c d repairs beside flips held ready, (grows_beside {T = T} {E = E} mid late few done again (Ok flipped) a b c d repairs beside flips held ready).tails);
        elsewhere = all_files {T = T} {E = E} mid late few done again (Ok flipped) a b c d repairs beside flips;
        removed = tt;
      }

      pub lay_not_flipped : (fault : E) (answer : PublishFault) → IsDirty new.other → Flips {T = T} {E = E} (Err fault) late new c d → LaysDown {T = T} (Err answer) old new next v blocks growing grown a d
      lay_not_flipped fault answer dirty flips = record {
        any_moment = all_moments {T = T} {E = E} mid late few done again (Err fault) a b c d repairs beside flips;
        keeps = all_keeps {T = T} {E = E} mid late few done again (Err fault) a b c d repairs beside flips;
        behind = λ current last held knows ready. inr (inr (
          flips.behind current v (stands_beside {T = T} {E = E} mid late few done again (Err fault) a b c d repairs beside flips current last knows),
          λ image now. (now_held {T = T} {E = E} mid late few done again (Err fault) a b c d repairs beside flips image now, now_more {T = T} {E = E} mid late few done again (Err fault) a b c d repairs beside flips held ready image now),
        ));
        tails = λ held ready. tt;
        elsewhere = all_files {T = T} {E = E} mid late few done again (Err fault) a b c d repairs beside flips;
        removed = inr (inl dirty);
      }

-- ---- the removal of a block's files

module _ (old new : Root) (block : ℕ) where
  abbrev touched : ℕ → Bool
  touched file = is_version_file file || is_file_of block file

  -- what a crash may leave
  abbrev Stays : Version → Version → Disk → Image → Type 0
  Stays current next before image = GivesBefore old.other current next before image ⊎ GivesVersion current image

  pub clear_not_repaired : {T E : Type 0} (fault answer : E) (before after : Disk) → (IsDirty new.other → IsDirty old.other) → Repairs {T = T} {E = E} (Err fault) old new before after → Clears {T = T} {E = E} (Err answer) old new block before after
  clear_not_repaired fault answer before after dirty repairs = record {
    any_moment = λ current next knows. leaves_weaker (GivesBefore old.other current next before) (Stays current next before) before after (λ image gives. inl gives)
        (leaves_and (GivesKnown old.other current next) (ComesFrom (SameBut is_version_file) before) before after (repairs.any_moment current next knows) repairs.elsewhere.moments);
    behind = λ current next knows. inl (dirty, (repairs.behind current next knows, repairs.elsewhere));
    gone = tt;
    elsewhere = moves_weaker (SameBut is_version_file) (SameBut touched) before after (but_version (is_file_of block)) repairs.elsewhere;
  }

  pub clear_removed : {T E : Type 0} (done : T) (result : Result T E) (a b c : Disk) → (IsDirty new.other → ⊥) → Repairs {T = T} {E = E} (Ok done) old new a b → RemovesBlock result block b c → Clears result old new block a c
  clear_removed done result a b c clean repairs removes = record {
    any_moment = λ current next knows. leaves_both a b c (Stays current next a)
        (leaves_weaker (GivesBefore old.other current next a) (Stays current next a) a b (λ image gives. inl gives)
        (leaves_and (GivesKnown old.other current next) (ComesFrom (SameBut is_version_file) a) a b (repairs.any_moment current next knows) repairs.elsewhere.moments))
        (leaves_weaker (GivesVersion current) (Stays current next a) b c (λ image gives. inr gives)
        (version_kept (is_file_of block) (low_of block 2 (omega arith)) (low_of block 3 (omega arith)) b c removes.elsewhere current (repairs.behind current next knows).0));
    behind = λ current next knows. inr (knows_kept (is_file_of block) (low_of block 2 (omega arith)) (low_of block 3 (omega arith)) b c removes.elsewhere new current next (repairs.behind current next knows).1, clean);
    gone = removes.gone;
    elsewhere = moves_both (SameBut touched) (SameBut touched) (SameBut touched) a b c (λ x y r. r) (but_both touched)
        (moves_weaker (SameBut is_version_file) (SameBut touched) a b (but_version (is_file_of block)) repairs.elsewhere)
        (moves_weaker (SameBut (is_file_of block)) (SameBut touched) b c (but_more (is_file_of block)) removes.elsewhere);
  }
