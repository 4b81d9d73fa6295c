-- What the writing of a version makes of a volume, told or not, from what its steps make of it.
use Rattle.std.proofs.Common.{◌≡◌, ◌⊎◌, ℕ, ◌+◌, ◌^◌, ◌<◌, ◌≤◌, nat_eq, List, length, get_or, slice_index_or, All, Option, Result, Ok, Err, OnErr}
use Rattle.std.specs.Arc.{arc_value}
use Rattle.std.specs.List.{IsDistinct}
use Rattle.qd_io.specs.declared.fault.IoFault.{IoFault}
use Rattle.qd_volume.specs.Disk.{Disk}
use Rattle.qd_durable.specs.Moments.{Told}
use Rattle.qd_durable.proofs.Writes.{told_both, told_map, told_still}
use Rattle.qd_txnfile.specs.Calls.{Flips, WritesBody}
use Rattle.qd_txnfile.specs.Calls as root
use Rattle.qd_txnfile.specs.declared.half.Other.TheVariants as other
use Rattle.qd_txnfile.specs.States.{IsDirty, Root, with_other}
use Rattle.qd_txnfile.specs.Versions.{Version}
use Rattle.qd_column_files.specs.Calls.{PutsBlock, RemovesBlock}
use Rattle.qd_column_files.specs.Growing.{BlockBehind, GrowsBlock}
use Rattle.qd_versions.specs.declared.fault.PublishFault.{PublishFault}
use Rattle.qd_versions.specs.declared.fault.PublishFault.TheVariants as publish
use Rattle.qd_versions.specs.declared.growing.Growing.{Growing}
use Rattle.qd_versions.specs.declared.published.NewBlock.{NewBlock}
use Rattle.qd_versions.specs.Faults.{publish_fault, together}
use Rattle.qd_versions.specs.Tails.{GrowsBlocks, IsFit, blocks_growing}
use Rattle.qd_versions.specs.Writing.{Clears, GivesUp, LaysDown, PutsBeside, PutsBlocks, PutsFiles, RemovesBlocks}
use Rattle.qd_versions.proofs.Growths.{HasGrown, grown_all, grown_failed, grown_more, grown_none}
use Rattle.qd_versions.proofs.Steps.{AreAt, AreFew, HasPut, HasRemoved, all_put, alone_behind, beside_not_put, beside_not_written, beside_written, clear_not_repaired, clear_removed, files_not_grown, files_not_put, files_put, given_up, lay_flipped, lay_given_up, lay_not_flipped, lay_not_repaired, left_over, put_failed, put_more, put_none, removed_all, removed_more, removed_none}

-- what a call of this crate answers
abbrev pub Answer : Type 0
Answer = Result (Unit {0}) IoFault

-- ---- the files of new blocks

pub put_none_told : (next : ℕ) (blocks : List NewBlock) (old : Option Disk) → Told old old (HasPut next 0 blocks)
put_none_told next blocks old = told_still (HasPut next 0 blocks) old (put_none next blocks)

module _ (next count : ℕ) (blocks : List NewBlock) (at : AreAt next blocks) (small : next + length blocks ≤ 2 ^ 52) (here : count < length blocks) (new : NewBlock) (old mid now : Option Disk) (had : Told old mid (HasPut next count blocks)) where
  pub put_failed_told : (fault answer : IoFault) → new.block ≡ next + count → Told mid now (PutsBlock {T = Unit {0}} (Err fault) new.block (arc_value new.of)) → Told old now (PutsBlocks {T = Unit {0}} (Err answer) next blocks)
  put_failed_told fault answer is told =
      told_both (HasPut next count blocks) (PutsBlock {T = Unit {0}} (Err fault) new.block (arc_value new.of)) (PutsBlocks {T = Unit {0}} (Err answer) next blocks) old mid now
      (λ a b c h p. put_failed next count blocks at small here a b c h fault answer new is p) had told

  pub put_more_told : (done : Unit {0}) → ((d : NewBlock) → slice_index_or blocks count d ≡ new) → AreFew (count + 1) blocks → Told mid now (PutsBlock {T = Unit {0}} {E = IoFault} (Ok done) new.block (arc_value new.of)) → Told old now (HasPut next (count + 1) blocks)
  put_more_told done is few told =
      told_both (HasPut next count blocks) (PutsBlock {T = Unit {0}} {E = IoFault} (Ok done) new.block (arc_value new.of)) (HasPut next (count + 1) blocks) old mid now
      (λ a b c h p. put_more next count blocks at small here a b c h {E = IoFault} done new is few p) had told

pub all_put_told : (done : Unit {0}) (next : ℕ) (blocks : List NewBlock) (old new : Option Disk) → Told old new (HasPut next (length blocks) blocks) → Told old new (PutsBlocks {E = IoFault} (Ok done) next blocks)
all_put_told done next blocks old new told =
    told_map (HasPut next (length blocks) blocks) (PutsBlocks {E = IoFault} (Ok done) next blocks) old new (λ a b had. all_put done next blocks a b had) told

-- ---- rows behind those of other blocks

pub grown_none_told : (growing : List Growing) (old : Option Disk) → Told old old (HasGrown 0 growing growing)
grown_none_told growing old = told_still (HasGrown 0 growing growing) old (grown_none growing)

module _ (next i : ℕ) (growing : List Growing) (fit : All (IsFit next) growing) (distinct : IsDistinct nat_eq (blocks_growing growing)) (here : i < length growing) (x : Growing) (is : (d : Growing) → get_or growing i d ≡ x) (list : List Growing) (old mid now : Option Disk) (had : Told old mid (HasGrown i growing list)) where
  pub grown_failed_told : (fault answer : IoFault) (new : BlockBehind) (later : List Growing) → Told mid now (GrowsBlock {T = Unit {0}} (Err fault) x.block x.tail new (arc_value x.rows)) → Told old now (GrowsBlocks {T = Unit {0}} (Err answer) growing later)
  grown_failed_told fault answer new later told =
      told_both (HasGrown i growing list) (GrowsBlock {T = Unit {0}} (Err fault) x.block x.tail new (arc_value x.rows)) (GrowsBlocks {T = Unit {0}} (Err answer) growing later) old mid now
      (λ a b c h g. grown_failed next i growing fit distinct here x is list a b c h fault answer new g later) had told

  pub grown_more_told : (done : Unit {0}) (y : Growing) (later : List Growing) → y.block ≡ x.block → ((e : Growing) → get_or later i e ≡ y) → ((k : ℕ) (e : Growing) → k < i → get_or later k e ≡ get_or list k e)
      → Told mid now (GrowsBlock {E = IoFault} (Ok done) x.block x.tail y.tail (arc_value x.rows)) → Told old now (HasGrown (i + 1) growing later)
  grown_more_told done y later block at before told =
      told_both (HasGrown i growing list) (GrowsBlock {E = IoFault} (Ok done) x.block x.tail y.tail (arc_value x.rows)) (HasGrown (i + 1) growing later) old mid now
      (λ a b c h g. grown_more next i growing fit distinct here x is list a b c h {E = IoFault} done y later block at before g) had told

pub grown_all_told : (done : Unit {0}) (growing now : List Growing) (old new : Option Disk) → length now ≡ length growing → Told old new (HasGrown (length growing) growing now) → Told old new (GrowsBlocks {E = IoFault} (Ok done) growing now)
grown_all_told done growing now old new count told =
    told_map (HasGrown (length growing) growing now) (GrowsBlocks {E = IoFault} (Ok done) growing now) old new (λ a b had. grown_all done growing now a b count had) told

module _ (next : ℕ) (blocks : List NewBlock) (growing grown : List Growing) (fit : All (IsFit next) growing) where
  pub files_not_put_told : (fault answer : IoFault) (old new : Option Disk) → Told old new (PutsBlocks {T = Unit {0}} (Err fault) next blocks) → Told old new (PutsFiles {T = Unit {0}} (Err answer) next blocks growing grown)
  files_not_put_told fault answer old new puts =
      told_map (PutsBlocks {T = Unit {0}} (Err fault) next blocks) (PutsFiles {T = Unit {0}} (Err answer) next blocks growing grown) old new
      (λ a b p. files_not_put next blocks growing fit fault answer a b p grown) puts

  pub files_told : (few : AreFew (length blocks) blocks) (at : AreAt next blocks) (done : Unit {0}) (result : Answer) (old mid new : Option Disk) → Told old mid (PutsBlocks {E = IoFault} (Ok done) next blocks) → Told mid new (GrowsBlocks result growing grown) → Told old new (PutsFiles result next blocks growing grown)
  files_told few at done (Ok answer) old mid new puts grows =
      told_both (PutsBlocks {E = IoFault} (Ok done) next blocks) (GrowsBlocks {E = IoFault} (Ok answer) growing grown) (PutsFiles {E = IoFault} (Ok answer) next blocks growing grown) old mid new
      (λ a b c p g. files_put next blocks growing fit {E = IoFault} done a b c p answer answer few at grown g) puts grows
  files_told few at done (Err fault) old mid new puts grows =
      told_both (PutsBlocks {E = IoFault} (Ok done) next blocks) (GrowsBlocks {T = Unit {0}} (Err fault) growing grown) (PutsFiles {T = Unit {0}} (Err fault) next blocks growing grown) old mid new
      (λ a b c p g. files_not_grown next blocks growing fit done a b c p fault fault grown g) puts grows

-- ---- a version beside the current one

module _ (before : Root) (next : ℕ) (v : Version) (blocks : List NewBlock) (growing grown : List Growing) (fit : All (IsFit next) growing) where
  pub beside_not_put_told : (fault answer : IoFault) (old new : Option Disk) → Told old new (PutsFiles {T = Unit {0}} (Err fault) next blocks growing grown) → Told old new (PutsBeside {T = Unit {0}} (Err answer) before before next v blocks growing grown)
  beside_not_put_told fault answer old new puts =
      told_map (PutsFiles {T = Unit {0}} (Err fault) next blocks growing grown) (PutsBeside {T = Unit {0}} (Err answer) before before next v blocks growing grown) old new
      (λ a b p. beside_not_put before next v blocks growing grown fit fault answer a b p) puts

  pub beside_told : (after : Root) (few : AreFew (length blocks) blocks) (done : Unit {0}) (result : Answer) (old mid new : Option Disk) → OnErr result ((after ≡ with_other before other.Older) ⊎ (after ≡ with_other before other.Closed))
      → Told old mid (PutsFiles {E = IoFault} (Ok done) next blocks growing grown) → Told mid new (WritesBody before after v) → Told old new (PutsBeside result before after next v blocks growing grown)
  beside_told after few done (Ok answer) old mid new stays puts wrote =
      told_both (PutsFiles {E = IoFault} (Ok done) next blocks growing grown) (WritesBody before after v) (PutsBeside {E = IoFault} (Ok answer) before after next v blocks growing grown) old mid new
      (λ a b c p w. beside_written before next v blocks growing grown fit {E = IoFault} after few done a b c p w answer) puts wrote
  beside_told after few done (Err fault) old mid new stays puts wrote =
      told_both (PutsFiles {E = IoFault} (Ok done) next blocks growing grown) (WritesBody before after v) (PutsBeside {T = Unit {0}} (Err fault) before after next v blocks growing grown) old mid new
      (λ a b c p w. beside_not_written before next v blocks growing grown fit after few done a b c p w fault (alone_behind before after stays)) puts wrote

-- ---- what was put is removed

pub removed_none_told : (next : ℕ) (blocks : List NewBlock) (old : Option Disk) → Told old old (HasRemoved (Ok tt) next 0 blocks)
removed_none_told next blocks old = told_still (HasRemoved (Ok tt) next 0 blocks) old (removed_none next blocks)

pub removed_more_told : (next count : ℕ) (blocks : List NewBlock) → AreAt next blocks → next + length blocks ≤ 2 ^ 52 → count < length blocks → (new : NewBlock) → ((d : NewBlock) → slice_index_or blocks count d ≡ new)
    → (outcome removed : Answer) (old mid now : Option Disk) → Told old mid (HasRemoved outcome next count blocks) → Told mid now (RemovesBlock removed new.block) → Told old now (HasRemoved (together outcome removed) next (count + 1) blocks)
removed_more_told next count blocks at small here new is outcome removed old mid now had removes =
    told_both (HasRemoved outcome next count blocks) (RemovesBlock removed new.block) (HasRemoved (together outcome removed) next (count + 1) blocks) old mid now
    (λ a b c h r. removed_more next count blocks at small here a b c new is outcome removed h r) had removes

pub removed_all_told : (outcome : Answer) (next : ℕ) (blocks : List NewBlock) (old new : Option Disk) → Told old new (HasRemoved outcome next (length blocks) blocks) → Told old new (RemovesBlocks outcome next blocks)
removed_all_told outcome next blocks old new told =
    told_map (HasRemoved outcome next (length blocks) blocks) (RemovesBlocks outcome next blocks) old new (λ a b had. removed_all outcome next blocks a b had) told

pub given_up_told : (cause : IoFault) (done : Unit {0}) (next : ℕ) (blocks : List NewBlock) (old new : Option Disk) → Told old new (RemovesBlocks {E = IoFault} (Ok done) next blocks) → Told old new (GivesUp (publish_fault cause) next blocks)
given_up_told cause done next blocks old new told =
    told_map (RemovesBlocks {E = IoFault} (Ok done) next blocks) (GivesUp (publish_fault cause) next blocks) old new (λ a b removes. given_up cause done next blocks a b removes) told

pub left_over_told : (cause fault : IoFault) (next : ℕ) (blocks : List NewBlock) (old new : Option Disk) → Told old new (RemovesBlocks {T = Unit {0}} (Err fault) next blocks) → Told old new (GivesUp (publish.Unremoved cause) next blocks)
left_over_told cause fault next blocks old new told =
    told_map (RemovesBlocks {T = Unit {0}} (Err fault) next blocks) (GivesUp (publish.Unremoved cause) next blocks) old new (λ a b removes. left_over cause fault next blocks a b removes) told

-- ---- all of it

module _ (before after : Root) (next : ℕ) (v : Version) (blocks : List NewBlock) (growing grown : List Growing) (fit : All (IsFit next) growing) where
  -- what an Err of all of it tells
  abbrev Fails : PublishFault → Disk → Disk → Type 0
  Fails answer = LaysDown {T = Unit {0}} (Err answer) before after next v blocks growing grown

  pub lay_not_repaired_told : (fault : IoFault) (answer : PublishFault) (old new : Option Disk) → (IsDirty after.other → IsDirty before.other) → Told old new (root.Repairs {T = Unit {0}} (Err fault) before after) → Told old new (Fails answer)
  lay_not_repaired_told fault answer old new dirty told =
      told_map (root.Repairs {T = Unit {0}} (Err fault) before after) (Fails answer) old new
      (λ a b r. lay_not_repaired before after next v blocks growing grown fit fault answer a b dirty r) told

  -- the root is repaired, and a version stands beside the current one, or not
  module _ (mid late : Root) (done : Unit {0}) (result : Answer) (old from to : Option Disk) (repairs : Told old from (root.Repairs {E = IoFault} (Ok done) before mid)) (beside : Told from to (PutsBeside result mid late next v blocks growing grown)) where
    abbrev Both : Disk → Disk → Type 0
    Both a c = (b : Disk) × root.Repairs {E = IoFault} (Ok done) before mid a b × PutsBeside result mid late next v blocks growing grown b c

    both_told : Told old to Both
    both_told = told_both (root.Repairs {E = IoFault} (Ok done) before mid) (PutsBeside result mid late next v blocks growing grown) Both old from to (λ a b c r p. (b, r, p)) repairs beside

  pub lay_given_up_told : (mid : Root) (done : Unit {0}) (fault : IoFault) (answer : PublishFault) (old from to new : Option Disk) → (IsDirty after.other → ⊥) → Told old from (root.Repairs {E = IoFault} (Ok done) before mid)
      → Told from to (PutsBeside {T = Unit {0}} (Err fault) mid after next v blocks growing grown) → Told to new (GivesUp answer next blocks) → Told old new (Fails answer)
  lay_given_up_told mid done fault answer old from to new clean repairs beside gives_up =
      told_both (Both mid after done (Err fault) old from to repairs beside) (GivesUp answer next blocks) (Fails answer) old to new
      (λ a c d both g. lay_given_up before after next v blocks growing grown fit mid done fault answer a both.0 c d clean both.1 both.2 g)
      (both_told mid after done (Err fault) old from to repairs beside) gives_up

  module _ (mid late : Root) (few : AreFew (length blocks) blocks) (done again : Unit {0}) (old from to new : Option Disk) (repairs : Told old from (root.Repairs {E = IoFault} (Ok done) before mid))
      (beside : Told from to (PutsBeside {E = IoFault} (Ok again) mid late next v blocks growing grown))
    where
      pub lay_told : (flipped answer : Unit {0}) → Told to new (Flips {E = IoFault} (Ok flipped) late after) → Told old new (LaysDown (Ok answer) before after next v blocks growing grown)
      lay_told flipped answer flips =
          told_both (Both mid late done (Ok again) old from to repairs beside) (Flips {E = IoFault} (Ok flipped) late after) (LaysDown (Ok answer) before after next v blocks growing grown) old to new
          (λ a c d both f. lay_flipped before after next v blocks growing grown fit mid late few done again a both.0 c d both.1 both.2 flipped answer f)
          (both_told mid late done (Ok again) old from to repairs beside) flips

      pub lay_not_flipped_told : (fault : IoFault) (answer : PublishFault) → IsDirty after.other → Told to new (Flips {T = Unit {0}} (Err fault) late after) → Told old new (Fails answer)
      lay_not_flipped_told fault answer dirty flips =
          told_both (Both mid late done (Ok again) old from to repairs beside) (Flips {T = Unit {0}} (Err fault) late after) (Fails answer) old to new
          (λ a c d both f. lay_not_flipped before after next v blocks growing grown fit mid late few done again a both.0 c d both.1 both.2 fault answer dirty f)
          (both_told mid late done (Ok again) old from to repairs beside) flips

-- ---- the removal of a block's files

module _ (before after : Root) (block : ℕ) where
  pub clear_not_repaired_told : (fault answer : IoFault) (old new : Option Disk) → (IsDirty after.other → IsDirty before.other) → Told old new (root.Repairs {T = Unit {0}} (Err fault) before after) → Told old new (Clears {T = Unit {0}} (Err answer) before after block)
  clear_not_repaired_told fault answer old new dirty told =
      told_map (root.Repairs {T = Unit {0}} (Err fault) before after) (Clears {T = Unit {0}} (Err answer) before after block) old new
      (λ a b r. clear_not_repaired before after block fault answer a b dirty r) told

  pub clear_told : (done : Unit {0}) (result : Answer) (old mid new : Option Disk) → (IsDirty after.other → ⊥) → Told old mid (root.Repairs {E = IoFault} (Ok done) before after) → Told mid new (RemovesBlock result block) → Told old new (Clears result before after block)
  clear_told done result old mid new clean repairs removes =
      told_both (root.Repairs {E = IoFault} (Ok done) before after) (RemovesBlock result block) (Clears result before after block) old mid new
      (λ a b c r m. clear_removed before after block done result a b c clean r m) repairs removes
