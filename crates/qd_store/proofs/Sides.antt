-- What a call on other files leaves of the versions on a volume, at every moment of it and behind it.
use Rattle.std.proofs.Common.{◌≡◌, ◌⊎◌, inl, inr, ℕ, ◌+◌, ◌^◌, ◌<◌, ◌≤◌, nat_eq, nat_le, Bool, true, false, ◌||◌, List, [], ◌∷◌, ◌++◌, length, map, take, All, Some, Option, refl, sym, ◌∙◌, ap, subst, arith}
use Rattle.std.specs.List.{flat_map}
use Rattle.std.proofs.lemmas.List.{take-append-le}
use Rattle.std.proofs.lemmas.List.Elements.{All-append, All-contains, All-head, All-map, All-nil, All-tail}
use Rattle.qd_base.specs.declared.op.Entry.{Entry}
use Rattle.qd_base.specs.declared.part.Part.{Part}
use Rattle.qd_base.specs.Database.{Database}
use Rattle.qd_base.specs.Replay.{after, first}
use Rattle.qd_block.specs.Blocks.{Block, IsWhole}
use Rattle.qd_catalog.specs.declared.version.Version as catalog
use Rattle.qd_catalog.specs.Versions.{version_at}
use Rattle.qd_apply.specs.Stands.{StandsFor}
use Rattle.qd_durable.specs.Moments.{ComesFrom, EachNow, LeavesOnly, Moves, SameBut}
use Rattle.qd_durable.specs.Places.{StandsAt}
use Rattle.qd_durable.proofs.Moved.{leaves_weaker, moments_have, now_has}
use Rattle.qd_column_files.specs.Files.{is_file_of}
use Rattle.qd_manifest.specs.declared.shape.TableParts.{TableParts}
use Rattle.qd_manifest.specs.Spelling.{blocks_in, blocks_of}
use Rattle.qd_txnfile.specs.declared.half.Other.{Other}
use Rattle.qd_txnfile.specs.declared.half.Other.TheVariants as other
use Rattle.qd_txnfile.specs.States.{GivesKnown, IsDirty}
use Rattle.qd_txnfile.specs.Versions.{Version}
use Rattle.qd_versions.specs.Stores as versions
use Rattle.qd_versions.specs.Stores.{IsRooted, current_version}
use Rattle.qd_versions.specs.Kept.{IsNamed}
use Rattle.qd_versions.proofs.Alike.{listed_at}
use Rattle.qd_versions.proofs.Blocks.{listed_in}
use Rattle.qd_versions.proofs.Files.{held_kept}
use Rattle.qd_versions.proofs.Kept.{given_kept, knows_kept, leaves_and}
use Rattle.qd_versions.proofs.KeptTails.{one_current, tails_stay}
use Rattle.qd_volume.specs.Disk.{Disk, Image}
use Rattle.qd_store.specs.Marks.{IsMade}
use Rattle.qd_store.specs.Prefixes.{HoldsBlocks, HoldsTables, IsLeft, IsShown}
use Rattle.qd_store.specs.Stores.{HasVersions}

-- ---- the blocks of a version

-- a fact of the block of each part
pub blocks_each : (P : ℕ → Type 0) (shape : List TableParts) → All (λ (t : TableParts). All (λ (p : Part). P p.block) t.parts) shape → All P (blocks_of shape)
blocks_each P [] h = All-nil P
blocks_each P (t ∷ ts) h =
    All-append P (blocks_in t.parts) (blocks_of ts)
    (All-map P (λ (p : Part). p.block) t.parts (All-head (λ (t : TableParts). All (λ (p : Part). P p.block) t.parts) t ts h))
    (blocks_each P ts (All-tail (λ (t : TableParts). All (λ (p : Part). P p.block) t.parts) t ts h))

pub blocks_whole : (blocks : ℕ → Block) (shape : List TableParts) (db : Database) → StandsFor blocks shape db → All (λ b. IsWhole (blocks b)) (blocks_of shape)
blocks_whole blocks shape db stands = blocks_each (λ b. IsWhole (blocks b)) shape stands.whole

-- a call touches no file of a block
abbrev pub Spares : (ℕ → Bool) → ℕ → Type 0
Spares touched block = (file : ℕ) → is_file_of block file ≡ true → touched file ≡ false

-- the blocks of a version are held while their files stay
pub blocks_kept : (touched : ℕ → Bool) (shape : List TableParts) (blocks : ℕ → Block) (db : Database) (earlier image : Image) → StandsFor blocks shape db → All (Spares touched) (blocks_of shape) → SameBut touched earlier image → HoldsBlocks shape blocks earlier → HoldsBlocks shape blocks image
blocks_kept touched shape blocks db earlier image stands free same held k d lt =
    held_kept (slice k d) (blocks (slice k d)) touched earlier image ((blocks_whole blocks shape db stands) k d lt).few (free k d lt) same (held k d lt)
  where
    slice : ℕ → ℕ → ℕ
    slice k d = Rattle.std.specs.Prelude.slice_index_or (blocks_of shape) k d

-- ---- a version that stands for a history

module _ (touched : ℕ → Bool) (before after : Disk) (moves : Moves (SameBut touched) before after) where
  pub shown_kept : (h : List Entry) (n : ℕ) (shape : List TableParts) → All (Spares touched) (blocks_of shape) → IsShown h n shape before → IsShown h n shape after
  shown_kept h n shape free shown = record {
    few = shown.few;
    small = shown.small;
    blocks = shown.blocks;
    stands = shown.stands;
    held = now_has (SameBut touched) (HoldsBlocks shape shown.blocks) (HoldsBlocks shape shown.blocks) before after moves shown.held
        (λ earlier image held same. blocks_kept touched shape shown.blocks (first h n) earlier image shown.stands free same held);
  }

  -- and its tables are held at every moment
  pub tables_kept : (h : List Entry) (n : ℕ) (shape : List TableParts) → All (Spares touched) (blocks_of shape) → IsShown h n shape before → LeavesOnly before after (HoldsTables shape (first h n))
  tables_kept h n shape free shown =
      moments_have (SameBut touched) (HoldsBlocks shape shown.blocks) (HoldsTables shape (first h n)) before after moves shown.held
      (λ earlier image held same. record { blocks = shown.blocks; stands = shown.stands; held = blocks_kept touched shape shown.blocks (first h n) earlier image shown.stands free same held })

  pub made_kept : touched 0 ≡ false → EachNow before IsMade → LeavesOnly before after IsMade
  made_kept free made =
      moments_have (SameBut touched) IsMade IsMade before after moves made
      (λ earlier image is same. subst (λ (l : List ℕ). StandsAt l 0 (1 ∷ [])) (sym (same 0 free)) is)

  pub made_now : touched 0 ≡ false → EachNow before IsMade → EachNow after IsMade
  made_now free made =
      now_has (SameBut touched) IsMade IsMade before after moves made
      (λ earlier image is same. subst (λ (l : List ℕ). StandsAt l 0 (1 ∷ [])) (sym (same 0 free)) is)

-- one that shows a history shows each longer one
pub first_longer : (h more : List Entry) (n : ℕ) → n ≤ length h → first (h ++ more) n ≡ first h n
first_longer h more n few = ap after (take-append-le n h more few)

pub shown_longer : (h more : List Entry) (n : ℕ) (shape : List TableParts) (disk : Disk) → IsShown h n shape disk → IsShown (h ++ more) n shape disk
shown_longer h more n shape disk shown = record {
  few = omega (arith, shown.few, Rattle.std.proofs.Common.length-append h more);
  small = shown.small;
  blocks = shown.blocks;
  stands = subst (λ (db : Database). StandsFor shown.blocks shape db) (sym (first_longer h more n shown.few)) shown.stands;
  held = shown.held;
}

pub left_longer : (h more : List Entry) (next : Version) (disk : Disk) → IsLeft h next disk → IsLeft (h ++ more) next disk
left_longer h more next disk left = record {
  manifest = left.manifest;
  sound = left.sound;
  spelled = left.spelled;
  shown = shown_longer h more next.n left.manifest.shape disk left.shown;
}

pub versions_longer : (v : versions.Store) (h more : List Entry) (next : Version) (disk : Disk) → HasVersions v h next disk → HasVersions v (h ++ more) next disk
unfolding left_longer
versions_longer v h more next disk has = record {
  made = has.made;
  rooted = has.rooted;
  pending = λ dirty. let p = has.pending dirty in record { left = left_longer h more next disk p.left; blocks = p.blocks };
  live = λ row x at. shown_longer h more x.n x.shape disk (has.live row x at);
  kept = has.kept;
}

-- ---- all versions

-- a call that touches no file of the blocks of live versions touches none of a block that the current one names
named_spared : (v : versions.Store) (touched : ℕ → Bool) → ((row : ℕ) (x : catalog.Version) → version_at v.versions row ≡ Some x → All (Spares touched) (blocks_of x.shape)) → (block file : ℕ) → IsNamed v.versions block → is_file_of block file ≡ true → touched file ≡ false
named_spared v touched free block file name of =
    let y = listed_at (version_at v.versions v.versions.current) block name in
    All-contains (Spares touched) (blocks_of y.0.shape) block (free v.versions.current y.0 y.1) (listed_in block (blocks_of y.0.shape) y.2) file of

-- what an image has of the version that a failed publication may have left
abbrev pub LeftTables : (h : List Entry) (next : Version) (disk : Disk) (known : Other) → (IsDirty known → IsLeft h next disk) → Image → Type 0
LeftTables h next disk (other.Opening n) left image = HoldsTables (left tt).manifest.shape (first h next.n) image
LeftTables h next disk other.Older left image = Unit {0}
LeftTables h next disk other.Closed left image = Unit {0}
LeftTables h next disk (other.Written n) left image = Unit {0}

-- what an image shows of the versions, at each moment of a call
pub record Shows (v : versions.Store) (h : List Entry) (next : Version) (x : catalog.Version) (before : Disk) (left : IsDirty v.root.other → IsLeft h next before) (image : Image) : Type 0 where
  pub made : IsMade image
  pub given : GivesKnown v.root.other (current_version v.versions) next image
  pub current : HoldsTables x.shape (first h x.n) image
  pub others : LeftTables h next before v.root.other left image

module _ (touched : ℕ → Bool) (before after : Disk) (moves : Moves (SameBut touched) before after) where
  left_kept : (h : List Entry) (next : Version) (known : Other) (left : IsDirty known → IsLeft h next before) → ((d : IsDirty known) → All (Spares touched) (blocks_of (left d).manifest.shape)) → LeavesOnly before after (LeftTables h next before known left)
  left_kept h next (other.Opening n) left free = tables_kept touched before after moves h next.n (left tt).manifest.shape (free tt) (left tt).shown
  left_kept h next other.Older left free = leaves_weaker (ComesFrom (SameBut touched) before) (λ image. Unit {0}) before after (λ image from. tt) moves.moments
  left_kept h next other.Closed left free = leaves_weaker (ComesFrom (SameBut touched) before) (λ image. Unit {0}) before after (λ image from. tt) moves.moments
  left_kept h next (other.Written n) left free = leaves_weaker (ComesFrom (SameBut touched) before) (λ image. Unit {0}) before after (λ image from. tt) moves.moments

  module _ (v : versions.Store) (h : List Entry) (next : Version) (has : HasVersions v h next before) (zeroth : touched 0 ≡ false)
      (free : (row : ℕ) (x : catalog.Version) → version_at v.versions row ≡ Some x → All (Spares touched) (blocks_of x.shape))
      (free_left : (d : IsDirty v.root.other) → All (Spares touched) (blocks_of (has.pending d).left.manifest.shape)) where
    -- by what the root gives
    pub versions_with : LeavesOnly before after (GivesKnown v.root.other (current_version v.versions) next) → (x : catalog.Version) → version_at v.versions v.versions.current ≡ Some x → LeavesOnly before after (Shows v h next x before (λ d. (has.pending d).left))
    versions_with given x at =
        leaves_weaker (λ image. IsMade image × (GivesKnown v.root.other (current_version v.versions) next image × (HoldsTables x.shape (first h x.n) image × LeftTables h next before v.root.other (λ d. (has.pending d).left) image)))
        (Shows v h next x before (λ d. (has.pending d).left)) before after
        (λ image f. record { made = f.0; given = f.1.0; current = f.1.1.0; others = f.1.1.1 })
        (leaves_and IsMade (λ image. GivesKnown v.root.other (current_version v.versions) next image × (HoldsTables x.shape (first h x.n) image × LeftTables h next before v.root.other (λ d. (has.pending d).left) image)) before after
        (made_kept touched before after moves zeroth has.made)
        (leaves_and (GivesKnown v.root.other (current_version v.versions) next) (λ image. HoldsTables x.shape (first h x.n) image × LeftTables h next before v.root.other (λ d. (has.pending d).left) image) before after
        given
        (leaves_and (HoldsTables x.shape (first h x.n)) (LeftTables h next before v.root.other (λ d. (has.pending d).left)) before after
        (tables_kept touched before after moves h x.n x.shape (free v.versions.current x at) (has.live v.versions.current x at))
        (left_kept h next v.root.other (λ d. (has.pending d).left) free_left))))

    module _ (second : touched 2 ≡ false) (third : touched 3 ≡ false) where
      pub versions_at_each_moment : (x : catalog.Version) → version_at v.versions v.versions.current ≡ Some x → LeavesOnly before after (Shows v h next x before (λ d. (has.pending d).left))
      versions_at_each_moment x at = versions_with (given_kept touched second third before after moves v.root (current_version v.versions) next has.rooted.root) x at

      pub versions_kept : HasVersions v h next after
      versions_kept = record {
        made = made_now touched before after moves zeroth has.made;
        rooted = record { root = knows_kept touched second third before after moves v.root (current_version v.versions) next has.rooted.root };
        pending = λ d. let p = has.pending d in record {
          left = record { manifest = p.left.manifest; sound = p.left.sound; spelled = p.left.spelled; shown = shown_kept touched before after moves h next.n p.left.manifest.shape (free_left d) p.left.shown };
          blocks = p.blocks;
        };
        live = λ row x at. shown_kept touched before after moves h x.n x.shape (free row x at) (has.live row x at);
        kept = tails_stay v v (one_current v.versions) touched before after moves refl (named_spared v touched free) has.kept;
      }
