-- What the making of a store leaves: until the mark is written nothing is made, and then all else is there.
use Rattle.std.proofs.Common.{◌≡◌, ◌⊎◌, inl, inr, ℕ, zero, suc, ◌^◌, ◌≤◌, nat_eq, Bool, true, false, ◌||◌, List, [], ◌∷◌, Option, Some, None, Result, Ok, refl, sym, ap, subst, arith, get_or}
use Rattle.std.specs.Prelude.{replicate, unwrap_or}
use Rattle.std.proofs.lemmas.Bool.{eqb-true}
use Rattle.std.proofs.lemmas.Bool.Decides.{nat_tests}
use Rattle.std.proofs.lemmas.List.Elements.{All-nil}
use Rattle.qd_block.specs.Blocks.{Block}
use Rattle.qd_catalog.specs.declared.version.Version as catalog
use Rattle.qd_catalog.specs.Versions as rows
use Rattle.qd_catalog.specs.Versions.{version_at}
use Rattle.qd_apply.specs.Stands.{StandsFor}
use Rattle.qd_durable.specs.Moments.{EachNow, LeavesOnly, Moves, SameBut, SameOutside}
use Rattle.qd_durable.specs.Places.{StandsAt}
use Rattle.qd_durable.proofs.Moved.{leaves_both, moments_have, moves_weaker, now_has, outside_but}
use Rattle.qd_manifest.specs.Spelling.{IsManifest}
use Rattle.qd_seq.specs.Layout.{SpellsLog}
use Rattle.qd_sequencer.specs.Calls as logs
use Rattle.qd_sequencer.specs.Histories.{HoldsHistory, is_log_file}
use Rattle.qd_sequencer.specs.Laws.{IsElsewhere, OtherFilesLeaveTheSequence}
use Rattle.qd_sequencer.specs.Sequences.{IsSequence}
use Rattle.qd_txnfile.specs.States.{IsDirty}
use Rattle.qd_txnfile.specs.Versions.{GivesVersion, Version, is_version_file}
use Rattle.qd_versions.specs.Calls as roots
use Rattle.qd_versions.specs.Stores.{current_version}
use Rattle.qd_versions.proofs.Kept.{files_same, gives_kept, knows_kept}
use Rattle.qd_versions.proofs.KeptTails.{none_kept}
use Rattle.qd_volume.specs.Disk.{Disk, Image}
use Rattle.qd_store.specs.Marks.{IsMade, Marks}
use Rattle.qd_store.specs.Prefixes.{HoldsTables, IsShown}
use Rattle.qd_store.specs.Found.{Finds, IsUnmade, nothing}
use Rattle.qd_store.specs.Stores.{Book, HasVersions, IsStore}
use Rattle.qd_store.specs.Calls.{IsBeingMade}

-- ---- the mark

by_first : (b : ℕ) (rest : List ℕ) (is : Bool) → nat_eq b 1 ≡ is → StandsAt (b ∷ rest) 0 (1 ∷ []) ⊎ (StandsAt (b ∷ rest) 0 (1 ∷ []) → ⊥)
by_first b rest true e = inl (ap (λ (n : ℕ). n ∷ []) (eqb-true b 1 e))
by_first b rest false e = inr (λ stands. absurd (no stands))
  where
    no : StandsAt (b ∷ rest) 0 (1 ∷ []) → ⊥
    no stands = let h : b ≡ 1 = ap (λ (l : List ℕ). get_or l 0 0) stands in let f : nat_eq 1 1 ≡ false = subst (λ (n : ℕ). nat_eq n 1 ≡ false) h e in cc

by_bytes : (bytes : List ℕ) → StandsAt bytes 0 (1 ∷ []) ⊎ (StandsAt bytes 0 (1 ∷ []) → ⊥)
by_bytes [] = inr (λ stands. cc)
by_bytes (b ∷ rest) = by_first b rest (nat_eq b 1) refl

pub made_or_not : (image : Image) → IsMade image ⊎ (IsMade image → ⊥)
made_or_not image = by_bytes (image 0)

-- a call that doesn't touch it
module _ (touched : ℕ → Bool) (before after : Disk) (moves : Moves (SameBut touched) before after) (free : touched 0 ≡ false) (unmade : IsUnmade before) where
  still : (earlier image : Image) → (IsMade earlier → ⊥) → SameBut touched earlier image → IsMade image → ⊥
  still earlier image absent same made = absent (subst (λ (l : List ℕ). StandsAt l 0 (1 ∷ [])) (same 0 free) made)

  pub unmade_moments : LeavesOnly before after IsBeingMade
  unmade_moments = moments_have (SameBut touched) (λ image. IsMade image → ⊥) IsBeingMade before after moves unmade (λ earlier image absent same. inl (still earlier image absent same))

  pub unmade_now : IsUnmade after
  unmade_now = now_has (SameBut touched) (λ image. IsMade image → ⊥) (λ image. IsMade image → ⊥) before after moves unmade still

pub being_made : (disk : Disk) → IsUnmade disk → EachNow disk IsBeingMade
being_made disk unmade image now = inl (unmade image now)

-- ---- what there is when the mark is written

abbrev pub no_blocks : ℕ → Block
no_blocks b = record { kinds = []; time_col = 0; rows = [] }

pub none_stand : StandsFor no_blocks [] []
none_stand = record {
  schemas = refl;
  parts = All-nil _;
  whole = All-nil _;
  fit = All-nil _;
  rows = refl;
}

pub none_held : (image : Image) → HoldsTables [] [] image
none_held image = record { blocks = no_blocks; stands = none_stand; held = All-nil _ }

pub none_shown : (disk : Disk) → IsShown [] 0 [] disk
none_shown disk = record { few = omega arith; small = All-nil _; blocks = no_blocks; stands = none_stand; held = λ image now. All-nil _ }

-- what an image has that shows a store without a transaction, but for the mark
pub record IsReady (image : Image) : Type 0 where
  pub history : HoldsHistory [] [] image
  pub version : GivesVersion roots.no_tables image

ready_kept : (touched : ℕ → Bool) → touched 1 ≡ false → touched 2 ≡ false → touched 3 ≡ false → (earlier image : Image) → SameBut touched earlier image → IsReady earlier → IsReady image
ready_kept touched one two three earlier image same ready = record {
  history = record {
    gives = subst (λ (l : List ℕ). SpellsLog [] l) (sym (same 1 one)) ready.history.gives;
    spelled = tt;
    lawful = ready.history.lawful;
  };
  version = gives_kept roots.no_tables earlier image (files_same touched two three earlier image same) ready.version;
}

pub found_ready : (image : Image) → IsMade image → IsReady image → IsManifest 0 nothing.manifest → Finds nothing image
found_ready image made ready sound = record {
  made = made;
  history = ready.history;
  version = ready.version;
  manifest = sound;
  few = omega arith;
  tables = none_held image;
}

being_ready : (image : Image) → IsReady image → IsManifest 0 nothing.manifest → IsBeingMade image
being_ready image ready sound = by (made_or_not image)
  where
    by : IsMade image ⊎ (IsMade image → ⊥) → IsBeingMade image
    by (inl made) = inr (found_ready image made ready sound)
    by (inr absent) = inl absent

-- the mark is written
module _ {T E : Type 0} (result : Result T E) (before after : Disk) (marks : Marks result before after) (ready : EachNow before IsReady) (sound : IsManifest 0 nothing.manifest) where
  mark_moves : Moves (SameBut (nat_eq 0)) before after
  mark_moves = moves_weaker (SameOutside 0 0 1) (SameBut (nat_eq 0)) before after (outside_but (nat_eq 0) 0 0 1 refl) marks.touches

  pub ready_now : EachNow after IsReady
  ready_now = now_has (SameBut (nat_eq 0)) IsReady IsReady before after mark_moves ready (λ earlier image r same. ready_kept (nat_eq 0) refl refl refl earlier image same r)

  pub mark_moments : LeavesOnly before after IsBeingMade
  mark_moments = moments_have (SameBut (nat_eq 0)) IsReady IsBeingMade before after mark_moves ready (λ earlier image r same. being_ready image (ready_kept (nat_eq 0) refl refl refl earlier image same r) sound)

  pub mark_now : EachNow after IsBeingMade
  mark_now image now = being_ready image (ready_now image now) sound

  pub mark_found : EachNow after IsMade → EachNow after (Finds nothing)
  mark_found made image now = found_ready image (made image now) (ready_now image now) sound

-- ---- the whole

no_segment : (file : ℕ) → 2 ^ 63 ≤ file → (nat_eq file 2 || nat_eq file 3) ≡ false
no_segment file high = grind (arith, nat_tests)

version_files_elsewhere : IsElsewhere is_version_file
version_files_elsewhere = record { log = refl; segments = no_segment }

no_zero : (file : ℕ) → 2 ^ 63 ≤ file → nat_eq 0 file ≡ false
no_zero file high = grind (arith, nat_tests)

mark_elsewhere : IsElsewhere (nat_eq 0)
mark_elsewhere = record { log = refl; segments = no_zero }

-- the one row that is live
pub row_is : (x y : catalog.Version) (row count : ℕ) → get_or (Some y ∷ replicate count None) row None ≡ Some x → x ≡ y
row_is x y zero count at = sym (some_is at)
  where
    some_is : Some y ≡ Some x → y ≡ x
    some_is e = ap (λ (o : Option catalog.Version). unwrap_or o y) e
row_is x y (suc row) zero at = cc
row_is x y (suc row) (suc count) at = by row count at
  where
    by : (row count : ℕ) → get_or (replicate (suc count) None) row None ≡ Some x → x ≡ y
    by zero count e = cc
    by (suc row) zero e = cc
    by (suc row) (suc count) e = by row count e

module _ {T E : Type 0} (result : Result T E) (s : Book) (law : OtherFilesLeaveTheSequence) (sound : IsManifest 0 nothing.manifest)
    (clean : IsDirty s.versions.root.other → ⊥) (opened : rows.IsOpened s.versions.versions 0 0 []) (nothing_kept : s.versions.kept ≡ [])
    (d0 d1 d2 d3 : Disk) (logged : logs.Makes {E = E} (Ok s.sequence) d0 d1) (rooted : roots.Creates {E = E} (Ok s.versions) d1 d2) (marks : Marks result d2 d3) where
  ready : EachNow d2 IsReady
  ready image now = record {
    history = now_has (SameBut is_version_file) (HoldsHistory [] []) (HoldsHistory [] []) d1 d2 rooted.elsewhere logged.made.0
        (λ earlier i holds same. record { gives = subst (λ (l : List ℕ). SpellsLog [] l) (sym (same 1 refl)) holds.gives; spelled = tt; lawful = holds.lawful }) image now;
    version = rooted.created.0 image now;
  }

  pub any_moment : IsUnmade d0 → LeavesOnly d0 d3 IsBeingMade
  any_moment unmade =
      leaves_both d0 d1 d3 IsBeingMade (unmade_moments is_log_file d0 d1 logged.elsewhere refl unmade)
      (leaves_both d1 d2 d3 IsBeingMade (unmade_moments is_version_file d1 d2 rooted.elsewhere refl (unmade_now is_log_file d0 d1 logged.elsewhere refl unmade))
      (mark_moments result d2 d3 marks ready sound))

  pub behind : EachNow d3 IsBeingMade
  behind = mark_now result d2 d3 marks ready sound

  sequence : IsSequence s.sequence [] d3
  sequence =
      (law (nat_eq 0) s.sequence [] d2 d3 mark_elsewhere (mark_moves result d2 d3 marks ready sound)
      (law is_version_file s.sequence [] d1 d2 version_files_elsewhere rooted.elsewhere logged.made.1).1).1

  versions_there : EachNow d3 IsMade → (next : Version) → HasVersions s.versions [] next d3
  versions_there made next = record {
    made = made;
    rooted = record { root = knows_kept (nat_eq 0) refl refl d2 d3 (mark_moves result d2 d3 marks ready sound) s.versions.root (current_version s.versions.versions) next (rooted.created.1 next).root };
    pending = λ dirty. absurd (clean dirty);
    live = λ row x at.
        subst (λ (y : catalog.Version). IsShown [] y.n y.shape d3)
        (sym (row_is x (record { n = 0; shape = [] }) row 63 (subst (λ (l : List (Option catalog.Version)). get_or l row None ≡ Some x) opened.versions at)))
        (none_shown d3);
    kept = none_kept s.versions d3 nothing_kept;
  }

  pub made_whole : EachNow d3 IsMade → EachNow d3 (Finds nothing) × ((next : Version) → IsStore s [] next d3)
  made_whole made = (mark_found result d2 d3 marks ready sound made, λ next. record { sequence = sequence; versions = versions_there made next })
