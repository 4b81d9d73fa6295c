-- What a sweep leaves of a store, whatever its queue holds.
use Rattle.std.proofs.Common.{◌≡◌, ◌⊎◌, inl, inr, ℕ, ◌^◌, ◌<◌, ◌≤◌, Bool, true, false, List, [], ◌∷◌, All, Option, Some, None, Contains, refl, sym, ◌∙◌, ap, subst, arith}
use Rattle.std.specs.Prelude.{slice_index_or}
use Rattle.qd_base.specs.declared.op.Entry.{Entry}
use Rattle.qd_catalog.specs.declared.version.Version as catalog
use Rattle.qd_catalog.specs.Versions.{IsListed, Versions, lists, version_at}
use Rattle.qd_durable.specs.Moments.{LeavesOnly, Moves, SameBut}
use Rattle.qd_manifest.specs.declared.shape.TableParts.{TableParts}
use Rattle.qd_manifest.specs.Spelling.{blocks_of}
use Rattle.qd_txnfile.specs.States.{GivesKnown, IsDirty}
use Rattle.qd_sequencer.specs.Calls.{PendsAsBefore}
use Rattle.qd_sequencer.specs.Histories as histories
use Rattle.qd_sequencer.specs.Histories.{MayHold}
use Rattle.qd_sequencer.specs.Laws.{IsElsewhere, OtherFilesLeaveTheSequence}
use Rattle.qd_sequencer.specs.Sequences.{IsSequence, Sequence}
use Rattle.qd_durable.proofs.Moved.{leaves_weaker}
use Rattle.qd_txnfile.specs.Versions.{GivesVersion, Version, is_version_file}
use Rattle.qd_versions.specs.Publishing.{GivesBefore}
use Rattle.qd_versions.proofs.Kept.{leaves_and}
use Rattle.qd_versions.specs.Kept.{KeepsTails}
use Rattle.qd_versions.specs.Stores as versions
use Rattle.qd_versions.specs.Stores.{IsRooted, current_version}
use Rattle.qd_volume.specs.Disk.{Disk}
use Rattle.qd_store.specs.Stores.{Book, IsPending, IsStore}
use Rattle.qd_store.specs.Calls.{MayShow, ShowsOneOf}
use Rattle.qd_store.proofs.Committing.{the_current}
use Rattle.qd_store.proofs.OneOf.{shows_one_of}
use Rattle.qd_store.proofs.Sides.{Shows, Spares, made_now, shown_kept, versions_with}
use Rattle.qd_versions.specs.Calls.{SweepsFront, is_swept_file}
use Rattle.qd_store.specs.Calls.{Stands}
use Rattle.qd_store.proofs.Sweeping.{given_known, left_spared, live_spared, sweep_elsewhere, swept, zero_spared}
use Rattle.qd_store.proofs.Publishing.{version_spares}
use Rattle.qd_store.proofs.GrownFiles.{no_version_high}
use Rattle.std.proofs.Common.{slice_get, Result}

-- what a call changes of the catalogue, where it adds and retires no version
abbrev pub SameRows : Versions → Versions → Type 0
SameRows old new = (new.versions ≡ old.versions) × (new.current ≡ old.current) × (new.next_block ≡ old.next_block)

module _ (touched : ℕ → Bool) (old new : Book) (h : List Entry) (next : Version) (before after : Disk) (is : IsStore old h next before) (law : versions.IsStore old.versions) (sequence : OtherFilesLeaveTheSequence)
    (elsewhere : IsElsewhere touched) (zero : touched 0 ≡ false) (moves : Moves (SameBut touched) before after)
    (live : (row : ℕ) (x : catalog.Version) → version_at old.versions.versions row ≡ Some x → All (Spares touched) (blocks_of x.shape))
    (left : (d : IsDirty old.versions.root.other) → All (Spares touched) (blocks_of (is.versions.pending d).left.manifest.shape)) where
  moments : LeavesOnly before after (GivesKnown old.versions.root.other (current_version old.versions.versions) next) → LeavesOnly before after (ShowsOneOf h (histories.IsPending old.sequence.pending before) (MayShow old next))
  moments given =
      let v = old.versions in
      let c = the_current (version_at v.versions v.versions.current) law.live in
      leaves_weaker
      (λ image. MayHold old.sequence.refs h (histories.IsPending old.sequence.pending before) image × Shows v h next c.0 before (λ d. (is.versions.pending d).left) image)
      (ShowsOneOf h (histories.IsPending old.sequence.pending before) (MayShow old next)) before after
      (λ image both. shows_one_of v h (histories.IsPending old.sequence.pending before) old.sequence.refs next c.0 before (λ d. (is.versions.pending d).left) image c.1 (law.current c.0 c.1).sound (is.versions.live v.versions.current c.0 c.1).few both.1 both.0)
      (leaves_and (MayHold old.sequence.refs h (histories.IsPending old.sequence.pending before)) (Shows v h next c.0 before (λ d. (is.versions.pending d).left)) before after
      (sequence touched old.sequence h before after elsewhere moves is.sequence).0
      (versions_with touched before after moves v h next is.versions zero live left given c.0 c.1))

  module _ (same : new.sequence ≡ old.sequence) (rows_same : SameRows old.versions.versions new.versions.versions) (rooted : IsRooted new.versions next after)
      (root : (IsDirty new.versions.root.other → IsDirty old.versions.root.other) ⊎ (IsDirty new.versions.root.other → ⊥)) (kept : KeepsTails new.versions after) where
    row_same : (row : ℕ) → version_at new.versions.versions row ≡ version_at old.versions.versions row
    row_same row = ap (λ (l : List (Option catalog.Version)). slice_index_or l row None) rows_same.0

    pending_now : IsDirty new.versions.root.other → (IsDirty new.versions.root.other → IsDirty old.versions.root.other) ⊎ (IsDirty new.versions.root.other → ⊥) → IsPending new.versions h next after
    pending_now dirty (inr clean) = absurd (clean dirty)
    pending_now dirty (inl before_too) =
        let d = before_too dirty in
        let p = is.versions.pending d in record {
          left = record { manifest = p.left.manifest; sound = p.left.sound; spelled = p.left.spelled; shown = shown_kept touched before after moves h next.n p.left.manifest.shape (left d) p.left.shown };
          blocks = λ b in_shape. by b (p.blocks b in_shape);
        }
      where
        by : (b : ℕ) → (lists (version_at old.versions.versions old.versions.versions.current) b ≡ true) ⊎ (old.versions.versions.next_block ≤ b) → (lists (version_at new.versions.versions new.versions.versions.current) b ≡ true) ⊎ (new.versions.versions.next_block ≤ b)
        by b (inl listed) = inl (subst (λ (n : ℕ). lists (version_at new.versions.versions n) b ≡ true) (sym rows_same.1) (subst (λ (o : Option catalog.Version). lists o b ≡ true) (sym (row_same old.versions.versions.current)) listed))
        by b (inr high) = inr (subst (λ (n : ℕ). n ≤ b) (sym rows_same.2) high)

    still : IsStore new h next after
    still = record {
      sequence = subst (λ (q : Sequence). IsSequence q h after) (sym same) (sequence touched old.sequence h before after elsewhere moves is.sequence).1;
      versions = record {
        made = made_now touched before after moves zero is.versions.made;
        rooted = rooted;
        pending = λ dirty. pending_now dirty root;
        live = λ row x at. let was = sym (row_same row) ∙ at in shown_kept touched before after moves h x.n x.shape (live row x was) (is.versions.live row x was);
        kept = kept;
      };
    }

-- ---- a told sweep

module _ {E : Type 0} (result : Result Bool E) (old new : Book) (before after : Disk) (law : versions.IsStore old.versions) (sequence : OtherFilesLeaveTheSequence) (same : new.sequence ≡ old.sequence)
    (rows_same : SameRows old.versions.versions new.versions.versions) (unlisted : (block : ℕ) → slice_get old.versions.versions.retired 0 ≡ Some block → IsListed old.versions.versions block → ⊥)
    (front : SweepsFront result old.versions new.versions before after) where
  known : (next : Version) → IsRooted old.versions next before → LeavesOnly before after (GivesKnown old.versions.root.other (current_version old.versions.versions) next)
  known next rooted = leaves_weaker
      (λ image. GivesBefore old.versions.root.other (current_version old.versions.versions) next before image ⊎ GivesVersion (current_version old.versions.versions) image)
      (GivesKnown old.versions.root.other (current_version old.versions.versions) next) before after
      (λ image gives. given_known old.versions.root.other (current_version old.versions.versions) next before image gives) (front.any_moment next rooted)

  root_of : (next : Version) → IsRooted old.versions next before → IsRooted new.versions next after × ((IsDirty new.versions.root.other → IsDirty old.versions.root.other) ⊎ (IsDirty new.versions.root.other → ⊥))
  root_of next rooted = by (front.behind next rooted)
    where
      by : ((IsDirty new.versions.root.other → IsDirty old.versions.root.other) × (IsRooted new.versions next after × Moves (SameBut is_version_file) before after)) ⊎ (IsRooted new.versions next after × (IsDirty new.versions.root.other → ⊥))
          → IsRooted new.versions next after × ((IsDirty new.versions.root.other → IsDirty old.versions.root.other) ⊎ (IsDirty new.versions.root.other → ⊥))
      by (inl (dirty, (rooted, moves))) = (rooted, inl dirty)
      by (inr (rooted, clean)) = (rooted, inr clean)

  with_files : (touched : ℕ → Bool) → Moves (SameBut touched) before after → IsElsewhere touched → touched 0 ≡ false
      → ((h : List Entry) (next : Version) (is : IsStore old h next before) → ((row : ℕ) (x : catalog.Version) → version_at old.versions.versions row ≡ Some x → All (Spares touched) (blocks_of x.shape)) × ((d : IsDirty old.versions.root.other) → All (Spares touched) (blocks_of (is.versions.pending d).left.manifest.shape)))
      → Stands old new before after
  with_files touched moves elsewhere zero spared = record {
    any_moment = λ h next is. let s = spared h next is in moments touched old new h next before after is law sequence elsewhere zero moves s.0 s.1 (known next is.versions.rooted);
    behind = λ h next is. let s = spared h next is in let r = root_of next is.versions.rooted in still touched old new h next before after is law sequence elsewhere zero moves s.0 s.1 same rows_same r.0 r.1 (front.tails is.versions.kept);
    pending = λ h next is.
        subst (λ (q : Sequence). PendsAsBefore old.sequence.pending q.pending before after) (sym same)
        (sequence touched old.sequence h before after elsewhere moves is.sequence).2;
  }

  by_queue : (queue : List ℕ) → old.versions.versions.retired ≡ queue → Stands old new before after
  by_queue [] is = with_files is_version_file (subst (λ (q : List ℕ). Moves (SameBut (is_swept_file q)) before after) is front.elsewhere)
      (record { log = refl; segments = λ file high. no_version_high file high }) refl
      (λ h next stands. ((λ row x at. version_spares (blocks_tables x)), (λ d. version_spares (stands.versions.pending d).left.manifest.shape)))
    where
      blocks_tables : catalog.Version → List TableParts
      blocks_tables x = x.shape
  by_queue (block ∷ queue) is =
      let small : block < 2 ^ 52 = omega (arith, law.queued block in_queue, law.small) in
      let low = law.queued block in_queue in
      let free = unlisted block (subst (λ (q : List ℕ). slice_get q 0 ≡ Some block) (sym is) refl) in
      let moves = subst (λ (q : List ℕ). Moves (SameBut (is_swept_file q)) before after) is front.elsewhere in
      with_files (swept block) moves (sweep_elsewhere block small) (zero_spared block)
      (λ h next stands. (live_spared old.versions block h next before stands.versions free low, left_spared old.versions block h next before stands.versions free low))
    where
      in_queue : Contains old.versions.versions.retired block
      in_queue = subst (λ (q : List ℕ). Contains q block) (sym is) (0, omega arith, refl)

  pub sweeps : Stands old new before after
  sweeps = by_queue old.versions.versions.retired refl
