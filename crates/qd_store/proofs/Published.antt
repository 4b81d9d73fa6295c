-- A publication of a store: what it makes of a volume that may be told.
use Rattle.std.proofs.Common.{◌≡◌, ◌⊎◌, inl, inr, ℕ, ◌+◌, ◌<◌, ◌≤◌, List, All, length, Option, Some, None, Result, Ok, Err, IfOk, OnErr, get_or, refl, sym, subst}
use Rattle.qd_base.specs.declared.op.Entry.{Entry}
use Rattle.qd_catalog.specs.declared.version.Version as catalog
use Rattle.qd_catalog.specs.Versions.{Adds, SameVersions}
use Rattle.qd_durable.specs.Moments.{Told}
use Rattle.qd_durable.proofs.Writes.{told_map}
use Rattle.qd_column_files.specs.Laws.{FirstRowsAreHeld}
use Rattle.qd_column_format.specs.Laws.{OneColumnIsSpelled}
use Rattle.qd_manifest.specs.declared.shape.TableParts.{TableParts}
use Rattle.qd_sequencer.specs.Calls.{PendsAsBefore}
use Rattle.qd_sequencer.specs.Laws.{OtherFilesLeaveTheSequence}
use Rattle.qd_sequencer.specs.Sequences.{Sequence}
use Rattle.qd_txnfile.specs.Versions.{Version}
use Rattle.qd_versions.specs.declared.fault.PublishFault.{PublishFault}
use Rattle.qd_versions.specs.declared.published.GrownBlock.{GrownBlock}
use Rattle.qd_versions.specs.declared.published.NewBlock.{NewBlock}
use Rattle.qd_versions.specs.Calls as roots
use Rattle.qd_versions.specs.Kept.{KeepsTails}
use Rattle.qd_versions.specs.Publishing.{MayGrow, MayPublish, grown_blocks, is_published_file}
use Rattle.qd_versions.specs.Stores as versions
use Rattle.qd_versions.specs.Stores.{IsRooted, stored}
use Rattle.qd_volume.specs.Disk.{Disk}
use Rattle.qd_store.specs.Calls.{IsPublished, Publishes, StandsNext}
use Rattle.qd_store.specs.Stores.{AreLimits, Book, IsBook, IsStore}
use Rattle.qd_store.proofs.GrownFiles.{publish_elsewhere}
use Rattle.qd_store.proofs.GrownParts.{small_numbers}
use Rattle.qd_store.proofs.Publishing.{failed_at_gate, failed_clean, failed_in_repair, is_published, publish_moments, set_some, shown, shown_held}
use Rattle.qd_base.specs.declared.limits.TheConstants.{MAX_TXNS}

module _ (result : Result ℕ PublishFault) (old new : Book) (n : ℕ) (shape : List TableParts) (blocks : List NewBlock) (grown : List GrownBlock) (v : Version) (before after : Disk) (law : versions.IsStore old.versions) (logs : OtherFilesLeaveTheSequence)
    (fronts : FirstRowsAreHeld) (columns : OneColumnIsSpelled)
    (v_is : v ≡ stored n (old.versions.versions.next_block + length blocks) shape) (may : MayPublish old.versions.versions n shape (length blocks)) (grows : All (MayGrow old.versions.versions) grown)
    (numbered : (i : ℕ) (d : NewBlock) → i < length blocks → (get_or blocks i d).block ≡ old.versions.versions.next_block + i)
    (logs_same : new.sequence ≡ old.sequence) (added : IfOk result (λ row. Adds old.versions.versions new.versions.versions n shape row)) (same : OnErr result (SameVersions old.versions.versions new.versions.versions))
    (p : roots.Publishes result old.versions new.versions v blocks grown before after) where
  pub publishes : Publishes result old new n shape blocks grown v before after
  publishes = record {
    any_moment = λ h last is next. publish_moments old n shape blocks grown v before after law logs fronts columns v_is may grows numbered p.elsewhere (λ held. p.keeps held is.versions.kept) h last is next (p.any_moment last (shown old n shape blocks grown v before after law logs fronts columns v_is may grows numbered p.elsewhere (λ held. p.keeps held is.versions.kept) h last is next).blocks is.versions.rooted is.versions.kept (shown_held old n shape blocks grown v before after law logs fronts columns v_is may grows numbered p.elsewhere (λ held. p.keeps held is.versions.kept) h last is next));
    behind = λ h last is next. by h last is next result added same (p.behind last (shown old n shape blocks grown v before after law logs fronts columns v_is may grows numbered p.elsewhere (λ held. p.keeps held is.versions.kept) h last is next).blocks is.versions.rooted is.versions.kept (shown_held old n shape blocks grown v before after law logs fronts columns v_is may grows numbered p.elsewhere (λ held. p.keeps held is.versions.kept) h last is next));
    pending = λ h last is.
        subst (λ (q : Sequence). PendsAsBefore old.sequence.pending q.pending before after) (sym logs_same)
        (logs (is_published_file old.versions.versions.next_block (grown_blocks old.versions.versions grown)) old.sequence h before after
        (publish_elsewhere old.versions.versions.next_block (grown_blocks old.versions.versions grown) (small_numbers old.versions law grown grows)) p.elsewhere is.sequence).2;
  }
    where
      tails : (h : List Entry) (last : Version) → IsStore old h last before → StandsNext old h n shape blocks grown → KeepsTails new.versions after
      tails h last is next = p.tails (shown old n shape blocks grown v before after law logs fronts columns v_is may grows numbered p.elsewhere (λ held. p.keeps held is.versions.kept) h last is next).blocks is.versions.kept
          (shown_held old n shape blocks grown v before after law logs fronts columns v_is may grows numbered p.elsewhere (λ held. p.keeps held is.versions.kept) h last is next)

      by : (h : List Entry) (last : Version) (is : IsStore old h last before) (next : StandsNext old h n shape blocks grown) → (r : Result ℕ PublishFault) → IfOk r (λ row. Adds old.versions.versions new.versions.versions n shape row) → OnErr r (SameVersions old.versions.versions new.versions.versions)
          → roots.IsPublished r old.versions new.versions last v blocks grown (shown old n shape blocks grown v before after law logs fronts columns v_is may grows numbered p.elsewhere (λ held. p.keeps held is.versions.kept) h last is next).blocks before after → IsPublished r new h last v after
      by h last is next (Ok row) adds other (whole, rooted) = λ later. is_published old n shape blocks grown v before after law logs fronts columns v_is may grows numbered p.elsewhere (λ held. p.keeps held is.versions.kept) h last is next new logs_same (tails h last is next) row adds whole rooted later
      by h last is next (Err fault) other rows_same (inl (dirty, (rooted, alone))) = inl (failed_in_repair old n shape blocks grown v before after law logs fronts columns v_is may grows numbered p.elsewhere (λ held. p.keeps held is.versions.kept) h last is next new logs_same (tails h last is next) rows_same dirty rooted alone)
      by h last is next (Err fault) other rows_same (inr (inl (rooted, clean))) = inl (failed_clean old n shape blocks grown v before after law logs fronts columns v_is may grows numbered p.elsewhere (λ held. p.keeps held is.versions.kept) h last is next new logs_same (tails h last is next) rows_same clean rooted)
      by h last is next (Err fault) other rows_same (inr (inr (rooted, all))) = inr (failed_at_gate old n shape blocks grown v before after law logs fronts columns v_is may grows numbered p.elsewhere (λ held. p.keeps held is.versions.kept) h last is next new logs_same (tails h last is next) rows_same rooted all)

pub published_told : (result : Result ℕ PublishFault) (old inside new : Book) (n : ℕ) (shape : List TableParts) (blocks : List NewBlock) (grown : List GrownBlock) (before after : Option Disk) → old ≡ inside → versions.IsStore inside.versions → OtherFilesLeaveTheSequence
    → FirstRowsAreHeld → OneColumnIsSpelled
    → MayPublish inside.versions.versions n shape (length blocks) → All (MayGrow inside.versions.versions) grown → ((i : ℕ) (d : NewBlock) → i < length blocks → (get_or blocks i d).block ≡ inside.versions.versions.next_block + i) → new.sequence ≡ inside.sequence
    → IfOk result (λ row. Adds inside.versions.versions new.versions.versions n shape row) → OnErr result (SameVersions inside.versions.versions new.versions.versions)
    → Told before after (roots.Publishes result inside.versions new.versions (stored n (inside.versions.versions.next_block + length blocks) shape) blocks grown)
    → Told before after (Publishes result old new n shape blocks grown (stored n (old.versions.versions.next_block + length blocks) shape))
published_told result old inside new n shape blocks grown before after is law logs fronts columns may grows numbered logs_same added same told =
    subst (λ (s : Book). Told before after (Publishes result s new n shape blocks grown (stored n (s.versions.versions.next_block + length blocks) shape))) (sym is)
    (told_map (roots.Publishes result inside.versions new.versions (stored n (inside.versions.versions.next_block + length blocks) shape) blocks grown) (Publishes result inside new n shape blocks grown (stored n (inside.versions.versions.next_block + length blocks) shape)) before after
    (λ a b p. publishes result inside new n shape blocks grown (stored n (inside.versions.versions.next_block + length blocks) shape) a b law logs fronts columns refl may grows numbered logs_same added same p) told)

-- no version shows more transactions than there are, behind the call
module _ (inside new : Book) (n : ℕ) (shape : List TableParts) (book : IsBook inside) (few : n ≤ length inside.sequence.refs) (logs_same : new.sequence ≡ inside.sequence) (limits_same : new.limits ≡ inside.limits) where
  in_rows : (row : ℕ) (x : catalog.Version) → x.n ≤ length inside.sequence.refs → x.n ≤ length new.sequence.refs
  in_rows row x low = subst (λ (s : Sequence). x.n ≤ length s.refs) (sym logs_same) low

  limits_now : AreLimits new.limits
  limits_now = subst AreLimits (sym limits_same) book.limits

  few_now : length new.sequence.refs ≤ MAX_TXNS
  few_now = subst (λ (s : Sequence). length s.refs ≤ MAX_TXNS) (sym logs_same) book.few

  pub book_of : {E : Type 0} (result : Result ℕ E) → IfOk result (λ row. Adds inside.versions.versions new.versions.versions n shape row) → OnErr result (SameVersions inside.versions.versions new.versions.versions) → IsBook new
  book_of (Ok row) adds other = record {
    limits = limits_now;
    few = few_now;
    shown = λ r x at. in_rows r x (by r x (set_some inside.versions.versions.versions row r (record { n = n; shape = shape }) x (subst (λ (l : List (Option catalog.Version)). get_or l r None ≡ Some x) adds.versions at)));
  }
    where
      by : (r : ℕ) (x : catalog.Version) → (x ≡ record { n = n; shape = shape }) ⊎ (get_or inside.versions.versions.versions r None ≡ Some x) → x.n ≤ length inside.sequence.refs
      by r x (inl new_one) = subst (λ (y : catalog.Version). y.n ≤ length inside.sequence.refs) (sym new_one) few
      by r x (inr old_one) = book.shown r x old_one
  book_of (Err fault) other same = record {
    limits = limits_now;
    few = few_now;
    shown = λ r x at. in_rows r x (book.shown r x (subst (λ (l : List (Option catalog.Version)). get_or l r None ≡ Some x) same.versions at));
  }
