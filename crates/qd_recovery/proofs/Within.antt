-- What a stop within one call leaves.
use Rattle.std.proofs.Common.{◌≡◌, ◌⊎◌, inl, inr, List, [], subst}
use Rattle.qd_base.specs.declared.op.Entry.{Entry}
use Rattle.qd_base.specs.Schemas.{schemas_from}
use Rattle.qd_sequencer.specs.Histories.{IsPending}
use Rattle.qd_txnfile.specs.Versions.{Version}
use Rattle.qd_volume.specs.Disk.{Disk, Image, images_now, images_since, moment}
use Rattle.qd_store.specs.Calls.{MayBe, MayShow, ShowsOneOf}
use Rattle.qd_store.specs.Laws.{StoresAreWhole}
use Rattle.qd_store.specs.Merges.{next_version}
use Rattle.qd_store.specs.Stores.{Book, IsStore}
use Rattle.qd_recovery.specs.Calls.{Acknowledges, Asked, AsksFor, Call, Fails, Publishes, Says, Stays, Step, Sweeps}
use Rattle.qd_recovery.specs.Runs.{IsNoOlder}
use Rattle.qd_recovery.proofs.Older.{merged_is_no_older, shown_is_no_older}
use Rattle.qd_recovery.proofs.Steps.{said_behind}

-- since this moment there is no other image than those now
abbrev pub OnlyNow : Type 0
OnlyNow = (disk : Disk) (image : Image) → images_since disk (moment disk) image → images_now disk image

-- ---- weaker facts

may_be : (h found : List Entry) (More Wide : Entry → Type 0) → ((e : Entry) → More e → Wide e) → MayBe h More found → MayBe h Wide found
may_be h found More Wide widens (inl same) = inl same
may_be h found More Wide widens (inr (e, more, same)) = inr (e, widens e more, same)

pub shows_wider : (h : List Entry) (More Wide : Entry → Type 0) (Shows Gives : Version → Type 0) (image : Image) → ((e : Entry) → More e → Wide e) → ((v : Version) → Shows v → Gives v) → ShowsOneOf h More Shows image → ShowsOneOf h Wide Gives image
shows_wider h More Wide Shows Gives image widens gives shows = record {
  found = shows.found;
  finds = shows.finds;
  history = may_be h shows.found.history More Wide widens shows.history;
  version = gives _ shows.version;
}

-- ---- one call

module _ (whole : StoresAreWhole) (only_now : OnlyNow) (h : List Entry) (old new : Book) (before after : Disk) (next : Version) (is : IsStore old h next before) where
  abbrev Pends : Entry → Type 0
  Pends e = IsPending old.sequence.pending before e

  -- a commit
  own_or_left : (asked : Asked) (e : Entry) → Says old.sequence.schemas asked e ⊎ Pends e → Says (schemas_from [] h) asked e ⊎ Pends e
  own_or_left asked e (inl own) = inl (said_behind old h next before is asked e own)
  own_or_left asked e (inr left) = inr left

  shows_committed : (asked : Asked) (image : Image) → ShowsOneOf h (λ e. Says old.sequence.schemas asked e ⊎ Pends e) (MayShow old next) image → ShowsOneOf h (λ e. Says (schemas_from [] h) asked e ⊎ Pends e) (IsNoOlder old) image
  shows_committed asked image =
      shows_wider h (λ e. Says old.sequence.schemas asked e ⊎ Pends e) (λ e. Says (schemas_from [] h) asked e ⊎ Pends e) (MayShow old next) (IsNoOlder old) image
      (own_or_left asked) (shown_is_no_older old h next before is)

  -- another call
  shows_same : (image : Image) → ShowsOneOf h Pends (MayShow old next) image → ShowsOneOf h (λ e. ⊥ ⊎ Pends e) (IsNoOlder old) image
  shows_same image = shows_wider h Pends (λ e. ⊥ ⊎ Pends e) (MayShow old next) (IsNoOlder old) image (λ e left. inr left) (shown_is_no_older old h next before is)

  pub stop_within : (call : Call) → Step h call old new before after → (image : Image) → images_since after (moment before) image → ShowsOneOf h (λ e. AsksFor h call e ⊎ Pends e) (IsNoOlder old) image
  stop_within (Acknowledges asked done x) step image since = shows_committed asked image ((step.told.any_moment h next is).each image since)
  stop_within (Fails asked fault) step image since = shows_committed asked image ((step.told.any_moment h next is).each image since)
  stop_within (Publishes m result) step image since =
      shows_wider h Pends (λ e. ⊥ ⊎ Pends e) (λ v. MayShow old next v ⊎ (v ≡ next_version old m)) (IsNoOlder old) image (λ e left. inr left) either
      ((step.told.any_moment h next is step.next_of).each image since)
    where
      either : (v : Version) → MayShow old next v ⊎ (v ≡ next_version old m) → IsNoOlder old v
      either v (inl shown) = shown_is_no_older old h next before is v shown
      either v (inr made) = merged_is_no_older old h m step.next_of v made
  stop_within Sweeps step image since = shows_same image ((step.any_moment h next is).each image since)
  stop_within Stays step image since =
      shows_same image (whole.shows old h next before step.law is image (only_now before image (subst (λ (d : Disk). images_since d (moment before) image) step.volume since)))
