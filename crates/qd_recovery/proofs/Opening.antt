-- What a stop left is opened as what is found there; and what an applied store holds.
use Rattle.std.proofs.Common.{◌≡◌, ◌⊎◌, inl, inr, ℕ, false, List, ◌++◌, None, Result, Ok, Err, refl, sym, ◌∙◌, subst}
use Rattle.std.proofs.Math.Path.{fun_ext}
use Rattle.qd_base.specs.declared.op.Entry.{Entry}
use Rattle.qd_base.specs.Replay as replay
use Rattle.qd_catalog.specs.declared.version.Version as catalog
use Rattle.qd_durable.specs.Moments.{ComesFrom, EachNow, LeavesOnly, SameBut}
use Rattle.qd_lines.specs.Laws.{OneAnswer}
use Rattle.qd_volume.specs.Disk.{Disk, Image, images_since, reads_of}
use Rattle.qd_store.specs.declared.fault.OpenFault.{OpenFault}
use Rattle.qd_store.specs.declared.fault.OpenFault.TheVariants as fault
use Rattle.qd_store.specs.Found.{Finds, Found, IsWhole}
use Rattle.qd_store.specs.Laws.{AppliedIsAll, CrashedIsWhole}
use Rattle.qd_store.specs.Opening.{IsOpened, Opens}
use Rattle.qd_store.specs.Prefixes.{HoldsTables}
use Rattle.qd_store.specs.Stores.{Book}
use Rattle.qd_recovery.specs.Calls.{Call, Steps, acknowledged}
use Rattle.qd_recovery.specs.Runs.{Begins, IsAllOf, IsOpenedAs, Opened, ShowsAll}
use Rattle.qd_recovery.proofs.Steps.{ReadsAreAnImage, begins_as, steps_go_on}
use Rattle.qd_recovery.proofs.Stopping.{some_version}

opened_as : (f : Found) (result : Result Book OpenFault) (before after : Disk) → IsWhole before → Finds f (reads_of before) → IsOpened result before after → IsOpenedAs f result after
opened_as f (Ok s) before after whole finds found = let opened = found.1 whole f finds in (opened.shown, opened.stands)
opened_as f (Err fault.NotMade) before after whole finds found = found finds.made
opened_as f (Err (fault.Damaged file at)) before after whole finds found = found.2 whole
opened_as f (Err fault.Vol) before after whole finds found = tt
opened_as f (Err fault.Memory) before after whole finds found = tt

module _ (crashed : CrashedIsWhole) (reads : ReadsAreAnImage) (f : Found) (image : Image) (before : Disk) (finds : Finds f image) (all : IsAllOf image before) where
  whole : IsWhole before
  whole = crashed f image before finds all

  read : Finds f (reads_of before)
  read = subst (Finds f) (fun_ext (λ file. sym (all (reads_of before) (reads before) file refl))) finds

  pub opens_as : (result : Result Book OpenFault) (after : Disk) → Opens result before after → IsOpenedAs f result after
  opens_as result after opens = opened_as f result before after whole read opens.found

  pub begins_again : (s : Book) (after : Disk) → Opens (Ok s) before after → s.sequence.pending ≡ None → Begins s before after f.history
  begins_again s after opens none = Opened f whole read opens none refl

-- each image of an opening is the one that was left
module _ (image : Image) (before : Disk) (all : IsAllOf image before) where
  from_left : (left : Image) → ComesFrom (SameBut (λ file. false)) before left → SameBut (λ file. false) image left
  from_left left (earlier, now, same) = λ file is. same file is ∙ all earlier now file is

  earlier_or : (start : ℕ) (left : Image) → images_since before start left ⊎ ComesFrom (SameBut (λ file. false)) before left → images_since before start left ⊎ SameBut (λ file. false) image left
  earlier_or start left (inl earlier) = inl earlier
  earlier_or start left (inr comes) = inr (from_left left comes)

  pub stays_left : (result : Result Book OpenFault) (after : Disk) → Opens result before after → LeavesOnly before after (SameBut (λ file. false) image) × IsAllOf image after
  stays_left result after opens = (
    record {
      later = opens.images.moments.later;
      each = λ left since. from_left left (opens.images.moments.each left since);
      joined = λ start left le since. earlier_or start left (opens.images.moments.joined start left le since);
    },
    λ left now. from_left left (opens.images.now left now),
  )

pub holds_all : OneAnswer → AppliedIsAll → (h : List Entry) (calls : List Call) (s t : Book) (volume before after : Disk) (x : catalog.Version) → Begins s volume before h → Steps h calls s t before after → ShowsAll t x
    → EachNow after (HoldsTables x.shape (replay.after (h ++ acknowledged calls)))
holds_all one applied h calls s t volume before after x begins steps shows =
    let there = steps_go_on one h calls s t before after some_version (begins_as h s volume before some_version begins) steps in
    applied t (h ++ acknowledged calls) there.0 after x there.1 shows.current shows.all
