-- What the publication of a merge makes of a told volume.
use Rattle.std.specs.Prelude.{◌≡◌, ◌⊎◌, ◌+◌, List, length, Result}
use Rattle.qd_base.specs.declared.op.Entry.{Entry}
use Rattle.qd_durable.specs.Moments.{LeavesOnly}
use Rattle.qd_sequencer.specs.Calls.{PendsAsBefore}
use Rattle.qd_sequencer.specs.Histories as histories
use Rattle.qd_txnfile.specs.Versions.{Version}
use Rattle.qd_versions.specs.Stores.{stored}
use Rattle.qd_volume.specs.Disk.{Disk}
use Rattle.qd_store.specs.declared.fault.PublishFault.{PublishFault}
use Rattle.qd_store.specs.Calls.{IsPublished, MayShow, ShowsOneOf}
use Rattle.qd_store.specs.Drafts.{IsNextOf, Merging}
use Rattle.qd_store.specs.Faults.{IsUndamaged}
use Rattle.qd_store.specs.Stores.{Book, IsStore}

-- the version that a merge makes of a store's current one, as the version files have it
abbrev pub next_version : Book → Merging → Version
next_version s m = stored m.upto (s.versions.versions.next_block + length m.blocks) m.shape

-- A merge of the history's next transactions is published, or none is: at each moment a crash leaves a whole store with the history,
-- and the version that it might have left before, or the new one. What the files hold is never damaged.
pub record PublishesMerged {T : Type 0} (result : Result T PublishFault) (old new : Book) (m : Merging) (before after : Disk) : Type 0 where
  pub any_moment : (h : List Entry) (last : Version) → IsStore old h last before → IsNextOf old h m
      → LeavesOnly before after (ShowsOneOf h (histories.IsPending old.sequence.pending before) (λ w. MayShow old last w ⊎ (w ≡ next_version old m)))
  pub behind : (h : List Entry) (last : Version) → IsStore old h last before → IsNextOf old h m → IsPublished result new h last (next_version old m) after
  pub pending : (h : List Entry) (last : Version) → IsStore old h last before → PendsAsBefore old.sequence.pending new.sequence.pending before after
  pub whole : (h : List Entry) (last : Version) → IsStore old h last before → IsUndamaged result
