-- What a backend shows at a moment, and what stands at a look: what a session knows, and what its clock tells.
use Rattle.std.specs.Prelude.{◌≡◌, ℕ, ◌≤◌, List, ◌++◌, Option, Some, None, IfSome, length}
use Rattle.qd_base.specs.declared.op.Entry.{Entry}
use Rattle.qd_io.specs.Clocks.{Timeline}

-- a version that could not be retired, since it was pinned: its row, and the word that counts its pins
pub record PinnedRow : Type 0 where
  pub row : ℕ
  pub word : ℕ

-- What a backend shows.
pub record Shown : Type 0 where
  -- the transactions sequenced, as far as it has seen, where it tells them
  pub history : Option (List Entry)
  -- how many these are
  pub sequenced : ℕ
  -- over how many of them its last answer was
  pub known : ℕ
  -- the numbers, counted from 1, of the transactions that came through it
  pub own : List ℕ
  -- how many calls of what it stores on have failed
  pub faults : ℕ
  -- the versions that its last hold could not retire
  pub pinned : List PinnedRow
  -- the transaction of a write that failed, where one may have been left behind the others and they are told
  pub pending : Option Entry

-- What stands at a look: what a session knows of its backend, numbers alone, and its clock.
pub record Look : Type 0 where
  pub sequenced : ℕ
  pub known : ℕ
  -- the times ahead, where they are told, and how many calls have failed
  pub clock : Timeline
  -- how many calls of the volume have failed
  pub volume_faults : ℕ
  pub pinned : List PinnedRow
  -- the transaction that a write that failed may have left behind the others, where they are told
  pub pending : Option Entry

-- a look at a backend, with a clock
abbrev pub look_at : Timeline → Shown → Look
look_at clock s = record {
  sequenced = s.sequenced;
  known = s.known;
  clock = clock;
  volume_faults = s.faults;
  pinned = s.pinned;
  pending = s.pending;
}

-- no number is less than it was
pub record IsNoLess (before now : Look) : Type 0 where
  pub sequenced : before.sequenced ≤ now.sequenced
  pub known : before.known ≤ now.known
  pub clock_faults : before.clock.faults ≤ now.clock.faults
  pub volume_faults : before.volume_faults ≤ now.volume_faults

-- all is as it was, but for the clock
pub record IsStill (before now : Look) : Type 0 where
  pub sequenced : now.sequenced ≡ before.sequenced
  pub known : now.known ≡ before.known
  pub clock_faults : before.clock.faults ≤ now.clock.faults
  pub volume_faults : now.volume_faults ≡ before.volume_faults
  pub pinned : now.pinned ≡ before.pinned
  pub pending : now.pending ≡ before.pending

-- a history grows at its end alone, and is told still where it was told
abbrev pub Extends : Option (List Entry) → Option (List Entry) → Type 0
Extends None now = now ≡ None
Extends (Some old) now = (more : List Entry) × (now ≡ Some (old ++ more))

-- what is shown grows: the history at its end, and no number falls
pub record Grows (old new : Shown) : Type 0 where
  pub history : Extends old.history new.history
  pub sequenced : old.sequenced ≤ new.sequenced
  pub known : old.known ≤ new.known
  pub faults : old.faults ≤ new.faults

-- the transactions of a told history are as many as are shown
abbrev pub IsCounted : Shown → Type 0
IsCounted s = IfSome s.history (λ h. s.sequenced ≡ length h)
