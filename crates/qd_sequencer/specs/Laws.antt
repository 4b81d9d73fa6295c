-- The laws of sequencers.
use Rattle.std.specs.Prelude.{◌≡◌, ◌^◌, ◌≤◌, ℕ, Bool, false, List}
use Rattle.qd_base.specs.declared.op.Entry.{Entry}
use Rattle.qd_volume.specs.Disk.{Disk}
use Rattle.qd_durable.specs.Moments.{EachNow, LeavesOnly, Moves, SameBut}
use Rattle.qd_sequencer.specs.Calls.{PendsAsBefore}
use Rattle.qd_sequencer.specs.Histories.{IsPending, MayHold}
use Rattle.qd_sequencer.specs.Sequences.{IsSequence, Sequence}

-- a call changes none of the logs' files
pub record IsElsewhere (touched : ℕ → Bool) : Type 0 where
  pub log : touched 1 ≡ false
  pub segments : (file : ℕ) → 2 ^ 63 ≤ file → touched file ≡ false

-- What a sequencer stands behind, each image holds, or that with the transaction that is pending.
abbrev pub WhatASequenceHolds : Type 0
WhatASequenceHolds = (s : Sequence) (h : List Entry) (disk : Disk) → IsSequence s h disk → EachNow disk (MayHold s.refs h (IsPending s.pending disk))

-- A call that changes other files alone leaves the sequence, at every moment what it holds, and what is pending.
abbrev pub OtherFilesLeaveTheSequence : Type 0
OtherFilesLeaveTheSequence = (touched : ℕ → Bool) (s : Sequence) (h : List Entry) (before after : Disk) → IsElsewhere touched → Moves (SameBut touched) before after → IsSequence s h before
    → LeavesOnly before after (MayHold s.refs h (IsPending s.pending before)) × IsSequence s h after × PendsAsBefore s.pending s.pending before after
