-- The laws of the sequencer log.
use Rattle.std.specs.Prelude.{◌≡◌, ℕ, Bool, false, List, Option}
use Rattle.qd_base.specs.declared.part.WalRef.{WalRef}
use Rattle.qd_volume.specs.Disk.{Disk}
use Rattle.qd_durable.specs.Moments.{EachNow, LeavesOnly, Moves, SameBut}
use Rattle.qd_seq.specs.Layout.{SpellsLog}
use Rattle.qd_seq.specs.Damage.{IsDamaged}
use Rattle.qd_seq.specs.States.{GivesKnown, Knows}

-- A log gives one list, and no other.
abbrev pub OneListIsGiven : Type 0
OneListIsGiven = (bytes : List ℕ) (refs others : List WalRef) → SpellsLog refs bytes → SpellsLog others bytes → refs ≡ others

-- A damaged log gives no list.
abbrev pub DamagedGivesNone : Type 0
DamagedGivesNone = (bytes : List ℕ) (refs : List WalRef) (at : ℕ) → IsDamaged bytes at → SpellsLog refs bytes → ⊥

-- A damaged log has one place of damage.
abbrev pub DamageHasOnePlace : Type 0
DamageHasOnePlace = (bytes : List ℕ) (at other : ℕ) → IsDamaged bytes at → IsDamaged bytes other → at ≡ other

-- What is known of a log, each image gives.
abbrev pub WhatIsKnownIsGiven : Type 0
WhatIsKnownIsGiven = (refs : List WalRef) (pending : Option WalRef) (disk : Disk) → Knows refs pending disk → EachNow disk (GivesKnown refs pending)

-- What is known of a log stays through a call that changes other files alone, and at every moment of it.
abbrev pub OtherFilesLeaveIt : Type 0
OtherFilesLeaveIt = (touched : ℕ → Bool) (before after : Disk) (refs : List WalRef) (pending : Option WalRef) → touched 1 ≡ false → Moves (SameBut touched) before after → Knows refs pending before → LeavesOnly before after (GivesKnown refs pending) × Knows refs pending after
