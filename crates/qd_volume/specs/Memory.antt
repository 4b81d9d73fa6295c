-- A volume in memory: what it holds, which of its calls fail, and what each call does to it.
use Rattle.std.specs.Prelude.{◌≡◌, ℕ, true, false, List, length, Result, Ok, Err}
use Rattle.qd_io.specs.Memory.{Plan, after_failure, after_pass, fails_now}
use Rattle.qd_io.specs.declared.fault.IoFault.{IoFault}
use Rattle.qd_io.specs.declared.fault.IoFault.TheVariants.{Failed, Memory}
use Rattle.qd_volume.specs.Disk.{Disk, reads_of}
use Rattle.qd_volume.specs.Calls.{GivesBytes}

-- a volume in memory: the changes that were made to it, and which of its calls fail
pub record InMemory : Type 0 where
  pub disk : Disk
  pub plan : Plan

-- a call that did what it was asked, and left this disk
pub record Passes (old new : InMemory) (disk : Disk) : Type 0 where
  pub not_listed : fails_now old.plan ≡ false
  pub volume : new ≡ record { disk = disk; plan = after_pass old.plan }

-- a call that failed, since its number is among those that do, and left this disk
pub record Fails (old new : InMemory) (disk : Disk) : Type 0 where
  pub listed : fails_now old.plan ≡ true
  pub volume : new ≡ record { disk = disk; plan = after_failure old.plan }

-- A call that changes a volume in memory: the disk once it is done, and the one that it leaves where it fails. Where there is no
-- memory for it everything stays, the number of the next call too.
abbrev pub MemChanges : {T : Type 0} → InMemory → InMemory → Disk → Disk → Result T IoFault → Type 0
MemChanges old new done begun (Ok answer) = Passes old new done
MemChanges old new done begun (Err Failed) = Fails old new begun
MemChanges old new done begun (Err Memory) = new ≡ old

-- a read of a volume in memory: it never wants memory
abbrev pub MemReads : InMemory → InMemory → ℕ → ℕ → List ℕ → List ℕ → Result ℕ IoFault → Type 0
MemReads old new file at before after (Ok n) = Passes old new old.disk × GivesBytes (reads_of old.disk file) at before after n
MemReads old new file at before after (Err Failed) = Fails old new old.disk × (after ≡ before)
MemReads old new file at before after (Err Memory) = ⊥

-- the length of a file of a volume in memory
abbrev pub MemMeasures : InMemory → InMemory → ℕ → Result ℕ IoFault → Type 0
MemMeasures old new file (Ok n) = Passes old new old.disk × (n ≡ length (reads_of old.disk file))
MemMeasures old new file (Err Failed) = Fails old new old.disk
MemMeasures old new file (Err Memory) = ⊥

-- no call was made yet
abbrev pub unused : List ℕ → Plan
unused fails = record { calls = 0; fails = fails; failed = 0 }
