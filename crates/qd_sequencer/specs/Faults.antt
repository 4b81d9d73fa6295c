-- When a commit answers which fault.
use Rattle.std.specs.Prelude.{◌≡◌, ◌≤◌, ℕ, Result, Ok, Err}
use Rattle.qd_io.specs.Ends.{HasRisen}
use Rattle.qd_io.specs.declared.fault.IoFault.{IoFault}
use Rattle.qd_io.specs.declared.fault.IoFault.TheVariants as io
use Rattle.qd_sequencer.specs.declared.fault.CommitFault.{CommitFault}
use Rattle.qd_sequencer.specs.declared.fault.CommitFault.TheVariants as fault

-- a fault of the volume, as that of a commit
abbrev pub fault_of : IoFault → CommitFault
fault_of io.Failed = fault.Vol
fault_of io.Memory = fault.Memory

-- A commit answers `Vol` exactly where it raises the volume's count of faults: the count is as before after every other answer.
abbrev pub CountsFault : {T : Type 0} → ℕ → ℕ → Result T CommitFault → Type 0
CountsFault before now (Ok answer) = now ≡ before
CountsFault before now (Err fault.Vol) = (before ≤ now) × HasRisen before now
CountsFault before now (Err fault.Full) = now ≡ before
CountsFault before now (Err fault.Memory) = now ≡ before
CountsFault before now (Err (fault.Refused code place)) = now ≡ before

-- nothing was refused
abbrev pub IsOfVolume : CommitFault → Type 0
IsOfVolume fault.Vol = Unit {0}
IsOfVolume fault.Memory = Unit {0}
IsOfVolume fault.Full = ⊥
IsOfVolume (fault.Refused code place) = ⊥

-- nothing was refused; `Full` says a fact
abbrev pub IsUnrefused : Type 0 → CommitFault → Type 0
IsUnrefused full fault.Vol = Unit {0}
IsUnrefused full fault.Memory = Unit {0}
IsUnrefused full fault.Full = full
IsUnrefused full (fault.Refused code place) = ⊥
