-- When a call that opens a file of a log answers which fault.
use Rattle.std.specs.Prelude.{◌≡◌, ◌≤◌, ℕ, Result, Ok, Err}
use Rattle.qd_io.specs.Ends.{HasRisen}
use Rattle.qd_io.specs.declared.fault.IoFault.{IoFault}
use Rattle.qd_io.specs.declared.fault.IoFault.TheVariants as io
use Rattle.qd_durable.specs.declared.fault.LogFault.{LogFault}
use Rattle.qd_durable.specs.declared.fault.LogFault.TheVariants as fault

-- A call answers `Vol` exactly where it raises the volume's count of faults: the count is as before after every other answer.
abbrev pub CountsVol : {T : Type 0} → ℕ → ℕ → Result T LogFault → Type 0
CountsVol before now (Ok answer) = now ≡ before
CountsVol before now (Err fault.Vol) = (before ≤ now) × HasRisen before now
CountsVol before now (Err (fault.Damaged file at)) = now ≡ before
CountsVol before now (Err fault.Memory) = now ≡ before

-- a fault of the volume, as that of a log
abbrev pub vol_of : IoFault → LogFault
vol_of io.Failed = fault.Vol
vol_of io.Memory = fault.Memory
