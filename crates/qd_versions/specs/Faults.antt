-- When a publication answers which fault.
use Rattle.std.specs.Prelude.{◌≡◌, ◌≤◌, ℕ, Result, Ok, Err}
use Rattle.qd_durable.specs.declared.fault.LogFault.{LogFault}
use Rattle.qd_durable.specs.declared.fault.LogFault.TheVariants as read
use Rattle.qd_io.specs.Ends.{Counts, HasRisen}
use Rattle.qd_io.specs.declared.fault.IoFault.{IoFault}
use Rattle.qd_io.specs.declared.fault.IoFault.TheVariants as io
use Rattle.qd_versions.specs.declared.fault.PublishFault.{PublishFault}
use Rattle.qd_versions.specs.declared.fault.PublishFault.TheVariants as fault

-- A call answers `Vol`, or that of an `Unremoved`, exactly where it raises the volume's count of faults: the count is
-- as before after every other answer.
abbrev pub CountsPublish : {T : Type 0} → ℕ → ℕ → Result T PublishFault → Type 0
CountsPublish before now (Ok answer) = now ≡ before
CountsPublish before now (Err fault.NoRow) = now ≡ before
CountsPublish before now (Err (fault.Damaged file at)) = now ≡ before
CountsPublish before now (Err fault.Vol) = (before ≤ now) × HasRisen before now
CountsPublish before now (Err fault.Memory) = now ≡ before
CountsPublish before now (Err (fault.Unremoved cause)) = Counts {T = Unit {0}} before now (Err cause)

-- a fault of the volume, as that of a publication
abbrev pub publish_fault : IoFault → PublishFault
publish_fault io.Failed = fault.Vol
publish_fault io.Memory = fault.Memory

-- a fault of what is read, as that of a publication
abbrev pub read_fault : LogFault → PublishFault
read_fault (read.Damaged file at) = fault.Damaged file at
read_fault read.Vol = fault.Vol
read_fault read.Memory = fault.Memory

-- the graver one of two faults: that of a volume
abbrev pub graver : IoFault → IoFault → IoFault
graver io.Failed second = io.Failed
graver io.Memory second = second

-- what two calls answer together: the graver fault, where there is any
abbrev pub together : {T : Type 0} → Result T IoFault → Result T IoFault → Result T IoFault
together (Ok done) second = second
together (Err first) (Ok done) = Err first
together (Err first) (Err second) = Err (graver first second)
