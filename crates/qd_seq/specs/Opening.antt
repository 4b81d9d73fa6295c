-- What is found when a log is opened.
use Rattle.std.specs.Prelude.{◌≡◌, ℕ, None, Result, Ok, Err}
use Rattle.qd_volume.specs.Disk.{Disk, reads_of}
use Rattle.qd_durable.specs.declared.fault.LogFault.{LogFault}
use Rattle.qd_durable.specs.declared.fault.LogFault.TheVariants as fault
use Rattle.qd_durable.specs.Moments.{EachNow, LeavesEarlier}
use Rattle.qd_seq.specs.Layout.{GivesList}
use Rattle.qd_seq.specs.Damage.{IsDamaged}
use Rattle.qd_seq.specs.States.{Knows, Log}

-- The list that the log reads, or where it is damaged. After an Ok each image gives that list alone.
abbrev pub IsOpened : Result Log LogFault → Disk → Type 0
IsOpened (Ok log) after = GivesList log.refs (reads_of after) × EachNow after (GivesList log.refs) × Knows log.refs None after
IsOpened (Err (fault.Damaged file at)) after = (file ≡ 1) × IsDamaged (reads_of after 1) at
IsOpened (Err fault.Vol) after = Unit {0}
IsOpened (Err fault.Memory) after = Unit {0}

-- The log is synced and read, as it was before the call. At each moment, and whatever is answered, a crash leaves only what one
-- before the call might have left.
pub record Opens (result : Result Log LogFault) (before after : Disk) : Type 0 where
  pub found : IsOpened result after
  -- what each file reads stays
  pub reads : (file : ℕ) → reads_of after file ≡ reads_of before file
  pub images : LeavesEarlier before after
