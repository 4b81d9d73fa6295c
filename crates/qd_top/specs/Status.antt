-- The numbers of the statuses.
use Rattle.std.specs.Prelude.{ℕ}
use Rattle.qd_session.specs.declared.ended.Ended.{Ended}
use Rattle.qd_session.specs.declared.ended.Ended.TheVariants as ended
use Rattle.qd_top.specs.declared.status.Status.{Status}
use Rattle.qd_top.specs.declared.status.Status.TheVariants as status

abbrev pub number_of : Status → ℕ
number_of status.Finished = 0
number_of status.Usage = 1
number_of status.BadFrame = 2
number_of status.ReadFault = 3
number_of status.WriteFault = 4
number_of status.NoVolume = 5
number_of status.Damaged = 6
number_of status.NoMemory = 7
number_of status.NoListener = 8

-- the status of a session that ended so
abbrev pub status_of : Ended → Status
status_of ended.Finished = status.Finished
status_of ended.BadFrame = status.BadFrame
status_of ended.ReadFault = status.ReadFault
status_of ended.WriteFault = status.WriteFault
status_of ended.Memory = status.NoMemory
