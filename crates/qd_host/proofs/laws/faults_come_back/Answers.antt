use Rattle.qd_host.proofs.Counts.{never_falls, rises_by, rises_by_some, rises_with}
use Rattle.qd_host.specs.Hosts.{risen}
use Rattle.qd_host.proofs.laws.faults_come_back.Goals as goal

pub returns-clause-clock : goal.returns-clause-clock
returns-clause-clock c = λ faults supply. rises_by_some supply.clock_faults faults

pub returns-clause-clock_never_falls : goal.returns-clause-clock_never_falls
returns-clause-clock_never_falls c = λ faults supply. never_falls supply.clock_faults faults

pub returns-clause-volume : goal.returns-clause-volume
returns-clause-volume c = λ storage supply. rises_with supply.volume_faults supply.lent_faults storage.faults

pub returns-clause-volume_never_falls : goal.returns-clause-volume_never_falls
returns-clause-volume_never_falls c = λ storage supply. never_falls supply.volume_faults (risen supply.lent_faults storage.faults)

pub returns-clause-listener : goal.returns-clause-listener
returns-clause-listener c = λ faults supply. rises_by_some supply.listener_faults faults

pub returns-clause-listener_never_falls : goal.returns-clause-listener_never_falls
returns-clause-listener_never_falls c = λ faults supply. never_falls supply.listener_faults faults

pub returns-clause-starts : goal.returns-clause-starts
returns-clause-starts c = λ refused supply. rises_by supply.starts_failed refused
