-- A telling owns nothing, so two threads may read it.
use denote.Param.Send.{IsSync, part_keyless, owning_send}
use Rattle.qd_ghost.specs.contracts.telling.Telling.{the_row, the_type}

pub sync : IsSync the_row
sync = record { shared = λ d b o κ q. part_keyless the_row (owning_send the_type tt (λ d. tt) (λ k x w. tt)) q d b o }
