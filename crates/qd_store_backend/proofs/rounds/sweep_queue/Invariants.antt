use Rattle.std.proofs.Common.{length}
use Rattle.qd_store_backend.proofs.Turns.{Keeps}
use Rattle.qd_store_backend.proofs.rounds.sweep_queue.Given as goal

abbrev pub invariant-sweeps : goal.invariant-sweeps
invariant-sweeps g l = Keeps l.initial.store l.store

abbrev pub decreases-sweeps : goal.decreases-sweeps
decreases-sweeps g l = length l.store.store.versions.versions.retired
