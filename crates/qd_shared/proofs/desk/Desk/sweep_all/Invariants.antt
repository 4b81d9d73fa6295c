use Rattle.std.proofs.Common.{◌≡◌, length}
use Rattle.qd_shared.proofs.Sweeping.{AreRemoved, IsSweptTo}
use Rattle.qd_shared.proofs.desk.Desk.sweep_all.Given as goal

abbrev pub invariant-sweeps : goal.invariant-sweeps
invariant-sweeps g l =
    let i = l.initial.self-inside in
    let now = l.self-inside in
    IsSweptTo i.store now.store × (now.telling.history ≡ i.telling.history) × AreRemoved i.store now.store i.removed now.removed

abbrev pub decreases-sweeps : goal.decreases-sweeps
decreases-sweeps g l = length l.self-inside.store.store.versions.versions.retired
