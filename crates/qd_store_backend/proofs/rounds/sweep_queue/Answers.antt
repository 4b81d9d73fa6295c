use Rattle.std.proofs.Common.{Ok}
use Rattle.qd_store_backend.proofs.Turns.{keeps_all, keeps_both, sweep_keeps, swept_all, swept_fault}
use Rattle.qd_store_backend.proofs.rounds.sweep_queue.Goals as goal

pub sweeps-init : goal.sweeps-init
sweeps-init g c = keeps_all c.args.store.now

pub sweeps-preserved : goal.sweeps-preserved
sweeps-preserved g c =
    let e = c.sweep.ensures in
    keeps_both c.args.store.now c.sweeps.store c.sweep.new.self c.sweeps.invariant (sweep_keeps c.sweeps.store c.sweep.new.self e.limits e.sequence e.told c.sweep.result e.swept e.idle e.same e.counted)

pub returns-in-Ok-false-clause-told : goal.returns-in-Ok-false-clause-told
returns-in-Ok-false-clause-told g c =
    let e = c.sweep.ensures in
    (keeps_both c.args.store.now c.sweeps.store c.sweep.new.self c.sweeps.invariant (sweep_keeps c.sweeps.store c.sweep.new.self e.limits e.sequence e.told c.sweep.result e.swept e.idle e.same e.counted)).told

pub returns-in-Err-clause-told : goal.returns-in-Err-clause-told
returns-in-Err-clause-told g c =
    let e = c.sweep.ensures in
    (keeps_both c.args.store.now c.sweeps.store c.sweep.new.self c.sweeps.invariant (sweep_keeps c.sweeps.store c.sweep.new.self e.limits e.sequence e.told c.sweep.result e.swept e.idle e.same e.counted)).told

pub returns-in-Err-clause-left : goal.returns-in-Err-clause-left
returns-in-Err-clause-left g c =
    let e = c.sweep.ensures in
    (keeps_both c.args.store.now c.sweeps.store c.sweep.new.self c.sweeps.invariant (sweep_keeps c.sweeps.store c.sweep.new.self e.limits e.sequence e.told c.sweep.result e.swept e.idle e.same e.counted)).left
