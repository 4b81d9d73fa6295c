use Rattle.std.proofs.Common.{Err, sym, subst}
use Rattle.std.proofs.lemmas.Result.{err_from_is_err_and}
use Rattle.qd_durable.specs.Moments.{Told}
use Rattle.qd_durable.specs.declared.fault.LogFault.{LogFault}
use Rattle.qd_seq.specs.Opening.{Opens}
use Rattle.qd_seq.proofs.OpenLemmas.{opens_broken, opens_not_synced, opens_read}
use Rattle.qd_seq.proofs.log.SeqLog.open_log.Goals as goal

pub returns-in_err-sync-clause-told : goal.returns-in_err-sync-clause-told
returns-in_err-sync-clause-told g c =
    let p = err_from_is_err_and c.from_residual.result c.from_residual.ensures.1 in
    let old = (g.V.Volume.storage c.args.volume.now).disk in
    let new = (g.V.Volume.storage c.sync.new.self).disk in
    rw p.1 (subst (λ (f : LogFault). Told old new (Opens (Err f))) (sym p.2) (opens_not_synced (Unit {0}) old new c.in_err-sync.field-0.0 c.in_err-sync.field-0.0 c.in_err-sync.ensures.told))

pub returns-in_err-refs-clause-told : goal.returns-in_err-refs-clause-told
returns-in_err-refs-clause-told g c =
    let p = err_from_is_err_and c.from_residual-in_err-refs.result c.from_residual-in_err-refs.ensures.1 in
    let old = (g.V.Volume.storage c.args.volume.now).disk in
    let mid = (g.V.Volume.storage c.sync.new.self).disk in
    let new = (g.V.Volume.storage c.read_refs.new.volume).disk in
    rw p.1 (subst (λ (f : LogFault). Told old new (Opens (Err f))) (sym p.2) (opens_broken (Unit {0}) old mid new c.in_ok-sync.field-0 c.in_ok-sync.ensures.told c.in_err-refs.ensures.stays c.in_err-refs.field-0.0 c.in_err-refs.ensures.told))

pub returns-clause-told : goal.returns-clause-told
returns-clause-told g c =
    let old = (g.V.Volume.storage c.args.volume.now).disk in
    let mid = (g.V.Volume.storage c.sync.new.self).disk in
    let new = (g.V.Volume.storage c.read_refs.new.volume).disk in
    opens_read (Unit {0}) old mid new c.in_ok-sync.field-0 c.in_ok-sync.ensures.told c.in_ok-refs.ensures.stays _ c.in_ok-refs.ensures.told
