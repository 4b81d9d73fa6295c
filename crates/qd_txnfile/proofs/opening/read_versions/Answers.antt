use Rattle.std.proofs.lemmas.Result.{err_from_is_err_and}
use Rattle.qd_txnfile.proofs.FoundLemmas.{cut_told, whole_told}
use Rattle.qd_txnfile.proofs.opening.read_versions.Goals as goal

pub returns-in_err-manifest-clause-told : goal.returns-in_err-manifest-clause-told
returns-in_err-manifest-clause-told g c =
    let p = err_from_is_err_and c.from_residual-in_err-manifest.result c.from_residual-in_err-manifest.ensures.1 in
    let old = (g.V.Volume.storage c.args.volume.now).disk in
    let mid = (g.V.Volume.storage c.read_newest.new.volume).disk in
    rw p.1 (cut_told old mid c.in_ok-newest.ensures.stays c.in_ok-newest.newest c.file.result c.file.ensures.number c.in_ok-newest.ensures.told c.in_err-manifest.field-0.0 p.0 p.2 c.in_err-manifest.ensures.told)

pub returns-clause-told : goal.returns-clause-told
returns-clause-told g c =
    let old = (g.V.Volume.storage c.args.volume.now).disk in
    let mid = (g.V.Volume.storage c.read_newest.new.volume).disk in
    whole_told old mid c.in_ok-newest.ensures.stays c.in_ok-newest.newest c.file.result c.file.ensures.number c.in_ok-newest.ensures.told c.found.result c.in_ok-manifest.manifest c.found.ensures.root c.in_ok-manifest.ensures.told
