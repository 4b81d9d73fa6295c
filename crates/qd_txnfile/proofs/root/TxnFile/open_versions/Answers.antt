use Rattle.qd_txnfile.proofs.Settled.{opens_read}
use Rattle.qd_txnfile.proofs.root.TxnFile.open_versions.Goals as goal

pub returns-clause-told : goal.returns-clause-told
returns-clause-told g c =
    let old = (g.V.Volume.storage c.args.volume.now).disk in
    let mid = (g.V.Volume.storage c.settle.new.volume).disk in
    let new = (g.V.Volume.storage c.read_versions.new.volume).disk in
    opens_read (Unit {0}) old mid new c.in_ok-settle.field-0 c.read_versions.result c.in_ok-settle.ensures.told c.read_versions.ensures.stays c.read_versions.ensures.told
