use Rattle.qd_io.specs.declared.fault.IoFault.{IoFault}
use Rattle.qd_store.specs.declared.fault.OpenFault.{OpenFault}
use Rattle.qd_store.proofs.CreateTold.{made_told}
use Rattle.qd_store.proofs.store.Store.create.Goals as goal

pub returns-in-Ok-clause-told : goal.returns-in-Ok-clause-told
returns-in-Ok-clause-told g c = made_told IoFault OpenFault c.in-Ok.book (g.V.Volume.storage c.args.volume).disk (g.V.Volume.storage c.create.new.volume).disk c.in-Ok.ensures.told
