use Rattle.std.proofs.Common.{arith}
use Rattle.qd_catalog.specs.Versions.{IsLive}
use Rattle.store_history.proofs.PartLemmas.{part_there}
use Rattle.store_history.proofs.shown.has_part.Goals as goal

pub returns : goal.returns
returns g c =
    let v = c.args.store.now.store.versions.versions in
    let live : IsLive v c.args.row = grind arith in
    part_there v c.args.row c.args.table c.args.i c.shape_of-shape.result.now c.get.result.now live c.shape_of-shape.ensures.shape c.get.ensures.item (omega arith)
