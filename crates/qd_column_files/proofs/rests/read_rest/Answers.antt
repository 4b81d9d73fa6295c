use Rattle.std.proofs.Common.{Ok, IfSome, sym, subst}
use Rattle.qd_block.specs.Blocks.{Block}
use Rattle.qd_volume.specs.Disk.{reads_of}
use Rattle.qd_column_files.specs.Rests.{IsRestRead}
use Rattle.qd_column_files.proofs.RestMade.{block_told}
use Rattle.qd_column_files.proofs.rests.read_rest.Goals as goal

pub returns-in-Some-clause-told : goal.returns-in-Some-clause-told
returns-in-Some-clause-told g c =
    let s = c.args.schema.now in
    let p = c.args.part in
    let times = c.args.times.now in
    let skip = c.args.skip in
    subst (λ (b : Block). IfSome (g.V.Volume.storage c.args.volume.now).disk (λ disk. IsRestRead (Ok b) s p times skip (reads_of disk))) (sym c.block_beside.ensures.made)
    (block_told s p times skip c.requires.skip _ c.in-Some.columns (rw c.in-Some.is at c.in_ok-columns.ensures.told))

pub returns-in-Some-clause-given : goal.returns-in-Some-clause-given
returns-in-Some-clause-given g c = record { columns = c.in-Some.columns; each = rw c.in-Some.is at c.in_ok-columns.ensures.given; made = c.block_beside.ensures.made }
