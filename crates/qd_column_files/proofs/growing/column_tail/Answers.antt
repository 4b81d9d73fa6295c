use Rattle.std.proofs.Common.{Ok, Option, IfSome, subst}
use Rattle.qd_volume.specs.Disk.{Disk, reads_of}
use Rattle.qd_column_files.proofs.ReadLemmas.{kind_got}
use Rattle.qd_column_files.proofs.TailReads.{stored_told, tail_of_column}
use Rattle.qd_column_files.proofs.growing.column_tail.Goals as goal

pub returns-in-Some-clause-told : goal.returns-in-Some-clause-told
returns-in-Some-clause-told g c =
    let s = c.args.schema.now in
    subst (λ (o : Option Disk). IfSome o (λ disk. tail_of_column s c.args.part c.args.col (reads_of disk) (Ok c.in-Some.tail))) c.in_ok-falls.ensures.stays
    (stored_told s c.args.part c.args.col (g.V.Volume.storage c.falls.new.volume).disk c.get.result.now.kind c.column_file-main.result c.column_file-aux.result c.in-Some.tail (kind_got s.cols c.args.col c.get.result.now c.get.ensures.item) c.column_file-main.ensures.number c.column_file-aux.ensures.number
    (rw c.in-Some.is at c.in_ok-tail.ensures.told))
