use Rattle.std.proofs.Common.{IfSome, sym, subst}
use Rattle.std.proofs.lemmas.Result.{err_from_is_err_and}
use Rattle.qd_volume.specs.Disk.{reads_of}
use Rattle.qd_durable.specs.declared.fault.LogFault.{LogFault}
use Rattle.qd_seq.specs.Layout.{SpellsLog}
use Rattle.qd_seq.specs.Reading.{IsBroken}
use Rattle.qd_seq.proofs.ListReads.{read_behind}
use Rattle.qd_seq.proofs.reading.read_refs.Goals as goal

pub returns-in_err-read_pieces-clause-told : goal.returns-in_err-read_pieces-clause-told
returns-in_err-read_pieces-clause-told g c =
    let p = err_from_is_err_and c.from_residual-in_err-read_pieces.result c.from_residual-in_err-read_pieces.ensures.1 in
    let old = (g.V.Volume.storage c.args.volume.now).disk in
    let mid = (g.V.Volume.storage c.read_mark.new.volume).disk in
    rw p.1
    (subst (λ (f : LogFault). IfSome old (λ d. IsBroken (reads_of d 1) f)) (sym p.2)
    (read_behind old mid _ (λ bytes. IsBroken bytes c.in_err-read_pieces.field-0.0) c.in_ok-read_mark.ensures.stays c.new-refs.ensures.items c.in_ok-read_mark.ensures.told c.in_err-read_pieces.ensures.told))

pub returns-clause-told : goal.returns-clause-told
returns-clause-told g c =
    let old = (g.V.Volume.storage c.args.volume.now).disk in
    let mid = (g.V.Volume.storage c.read_mark.new.volume).disk in
    read_behind old mid _ (λ bytes. SpellsLog c.read_pieces.new.refs.items bytes) c.in_ok-read_mark.ensures.stays c.new-refs.ensures.items c.in_ok-read_mark.ensures.told c.in_ok-read_pieces.ensures.told
