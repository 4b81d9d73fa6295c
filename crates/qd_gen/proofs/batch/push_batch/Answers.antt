use Rattle.std.proofs.Common.{ap, flat_map}
use Rattle.qd_gen.specs.Generated.{line}
use Rattle.qd_gen.proofs.Inputs.{batch_written}
use Rattle.qd_gen.proofs.batch.push_batch.Goals as goal

pub returns : goal.returns
returns c =
    batch_written c.args.out.now.items _ _ _ _ _ _ _ c.args.number c.args.lines c.args.batch _ _
    (ap (flat_map (line c.args.number)) c.late_stretch-late.ensures) (ap (flat_map (line c.args.number)) c.kept_stretch-own.ensures)
    c.stretch_len.ensures.length c.stretch_len-2.ensures.length
    c.in_ok-extend_from_slice.ensures.items c.in_ok-push_number.ensures c.in_ok-push.ensures.items c.in_ok-push_stretch.ensures c.in_ok-push_stretch-2.ensures
