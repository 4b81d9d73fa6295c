use Rattle.std.proofs.Common.{◌∙◌, arith}
use Rattle.qd_pgwire.proofs.AppendLemmas.{ended_in}
use Rattle.qd_pgwire.proofs.message.end.Goals as goal

pub returns : goal.returns
returns c before body kind place is =
    ended_in before body kind c.args.at c.in-Ok.len c.args.out.now.len c.args.out.now.items c.deref_mut.result.now c.copy_from_slice.new.self place is c.deref_mut.ensures.value
    (c.copy_from_slice.ensures.after ∙ c.to_be_bytes.ensures) (omega (arith, c.in-Ok.ensures.1, c.len.ensures, c.args.out.now.ok.0)) (omega (arith, c.args.out.now.ok.0))
