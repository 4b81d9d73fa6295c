use Rattle.std.proofs.Common.{arith, get_or}
use Rattle.std.proofs.lemmas.Option.{slice_get-get_or}
use Rattle.qd_manifest.specs.Spelling.{no_part}
use Rattle.qd_calls.proofs.removals.has_part.Goals as goal

pub returns : goal.returns
returns c =
    let t = c.get.result.now in
    (t, get_or t.parts c.args.i no_part, record { its_table = c.get.ensures.item; its_part = slice_get-get_or t.parts c.args.i no_part (omega arith) })
