use Rattle.std.proofs.Common.{◌∙◌}
use Rattle.qd_gen.proofs.Inputs.{input_written}
use Rattle.qd_gen.proofs.input.gen_input.Goals as goal

pub returns : goal.returns
returns c =
    record {
      bytes = c.from_vec.ensures.same ∙ input_written _ _ _ c.args.number c.args.lines c.in_ok-out.ensures.items c.in_ok-push_batches.ensures c.in_ok-extend_from_slice.ensures.items;
    }
