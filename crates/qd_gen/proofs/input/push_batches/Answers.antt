use Rattle.std.proofs.Common.{◌≡◌, ◌++◌, flat_map, ap, sym, ◌∙◌, append_assoc, arith}
use Rattle.std.proofs.lemmas.List.{append-nil}
use Rattle.qd_frames.specs.Frames.{frame}
use Rattle.qd_gen.specs.Generated.{write, writes}
use Rattle.qd_gen.proofs.Inputs.{frames_more, no_frames}
use Rattle.qd_gen.proofs.input.push_batches.Goals as goal

pub loop-batch-init : goal.loop-batch-init
loop-batch-init c =
    sym (append-nil c.args.out.now.items) ∙ ap (λ xs. c.args.out.now.items ++ xs) (sym (no_frames c.args.number c.args.lines))

pub loop-batch-preserved : goal.loop-batch-preserved
loop-batch-preserved c =
    c.in_ok-push_batch.ensures ∙ ap (λ xs. xs ++ frame (write c.args.number c.args.lines c.loop-batch.batch)) c.loop-batch.invariant
    ∙ append_assoc c.args.out.now.items (flat_map frame (writes c.args.number c.args.lines c.loop-batch.batch)) (frame (write c.args.number c.args.lines c.loop-batch.batch))
    ∙ ap (λ xs. c.args.out.now.items ++ xs) (sym (frames_more c.args.number c.args.lines c.loop-batch.batch))

pub returns : goal.returns
returns c =
    let last : c.loop-batch.batch ≡ 100 = omega arith in
    c.loop-batch.invariant ∙ ap (λ n. c.args.out.now.items ++ flat_map frame (writes c.args.number c.args.lines n)) last
