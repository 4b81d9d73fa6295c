use Rattle.std.proofs.Common.{◌^◌, arith}
use Rattle.std.proofs.lemmas.List.Elements.{All-weaker}
use Rattle.std.proofs.lemmas.Result.{err_from_is_err_and}
use Rattle.qd_versions.specs.Tails.{IsFit}
use Rattle.qd_versions.proofs.Steps.{numbered_at}
use Rattle.qd_versions.proofs.ToldLemmas.{files_not_put_told, files_told}
use Rattle.qd_versions.proofs.writing.put_files.Goals as goal

pub grow_blocks-requires-clause-fit : goal.grow_blocks-requires-clause-fit
grow_blocks-requires-clause-fit g c =
    All-weaker (IsFit c.args.next) (IsFit (2 ^ 52)) (λ x fit. record { below = omega (arith, fit.below, c.requires.small); columns = fit.columns; few = fit.few }) c.args.growing.now c.requires.fit

pub returns-in_err-put_blocks-clause-told : goal.returns-in_err-put_blocks-clause-told
returns-in_err-put_blocks-clause-told g c =
    let p = err_from_is_err_and c.from_residual.result c.from_residual.ensures.1 in
    rw p.1 (files_not_put_told c.args.next c.args.blocks.now c.args.growing.now c.args.growing.now c.requires.fit c.in_err-put_blocks.field-0.0 p.0 _ _ c.in_err-put_blocks.ensures.told)

pub returns-clause-told : goal.returns-clause-told
returns-clause-told g c =
    files_told c.args.next c.args.blocks.now c.args.growing.now c.grow_blocks.new.growing c.requires.fit c.in_ok-put_blocks.ensures.few (numbered_at c.args.next c.args.blocks.now c.requires.numbered) c.in_ok-put_blocks.field-0 c.grow_blocks.result _ _ _ c.in_ok-put_blocks.ensures.told c.grow_blocks.ensures.told
