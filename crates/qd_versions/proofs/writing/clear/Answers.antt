use Rattle.std.proofs.lemmas.Result.{err_from_is_err_and}
use Rattle.qd_versions.proofs.Steps.{repaired_clean}
use Rattle.qd_versions.proofs.ToldLemmas.{clear_not_repaired_told, clear_told}
use Rattle.qd_versions.proofs.writing.clear.Goals as goal

pub returns-in_err-repair-clause-told : goal.returns-in_err-repair-clause-told
returns-in_err-repair-clause-told g c =
    let p = err_from_is_err_and c.from_residual.result c.from_residual.ensures.1 in
    rw p.1 (clear_not_repaired_told c.args.root.now c.repair.new.self c.args.block c.in_err-repair.field-0.0 p.0 _ _ (λ dirty. c.in_err-repair.ensures.stays.0) c.in_err-repair.ensures.told)

pub returns-clause-told : goal.returns-clause-told
returns-clause-told g c =
    clear_told c.args.root.now c.repair.new.self c.args.block c.in_ok-repair.field-0 c.remove_block.result _ _ _ (repaired_clean c.args.root.now c.repair.new.self c.in_ok-repair.ensures.clean) c.in_ok-repair.ensures.told c.remove_block.ensures.told
