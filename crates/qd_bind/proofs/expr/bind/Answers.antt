use Rattle.qd_base.specs.declared.limits.TheConstants.{MAX_NESTING}
use Rattle.qd_bind.proofs.DeepLemmas.{level_deep}
use Rattle.qd_bind.proofs.expr.bind.Goals as goal

pub returns-clause-too_deep : goal.returns-clause-too_deep
returns-clause-too_deep c = level_deep c.nested.result MAX_NESTING _ c.nested.ensures.too_deep
