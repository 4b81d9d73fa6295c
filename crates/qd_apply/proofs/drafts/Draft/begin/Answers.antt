use Rattle.std.proofs.Common.{◌∙◌, ap, sym}
use Rattle.qd_base.specs.Database.{schemas_of}
use Rattle.qd_apply.proofs.ArrivalLemmas.{schemas_without}
use Rattle.qd_apply.proofs.drafts.Draft.begin.Goals as goal

pub invariant_of-result : goal.invariant_of-result
invariant_of-result c = sym (ap schemas_of c.in_ok-tables.ensures ∙ schemas_without c.in_ok-copy.field-0 ∙ c.in_ok-copy.ensures.same)
