use Rattle.std.proofs.Common.{IfSome, subst}
use Rattle.qd_store_backend.specs.Backs.{IsTold, AreToldCount, AreToldSchemas, IsToldWhole, Parts}
use Rattle.qd_store_backend.proofs.ToldOf.{told_count, told_schemas}
use Rattle.qd_store_backend.proofs.parts.StoreParts.is_told.Goals as goal

pub returns-clause-schemas : goal.returns-clause-schemas
returns-clause-schemas g c = subst (λ (p : Parts). AreToldSchemas p) c.self.view_is (told_schemas c.self.inside.store c.self.inside.telling.history c.self.invariant.parts.told)

pub returns-clause-count : goal.returns-clause-count
returns-clause-count g c = subst (λ (p : Parts). AreToldCount p) c.self.view_is (told_count c.self.inside.store c.self.inside.telling.history c.self.invariant.parts.told)

pub returns-clause-whole : goal.returns-clause-whole
returns-clause-whole g c = subst (λ (p : Parts). IsToldWhole p) c.self.view_is c.self.invariant.parts.whole

pub returns-clause-told : goal.returns-clause-told
returns-clause-told g c = subst (λ (p : Parts). IfSome p.history (IsTold p.owned)) c.self.view_is c.self.invariant.parts.told
