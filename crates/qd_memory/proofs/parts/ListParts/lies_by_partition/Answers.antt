use Rattle.std.proofs.Common.{subst}
use Rattle.qd_memory.specs.Kept.{schemas_in, LiesByPartition}
use Rattle.qd_memory.proofs.SourceLemmas.{by_partition}
use Rattle.qd_memory.proofs.parts.ListParts.lies_by_partition.Goals as goal

pub returns-clause-alone : goal.returns-clause-alone
returns-clause-alone c = subst LiesByPartition (c.self.view_is) (by_partition (schemas_in c.self.inside.kept) c.self.inside.kept c.are_kept.ensures c.self.invariant)
