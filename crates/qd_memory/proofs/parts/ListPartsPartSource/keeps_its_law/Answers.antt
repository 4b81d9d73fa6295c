use Rattle.std.proofs.Common.{subst}
use Rattle.qd_scan.specs.Sources.{IsSource}
use Rattle.qd_memory.specs.Kept.{schemas_in}
use Rattle.qd_memory.proofs.SourceLemmas.{source_law}
use Rattle.qd_memory.proofs.parts.ListPartsPartSource.keeps_its_law.Goals as goal

pub returns : goal.returns
returns c = record { law = subst IsSource (c.self.view_is) (source_law (schemas_in c.self.inside.kept) c.self.inside.kept c.are_kept.ensures c.self.invariant) }
