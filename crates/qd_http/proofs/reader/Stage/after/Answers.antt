use Rattle.std.proofs.Common.{take}
use Rattle.qd_http.specs.declared.limits.TheConstants.{MAX_HEAD_BYTES}
use Rattle.qd_http.proofs.reader.Stage.after.Goals as goal

pub returns-else-last-clause-at : goal.returns-else-last-clause-at
returns-else-last-clause-at c bytes = c.new.ensures (take MAX_HEAD_BYTES bytes)
