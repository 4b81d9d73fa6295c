use Rattle.std.proofs.Common.{◌≡◌, take}
use Rattle.qd_manifest.specs.Spelling.{schemas_in}
use Rattle.qd_apply.proofs.drafts.schemas_of.Given as goal

-- the schemas so far
abbrev pub invariant-loop-table : goal.invariant-loop-table
invariant-loop-table l = l.schemas ≡ take l.table-index (schemas_in l.fn.shape)
