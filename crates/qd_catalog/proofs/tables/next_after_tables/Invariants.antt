use Rattle.std.proofs.Common.{◌≡◌, take}
use Rattle.qd_manifest.specs.Spelling.{blocks_of}
use Rattle.qd_catalog.specs.Versions.{next_after}
use Rattle.qd_catalog.proofs.tables.next_after_tables.Given as goal

abbrev pub invariant-loop-table : goal.invariant-loop-table
invariant-loop-table l = l.next ≡ next_after l.fn.next (blocks_of (take l.table-index l.tables))
