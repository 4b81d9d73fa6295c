use Rattle.std.proofs.Common.{◌≡◌, take}
use Rattle.qd_manifest.specs.Spelling.{blocks_in}
use Rattle.qd_catalog.specs.Versions.{next_after}
use Rattle.qd_catalog.proofs.tables.next_after.Given as goal

-- above the blocks so far
abbrev pub invariant-loop-part : goal.invariant-loop-part
invariant-loop-part l = l.next ≡ next_after l.fn.next (blocks_in (take l.part-index l.parts))
