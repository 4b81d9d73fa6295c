use Rattle.std.proofs.Common.{◌≡◌, ◌-◌, ◌≤◌, [], ◌++◌}
use Rattle.indexmap.specs.IndexSet.{keys}
use Rattle.qd_fields.specs.Layout.{items}
use Rattle.qd_manifest.specs.Spelling.{blocks_in, rows_shown}
use Rattle.qd_manifest.specs.Layout.{part_in}
use Rattle.qd_manifest.proofs.parts.parts.Given as goal

-- what is read so far, and then what is left, is all; the blocks of what is read are named, and its rows are counted
abbrev pub invariant-loop : goal.invariant-loop
invariant-loop l = record {
  read : items (part_in l.most l.next (keys l.fn.named) l.schema) (l.count - l.counter) l.parts l.rest ≡ items (part_in l.most l.next (keys l.fn.named) l.schema) l.count [] l.bytes;
  named : keys l.named ≡ keys l.fn.named ++ blocks_in l.parts;
  shown : l.shown ≡ rows_shown l.parts;
  few : l.shown ≤ l.most;
}
