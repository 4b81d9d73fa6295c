use Rattle.std.proofs.Common.{◌≡◌, ◌-◌, []}
use Rattle.indexmap.specs.IndexSet.{keys}
use Rattle.qd_fields.specs.Layout.{items}
use Rattle.qd_manifest.specs.Spelling.{blocks_of}
use Rattle.qd_manifest.specs.Layout.{table_from}
use Rattle.qd_manifest.proofs.read.tables.Given as goal

-- what is read so far, and then what is left, is all; and the blocks of what is read are named
abbrev pub invariant-loop : goal.invariant-loop
invariant-loop l = record {
  read : items (table_from l.most l.next) (l.count - l.counter) l.tables l.rest ≡ items (table_from l.most l.next) l.count [] l.bytes;
  named : keys l.named ≡ blocks_of l.tables;
}
