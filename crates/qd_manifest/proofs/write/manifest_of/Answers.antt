use Rattle.std.proofs.Common.{sym, subst}
use Rattle.qd_manifest.specs.Writing.{FitsShape}
use Rattle.qd_manifest.proofs.WriteLaws.{shape_fits}
use Rattle.qd_manifest.proofs.write.manifest_of.Goals as goal

pub push_tables-requires : goal.push_tables-requires
push_tables-requires c = record { fits = subst FitsShape (sym c.as_slice.ensures.items) (shape_fits c.requires.0 (record { next_block = c.args.next_block; shape = c.args.shape.now }) c.requires.1) }
