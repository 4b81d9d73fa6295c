use Rattle.std.proofs.Common.{◌<◌, length, sym, subst}
use Rattle.std.specs.Arc.{arc_value}
use Rattle.qd_scan.specs.Sources.{part_at, parts_at, schema_at, HasRowsOf, IsBlockOf, SourceView}
use Rattle.qd_memory.proofs.SourceLemmas.{part_given}
use Rattle.qd_memory.proofs.parts.ListPartsPartSource.part.Goals as goal

pub returns-clause-block : goal.returns-clause-block
returns-clause-block c =
    let kept = c.self.inside.kept in
    let b = arc_value c.in_ok-block.block in
    let given = part_given kept c.args.table c.args.i b c.are_kept.ensures c.self.invariant (subst (λ (s : SourceView). c.args.table < length s.schemas) (sym c.self.view_is) c.requires.table) (subst (λ (s : SourceView). c.args.i < length (parts_at s c.args.table)) (sym c.self.view_is) c.requires.there) c.in_ok-block.ensures.block in
    subst (λ (s : SourceView). IsBlockOf (schema_at s c.args.table) (part_at s c.args.table c.args.i) (arc_value c.in_ok-block.block)) c.self.view_is given.0

pub returns-clause-told : goal.returns-clause-told
returns-clause-told c =
    let kept = c.self.inside.kept in
    let b = arc_value c.in_ok-block.block in
    let given = part_given kept c.args.table c.args.i b c.are_kept.ensures c.self.invariant (subst (λ (s : SourceView). c.args.table < length s.schemas) (sym c.self.view_is) c.requires.table) (subst (λ (s : SourceView). c.args.i < length (parts_at s c.args.table)) (sym c.self.view_is) c.requires.there) c.in_ok-block.ensures.block in
    subst (λ (s : SourceView). HasRowsOf s c.args.table c.args.i (arc_value c.in_ok-block.block)) c.self.view_is given.1
