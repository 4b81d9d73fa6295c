use Rattle.std.proofs.Common.{ℕ, Option, subst, sym}
use Rattle.qd_meaning.specs.declared.parts.JoinSpec.{JoinSpec}
use Rattle.qd_scan.specs.Asked.{AskedOnly}
use Rattle.qd_scan.specs.Sources.{SourceView}
use Rattle.qd_query.specs.Needs.{TablesNeed}
use Rattle.qd_query.proofs.sources.source_rows.Goals as goal

pub returns-in-Some-clause-asked : goal.returns-in-Some-clause-asked
returns-in-Some-clause-asked g c =
    let s : SourceView = g.P.PartSource.shown c.args.source.now in
    subst (λ (j : Option (ℕ × JoinSpec)). AskedOnly (TablesNeed s c.args.plan.now.left j c.args.plan.now.keep) (g.P.PartSource.asked c.args.source.now) (g.P.PartSource.asked c.joined_rows.new.source)) (sym c.in-Some.is)
    c.joined_rows.ensures.asked
