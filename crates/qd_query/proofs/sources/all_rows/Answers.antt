use Rattle.std.specs.Prelude.{◌≤◌, All}
use Rattle.std.proofs.lemmas.List.Elements.{All-weaker}
use Rattle.qd_base.specs.declared.limits.TheConstants.{MAX_TIME}
use Rattle.qd_base.specs.Rows.{Row, time_of}
use Rattle.qd_rows.specs.Sets.{ResultRows, rows_in}
use Rattle.qd_scan.specs.Scans.{HasRowsBetween, IsBetween}
use Rattle.qd_scan.specs.Sources.{SourceView, rows_at, schema_at}
use Rattle.qd_scan.proofs.ScanLemmas.{ok_then}
use Rattle.std.specs.Prelude.{◌≡◌, IfSome}
use Rattle.qd_query.proofs.Told.{told_whole}
use Rattle.qd_query.proofs.sources.all_rows.Goals as goal

pub returns-clause-rows : goal.returns-clause-rows
returns-clause-rows g c =
    let s : SourceView = g.P.PartSource.shown c.args.source.now in
    ok_then (HasRowsBetween s c.args.table 0 MAX_TIME) (λ (set : ResultRows). IfSome s.database (λ db. rows_in set ≡ rows_at db c.args.table))
    (λ set h. told_whole s c.args.table (rows_in set) s.database c.keeps_its_law.ensures.law c.requires c.keeps_its_law.ensures.law.told h) c.scan.result c.scan.ensures.rows

pub returns-clause-timely : goal.returns-clause-timely
returns-clause-timely g c =
    let s : SourceView = g.P.PartSource.shown c.args.source.now in
    let col = (schema_at s c.args.table).time_col in
    ok_then (λ (set : ResultRows). All (IsBetween col 0 MAX_TIME) (rows_in set)) (λ (set : ResultRows). All (λ r. time_of col r ≤ MAX_TIME) (rows_in set))
    (λ set h. All-weaker (IsBetween col 0 MAX_TIME) (λ (r : Row). time_of col r ≤ MAX_TIME) (λ r x. x.1) (rows_in set) h) c.scan.result c.scan.ensures.between
