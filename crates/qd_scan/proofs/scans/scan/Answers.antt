use Rattle.std.proofs.Common.{ap, length}
use Rattle.qd_rows.specs.Sets.{ResultRows}
use Rattle.qd_scan.specs.Asked.{IsPartBetween}
use Rattle.qd_scan.specs.Scans.{HasRowsBetween, HasScanned}
use Rattle.qd_scan.specs.Sources.{SourceView, parts_at}
use Rattle.qd_scan.proofs.AskedLemmas.{asked_nothing}
use Rattle.qd_scan.proofs.ScanLemmas.{cols_found, ok_then, scan_done, scan_nothing}
use Rattle.qd_scan.proofs.scans.scan.Goals as goal

pub returns-then-hi-lo-clause-rows : goal.returns-then-hi-lo-clause-rows
returns-then-hi-lo-clause-rows g c = scan_nothing (g.P.PartSource.shown c.args.source.now) c.args.table c.args.lo c.args.hi c.in_ok-rows.rows c.if-hi-lo.true (ap (λ (r : ResultRows). r.places) c.in_ok-rows.ensures.empty)

pub returns-then-hi-lo-clause-cols : goal.returns-then-hi-lo-clause-cols
returns-then-hi-lo-clause-cols g c =
    let s : SourceView = g.P.PartSource.shown c.args.source.now in
    cols_found s.schemas c.schemas.result.now c.args.table c.get.result.now c.in_ok-rows.rows.left c.schemas.ensures.schemas c.get.ensures.item (ap (λ (r : ResultRows). r.left) c.in_ok-rows.ensures.empty)

pub with_parts-requires-clause-cols : goal.with_parts-requires-clause-cols
with_parts-requires-clause-cols g c =
    let s : SourceView = g.P.PartSource.shown c.args.source.now in
    cols_found s.schemas c.schemas.result.now c.args.table c.get.result.now c.in_ok-rows.rows.left c.schemas.ensures.schemas c.get.ensures.item (ap (λ (r : ResultRows). r.left) c.in_ok-rows.ensures.empty)

pub returns-clause-rows : goal.returns-clause-rows
returns-clause-rows g c =
    let s : SourceView = g.P.PartSource.shown c.args.source.now in
    ok_then (HasScanned s c.args.table c.args.lo c.args.hi (length (parts_at s c.args.table))) (HasRowsBetween s c.args.table c.args.lo c.args.hi) (λ set has. scan_done s c.args.table c.args.lo c.args.hi set c.keeps_its_law.ensures.law c.requires has) c.with_parts.result c.with_parts.ensures.scanned

pub returns-in_err-rows-clause-asked : goal.returns-in_err-rows-clause-asked
returns-in_err-rows-clause-asked g c = asked_nothing (IsPartBetween (g.P.PartSource.shown c.args.source.now) c.args.table c.args.lo c.args.hi) (g.P.PartSource.asked c.args.source.now)

pub returns-then-hi-lo-clause-asked : goal.returns-then-hi-lo-clause-asked
returns-then-hi-lo-clause-asked g c = asked_nothing (IsPartBetween (g.P.PartSource.shown c.args.source.now) c.args.table c.args.lo c.args.hi) (g.P.PartSource.asked c.args.source.now)
