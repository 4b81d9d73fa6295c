use Rattle.std.proofs.Common.{◌≡◌}
use Rattle.qd_scan.specs.Asked.{AskedOnly, IsPartBetween}
use Rattle.qd_scan.specs.Scans.{HasScanned}
use Rattle.qd_scan.specs.Sources.{Stays}
use Rattle.qd_scan.proofs.scans.with_parts.Given as goal

abbrev pub invariant-loop-i : goal.invariant-loop-i
invariant-loop-i g l = record {
  scanned : HasScanned (g.P.PartSource.shown l.fn.source) l.table l.lo l.hi l.i l.rows;
  stays : Stays (g.P.PartSource.shown l.fn.source) (g.P.PartSource.shown l.source);
  asked : AskedOnly (IsPartBetween (g.P.PartSource.shown l.fn.source) l.table l.lo l.hi) (g.P.PartSource.asked l.fn.source) (g.P.PartSource.asked l.source);
  fixed : g.P.PartSource.fixed l.source ≡ g.P.PartSource.fixed l.fn.source;
}
