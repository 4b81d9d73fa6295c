use Rattle.std.proofs.Common.{◌≡◌, ◌<◌, ◌∙◌, List, length, ap, arith, refl, subst, sym}
use Rattle.std.specs.Arc.{arc_value}
use Rattle.qd_base.specs.declared.part.Part.{Part}
use Rattle.qd_block.specs.Blocks.{IsWhole}
use Rattle.qd_scan.specs.Sources.{SourceView, parts_at}
use Rattle.qd_scan.specs.Asked.{IsPartBetween}
use Rattle.qd_scan.proofs.AskedLemmas.{asked_nothing, asked_one, asked_then, is_between_parts}
use Rattle.qd_scan.proofs.ScanLemmas.{block_before, lent_apart, rows_before, scan_from, scan_step, scan_to, stays_here, stays_then}
use Rattle.qd_scan.proofs.scans.with_parts.Goals as goal

pub loop-i-init : goal.loop-i-init
loop-i-init g c =
    let s : SourceView = g.P.PartSource.shown c.args.source.now in
    let lent : List Part = c.as_slice-parts.result.now in
    record {
      scanned = scan_from s c.args.table c.args.lo c.args.hi c.ended_before-first.result c.args.rows lent (c.as_slice-parts.ensures.items ∙ c.parts.ensures.parts) c.ended_before-first.ensures.within c.ended_before-first.ensures.before
          c.requires.cols c.requires.single c.requires.empty;
      stays = stays_here s;
      asked = asked_nothing (IsPartBetween s c.args.table c.args.lo c.args.hi) (g.P.PartSource.asked c.args.source.now);
      fixed = refl;
    }

pub loop-i-preserved : goal.loop-i-preserved
loop-i-preserved g c =
    let s : SourceView = g.P.PartSource.shown c.args.source.now in
    let now : SourceView = g.P.PartSource.shown c.loop-i.source in
    let later : SourceView = g.P.PartSource.shown c.part.new.self in
    let lent : List Part = c.as_slice-parts.result.now in
    let same : lent ≡ parts_at s c.args.table = c.as_slice-parts.ensures.items ∙ c.parts.ensures.parts in
    let count : length lent ≡ length (parts_at s c.args.table) = ap length same in
    let low : c.loop-i.i < length (parts_at s c.args.table) = omega (arith, count, c.loop-i-test.true, c.begun_by-last.ensures.within) in
    let b = arc_value c.in_ok-block.block in
    let whole : IsWhole (arc_value c.in_ok-block.block) = subst IsWhole c.deref.ensures c.is_whole.ensures.whole in
    record {
      scanned = scan_step s c.args.table c.args.lo c.args.hi c.loop-i.i c.loop-i.rows c.add_rows.new.rows b c.requires.law c.requires.table low whole
          (block_before s now c.args.table c.loop-i.i b c.loop-i.invariant.stays c.in_ok-block.ensures.block)
          (rows_before s now c.args.table c.loop-i.i b c.loop-i.invariant.stays c.in_ok-block.ensures.told)
          c.in_ok-add_rows.ensures.left c.in_ok-add_rows.ensures.right c.in_ok-add_rows.ensures.rows c.loop-i.invariant.scanned;
      stays = stays_then s now later c.loop-i.invariant.stays c.part.ensures.stays;
      asked = asked_then (IsPartBetween s c.args.table c.args.lo c.args.hi) (g.P.PartSource.asked c.args.source.now) (g.P.PartSource.asked c.loop-i.source) (g.P.PartSource.asked c.part.new.self) c.loop-i.invariant.asked
          (asked_one (IsPartBetween s c.args.table c.args.lo c.args.hi) c.args.table c.loop-i.i (g.P.PartSource.asked c.loop-i.source) (g.P.PartSource.asked c.part.new.self) c.part.ensures.asked
          (is_between_parts s c.args.table c.args.lo c.args.hi c.ended_before-first.result c.begun_by-last.result c.loop-i.i lent same (lent_apart s c.args.table lent same c.requires.law c.requires.table) c.requires.some c.begun_by-last.ensures.within
          c.ended_before-first.ensures.behind c.begun_by-last.ensures.before (omega arith) c.loop-i-test.true));
      fixed = c.part.ensures.fixed ∙ c.loop-i.invariant.fixed;
    }

pub returns-clause-scanned : goal.returns-clause-scanned
returns-clause-scanned g c =
    let s : SourceView = g.P.PartSource.shown c.args.source.now in
    let lent : List Part = c.as_slice-parts.result.now in
    scan_to s c.args.table c.args.lo c.args.hi c.ended_before-first.result c.begun_by-last.result c.loop-i.i c.loop-i.rows lent (c.as_slice-parts.ensures.items ∙ c.parts.ensures.parts) c.requires.law c.requires.table c.requires.some
    c.ended_before-first.ensures.within c.ended_before-first.ensures.before c.begun_by-last.ensures.within c.begun_by-last.ensures.behind (omega (arith, c.loop-i-test.false)) c.loop-i.auto.i-end c.loop-i.invariant.scanned

pub returns-in_err-block-clause-asked : goal.returns-in_err-block-clause-asked
returns-in_err-block-clause-asked g c =
    let s : SourceView = g.P.PartSource.shown c.args.source.now in
    let lent : List Part = c.as_slice-parts.result.now in
    let same : lent ≡ parts_at s c.args.table = c.as_slice-parts.ensures.items ∙ c.parts.ensures.parts in
    asked_then (IsPartBetween s c.args.table c.args.lo c.args.hi) (g.P.PartSource.asked c.args.source.now) (g.P.PartSource.asked c.loop-i.source) (g.P.PartSource.asked c.part.new.self) c.loop-i.invariant.asked
    (asked_one (IsPartBetween s c.args.table c.args.lo c.args.hi) c.args.table c.loop-i.i (g.P.PartSource.asked c.loop-i.source) (g.P.PartSource.asked c.part.new.self) c.part.ensures.asked
    (is_between_parts s c.args.table c.args.lo c.args.hi c.ended_before-first.result c.begun_by-last.result c.loop-i.i lent same (lent_apart s c.args.table lent same c.requires.law c.requires.table) c.requires.some c.begun_by-last.ensures.within
    c.ended_before-first.ensures.behind c.begun_by-last.ensures.before (omega arith) c.loop-i-test.true))

pub returns-in_err-add_rows-clause-asked : goal.returns-in_err-add_rows-clause-asked
returns-in_err-add_rows-clause-asked g c =
    let s : SourceView = g.P.PartSource.shown c.args.source.now in
    let lent : List Part = c.as_slice-parts.result.now in
    let same : lent ≡ parts_at s c.args.table = c.as_slice-parts.ensures.items ∙ c.parts.ensures.parts in
    asked_then (IsPartBetween s c.args.table c.args.lo c.args.hi) (g.P.PartSource.asked c.args.source.now) (g.P.PartSource.asked c.loop-i.source) (g.P.PartSource.asked c.part.new.self) c.loop-i.invariant.asked
    (asked_one (IsPartBetween s c.args.table c.args.lo c.args.hi) c.args.table c.loop-i.i (g.P.PartSource.asked c.loop-i.source) (g.P.PartSource.asked c.part.new.self) c.part.ensures.asked
    (is_between_parts s c.args.table c.args.lo c.args.hi c.ended_before-first.result c.begun_by-last.result c.loop-i.i lent same (lent_apart s c.args.table lent same c.requires.law c.requires.table) c.requires.some c.begun_by-last.ensures.within
    c.ended_before-first.ensures.behind c.begun_by-last.ensures.before (omega arith) c.loop-i-test.true))
