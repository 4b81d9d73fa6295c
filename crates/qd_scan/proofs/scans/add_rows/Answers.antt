use Rattle.std.proofs.Common.{subst}
use Rattle.std.specs.Arc.{arc_value}
use Rattle.qd_block.specs.Blocks.{Block, IsWhole}
use Rattle.qd_scan.proofs.RowLemmas.{IsFound}
use Rattle.qd_scan.proofs.SetLemmas.{none_taken, run_taken}
use Rattle.qd_scan.proofs.scans.add_rows.Goals as goal

pub returns-clause-rows : goal.returns-clause-rows
returns-clause-rows g c =
    let within = c.within-from in
    let whole : IsWhole (arc_value c.args.block) = subst IsWhole c.deref.ensures c.is_whole.ensures.whole in
    let lent : IsFound c.deref-2.result.now c.args.lo c.args.hi within.result.0 within.result.1 = record { ordered = within.ensures.ordered; there = within.ensures.there; rows = within.ensures.rows } in
    let found : IsFound (arc_value c.args.block) c.args.lo c.args.hi within.result.0 within.result.1 = subst (λ (b : Block). IsFound b c.args.lo c.args.hi within.result.0 within.result.1) c.deref-2.ensures lent in
    run_taken c.args.rows.now c.add_block.new.self c.push_run.new.self (arc_value c.args.block) c.args.lo c.args.hi c.in_ok-b.b within.result.0 within.result.1 c.requires.single c.has_places.ensures.there whole found
    c.in_ok-b.ensures.ok c.in_ok-b.ensures.position c.in_ok-push_run.ensures.ok

pub returns-then-to-from-clause-rows : goal.returns-then-to-from-clause-rows
returns-then-to-from-clause-rows g c =
    let within = c.within-from in
    let whole : IsWhole (arc_value c.args.block) = subst IsWhole c.deref.ensures c.is_whole.ensures.whole in
    let lent : IsFound c.deref-2.result.now c.args.lo c.args.hi within.result.0 within.result.1 = record { ordered = within.ensures.ordered; there = within.ensures.there; rows = within.ensures.rows } in
    let found : IsFound (arc_value c.args.block) c.args.lo c.args.hi within.result.0 within.result.1 = subst (λ (b : Block). IsFound b c.args.lo c.args.hi within.result.0 within.result.1) c.deref-2.ensures lent in
    none_taken c.args.rows.now (arc_value c.args.block) c.args.lo c.args.hi within.result.0 within.result.1 whole found c.if-to-from.true
