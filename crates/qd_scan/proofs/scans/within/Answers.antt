use Rattle.qd_scan.proofs.RowLemmas.{IsFound, are_lent, lent_rise, rows_found}
use Rattle.qd_scan.proofs.scans.within.Goals as goal

pub count_before-requires : goal.count_before-requires
count_before-requires g c = lent_rise c.args.block.now c.times-times.result.now c.is_whole.ensures.whole (are_lent c.args.block.now c.times-times.result.now c.times-times.ensures.times)

pub count_to-requires : goal.count_to-requires
count_to-requires g c = lent_rise c.args.block.now c.times-times.result.now c.is_whole.ensures.whole (are_lent c.args.block.now c.times-times.result.now c.times-times.ensures.times)

pub returns : goal.returns
returns g c =
    let b = c.args.block.now in
    let times = c.times-times.result.now in
    let found : IsFound b c.args.lo c.args.hi c.count_before.result c.count_to.result = rows_found b times c.args.lo c.args.hi c.count_before.result c.count_to.result c.requires (are_lent b times c.times-times.ensures.times)
    c.count_before.ensures.within c.count_to.ensures.within c.count_before.ensures.before c.count_before.ensures.behind c.count_to.ensures.before c.count_to.ensures.behind in
    record { ordered = found.ordered; there = found.there; rows = found.rows }
