use Rattle.std.proofs.Common.{◌≡◌, arith}
use Rattle.qd_scan.proofs.RowLemmas.{are_lent, lent_rise}
use Rattle.qd_memory.proofs.MergingLemmas.{block_timed, piece_ends, time_few}
use Rattle.qd_memory.proofs.merging.piece_end.Goals as goal

pub end_of_partition-end-requires : goal.end_of_partition-end-requires
end_of_partition-end-requires c =
    let s = c.args.schema.now in
    let b = c.args.batch.now in
    let is = c.requires.batch in
    time_few s b c.args.from c.time.result (block_timed s b is.whole is.kinds is.time_col) is.fit is.time_col c.requires.there c.time.ensures.time

pub times_before-requires : goal.times_before-requires
times_before-requires c = lent_rise c.args.batch.now c.times.result.now c.requires.batch.whole (are_lent c.args.batch.now c.times.result.now c.times.ensures.times)

pub returns : goal.returns
returns c =
    let s = c.args.schema.now in
    let b = c.args.batch.now in
    let e = c.end_of_partition-end.ensures in
    let t = c.times_before.ensures in
    let ends = piece_ends s b c.times.result.now c.time.result c.end_of_partition-end.result c.args.from c.times_before.result c.requires.batch c.requires.there (are_lent b c.times.result.now c.times.ensures.times) c.time.ensures.time e.after e.end e.later t.within t.before t.behind in
    record { some = ends.some; within = ends.within; together = ends.together; apart = ends.apart }
