use Rattle.std.proofs.Common.{◌*◌, drop, arith}
use Rattle.qd_column_format.proofs.decode.words_there.Goals as goal

pub returns-clause-ids : goal.returns-clause-ids
returns-clause-ids c =
    let count = c.in_ok-words.ensures.count in
    let least = c.min-count.ensures in
    record {
      few = omega arith;
      small = omega arith;
      cut = λ few. omega arith;
      fit = c.in_ok-words.ensures.fit;
      begins = (drop (8 * c.min-count.result) c.args.main.now, c.in_ok-words.ensures.bytes);
    }

pub returns-clause-marks : goal.returns-clause-marks
returns-clause-marks c =
    let count = c.in_ok-words.ensures.count in
    let least = c.min-count.ensures in
    record {
      few = omega arith;
      small = omega arith;
      cut = λ few. omega arith;
      fit = c.in_ok-words.ensures.fit;
      begins = (drop (8 * c.min-count.result) c.args.main.now, c.in_ok-words.ensures.bytes);
    }
