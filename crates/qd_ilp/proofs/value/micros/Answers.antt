use Rattle.qd_ilp.proofs.Numbers.{micros_are}
use Rattle.qd_ilp.proofs.value.micros.Goals as goal

pub returns-in-Some : goal.returns-in-Some
returns-in-Some c = record {
  micros =
      micros_are c.args.nanos.now c.split_at.result.0.now c.split_at.result.1.now c.in_ok-micros.micros c.if-nanos-lt3.false c.split_at.ensures.front c.split_at.ensures.back c.in_ok-micros.ensures.number.0 c.in-Some.ensures.number.0 c.in_ok-micros.ensures.number.1;
}
