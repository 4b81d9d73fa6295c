use Rattle.std.proofs.Common.{sym}
use Rattle.qd_group.proofs.Numbers.{known_same}
use Rattle.qd_group.proofs.classes.number_of.Goals as goal

pub returns-in-Some-clause-known : goal.returns-in-Some-clause-known
returns-in-Some-clause-known g c = λ q. known_same g.K.Ord.cmp g.met.K.Ord.total c.args.numbers.now c.args.key c.in-Some.number.now q (sym c.in-Some.ensures.value)
