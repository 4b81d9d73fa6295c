use Rattle.std.proofs.Common.{refl}
use Rattle.qd_group.specs.Numbering.{key_cmp}
use Rattle.qd_group.proofs.Numbers.{known_itself}
use Rattle.qd_group.proofs.SymbolLemmas.{key_order, stands_more}
use Rattle.qd_group.proofs.symbols.Symbols.add.Goals as goal

pub returns : goal.returns
returns c = record {
  next = λ texts cells n low is stands.
      stands_more texts cells n c.args.self.now _ c.args.key c.in_ok-number.number is stands c.in_ok-number.ensures.number c.in_ok-number.ensures.known c.in_ok-number.ensures.count c.in_ok-push.ensures.numbers c.in_ok-push.ensures.firsts refl;
  known = known_itself key_cmp key_order c.args.self.now.numbers c.number_of.new.numbers c.args.key c.in_ok-number.number c.in_ok-number.ensures.known;
  table = refl;
}
