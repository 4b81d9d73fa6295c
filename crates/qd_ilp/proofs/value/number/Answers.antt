use Rattle.std.proofs.Common.{◌≡◌, ◌∙◌, sym, ap, true, take}
use Rattle.std.specs.List.{list_all}
use Rattle.std.proofs.lemmas.List.{take_all}
use Rattle.qd_ilp.specs.Value.{is_digit}
use Rattle.qd_ilp.proofs.Numbers.{capped, capped_is}
use Rattle.qd_ilp.proofs.value.number.Goals as goal

pub returns : goal.returns
returns c =
    let whole : take c.loop-byte.byte-index c.args.word.now ≡ c.args.word.now = take_all c.loop-byte.byte-index c.args.word.now c.loop-byte-test.false in
    let all : list_all is_digit c.args.word.now ≡ true = ap (list_all is_digit) (sym whole) ∙ c.loop-byte.invariant.all in
    record { number = (all, c.loop-byte.invariant.number ∙ ap capped whole ∙ capped_is c.args.word.now all) }
