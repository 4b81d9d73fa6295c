use Rattle.std.proofs.Common.{◌≡◌, ◌∙◌, ◌+◌, None, sym, arith}
use Rattle.std.specs.BTreeMap.{get, btree_map_len}
use Rattle.qd_merge.proofs.Numbers.{number_kept, numbers_kept}
use Rattle.qd_merge.proofs.classes.number_of.Goals as goal

pub returns-in_ok-insert-in-None-clause-kept : goal.returns-in_ok-insert-in-None-clause-kept
returns-in_ok-insert-in-None-clause-kept g c =
    let absent : get g.K.Ord.cmp c.args.numbers.now c.args.key ≡ None = sym c.in-None.ensures.value in
    let old : c.in_ok-insert-in-None.field-0 ≡ None = c.in_ok-insert-in-None.ensures.old ∙ absent in
    let size : btree_map_len c.insert.new.self ≡ c.len-number.result + 1 = grind (arith, c.in_ok-insert-in-None.ensures.len, c.len-number.ensures.len, old) in
    number_kept g.K.Ord.cmp g.met.K.Ord.total c.args.numbers.now c.insert.new.self c.args.key c.len-number.result absent c.in_ok-insert-in-None.ensures.updates c.len-number.ensures.len size c.requires.numbers

pub returns-in_ok-insert-in-None-clause-numbers : goal.returns-in_ok-insert-in-None-clause-numbers
returns-in_ok-insert-in-None-clause-numbers g c =
    let absent : get g.K.Ord.cmp c.args.numbers.now c.args.key ≡ None = sym c.in-None.ensures.value in
    let old : c.in_ok-insert-in-None.field-0 ≡ None = c.in_ok-insert-in-None.ensures.old ∙ absent in
    let size : btree_map_len c.insert.new.self ≡ c.len-number.result + 1 = grind (arith, c.in_ok-insert-in-None.ensures.len, c.len-number.ensures.len, old) in
    numbers_kept g.K.Ord.cmp g.met.K.Ord.total c.args.numbers.now c.insert.new.self c.args.key c.len-number.result absent c.in_ok-insert-in-None.ensures.updates c.len-number.ensures.len size c.requires.numbers
