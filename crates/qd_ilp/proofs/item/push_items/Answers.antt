use Rattle.std.proofs.Common.{◌+◌, ◌-◌, ◌++◌, ◌∷◌, [], ◌∙◌, sym, refl, length, drop, arith}
use Rattle.std.proofs.lemmas.Result.{err_from_is_err_and}
use Rattle.qd_ilp.specs.Kept.{item_in}
use Rattle.qd_ilp.proofs.Growing.{grows_not, grows_by, grows_twice}
use Rattle.qd_ilp.proofs.Kepts.{puts_none, puts_more_at}
use Rattle.qd_ilp.proofs.Places.{drop_on}
use Rattle.qd_ilp.proofs.Lines.{items_none, items_goes_on, items_end, items_fault, items_over}
use Rattle.qd_ilp.proofs.item.push_items.Goals as goal

pub loop-init : goal.loop-init
loop-init c = record {
  items = [];
  puts = puts_none c.args.bytes.now.items c.args.pairs.now.items;
  so_far = items_none c.args.is_tag (length c.args.text.now - c.args.at) (drop c.args.at c.args.text.now);
  begins = c.requires.begins;
  grows = grows_not _ _ refl;
  pairs_grow = grows_not _ _ refl;
  onward = omega arith;
  inside = c.requires.within;
}

pub returns-in_err-pair-clause-fault : goal.returns-in_err-pair-clause-fault
returns-in_err-pair-clause-fault c =
    let p = err_from_is_err_and c.from_residual.result c.from_residual.ensures.1 in
    rw (p.1, p.2) (items_fault c.args.is_tag c.loop.invariant.items _ c.loop.counter (drop c.loop.next c.args.text.now) c.in_err-pair.field-0.0 _ c.loop-test.true c.in_err-pair.ensures.item c.loop.invariant.so_far)

pub returns-then-not-is_at-clause-items : goal.returns-then-not-is_at-clause-items
returns-then-not-is_at-clause-items c = (
  c.loop.invariant.items ++ item_in c.push_item.new.bytes.items c.in_ok-pair.pair ∷ [],
  items_end c.args.is_tag c.loop.invariant.items _ c.loop.counter (drop c.loop.next c.args.text.now) (drop c.in_ok-pair.end c.args.text.now) _ _ c.loop-test.true c.in_ok-pair.ensures.item (sym c.is_at.ensures.begins ∙ c.if-not-is_at.true) c.loop.invariant.so_far,
  puts_more_at _ _ _ _ _ _ _ c.in_ok-pair.pair c.loop.invariant.puts c.in_ok-pair.ensures.grows c.in_ok-pair.ensures.fits c.in_ok-push.ensures.items,
)

pub loop-preserved : goal.loop-preserved
loop-preserved c = record {
  items = c.loop.invariant.items ++ item_in c.push_item.new.bytes.items c.in_ok-pair.pair ∷ [];
  puts = puts_more_at _ _ _ _ _ _ _ c.in_ok-pair.pair c.loop.invariant.puts c.in_ok-pair.ensures.grows c.in_ok-pair.ensures.fits c.in_ok-push.ensures.items;
  so_far =
      items_goes_on c.args.is_tag c.loop.invariant.items _ c.loop.counter (drop c.loop.next c.args.text.now) (drop c.in_ok-pair.end c.args.text.now) (drop (c.in_ok-pair.end + 1) c.args.text.now) _ _ c.loop-test.true c.in_ok-pair.ensures.item (sym c.is_at.ensures.begins ∙ c.if-not-is_at.false)
      (drop_on 1 c.in_ok-pair.end c.args.text.now) c.loop.invariant.so_far;
  begins = grows_twice _ _ _ c.loop.invariant.begins c.in_ok-pair.ensures.grows;
  grows = grows_twice _ _ _ c.loop.invariant.grows c.in_ok-pair.ensures.grows;
  pairs_grow = grows_twice _ _ _ c.loop.invariant.pairs_grow (grows_by _ _ _ c.in_ok-push.ensures.items);
  onward = omega (arith, c.loop.invariant.onward, c.in_ok-pair.ensures.onward);
  inside = let less = c.is_at.ensures.inside c.if-not-is_at.false in omega (arith, less);
}

pub returns-clause-fault : goal.returns-clause-fault
returns-clause-fault c = items_over c.args.is_tag c.loop.invariant.items _ c.loop.counter (drop c.loop.next c.args.text.now) _ c.loop-test.false c.loop.invariant.so_far
