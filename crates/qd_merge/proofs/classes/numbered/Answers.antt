use Rattle.std.proofs.Common.{◌≡◌, ◌∙◌, ◌++◌, ◌∷◌, [], ap, sym, length, length-append, arith}
use Rattle.std.specs.BTreeMap.{get}
use Rattle.qd_merge.proofs.Numbers.{no_numbers, are_numbered, found_more}
use Rattle.qd_merge.proofs.classes.numbered.Goals as goal

pub loop-key-init : goal.loop-key-init
loop-key-init g c =
    record {
      numbers = no_numbers g.K.Ord.cmp g.met.K.Ord.total c.new-numbers.result c.new-numbers.ensures.empty;
      few = omega (arith, c.new-numbers.ensures.len);
      count = ap length c.in_ok-found.ensures.items;
      each = λ k d lt. absurd (omega arith);
    }

pub loop-key-preserved : goal.loop-key-preserved
loop-key-preserved g c =
    let inv = c.loop-key.invariant in
    let made = c.in_ok-number.ensures in
    let items : c.push.new.self.items ≡ c.loop-key.found.items ++ c.in_ok-number.number ∷ [] = c.in_ok-push.ensures.items in
    record {
      numbers = made.numbers;
      few = (let a = made.few in let b = inv.few in omega arith);
      count = ap length items ∙ omega (arith, length-append c.loop-key.found.items (c.in_ok-number.number ∷ []), inv.count);
      each = found_more g.K.Ord.cmp g.met.K.Ord.total c.loop-key.numbers c.number_of.new.numbers c.args.keys.now c.loop-key.found.items c.push.new.self.items c.loop-key.key-index c.key-item.result c.in_ok-number.number c.loop-key-test.true inv.count inv.each made.kept (ap (get g.K.Ord.cmp c.number_of.new.numbers) (sym c.key-item.is) ∙ made.number) items;
    }

pub returns : goal.returns
returns g c =
    let inv = c.loop-key.invariant in
    let all : c.loop-key.key-index ≡ length c.args.keys.now = omega arith in
    record { numbers = are_numbered g.K.Ord.cmp g.met.K.Ord.total c.loop-key.numbers c.args.keys.now c.loop-key.found.items inv.numbers (omega (arith, inv.few)) (inv.count ∙ all) (λ k d lt. inv.each k d (omega arith)) }
