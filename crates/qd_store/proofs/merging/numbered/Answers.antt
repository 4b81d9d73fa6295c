use Rattle.std.proofs.Common.{◌∙◌, ◌+◌, length, ap, arith, refl}
use Rattle.std.specs.Arc.{arc_value}
use Rattle.std.proofs.lemmas.List.{length_push}
use Rattle.qd_versions.specs.declared.published.NewBlock.{NewBlock}
use Rattle.qd_store.proofs.NewNumbers.{numbers_more, rows_more}
use Rattle.qd_store.proofs.merging.numbered.Goals as goal

pub loop-i-preserved : goal.loop-i-preserved
loop-i-preserved c =
    let old = c.loop-i.list.items in
    let new = c.push.new.self.items in
    let i = c.loop-i.i in
    let x : NewBlock = record { block = c.args.first + i; of = c.in_ok-clone.field-0 } in
    let more = c.in_ok-push.ensures.items in
    let v = c.loop-i.invariant in
    record {
      count = omega (arith, ap length more, length_push old x, v.count);
      numbers = numbers_more old new x more (λ (b : NewBlock). b.block) c.args.first i v.numbers refl;
      rows = rows_more old new x more (λ (b : NewBlock). arc_value b.of) arc_value c.args.blocks.now i c.index-blocks-i.result v.rows c.loop-i-test.true (c.in_ok-clone.ensures.cases ∙ ap arc_value c.index-blocks-i.is);
    }
