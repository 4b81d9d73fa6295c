use Rattle.std.proofs.Common.{◌∙◌, ap, sym}
use Rattle.qd_apply.specs.Next.{TableGrowth}
use Rattle.qd_apply.specs.Plans as plans
use Rattle.qd_versions.specs.declared.published.GrownBlock.{GrownBlock}
use Rattle.qd_versions.proofs.Steps.{item_is}
use Rattle.qd_store.specs.Grown.{growth_of}
use Rattle.qd_store.proofs.NewNumbers.{rows_more}
use Rattle.qd_store.proofs.merging.behind.Goals as goal

pub loop-one-preserved : goal.loop-one-preserved
loop-one-preserved c =
    let this = c.one-item.result in
    let i = c.loop-one.one-index in
    let x : GrownBlock = record { table = this.table; part = this.part; rows = c.in_ok-clone.field-0 } in
    rows_more c.loop-one.list.items c.push.new.self.items x c.in_ok-push.ensures.items growth_of plans.growth_of c.args.grown.now i this c.loop-one.invariant c.loop-one-test.true
    (ap (λ b. let g : TableGrowth = record { table = this.table; part = this.part; rows = b } in g) c.in_ok-clone.ensures.cases
    ∙ ap plans.growth_of (sym (item_is c.args.grown.now i this c.loop-one-test.true c.one-item.is this)))
