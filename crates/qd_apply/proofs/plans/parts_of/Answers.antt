use Rattle.std.proofs.Common.{◌<◌, ◌∙◌, length, ap, sym, arith}
use Rattle.qd_apply.specs.Next.{first_parts}
use Rattle.qd_apply.proofs.GivenLemmas.{drop_at}
use Rattle.qd_apply.proofs.ListLemmas.{lent_at}
use Rattle.qd_apply.proofs.plans.parts_of.Goals as goal

pub returns-then-table-len : goal.returns-then-table-len
returns-then-table-len c =
    let lt : c.args.table < length c.args.shape.now = omega (arith, c.if-table-len.true, c.len.ensures.count) in
    record { parts = c.as_slice.ensures.items ∙ ap first_parts (sym (drop_at c.args.table c.args.shape.now c.get.result.now lt (lent_at c.args.shape.now c.args.table c.get.result.now lt c.get.ensures.item))) }
