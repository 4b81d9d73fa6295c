use Rattle.std.proofs.Common.{◌∙◌, ap}
use Rattle.std.specs.List.{list_any}
use Rattle.qd_ilp.specs.Whole.{is_timeless_kept}
use Rattle.qd_ilp.proofs.Wholes.{lacks_is}
use Rattle.qd_ilp.proofs.batch.lacks_time.Goals as goal

pub returns-then-batch : goal.returns-then-batch
returns-then-batch c = record {
  lacks = lacks_is c.batch.inside.bytes.items c.batch.inside.pairs.items c.batch.inside.rows.items c.batch.inside.behind c.batch.inside.whole c.has_timeless.result c.args.batch.now c.batch.view_is c.if-batch.true
      (c.has_timeless.ensures.any ∙ ap (list_any is_timeless_kept) c.deref.ensures.value);
}
