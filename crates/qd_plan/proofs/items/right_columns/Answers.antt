use Rattle.std.proofs.Common.{◌∙◌, ◌++◌, List, OnOk, Option, append-nil, sym, ap, subst}
use Rattle.qd_base.specs.declared.schema.Col.{Col}
use Rattle.qd_bind.specs.declared.side.Side.{Side}
use Rattle.qd_meaning.specs.Items.{Shows}
use Rattle.qd_plan.specs.Kinds.{columns_or_none}
use Rattle.qd_plan.specs.Listing.{plain_from}
use Rattle.qd_plan.specs.Showing.{Makes}
use Rattle.qd_plan.proofs.items.right_columns.Goals as goal

pub returns-in-Some : goal.returns-in-Some
returns-in-Some c = record {
  added = λ before m.
      subst (λ (cols : List Col). OnOk c.columns_from.result (Makes c.args.buckets (before ++ plain_from c.args.base cols) c.columns_from.new.made))
      (c.columns.ensures.columns ∙ ap columns_or_none (sym c.in-Some.is)) (c.columns_from.ensures.added before m);
}

pub returns-in-None : goal.returns-in-None
returns-in-None c = record {
  added = λ before m.
      subst (λ (items : List Shows). Makes c.args.buckets items c.args.made.now)
      (sym (append-nil before) ∙ ap (λ (o : Option Side). before ++ plain_from c.args.base (columns_or_none o)) (sym c.in-None.is)) m;
}
