use Rattle.std.proofs.Common.{◌∙◌, Some, ap, subst, sym, arith}
use Rattle.qd_base.specs.declared.schema.ColType.TheVariants as kind
use Rattle.qd_column_format.specs.declared.fault.LoadFault.{LoadFault}
use Rattle.qd_column_format.specs.Reading.{AreUnspelled}
use Rattle.qd_column_format.specs.Spelling.{SpellsColumn}
use Rattle.qd_column_format.specs.Tails.{behind}
use Rattle.qd_column_format.proofs.RestLemmas.{by_kind}
use Rattle.qd_column_format.proofs.StoredTails.{ids_room, texts_go_on, texts_there}
use Rattle.qd_column_format.proofs.tail.Tail.of_ids.Goals as goal

pub returns-then-main-rows : goal.returns-then-main-rows
returns-then-main-rows g c = record {
  tail = λ column is size spelled.
      absurd (omega (arith, ids_room c.args.rows c.args.main.now c.args.aux.now column.cells size (subst (SpellsColumn c.args.main.now c.args.aux.now) (by_kind kind.Symbol column is) spelled), c.if-main-rows.true));
}

pub returns-in-Ok : goal.returns-in-Ok
returns-in-Ok g c = record {
  tail = λ column is size spelled.
      let same = by_kind kind.Symbol column is in
      ap Some
      (texts_go_on c.args.rows c.args.main.now c.args.aux.now column.cells size (subst (SpellsColumn c.args.main.now c.args.aux.now) same spelled) c.named_in-count.result c.named_in-count.ensures.named c.one_dictionary_is_spelled.ensures (g.D.Dictionary.texts c.in-Ok.texts) c.in-Ok.ensures.count c.in-Ok.ensures.short c.in-Ok.ensures.texts
      ∙ ap behind (sym same));
}

pub returns-in-Err-Damaged : goal.returns-in-Err-Damaged
returns-in-Err-Damaged g c = record {
  tail = λ column is size spelled.
      let unspelled = subst (λ (e : LoadFault). AreUnspelled c.named_in-count.result c.args.aux.now e) c.in-Err-Damaged.field-0-is c.in-Err-Damaged.ensures.unspelled in
      absurd (texts_there c.args.rows c.args.main.now c.args.aux.now column.cells size (subst (SpellsColumn c.args.main.now c.args.aux.now) (by_kind kind.Symbol column is) spelled) c.named_in-count.result c.named_in-count.ensures.named 0 unspelled);
}
