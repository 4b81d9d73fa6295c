use Rattle.std.proofs.Common.{List, fold, ap, inl, ◌∙◌, arith}
use Rattle.qd_base.specs.declared.op.Op.{Op}
use Rattle.qd_base.specs.Schemas.{schemas_step}
use Rattle.qd_prepare.proofs.CellLemmas.{written_cells, written_few}
use Rattle.qd_prepare.proofs.EntryLemmas.{entry_fits}
use Rattle.qd_prepare.proofs.LeftLemmas.{prepared}
use Rattle.qd_prepare.proofs.prepare.prepare_stmt.Goals as goal

pub encode_entry-requires : goal.encode_entry-requires
encode_entry-requires c =
    let schemas = c.args.schemas.now in
    let entry = c.in_ok-entry.entry in
    record {
      spelled = entry_fits schemas entry c.requires.lawful (c.in_ok-entry.ensures.lawful c.requires.lawful)
          (written_cells schemas c.args.stmt.now entry c.requires.lawful c.requires.short c.in_ok-entry.ensures.answer) (omega (arith, written_few schemas c.args.stmt.now entry c.in_ok-entry.ensures.answer));
    }

pub returns : goal.returns
returns c =
    let schemas = c.args.schemas.now in
    let entry = c.in_ok-entry.entry in
    record {
      prepared = (
        entry,
        c.in_ok-entry.ensures.answer,
        prepared schemas entry c.in_ok-bytes.bytes c.in_ok-schemas.schemas c.requires.lawful c.in_ok-bytes.ensures.spelled (c.in_ok-entry.ensures.lawful c.requires.lawful)
            (written_cells schemas c.args.stmt.now entry c.requires.lawful c.requires.short c.in_ok-entry.ensures.answer)
            (inl (written_few schemas c.args.stmt.now entry c.in_ok-entry.ensures.answer))
            (c.in_ok-schemas.ensures.left ∙ ap (λ (os : List Op). fold schemas_step schemas os) c.as_slice.ensures.items),
      );
      refused = tt;
    }
