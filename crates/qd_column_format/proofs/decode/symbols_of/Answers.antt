use Rattle.std.proofs.Common.{◌∙◌, ◌<◌, ℕ, List, refl, ap, sym, subst, length, take, slice_index, arith}
use Rattle.qd_base.specs.declared.schema.ColType.TheVariants as kind
use Rattle.qd_column.specs.Cells.{CellsOf}
use Rattle.qd_column_format.specs.declared.fault.ColumnFault.{ColumnFault}
use Rattle.qd_column_format.specs.Fields.{named, Follows, AreFields}
use Rattle.qd_column_format.specs.Reading.{IsFault, IsReadColumn}
use Rattle.qd_column_format.proofs.ReadLemmas.{row_damage, rows_cut, symbols_known, symbols_read}
use Rattle.qd_column_format.proofs.ColumnLemmas.{symbols_few}
use Rattle.qd_column_format.proofs.decode.symbols_of.Goals as goal

pub returns-in-Err-clause-err : goal.returns-in-Err-clause-err
returns-in-Err-clause-err g c =
    let items = c.args.ids.items in
    let row = c.in-Err.row in
    let odd = subst (λ (l : List ℕ). (row < length l) × AreFields kind.Symbol (take row l) × (Follows kind.Symbol (take row l) (slice_index l row) → ⊥)) c.as_slice.ensures.value c.in-Err.ensures.odd in
    subst (λ (e : ColumnFault). IsFault kind.Symbol c.args.rows c.args.main.now c.args.aux.now e) (sym c.broken_at.ensures.damage) (row_damage kind.Symbol c.args.rows c.args.main.now c.args.aux.now items row refl c.requires.there odd.0 odd.1 odd.2)

pub returns-then-len-rows-clause-err : goal.returns-then-len-rows-clause-err
returns-then-len-rows-clause-err g c =
    let items = c.args.ids.items in
    let sound : AreFields kind.Symbol items = subst (AreFields kind.Symbol) c.as_slice.ensures.value c.in-Ok.ensures.kept in
    subst (λ (e : ColumnFault). IsFault kind.Symbol c.args.rows c.args.main.now c.args.aux.now e) (sym c.cut_main.ensures.damage) (rows_cut kind.Symbol c.args.rows c.args.main.now c.args.aux.now items c.requires.there sound (omega (arith, c.len.ensures, c.args.ids.ok.0, c.if-len-rows.true)))

pub of_symbols-requires : goal.of_symbols-requires
of_symbols-requires g c =
    let ids = c.args.ids.items in
    let sound : AreFields kind.Symbol ids = subst (AreFields kind.Symbol) c.as_slice.ensures.value c.in-Ok.ensures.kept in
    symbols_known ids (g.D.Dictionary.texts c.in-Ok-load.dictionary) sound (c.in-Ok-load.ensures.count ∙ c.in-Ok.ensures.named ∙ ap named c.as_slice.ensures.value) c.in-Ok-load.ensures.distinct c.in-Ok-load.ensures.short

pub returns-in-Ok-load-clause-ok : goal.returns-in-Ok-load-clause-ok
returns-in-Ok-load-clause-ok g c =
    let ids = c.args.ids.items in
    let texts = g.D.Dictionary.texts c.in-Ok-load.dictionary in
    let sound : AreFields kind.Symbol ids = subst (AreFields kind.Symbol) c.as_slice.ensures.value c.in-Ok.ensures.kept in
    let are = symbols_known ids texts sound (c.in-Ok-load.ensures.count ∙ c.in-Ok.ensures.named ∙ ap named c.as_slice.ensures.value) c.in-Ok-load.ensures.distinct c.in-Ok-load.ensures.short in
    subst (λ (column : CellsOf). IsReadColumn kind.Symbol c.args.rows c.args.main.now c.args.aux.now column) (sym c.of_symbols.ensures.column) (symbols_read c.args.rows c.args.main.now c.args.aux.now ids texts c.requires.there (omega (arith, c.len.ensures, c.args.ids.ok.0, c.if-len-rows.false)) are c.in-Ok-load.ensures.distinct (symbols_few texts ids are) c.in-Ok-load.ensures.texts)
