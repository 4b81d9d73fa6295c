use Rattle.std.proofs.Common.{◌∙◌, ◌<◌, ℕ, List, refl, ap, sym, subst, length, take, slice_index, arith}
use Rattle.qd_base.specs.declared.schema.ColType.TheVariants as kind
use Rattle.qd_column.specs.Cells.{CellsOf}
use Rattle.qd_column_format.specs.declared.fault.ColumnFault.{ColumnFault}
use Rattle.qd_column_format.specs.Fields.{end_of, Follows, AreFields}
use Rattle.qd_column_format.specs.Reading.{IsFault, IsReadColumn}
use Rattle.qd_column_format.proofs.ReadLemmas.{row_damage, rows_cut, texts_damage, marks_tile, texts_read}
use Rattle.qd_column_format.proofs.decode.texts_of.Goals as goal

pub returns-in-Some-clause-err : goal.returns-in-Some-clause-err
returns-in-Some-clause-err g c =
    let items = c.args.marks.items in
    let row = c.in-Some.row in
    let odd = subst (λ (l : List ℕ). (row < length l) × AreFields kind.Varchar (take row l) × (Follows kind.Varchar (take row l) (slice_index l row) → ⊥)) c.as_slice.ensures.value c.in-Some.ensures.some in
    subst (λ (e : ColumnFault). IsFault kind.Varchar c.args.rows c.args.main.now c.args.aux.now e) (sym c.broken_at.ensures.damage) (row_damage kind.Varchar c.args.rows c.args.main.now c.args.aux.now items row refl c.requires.there odd.0 odd.1 odd.2)

pub returns-then-len-rows-clause-err : goal.returns-then-len-rows-clause-err
returns-then-len-rows-clause-err g c =
    let items = c.args.marks.items in
    let sound : AreFields kind.Varchar items = subst (AreFields kind.Varchar) c.as_slice.ensures.value c.in_default.ensures.none in
    subst (λ (e : ColumnFault). IsFault kind.Varchar c.args.rows c.args.main.now c.args.aux.now e) (sym c.cut_main.ensures.damage) (rows_cut kind.Varchar c.args.rows c.args.main.now c.args.aux.now items c.requires.there sound (omega (arith, c.len.ensures, c.args.marks.ok.0, c.if-len-rows.true)))

pub returns-then-aux-end-clause-err : goal.returns-then-aux-end-clause-err
returns-then-aux-end-clause-err g c =
    let marks = c.args.marks.items in
    let sound : AreFields kind.Varchar marks = subst (AreFields kind.Varchar) c.as_slice.ensures.value c.in_default.ensures.none in
    let end = c.last_end-end.ensures.end ∙ ap end_of c.as_slice-2.ensures.value in
    texts_damage c.args.rows c.args.main.now c.args.aux.now marks c.requires.there sound (omega (arith, c.len.ensures, c.args.marks.ok.0, c.if-len-rows.false)) (omega (arith, end, c.if-aux-end.true))

pub of_texts-requires : goal.of_texts-requires
of_texts-requires g c =
    let marks = c.args.marks.items in
    let sound : AreFields kind.Varchar marks = subst (AreFields kind.Varchar) c.as_slice.ensures.value c.in_default.ensures.none in
    let end = c.last_end-end.ensures.end ∙ ap end_of c.as_slice-2.ensures.value in
    marks_tile marks c.in_ok-bytes.bytes.items c.args.aux.now sound (omega (arith, end, c.if-aux-end.false)) (c.in_ok-bytes.ensures.items ∙ ap (λ n. take n c.args.aux.now) end)

pub returns-clause-ok : goal.returns-clause-ok
returns-clause-ok g c =
    let marks = c.args.marks.items in
    let sound : AreFields kind.Varchar marks = subst (AreFields kind.Varchar) c.as_slice.ensures.value c.in_default.ensures.none in
    let end = c.last_end-end.ensures.end ∙ ap end_of c.as_slice-2.ensures.value in
    subst (λ (column : CellsOf). IsReadColumn kind.Varchar c.args.rows c.args.main.now c.args.aux.now column) (sym c.of_texts.ensures.column) (texts_read c.args.rows c.args.main.now c.args.aux.now marks c.in_ok-bytes.bytes.items c.requires.there sound (omega (arith, c.len.ensures, c.args.marks.ok.0, c.if-len-rows.false)) (omega (arith, end, c.if-aux-end.false)) (c.in_ok-bytes.ensures.items ∙ ap (λ n. take n c.args.aux.now) end))
