use Rattle.std.proofs.Common.{◌≡◌, ◌∙◌, ℕ, ◌+◌, ◌*◌, List, refl, ap, map, drop, subst, sym, arith}
use Rattle.std.specs.List.{flat_map}
use Rattle.byteorder.specs.Endian.{little_bytes}
use Rattle.qd_base.specs.declared.schema.ColType.TheVariants as kind
use Rattle.qd_column_format.specs.Added.{column_of}
use Rattle.qd_column_format.specs.Fields.{marks_from}
use Rattle.qd_column_format.specs.Rests.{HoldsRest}
use Rattle.qd_column_format.specs.Spelling.{SpellsColumn}
use Rattle.qd_column_format.proofs.RestLemmas.{by_kind, marks_read, moved_held, none_before, numbers_room, rest_is, rest_size, texts_rest}
use Rattle.qd_column_format.proofs.rest.texts_from.Goals as goal

pub returns-then-main-rows-clause-rest : goal.returns-then-main-rows-clause-rest
returns-then-main-rows-clause-rest g c skip whole is size h =
    let also : HoldsRest skip c.args.start c.args.main.now c.args.aux.now (column_of kind.Varchar whole.cells) = subst (HoldsRest skip c.args.start c.args.main.now c.args.aux.now) (by_kind kind.Varchar whole is) h in
    absurd (omega (arith, numbers_room skip c.args.start c.args.rows c.args.main.now c.args.aux.now (column_of kind.Varchar whole.cells) size also, c.if-main-rows.true))

pub returns-in-None-clause-rest : goal.returns-in-None-clause-rest
returns-in-None-clause-rest g c skip whole is size h =
    let main = c.args.main.now in
    let also : HoldsRest skip c.args.start main c.args.aux.now (column_of kind.Varchar whole.cells) = subst (HoldsRest skip c.args.start main c.args.aux.now) (by_kind kind.Varchar whole is) h in
    let are = marks_read skip c.args.start c.args.rows main c.args.aux.now whole.cells size also c.in_ok-marks.marks.items (drop (8 * c.args.rows) main) c.in_ok-marks.ensures.bytes c.in_ok-marks.ensures.count c.in_ok-marks.ensures.fit in
    absurd (none_before c.args.start (marks_from 0 (drop skip whole.cells)) c.as_slice.result.now (c.as_slice.ensures.value ∙ are) (rw c.in-None.is at c.in_ok-moved.ensures.before))

pub returns-clause-held : goal.returns-clause-held
returns-clause-held g c some =
    let main = c.args.main.now in
    let start = c.args.start in
    let marks = c.in_ok-marks.marks.items in
    let moved : map (λ (m : ℕ). m + 2 * start) c.in-Some.moved.items ≡ c.as_slice.result.now = rw c.in-Some.is at c.in_ok-moved.ensures.moved in
    let own : c.as_slice-3.result.now ≡ flat_map (little_bytes 8) c.in-Some.moved.items = c.as_slice-3.ensures.value ∙ c.in_ok-own.ensures.bytes ∙ ap (flat_map (little_bytes 8)) c.as_slice-2.ensures.value in
    moved_held c.spelled_column.result start c.args.rows main c.args.aux.now c.as_slice-3.result.now marks c.in-Some.moved.items (drop (8 * c.args.rows) main) some (omega (arith, c.if-main-rows.false)) c.in_ok-marks.ensures.count c.in_ok-marks.ensures.fit
    c.in_ok-marks.ensures.bytes (moved ∙ c.as_slice.ensures.value) own c.spelled_column.ensures.kind c.spelled_column.ensures.rows c.spelled_column.ensures.spelled

pub returns-clause-rest : goal.returns-clause-rest
returns-clause-rest g c skip whole is size h =
    let main = c.args.main.now in
    let aux = c.args.aux.now in
    let start = c.args.start in
    let also : HoldsRest skip start main aux (column_of kind.Varchar whole.cells) = subst (HoldsRest skip start main aux) (by_kind kind.Varchar whole is) h in
    let are = marks_read skip start c.args.rows main aux whole.cells size also c.in_ok-marks.marks.items (drop (8 * c.args.rows) main) c.in_ok-marks.ensures.bytes c.in_ok-marks.ensures.count c.in_ok-marks.ensures.fit in
    let moved : map (λ (m : ℕ). m + 2 * start) c.in-Some.moved.items ≡ c.as_slice.result.now = rw c.in-Some.is at c.in_ok-moved.ensures.moved in
    let own : c.as_slice-3.result.now ≡ flat_map (little_bytes 8) c.in-Some.moved.items = c.as_slice-3.ensures.value ∙ c.in_ok-own.ensures.bytes ∙ ap (flat_map (little_bytes 8)) c.as_slice-2.ensures.value in
    rest_is c.spelled_column.result kind.Varchar skip whole is
    (c.spelled_column.ensures.all (column_of kind.Varchar (drop skip whole.cells)) refl (rest_size skip start c.args.rows main aux whole.cells size also)
    (subst (λ (l : List ℕ). SpellsColumn l aux (column_of kind.Varchar (drop skip whole.cells))) (sym own)
    (texts_rest skip start c.args.rows main aux whole.cells size also c.in_ok-marks.marks.items c.in-Some.moved.items are (moved ∙ c.as_slice.ensures.value))))
