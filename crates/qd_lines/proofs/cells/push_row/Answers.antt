use Rattle.std.proofs.Common.{◌≡◌, ◌<◌, ◌∙◌, ◌++◌, ◌∷◌, ◌+◌, ◌-◌, [], List, Bool, false, length, map, take, drop, sym, ap, subst, arith}
use Rattle.std.proofs.lemmas.Result.{on_ok_weaker}
use Rattle.qd_base.specs.declared.cell.Cell.{Cell}
use Rattle.qd_base.specs.declared.cell.Cell.TheVariants as cell
use Rattle.qd_base.specs.declared.schema.Col.{Col}
use Rattle.qd_base.specs.Schemas.{schema_of}
use Rattle.qd_lines.specs.Cells.{named_cell}
use Rattle.qd_lines.specs.Drafts.{Marked, mark, time_name}
use Rattle.qd_lines.specs.Sinks.{with_row}
use Rattle.qd_lines.proofs.CellLemmas.{first_marks, later_marks, row_fresh, row_old}
use Rattle.qd_lines.proofs.ChangesLemmas.{with_cells-row}
use Rattle.qd_lines.proofs.cells.push_row.Goals as goal

pub push_cells-requires-2 : goal.push_cells-requires-2
push_cells-requires-2 g c =
    let there = c.args.place.columns.cols.now in
    let cols = c.as_slice-cols.result.now in
    let time = c.args.place.columns.time in
    let f = mark c.args.row.now.items in
    let same : there ≡ cols = sym c.as_slice-cols.ensures.items in
    let m = c.requires.draws.few (omega (arith, c.requires.few, c.requires.draws.sized)) in
    let marks = c.as_slice-marks.ensures.value ∙ m.marks_are ∙ ap (λ (cs : List Col). map f (cs ++ c.args.draft.now.added)) same in
    let lt : time < length cols = subst (λ (cs : List Col). time < length cs) same c.requires.usable.there in
    record { marks = first_marks f cols c.args.draft.now.added c.as_slice-marks.result.now time marks (omega (arith, lt)) }

pub push_cells-requires-3 : goal.push_cells-requires-3
push_cells-requires-3 g c =
    let there = c.args.place.columns.cols.now in
    let cols = c.as_slice-cols.result.now in
    let time = c.args.place.columns.time in
    let f = mark c.args.row.now.items in
    let same : there ≡ cols = sym c.as_slice-cols.ensures.items in
    let m = c.requires.draws.few (omega (arith, c.requires.few, c.requires.draws.sized)) in
    let marks = c.as_slice-marks.ensures.value ∙ m.marks_are ∙ ap (λ (cs : List Col). map f (cs ++ c.args.draft.now.added)) same in
    let lt : time < length cols = subst (λ (cs : List Col). time < length cs) same c.requires.usable.there in
    record { marks = later_marks f cols c.args.draft.now.added c.as_slice-marks.result.now (time + 1) (length cols - (time + 1)) marks (omega (arith, lt)) }

pub returns-then-place : goal.returns-then-place
returns-then-place g c =
    let cols = c.args.place.columns.cols.now in
    let items = c.args.row.now.items in
    let added = c.args.draft.now.added in
    let marks = c.args.draft.now.marks.items in
    let m : Marked cols (time_name c.args.place.columns) items added marks false = subst (λ (b : Bool). Marked cols (time_name c.args.place.columns) items added marks b) c.requires.once (c.requires.draws.few (omega (arith, c.requires.few, c.requires.draws.sized))) in
    let there : map (named_cell items) c.as_slice-added.result.now ≡ map (named_cell items) added = ap (map (named_cell items)) c.as_slice-added.ensures.items in
    record {
      cells = λ schemas now p is table ops begun.
          let whole = ap (λ (xs : List Cell). xs ++ cell.Time c.args.micros ∷ []) there ∙ row_fresh (schema_of schemas c.args.row.now.table) now c.args.row.now cols (time_name c.args.place.columns) c.args.place.fresh c.args.micros added marks p.cols p.name p.fresh c.if-place.true is m in
          on_ok_weaker c.push_cell.result
          (λ h. subst (g.T.OpSink.taken c.push_cell.new.self) (with_cells-row (cell.Time c.args.micros ∷ []) (map (named_cell items) c.as_slice-added.result.now) table ops ∙ ap (λ (xs : List Cell). with_row table xs ops) whole) h)
          (c.push_cell.ensures.ok (with_row table (map (named_cell items) c.as_slice-added.result.now) ops) (c.in_ok-push_cells.ensures.cells table [] ops begun));
    }

pub returns : goal.returns
returns g c =
    let there = c.args.place.columns.cols.now in
    let cols = c.as_slice-cols.result.now in
    let time = c.args.place.columns.time in
    let items = c.args.row.now.items in
    let added = c.args.draft.now.added in
    let marks = c.args.draft.now.marks.items in
    let f = named_cell items in
    let whole_of : List Col → List Col → List Cell = λ cs more. ((map f (take time cs) ++ cell.Time c.args.micros ∷ []) ++ map f (take (length cs - (time + 1)) (drop (time + 1) cs))) ++ map f more in
    let m : Marked there (time_name c.args.place.columns) items added marks false = subst (λ (b : Bool). Marked there (time_name c.args.place.columns) items added marks b) c.requires.once (c.requires.draws.few (omega (arith, c.requires.few, c.requires.draws.sized))) in
    let stamped : List Cell = map f (take time cols) ++ cell.Time c.args.micros ∷ [] in
    let back : List Cell = map f (take (length cols - (time + 1)) (drop (time + 1) cols)) in
    record {
      cells = λ schemas now p is table ops begun.
          let whole = ap (λ (cs : List Col). whole_of cs c.as_slice-added.result.now) c.as_slice-cols.ensures.items ∙ ap (whole_of there) c.as_slice-added.ensures.items ∙ row_old (schema_of schemas c.args.row.now.table) now c.args.row.now there time c.requires.usable c.args.place.fresh c.args.micros added marks p.cols p.name p.fresh c.if-place.false is m in
          let one = c.in_ok-push_cells-2.ensures.cells table [] ops begun in
          let two = subst (g.T.OpSink.taken c.push_cell-2.new.self) (with_cells-row (cell.Time c.args.micros ∷ []) (map f (take time cols)) table ops) (c.in_ok-push_cell.ensures.ok (with_row table (map f (take time cols)) ops) one) in
          let three = c.in_ok-push_cells-3.ensures.cells table stamped ops two in
          on_ok_weaker c.push_cells-4.result
          (λ h. subst (g.T.OpSink.taken c.push_cells-4.new.sink) (ap (λ (xs : List Cell). with_row table xs ops) whole) h)
          (c.push_cells-4.ensures.cells table (stamped ++ back) ops three);
    }
