use Rattle.std.proofs.Common.{◌<◌, ◌≤◌, ◌∙◌, List, Option, length, map, ap, sym, subst, arith}
use Rattle.std.specs.Prelude.{unwrap_or}
use Rattle.std.proofs.lemmas.List.{get_or-map, length-map}
use Rattle.std.proofs.lemmas.Option.{slice_get_past}
use Rattle.qd_base.specs.declared.cell.Cell.{Cell}
use Rattle.qd_base.specs.declared.cell.Cell.TheVariants as cell
use Rattle.qd_base.specs.Database.{missing}
use Rattle.qd_writes.specs.declared.literal.Lent.{Lent}
use Rattle.qd_writes.specs.declared.literal.Lent.TheVariants as lent
use Rattle.qd_writes.specs.Literals.{lent_cell, IsFit}
use Rattle.qd_writes.proofs.rows.view_at.Goals as goal

pub returns-then-place-views-clause-fit : goal.returns-then-place-views-clause-fit
returns-then-place-views-clause-fit c =
    let views : List Lent = c.args.views.now in
    let size = length-map views lent_cell in
    let lt : c.args.place < length views = c.if-place-views.true in
    subst IsFit (get_or-map lent_cell views c.args.place lent.Null cell.Null lt) (c.requires c.args.place cell.Null (omega arith))

pub returns-else-place-views-clause-cell : goal.returns-else-place-views-clause-cell
returns-else-place-views-clause-cell c =
    let views : List Lent = c.args.views.now in
    let size = length-map views lent_cell in
    let past : length views ≤ c.args.place = c.if-place-views.false in
    c.missing.ensures.missing ∙ ap (λ (o : Option Cell). unwrap_or o (missing c.args.col.now.kind)) (sym (slice_get_past (map lent_cell views) c.args.place (omega arith)))
