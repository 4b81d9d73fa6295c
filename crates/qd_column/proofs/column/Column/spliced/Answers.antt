use Rattle.std.proofs.Common.{◌≡◌, ◌∙◌, ap, sym}
use Rattle.qd_base.specs.declared.cell.Cell.TheVariants as cell
use Rattle.qd_base.specs.declared.schema.ColType.TheVariants as kind
use Rattle.qd_column.specs.Cells.{long_cell, time_cell}
use Rattle.qd_column.specs.Columns.{column_of}
use Rattle.qd_column.specs.Runs.{laid}
use Rattle.qd_column.proofs.ColumnLemmas.{spliced_images}
use Rattle.qd_column.proofs.column.Column.spliced.Goals as goal

pub returns-in_ok-spliced-in-Longs-Longs : goal.returns-in_ok-spliced-in-Longs-Longs
returns-in_ok-spliced-in-Longs-Longs g c =
    let arm = c.in-Longs-Longs in
    let is : c.in_ok-spliced-in-Longs-Longs.field-0.items ≡ laid arm.a.items arm.b.items c.args.runs.now = cc (c.in_ok-spliced-in-Longs-Longs.ensures.items) in
    record { cells = spliced_images kind.Long long_cell arm.a.items arm.b.items c.in_ok-spliced-in-Longs-Longs.field-0.items c.args.runs.now c.args.first.now c.args.second.now (ap column_of (sym arm.is-0) ∙ c.first.view_is) (ap column_of (sym arm.is-1) ∙ c.second.view_is) is }

pub returns-in_ok-spliced-in-Truths-Truths : goal.returns-in_ok-spliced-in-Truths-Truths
returns-in_ok-spliced-in-Truths-Truths g c =
    let arm = c.in-Truths-Truths in
    let is : c.in_ok-spliced-in-Truths-Truths.field-0.items ≡ laid arm.a.items arm.b.items c.args.runs.now = cc (c.in_ok-spliced-in-Truths-Truths.ensures.items) in
    record { cells = spliced_images kind.Bool (λ b. cell.Bool b) arm.a.items arm.b.items c.in_ok-spliced-in-Truths-Truths.field-0.items c.args.runs.now c.args.first.now c.args.second.now (ap column_of (sym arm.is-0) ∙ c.first.view_is) (ap column_of (sym arm.is-1) ∙ c.second.view_is) is }

pub returns-in_ok-spliced-in-Times-Times : goal.returns-in_ok-spliced-in-Times-Times
returns-in_ok-spliced-in-Times-Times g c =
    let arm = c.in-Times-Times in
    let is : c.in_ok-spliced-in-Times-Times.field-0.items ≡ laid arm.a.items arm.b.items c.args.runs.now = cc (c.in_ok-spliced-in-Times-Times.ensures.items) in
    record { cells = spliced_images kind.Time time_cell arm.a.items arm.b.items c.in_ok-spliced-in-Times-Times.field-0.items c.args.runs.now c.args.first.now c.args.second.now (ap column_of (sym arm.is-0) ∙ c.first.view_is) (ap column_of (sym arm.is-1) ∙ c.second.view_is) is }
