use Rattle.std.proofs.Common.{◌≡◌, ◌∙◌, ℕ, ℤ, pos, Bool, false, List, ap, sym, map, get_or, slice_range}
use Rattle.qd_base.specs.declared.cell.Cell.TheVariants as cell
use Rattle.qd_base.specs.declared.schema.ColType.TheVariants as kind
use Rattle.qd_column.specs.Cells.{long_cell, time_cell}
use Rattle.qd_column.specs.Columns.{column_of}
use Rattle.qd_column.proofs.ColumnLemmas.{part_images}
use Rattle.qd_column.proofs.column.Column.part.Goals as goal

pub returns-in_ok-part_of-in-Longs : goal.returns-in_ok-part_of-in-Longs
returns-in_ok-part_of-in-Longs g c = record { cells = part_images kind.Long long_cell c.in-Longs.longs.items c.in_ok-part_of-in-Longs.field-0.items c.args.from c.args.to c.args.self.now (ap column_of (sym c.in-Longs.is) ∙ c.self.view_is) (c.in_ok-part_of-in-Longs.ensures.items ∙ ap (λ xs. slice_range xs c.args.from c.args.to) c.as_slice.ensures.value) }

pub returns-in_ok-part_of-in-Truths : goal.returns-in_ok-part_of-in-Truths
returns-in_ok-part_of-in-Truths g c = record { cells = part_images kind.Bool (λ b. cell.Bool b) c.in-Truths.truths.items c.in_ok-part_of-in-Truths.field-0.items c.args.from c.args.to c.args.self.now (ap column_of (sym c.in-Truths.is) ∙ c.self.view_is) (c.in_ok-part_of-in-Truths.ensures.items ∙ ap (λ xs. slice_range xs c.args.from c.args.to) c.as_slice-in-Truths.ensures.value) }

pub returns-in_ok-part_of-in-Times : goal.returns-in_ok-part_of-in-Times
returns-in_ok-part_of-in-Times g c = record { cells = part_images kind.Time time_cell c.in-Times.times.items c.in_ok-part_of-in-Times.field-0.items c.args.from c.args.to c.args.self.now (ap column_of (sym c.in-Times.is) ∙ c.self.view_is) (c.in_ok-part_of-in-Times.ensures.items ∙ ap (λ xs. slice_range xs c.args.from c.args.to) c.as_slice-in-Times.ensures.value) }
