use Rattle.std.proofs.Common.{◌≡◌, ◌∙◌, ℕ, ℤ, pos, Bool, false, List, ap, sym, map, get_or, slice_range}
use Rattle.qd_base.specs.declared.cell.Cell.TheVariants as cell
use Rattle.qd_base.specs.declared.schema.ColType.TheVariants as kind
use Rattle.qd_column.specs.Cells.{long_cell, time_cell}
use Rattle.qd_column.specs.Columns.{column_of}
use Rattle.qd_column.proofs.ColumnLemmas.{chosen_images}
use Rattle.qd_column.proofs.column.Column.gathered.Goals as goal

pub returns-in_ok-gathered-in-Longs : goal.returns-in_ok-gathered-in-Longs
returns-in_ok-gathered-in-Longs g c = record { cells = chosen_images kind.Long long_cell (pos 0) c.in-Longs.longs.items c.in_ok-gathered-in-Longs.field-0.items c.args.places.now c.args.self.now (ap column_of (sym c.in-Longs.is) ∙ c.self.view_is) c.requires (c.in_ok-gathered-in-Longs.ensures.items (pos 0) ∙ ap (λ xs. map (λ i. get_or xs i (pos 0)) c.args.places.now) c.as_slice.ensures.value) }

pub returns-in_ok-gathered-in-Truths : goal.returns-in_ok-gathered-in-Truths
returns-in_ok-gathered-in-Truths g c = record { cells = chosen_images kind.Bool (λ b. cell.Bool b) false c.in-Truths.truths.items c.in_ok-gathered-in-Truths.field-0.items c.args.places.now c.args.self.now (ap column_of (sym c.in-Truths.is) ∙ c.self.view_is) c.requires (c.in_ok-gathered-in-Truths.ensures.items false ∙ ap (λ xs. map (λ i. get_or xs i false) c.args.places.now) c.as_slice-in-Truths.ensures.value) }

pub returns-in_ok-gathered-in-Times : goal.returns-in_ok-gathered-in-Times
returns-in_ok-gathered-in-Times g c = record { cells = chosen_images kind.Time time_cell 0 c.in-Times.times.items c.in_ok-gathered-in-Times.field-0.items c.args.places.now c.args.self.now (ap column_of (sym c.in-Times.is) ∙ c.self.view_is) c.requires (c.in_ok-gathered-in-Times.ensures.items 0 ∙ ap (λ xs. map (λ i. get_or xs i 0) c.args.places.now) c.as_slice-in-Times.ensures.value) }
