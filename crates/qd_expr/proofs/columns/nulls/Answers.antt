use Rattle.std.proofs.Common.{◌≡◌, ◌∙◌, ℕ, Bool, List, map, slice_range, ap, sym, eqb}
use Rattle.qd_base.specs.declared.cell.Cell.{Cell}
use Rattle.qd_column.specs.Cells.{long_cell, time_cell}
use Rattle.qd_value.specs.Cells.{is_null}
use Rattle.qd_base.specs.declared.limits.TheConstants.{NULL_ID}
use Rattle.qd_column.specs.Symbols.{symbol_cell, texts_in}
use Rattle.qd_expr.proofs.ListLemmas.{image_by, part_image}
use Rattle.qd_expr.proofs.LiteralLemmas.{null_id}
use Rattle.qd_expr.proofs.columns.nulls.Goals as goal

pub returns-in_ok-longs_null-in-Long : goal.returns-in_ok-longs_null-in-Long
returns-in_ok-longs_null-in-Long g c =
    record {
      truths = c.in_ok-longs_null-in-Long.ensures.truths ∙ part_image is_null long_cell c.longs.result.now c.args.from c.args.to
          ∙ ap (λ (cells : List Cell). map is_null (slice_range cells c.args.from c.args.to)) (sym c.longs.ensures.cells);
    }

pub returns-in_ok-times_null-in-Time : goal.returns-in_ok-times_null-in-Time
returns-in_ok-times_null-in-Time g c =
    record {
      truths = c.in_ok-times_null-in-Time.ensures.truths ∙ part_image is_null time_cell c.times.result.now c.args.from c.args.to
          ∙ ap (λ (cells : List Cell). map is_null (slice_range cells c.args.from c.args.to)) (sym c.times.ensures.cells);
    }

pub returns-in_ok-ids_null-in-Symbol : goal.returns-in_ok-ids_null-in-Symbol
returns-in_ok-ids_null-in-Symbol g c =
    let texts = texts_in c.args.column.now.cells in
    record {
      truths = image_by (λ x. eqb x NULL_ID) (symbol_cell texts) is_null _ c.symbols.result.now c.args.column.now.cells c.args.from c.args.to (null_id texts) c.in_ok-ids_null-in-Symbol.ensures.truths c.symbols.ensures.cells;
    }
