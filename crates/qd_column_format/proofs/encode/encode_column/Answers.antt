use Rattle.std.proofs.Common.{length, ap, arith}
use Rattle.std.proofs.lemmas.List.{length-map}
use Rattle.qd_base.specs.Rows.{Row, cell_at}
use Rattle.qd_column.specs.Cells.{CellsOf}
use Rattle.qd_column_format.proofs.encode.encode_column.Goals as goal

pub encode_rows-requires : goal.encode_rows-requires
encode_rows-requires g c = omega (arith, c.requires.from, ap (λ (x : CellsOf). length x.cells) c.column.ensures.column, length-map c.args.block.now.rows (λ (r : Row). cell_at r c.args.col))
