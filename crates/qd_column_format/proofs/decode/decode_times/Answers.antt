use Rattle.std.proofs.Common.{◌≡◌, ◌∙◌, ◌*◌, ◌<◌, ◌^◌, refl, sym, subst, length, map, drop, arith}
use Rattle.qd_base.specs.declared.schema.ColType.TheVariants as kind
use Rattle.qd_column.specs.Cells.{CellsOf, time_cell}
use Rattle.qd_column_format.specs.Reading.{IsReadColumn}
use Rattle.qd_column_format.specs.Added.{column_of}
use Rattle.qd_column_format.proofs.ColumnLemmas.{time_column, column_read}
use Rattle.qd_column_format.proofs.decode.decode_times.Goals as goal

pub returns-clause-ok : goal.returns-clause-ok
returns-clause-ok g c = λ aux.
    let ts = c.in_ok-times.times.items in
    let main = c.args.main.now in
    let rows = c.args.rows in
    let size : length ts ≡ rows = c.in_ok-times.ensures.count ∙ c.in_ok-count.ensures.rows in
    let few : rows < 2 ^ 63 = omega (arith, c.in_ok-count.ensures.there) in
    subst (λ (column : CellsOf). IsReadColumn kind.Time rows main aux column) (sym c.of_times.ensures.column) (column_read (column_of kind.Time (map time_cell ts)) ts main aux rows (time_column ts c.in_ok-times.ensures.fit) size few (drop (8 * c.in_ok-count.count) main, c.in_ok-times.ensures.bytes) (aux, refl))
