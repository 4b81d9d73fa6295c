use Rattle.std.proofs.Common.{◌≡◌, map, take}
use Rattle.qd_store.specs.Grown.{rows_written}
use Rattle.qd_store.proofs.book.Book.rows_written.Given as goal

abbrev pub invariant-loop-table : goal.invariant-loop-table
invariant-loop-table l = map (λ rows. rows.items) l.list.items ≡ rows_written l.self.versions.versions (take l.table-index l.table-items)
