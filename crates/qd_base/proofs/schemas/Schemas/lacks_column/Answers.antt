use Rattle.std.proofs.Common.{IsNone, sym}
use Rattle.std.proofs.lemmas.Option.{get_or_from_slice_get}
use Rattle.qd_base.specs.Schemas.{column_at}
use Rattle.qd_base.proofs.Tables.{lacks_at, tested_none, table_within}
use Rattle.qd_base.proofs.schemas.Schemas.lacks_column.Goals as goal

pub get-requires : goal.get-requires
get-requires c = rw c.self.view_is (table_within c.args.self.now c.args.table.now c.in-Some.i c.in-Some.ensures.position)

pub returns-in-Some : goal.returns-in-Some
returns-in-Some c = record {
  lacks =
      lacks_at c.args.self.now c.self.inside.list c.args.table.now c.args.column.now c.in-Some.i c.get.result.now c.find_column.result c.is_none.result c.self.view_is c.in-Some.ensures.position
      (sym (get_or_from_slice_get c.self.inside.list c.in-Some.i c.get.result.now c.get.result.now c.get.ensures.item)) c.find_column.ensures.position c.is_none.ensures;
}

pub returns-in-None : goal.returns-in-None
returns-in-None c = record { lacks = tested_none (λ t. IsNone (column_at t.cols c.args.column.now)) c.args.self.now c.args.table.now c.in-None.ensures.position }
