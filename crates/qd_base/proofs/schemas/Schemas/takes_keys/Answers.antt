use Rattle.std.proofs.Common.{sym}
use Rattle.std.proofs.lemmas.Option.{get_or_from_slice_get}
use Rattle.qd_base.specs.Schemas.{AreKeys}
use Rattle.qd_base.proofs.Tables.{table_within, tested_at, tested_none}
use Rattle.qd_base.proofs.schemas.Schemas.takes_keys.Goals as goal

pub get-requires : goal.get-requires
get-requires c = rw c.self.view_is (table_within c.args.self.now c.args.table.now c.in-Some.i c.in-Some.ensures.position)

pub returns-in-Some : goal.returns-in-Some
returns-in-Some c = record {
  takes =
      tested_at (λ t. AreKeys t.cols t.time_col c.args.keys.now) c.args.self.now c.self.inside.list c.args.table.now c.in-Some.i c.get.result.now c.takes_keys.result c.self.view_is c.in-Some.ensures.position
      (sym (get_or_from_slice_get c.self.inside.list c.in-Some.i c.get.result.now c.get.result.now c.get.ensures.item)) c.takes_keys.ensures.keys;
}

pub returns-in-None : goal.returns-in-None
returns-in-None c = record { takes = tested_none (λ t. AreKeys t.cols t.time_col c.args.keys.now) c.args.self.now c.args.table.now c.in-None.ensures.position }
