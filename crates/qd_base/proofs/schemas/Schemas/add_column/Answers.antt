use Rattle.std.proofs.lemmas.Result.{on_ok_weaker}
use Rattle.qd_base.proofs.Tables.{column_added, table_within}
use Rattle.qd_base.proofs.schemas.Schemas.add_column.Goals as goal

pub widen-requires : goal.widen-requires
widen-requires c = table_within c.args.self.now c.args.table.now c.in-Some.i c.in-Some.ensures.position

pub returns-in-Some-clause-ok : goal.returns-in-Some-clause-ok
returns-in-Some-clause-ok c =
    on_ok_weaker c.widen.result
    (column_added c.args.self.now c.widen.new.self c.args.table.now c.args.col.now c.in_ok-col.col c.in-Some.i c.in-Some.ensures.position c.in_ok-col.ensures.same)
    c.widen.ensures.ok
