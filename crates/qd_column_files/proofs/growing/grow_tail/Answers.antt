use Rattle.std.proofs.lemmas.Result.{err_from_is_err_and}
use Rattle.qd_io.specs.declared.fault.IoFault.{IoFault}
use Rattle.qd_column_files.proofs.GrowLemmas.{on_ok, tail_grows, tail_ungrown}
use Rattle.qd_column_files.proofs.growing.grow_tail.Goals as goal

pub returns-in_err-bytes-clause-told : goal.returns-in_err-bytes-clause-told
returns-in_err-bytes-clause-told g c =
    let p = err_from_is_err_and c.from_residual.result c.from_residual.ensures.1 in
    rw p.1 (tail_ungrown (Unit {0}) IoFault _ p.0 c.args.block c.args.col c.args.from c.args.tail.now c.args.rows.now)

pub returns-clause-told : goal.returns-clause-told
returns-clause-told g c = tail_grows (Unit {0}) IoFault c.grow_column.result c.args.block c.args.col c.args.from c.args.tail.now c.added.new.self c.args.rows.now c.in_ok-bytes.bytes _ _ c.in_ok-bytes.ensures.added c.grow_column.ensures.told

pub returns-clause-tail : goal.returns-clause-tail
returns-clause-tail g c = λ first goes. on_ok _ c.grow_column.result ((c.in_ok-bytes.ensures.added first goes.kind goes.count goes.itself goes.goes_on).behind)
