use Rattle.std.proofs.Common.{rules, codes}
use Rattle.qd_sql_ast.specs.Steps.{word}
use Rattle.qd_sql.specs.Exprs.{nots}
use Rattle.qd_sql.proofs.expr.nots.Goals as goal

pub returns : goal.returns
unfolding nots
returns c = c.offsets.ensures (word (codes "NOT")) (record { takes = search rules })
