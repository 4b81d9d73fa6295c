use Rattle.std.proofs.Common.{rules}
use Rattle.qd_sql_lexer.specs.declared.token.Kind.TheVariants as kind
use Rattle.qd_sql_ast.specs.Steps.{sign}
use Rattle.qd_sql.specs.Exprs.{minuses}
use Rattle.qd_sql.proofs.expr.minuses.Goals as goal

pub returns : goal.returns
unfolding minuses
returns c = c.offsets.ensures (sign kind.Minus) (record { takes = search rules })
