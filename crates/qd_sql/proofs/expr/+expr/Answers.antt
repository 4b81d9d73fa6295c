use Rattle.std.proofs.Common.{◌≡◌, arith, refl}
use Rattle.qd_sql.specs.Exprs.{expr}
use Rattle.qd_sql_ast.proofs.Turns.{deeper}
use Rattle.qd_sql.proofs.expr.+expr.Goals as goal

-- the limit is reached
pub returns-then-depth-eq0 : goal.returns-then-depth-eq0
unfolding expr
returns-then-depth-eq0 t c =
    let none : c.args.depth ≡ 0 = omega (arith, c.if-depth-eq0.true) in
    rw none refl

pub returns : goal.returns
unfolding expr
returns t c = rw (deeper (λ n. expr n c.args.tokens.now) c.args.depth (omega arith)) c.expr.ensures
