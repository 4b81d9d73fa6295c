use Rattle.std.proofs.lemmas.Result.{err_from_is_err_and}
use Rattle.qd_bind.proofs.DeepLemmas.{test_deep, first_deep, rest_deep}
use Rattle.qd_bind.proofs.expr.Binder.test.Goals as goal

pub returns-in_err-left : goal.returns-in_err-left
returns-in_err-left g c =
    let p = err_from_is_err_and c.from_residual.result c.from_residual.ensures.1 in
    rw (p.1, p.2) (record { bound = tt; too_deep = first_deep c.in_err-left.field-0.0 c.args.depth _ _ _ (test_deep c.args.test.now) c.in_err-left.ensures.too_deep })

pub returns-clause-too_deep : goal.returns-clause-too_deep
returns-clause-too_deep g c = rest_deep c.check.result c.args.depth _ _ _ (test_deep c.args.test.now) c.check.ensures.too_deep
