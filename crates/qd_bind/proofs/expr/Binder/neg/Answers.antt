use Rattle.std.proofs.Common.{ℕ, Err, ◌+◌, length, sym, ap, ap₂, ◌∙◌}
use Rattle.std.proofs.lemmas.Result.{err_from_is_err_and}
use Rattle.qd_sql_ast.specs.declared.tree.Neg.{out-Neg}
use Rattle.qd_bind.specs.Scoped.{scope}
use Rattle.qd_bind.specs.Seen.{typed}
use Rattle.qd_bind.specs.Steps as steps
use Rattle.qd_meaning.specs.Binding as binding
use Rattle.qd_sql_ast.specs.Nesting.{depth_test}
use Rattle.qd_bind.proofs.DeepLemmas.{neg_deep, room_deep, words_deep}
use Rattle.qd_bind.proofs.FoldLemmas.{neg_out}
use Rattle.qd_bind.proofs.StepLemmas.{nots_seen}
use Rattle.qd_bind.proofs.expr.Binder.neg.Goals as goal

pub returns-in_err-rest : goal.returns-in_err-rest
returns-in_err-rest g c =
    let p = err_from_is_err_and c.from_residual.result c.from_residual.ensures.1 in
    rw (p.1, p.2) (record { bound = tt; too_deep = room_deep c.in_err-rest.field-0.0 c.args.depth _ c.len.result _ (neg_deep c.args.neg.now ∙ ap (λ (k : ℕ). k + depth_test length (out-Neg c.args.neg.now).test) (sym c.len.ensures.count)) c.in_err-rest.ensures.too_deep })

pub returns-in_err-found : goal.returns-in_err-found
returns-in_err-found g c =
    let p = err_from_is_err_and c.from_residual-in_err-found.result c.from_residual-in_err-found.ensures.1 in
    rw (p.1, p.2) (record { bound = tt; too_deep = words_deep (Err c.in_err-found.field-0.0) c.args.depth _ c.len.result _ c.in_ok-rest.rest (neg_deep c.args.neg.now ∙ ap (λ (k : ℕ). k + depth_test length (out-Neg c.args.neg.now).test) (sym c.len.ensures.count)) c.in_ok-rest.ensures.rest c.in_err-found.ensures.too_deep })

pub returns : goal.returns
returns g c =
    let columns = scope c.args.self.now.columns.now in
    record {
      bound = c.in_ok-made.ensures.nots
          ∙ ap₂ (steps.behind steps.not_of) c.in_ok-found.ensures.bound c.as_slice.ensures.items
          ∙ nots_seen (binding.typed_test columns (out-Neg c.args.neg.now).test) (out-Neg c.args.neg.now).nots
          ∙ ap typed (sym (neg_out columns c.args.neg.now));
      too_deep = tt;
    }
