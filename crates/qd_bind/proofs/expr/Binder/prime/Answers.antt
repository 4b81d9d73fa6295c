use Rattle.std.proofs.Common.{sym, ap, ◌∙◌}
use Rattle.qd_sql_ast.specs.declared.tree.Column.{Column}
use Rattle.qd_sql_ast.specs.declared.tree.Prime.{Prime}
use Rattle.qd_meaning.specs.Binding as binding
use Rattle.qd_meaning.specs.Scopes.{resolved}
use Rattle.qd_bind.specs.Scoped.{scope}
use Rattle.qd_bind.specs.Seen.{typed}
use Rattle.qd_bind.proofs.FoldLemmas.{column_typed}
use Rattle.qd_bind.proofs.expr.Binder.prime.Goals as goal

pub returns-in_ok-named-in-Column : goal.returns-in_ok-named-in-Column
returns-in_ok-named-in-Column g c =
    let columns = scope c.args.self.now.columns.now in
    record {
      bound = c.in_ok-named-in-Column.ensures.named
          ∙ ap (λ (n : Column). typed (binding.named_column (resolved columns n))) c.get.ensures
          ∙ ap typed (sym (column_typed columns c.in-Column.name))
          ∙ ap (λ (p : Prime). typed (binding.typed_prime columns p)) (sym c.in-Column.is);
      too_deep = tt;
    }
