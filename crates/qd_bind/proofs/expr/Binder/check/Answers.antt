use Rattle.std.proofs.Common.{List, sym, ap, ap₂, ◌∙◌}
use Rattle.qd_sql_ast.specs.declared.tree.Check.{Check}
use Rattle.qd_sql_ast.specs.declared.tree.Plus.{Plus}
use Rattle.qd_sql_ast.specs.declared.tree.Lit.{Lit}
use Rattle.qd_bind.specs.Listed as listed
use Rattle.qd_bind.specs.Scoped.{scope}
use Rattle.qd_bind.specs.Seen.{typed}
use Rattle.qd_bind.specs.Steps as steps
use Rattle.qd_meaning.specs.Binding as binding
use Rattle.qd_bind.proofs.FoldLemmas.{compare_typed, list_typed, within_typed}
use Rattle.qd_bind.proofs.ListLemmas.{list_seen}
use Rattle.qd_bind.proofs.StepLemmas.{compared_seen, within_seen}
use Rattle.qd_bind.proofs.expr.Binder.check.Goals as goal

pub returns-in_ok-compared-in-Compare : goal.returns-in_ok-compared-in-Compare
returns-in_ok-compared-in-Compare g c =
    let columns = scope c.args.self.now.columns.now in
    let op = binding.comparison_of c.in-Compare.op in
    let y = binding.typed_plus columns c.in-Compare.right in
    record {
      bound = λ x l. c.in_ok-compared-in-Compare.ensures.compared
          ∙ ap₂ (λ o r. steps.compared o c.in-Compare.at c.args.left r) c.comparison.ensures (c.in_ok-right-in-Compare.ensures.bound ∙ ap (λ (p : Plus). typed (binding.typed_plus columns p)) c.get.ensures)
          ∙ ap (λ z. steps.compared op c.in-Compare.at z (typed y)) l
          ∙ compared_seen op c.in-Compare.at x y
          ∙ ap typed (sym (compare_typed columns c.in-Compare.op c.in-Compare.at c.in-Compare.right x))
          ∙ ap (λ (k : Check). typed (binding.typed_check columns k x)) (sym c.in-Compare.is);
      too_deep = tt;
    }

pub returns-in_ok-in_list-in-InList : goal.returns-in_ok-in_list-in-InList
returns-in_ok-in_list-in-InList g c =
    let columns = scope c.args.self.now.columns.now in
    record {
      bound = λ x l. c.in_ok-in_list-in-InList.ensures.list
          ∙ ap₂ (λ z (ls : List Lit). steps.among z c.in-InList.at (listed.listing z.class ls)) l c.as_slice.ensures.items
          ∙ list_seen x c.in-InList.at c.in-InList.lits
          ∙ ap typed (sym (list_typed columns c.in-InList.at c.in-InList.lits x))
          ∙ ap (λ (k : Check). typed (binding.typed_check columns k x)) (sym c.in-InList.is);
      too_deep = tt;
    }

pub returns-in_ok-in_text-in-InText : goal.returns-in_ok-in_text-in-InText
returns-in_ok-in_text-in-InText g c =
    let columns = scope c.args.self.now.columns.now in
    record {
      bound = λ x l. c.in_ok-in_text-in-InText.ensures.within
          ∙ ap (λ z. steps.in_text z c.in-InText.at c.in-InText.text.text c.in-InText.text.at) l
          ∙ within_seen x c.in-InText.at c.in-InText.text.text c.in-InText.text.at
          ∙ ap typed (sym (within_typed columns c.in-InText.at c.in-InText.text x))
          ∙ ap (λ (k : Check). typed (binding.typed_check columns k x)) (sym c.in-InText.is);
      too_deep = tt;
    }
