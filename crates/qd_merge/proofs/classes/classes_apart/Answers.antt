use Rattle.std.proofs.Common.{◌≡◌, ◌∙◌, ◌∷◌, ◌++◌, [], ℕ, List, ap, subst, sym, length, arith}
use Rattle.std.proofs.lemmas.Result.{IfOk-weaker}
use Rattle.qd_merge.specs.Classes.{AreClasses, AreRefined}
use Rattle.qd_merge.proofs.ClassLemmas.{classes_more, lent_exact}
use Rattle.qd_merge.proofs.classes.classes_apart.Goals as goal

pub returns : goal.returns
returns c =
    record {
      apart = λ keys key rows are shown. IfOk-weaker c.refined.result _ _ (λ v h. classes_more keys key rows c.args.classes.now _ c.args.cells.now c.in_ok-numbers.numbers.items v.items lent_exact are shown c.in_ok-numbers.ensures.numbers (subst (λ (ns : List ℕ). AreRefined c.args.classes.now ns v.items) c.as_slice.ensures.value h)) c.refined.ensures.refined;
    }
