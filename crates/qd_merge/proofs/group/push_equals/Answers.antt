use Rattle.std.proofs.Common.{◌≡◌, ◌∙◌, ◌++◌, ◌-◌, ◌<◌, ℕ, Bool, List, All, ap, sym, subst, length, get_or, arith}
use Rattle.std.proofs.lemmas.Result.{on_ok_weaker}
use Rattle.qd_merge.proofs.Among.{classes_taken, front_within}
use Rattle.qd_merge.specs.Equals.{seconds}
use Rattle.qd_merge.specs.Replaced.{stand_behind}
use Rattle.qd_merge.proofs.group.push_equals.Goals as goal

pub returns : goal.returns
returns c =
    let g = c.args.group.now in
    let taken_are = ap (stand_behind (g.to - g.from)) c.as_slice.ensures.value ∙ classes_taken c.args.keys.now g.batch.now.kinds g.block.now.rows g.batch.now.rows g.from g.to g.start g.end c.in_ok-classes.classes.items c.requires.within.ordered c.requires.within.block c.in_ok-classes.ensures.classes in
    record { added = on_ok_weaker c.push_taken.result (λ h. h ∙ ap (λ (l : List Bool). c.args.gone.now.items ++ l) taken_are) c.push_taken.ensures.added }

pub push_taken-requires-clause-count : goal.push_taken-requires-clause-count
push_taken-requires-clause-count c =
    let g = c.args.group.now in
    let are = c.in_ok-classes.ensures.classes in
    omega (arith, front_within g.batch.now.kinds g.block.now.rows (seconds g) g.from g.to c.requires.within.block, are.count, ap length c.as_slice.ensures.value)

pub push_taken-requires-clause-below : goal.push_taken-requires-clause-below
push_taken-requires-clause-below c =
    let are = c.in_ok-classes.ensures.classes in
    subst (λ (cs : List ℕ). All (λ x. x < length cs) cs) (sym c.as_slice.ensures.value) (λ k d lt. subst (λ (n : ℕ). get_or c.in_ok-classes.classes.items k d < n) (sym are.count) (are.below k d lt))
