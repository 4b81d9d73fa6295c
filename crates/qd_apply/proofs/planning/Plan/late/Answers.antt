use Rattle.std.proofs.Common.{◌∙◌, ℕ, List, map, ap}
use Rattle.std.specs.Prelude.{Vec}
use Rattle.std.specs.declared.alloc.Global.{Global}
use Rattle.qd_apply.specs.Drafts.{Planning}
use Rattle.qd_apply.specs.Olds.{all_late}
use Rattle.qd_apply.specs.Plans.{planned_table}
use Rattle.qd_apply.proofs.ServeLemmas.{late_shown}
use Rattle.qd_apply.proofs.planning.Plan.late.Goals as goal

pub returns : goal.returns
returns c =
    let i = c.self.inside in
    let counts : List (List ℕ) = map (λ (v : Vec ℕ Global). v.items) c.self.inside.written.items in
    record {
      late = c.as_slice.ensures.value ∙ c.self.invariant.late ∙ late_shown 0 counts i.split_rows i.shape (map planned_table i.plans.items) i.plans.items c.self.invariant.plans
          ∙ ap (λ (d : Planning). all_late 0 d.written d.split_rows d.shape d.tables) c.self.view_is;
    }
