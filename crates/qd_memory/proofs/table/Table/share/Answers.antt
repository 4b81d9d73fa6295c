use Rattle.std.proofs.Common.{◌≡◌, ◌∙◌, [], ap, sym, subst}
use Rattle.qd_memory.specs.Kept.{waiting_in, IsKept, Kept}
use Rattle.qd_memory.proofs.ChangeLemmas.{same_table}
use Rattle.qd_memory.proofs.table.Table.share.Goals as goal

pub invariant_of-result : goal.invariant_of-result
invariant_of-result c =
    let i = c.self.inside in
    let none : waiting_in i.waiting ≡ [] = ap (λ (t : Kept). t.waiting) c.self.view_is ∙ c.requires.settled in
    record {
      kept = subst IsKept (sym (same_table i.schema c.in_ok-schema.schema i.slots.items c.in_ok-slots.slots.items i.parts c.in_ok-parts.parts (waiting_in i.waiting) [] c.in_ok-schema.ensures.same (c.in_ok-slots.ensures.same ∙ c.as_slice.ensures.value) c.in_ok-parts.ensures.same (sym none))) c.self.invariant.kept;
      begun = tt;
    }

pub returns : goal.returns
returns c =
    let i = c.self.inside in
    let none : waiting_in i.waiting ≡ [] = ap (λ (t : Kept). t.waiting) c.self.view_is ∙ c.requires.settled in
    record { same = same_table i.schema c.in_ok-schema.schema i.slots.items c.in_ok-slots.slots.items i.parts c.in_ok-parts.parts (waiting_in i.waiting) [] c.in_ok-schema.ensures.same (c.in_ok-slots.ensures.same ∙ c.as_slice.ensures.value) c.in_ok-parts.ensures.same (sym none) ∙ c.self.view_is }
