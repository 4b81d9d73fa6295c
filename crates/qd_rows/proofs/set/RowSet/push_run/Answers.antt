use Rattle.std.proofs.Common.{◌≡◌, ◌∙◌, ◌++◌, List, None, map, ap, sym, subst}
use Rattle.std.specs.Arc.{arc_value}
use Rattle.qd_rows.specs.declared.runs.Run.{Run}
use Rattle.qd_rows.specs.Runs.{Spot, places_of_run}
use Rattle.qd_rows.specs.Sets.{ResultRows, alone, set_of, IsRun, IsSet}
use Rattle.qd_rows.proofs.SetLemmas.{single_more, run_places}
use Rattle.qd_rows.proofs.set.RowSet.push_run.Goals as goal

pub invariant_of-self-2 : goal.invariant_of-self-2
invariant_of-self-2 g c =
    let s = c.self.inside in
    let blocks = map (λ b. arc_value b) s.blocks.items in
    let run : Run = record { block = c.args.block; from = c.args.from; to = c.args.to; before = 0 } in
    let none : s.right ≡ None = ap (λ (t : ResultRows). t.right) c.self.view_is ∙ c.requires.single in
    let there : IsRun s.left blocks (record { block = c.args.block; from = c.args.from; to = c.args.to; before = 0 }) = subst (λ (t : ResultRows). IsRun t.left t.blocks (record { block = c.args.block; from = c.args.from; to = c.args.to; before = 0 })) (sym c.self.view_is) c.requires.there in
    let more = single_more s.left s.right blocks s.lefts (places_of_run run) s.rights.items none c.self.invariant (run_places s.left s.right blocks run none there) in
    subst (λ (ls : List Spot). IsSet s.left s.right blocks ls s.rights.items) (sym c.in_ok-push_run.ensures.ok) more.is

pub returns-clause-ok : goal.returns-clause-ok
returns-clause-ok g c =
    let s = c.self.inside in
    let blocks = map (λ b. arc_value b) s.blocks.items in
    let run : Run = record { block = c.args.block; from = c.args.from; to = c.args.to; before = 0 } in
    let none : s.right ≡ None = ap (λ (t : ResultRows). t.right) c.self.view_is ∙ c.requires.single in
    let there : IsRun s.left blocks (record { block = c.args.block; from = c.args.from; to = c.args.to; before = 0 }) = subst (λ (t : ResultRows). IsRun t.left t.blocks (record { block = c.args.block; from = c.args.from; to = c.args.to; before = 0 })) (sym c.self.view_is) c.requires.there in
    let more = single_more s.left s.right blocks s.lefts (places_of_run run) s.rights.items none c.self.invariant (run_places s.left s.right blocks run none there) in
    ap (λ (ls : List Spot). set_of s.left s.right blocks ls s.rights.items) c.in_ok-push_run.ensures.ok ∙ more.shown ∙ ap (λ (t : ResultRows). record t { places = t.places ++ alone (places_of_run run) }) c.self.view_is
