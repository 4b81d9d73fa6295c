use Rattle.std.proofs.Common.{◌≡◌, ◌∙◌, ◌<◌, ap, sym, subst, length, map, get_or, Option, None, List, [], All, arith}
use Rattle.std.specs.Arc.{arc_value}
use Rattle.std.proofs.lemmas.List.{get_or_default}
use Rattle.qd_base.specs.declared.schema.Col.{Col}
use Rattle.qd_rows.specs.declared.runs.Run.{Run}
use Rattle.qd_rows.specs.Runs.{Spot, no_run, places_of_runs, AreRuns}
use Rattle.qd_rows.specs.Sets.{ResultRows, Joined, paired, alone, KeepsRights, IsPlace, IsRun}
use Rattle.qd_rows.proofs.SetLemmas.{length-paired, lefts-paired, paired-none, run_there}
use Rattle.qd_rows.proofs.set.RowSet.runs.Goals as goal

pub returns-clause-left : goal.returns-clause-left
returns-clause-left g c = ap (λ (s : ResultRows). map (λ (p : Joined). p.0) s.places) (sym c.self.view_is) ∙ lefts-paired c.self.inside.lefts c.self.inside.rights.items ∙ sym c.as_slice.ensures.places

pub returns-clause-rows : goal.returns-clause-rows
returns-clause-rows g c = λ none.
    let lefts = c.self.inside.lefts in
    let rights = c.self.inside.rights.items in
    let no_rights : rights ≡ [] = subst (λ (r : Option (List Col)). KeepsRights r lefts rights) (ap (λ (s : ResultRows). s.right) c.self.view_is ∙ none) c.self.invariant.kept in
    ap (λ (s : ResultRows). s.places) (sym c.self.view_is) ∙ ap (λ (rs : List (Option Spot)). paired lefts rs) no_rights ∙ paired-none lefts ∙ ap alone (sym c.as_slice.ensures.places)

pub returns-clause-before : goal.returns-clause-before
returns-clause-before g c =
    let count = sym (length-paired c.self.inside.lefts c.self.inside.rights.items) ∙ ap (λ (s : ResultRows). length s.places) c.self.view_is in
    subst (AreRuns 0 c.as_slice.result.now) count c.as_slice.ensures.runs

pub returns-clause-each : goal.returns-clause-each
returns-clause-each g c = λ k d low.
    let runs = c.as_slice.result.now in
    let s = c.self.inside in
    let blocks = map (λ b. arc_value b) s.blocks.items in
    let each : All (IsPlace s.left s.right blocks) (paired (places_of_runs runs) s.rights.items) = subst (λ (ls : List Spot). All (IsPlace s.left s.right blocks) (paired ls s.rights.items)) (sym c.as_slice.ensures.places) c.self.invariant.each in
    let there : IsRun s.left blocks (get_or runs k no_run) = run_there s.left s.right blocks runs s.rights.items (length s.lefts) k c.as_slice.ensures.runs each low in
    subst (λ (r : Run). IsRun c.args.self.now.left c.args.self.now.blocks r) (get_or_default runs k no_run d low) (subst (λ (t : ResultRows). IsRun t.left t.blocks (get_or runs k no_run)) c.self.view_is there)
