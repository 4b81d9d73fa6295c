use Rattle.std.proofs.Common.{◌≡◌, ◌∙◌, ◌++◌, ◌∷◌, [], List, Option, None, map, ap, sym, subst, All}
use Rattle.std.specs.Arc.{arc_value}
use Rattle.std.proofs.lemmas.List.Elements.{All-nil, All-cons}
use Rattle.qd_base.specs.declared.schema.Col.{Col}
use Rattle.qd_rows.specs.Runs.{Spot}
use Rattle.qd_rows.specs.Sets.{ResultRows, alone, set_of, with_place, IsPlace, IsRight, IsSet}
use Rattle.qd_rows.proofs.SetLemmas.{single_more}
use Rattle.qd_rows.proofs.set.RowSet.push_row.Goals as goal

pub invariant_of-self-in-None : goal.invariant_of-self-in-None
invariant_of-self-in-None g c =
    let s = c.self.inside in
    let blocks = map (λ b. arc_value b) s.blocks.items in
    let there : IsPlace s.left s.right blocks (c.args.left, c.args.right) = subst (λ (t : ResultRows). IsPlace t.left t.right t.blocks (c.args.left, c.args.right)) (sym c.self.view_is) c.requires in
    let single : c.args.right ≡ None = subst (λ (o : Option (List Col)). IsRight blocks o c.args.right) c.in-None.is there.right in
    let each : All (IsPlace s.left s.right blocks) (alone (c.args.left ∷ [])) = All-cons (IsPlace s.left s.right blocks) (c.args.left, None) [] (subst (λ (r : Option Spot). IsPlace s.left s.right blocks (c.args.left, r)) single there) (All-nil (IsPlace s.left s.right blocks)) in
    let more = single_more s.left s.right blocks s.lefts (c.args.left ∷ []) s.rights.items c.in-None.is c.self.invariant each in
    subst (λ (ls : List Spot). IsSet s.left s.right blocks ls s.rights.items) (sym c.in_ok-push-in-None.ensures.ok) more.is

pub returns-in_ok-push-in-None-clause-ok : goal.returns-in_ok-push-in-None-clause-ok
returns-in_ok-push-in-None-clause-ok g c =
    let s = c.self.inside in
    let blocks = map (λ b. arc_value b) s.blocks.items in
    let there : IsPlace s.left s.right blocks (c.args.left, c.args.right) = subst (λ (t : ResultRows). IsPlace t.left t.right t.blocks (c.args.left, c.args.right)) (sym c.self.view_is) c.requires in
    let single : c.args.right ≡ None = subst (λ (o : Option (List Col)). IsRight blocks o c.args.right) c.in-None.is there.right in
    let each : All (IsPlace s.left s.right blocks) (alone (c.args.left ∷ [])) = All-cons (IsPlace s.left s.right blocks) (c.args.left, None) [] (subst (λ (r : Option Spot). IsPlace s.left s.right blocks (c.args.left, r)) single there) (All-nil (IsPlace s.left s.right blocks)) in
    let more = single_more s.left s.right blocks s.lefts (c.args.left ∷ []) s.rights.items c.in-None.is c.self.invariant each in
    ap (λ (ls : List Spot). set_of s.left s.right blocks ls s.rights.items) c.in_ok-push-in-None.ensures.ok ∙ more.shown ∙ ap (λ (t : ResultRows). with_place t (c.args.left, None)) c.self.view_is ∙ ap (λ (r : Option Spot). with_place c.args.self.now (c.args.left, r)) (sym single)
