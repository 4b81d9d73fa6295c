use Rattle.std.proofs.Common.{◌≡◌, ◌≢◌, ◌∙◌, ◌++◌, ◌∷◌, [], List, Option, None, map, ap, sym, subst}
use Rattle.std.specs.Arc.{arc_value}
use Rattle.qd_base.specs.declared.schema.Col.{Col}
use Rattle.qd_rows.specs.Runs.{Spot}
use Rattle.qd_rows.specs.Sets.{ResultRows, set_of, with_place, IsPlace, IsSet}
use Rattle.qd_rows.proofs.SetLemmas.{joined_more}
use Rattle.qd_rows.proofs.set.RowSet.push_joined.Goals as goal

pub invariant_of-self-2 : goal.invariant_of-self-2
invariant_of-self-2 g c =
    let s = c.self.inside in
    let blocks = map (λ b. arc_value b) s.blocks.items in
    let there : IsPlace s.left s.right blocks (c.args.left, c.args.right) = subst (λ (t : ResultRows). IsPlace t.left t.right t.blocks (c.args.left, c.args.right)) (sym c.self.view_is) c.requires.there in
    let some : s.right ≢ None = subst (λ (t : ResultRows). t.right ≢ None) (sym c.self.view_is) c.requires.joined in
    let more = joined_more s.left s.right blocks s.lefts s.rights.items c.args.left c.args.right some c.self.invariant there in
    let rights : c.push_reserved.new.self.items ≡ s.rights.items ++ c.args.right ∷ [] = c.push_reserved.ensures.items ∙ ap (λ (rs : List (Option Spot)). rs ++ c.args.right ∷ []) c.reserve.ensures.items in
    subst (λ (ls : List Spot). IsSet s.left s.right blocks ls c.push_reserved.new.self.items) (sym c.in_ok-push.ensures.ok) (subst (IsSet s.left s.right blocks (s.lefts ++ c.args.left ∷ [])) (sym rights) more.is)

pub returns-clause-ok : goal.returns-clause-ok
returns-clause-ok g c =
    let s = c.self.inside in
    let blocks = map (λ b. arc_value b) s.blocks.items in
    let there : IsPlace s.left s.right blocks (c.args.left, c.args.right) = subst (λ (t : ResultRows). IsPlace t.left t.right t.blocks (c.args.left, c.args.right)) (sym c.self.view_is) c.requires.there in
    let some : s.right ≢ None = subst (λ (t : ResultRows). t.right ≢ None) (sym c.self.view_is) c.requires.joined in
    let more = joined_more s.left s.right blocks s.lefts s.rights.items c.args.left c.args.right some c.self.invariant there in
    let rights : c.push_reserved.new.self.items ≡ s.rights.items ++ c.args.right ∷ [] = c.push_reserved.ensures.items ∙ ap (λ (rs : List (Option Spot)). rs ++ c.args.right ∷ []) c.reserve.ensures.items in
    ap (λ (ls : List Spot). set_of s.left s.right blocks ls c.push_reserved.new.self.items) c.in_ok-push.ensures.ok ∙ ap (set_of s.left s.right blocks (s.lefts ++ c.args.left ∷ [])) rights ∙ more.shown ∙ ap (λ (t : ResultRows). with_place t (c.args.left, c.args.right)) c.self.view_is
