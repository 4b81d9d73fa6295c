use Rattle.std.proofs.Common.{◌<◌, ◌≤◌, ◌∙◌, ◌++◌, ◌∷◌, [], ℕ, List, Option, None, length, sym, ap, map, subst}
use Rattle.std.proofs.lemmas.List.{map_more, take_all}
use Rattle.qd_base.specs.declared.schema.Col.{Col}
use Rattle.qd_base.specs.declared.schema.ColType.TheVariants as kind
use Rattle.qd_lines.specs.Drafts.{mark}
use Rattle.qd_lines.proofs.DraftLemmas.{begun}
use Rattle.qd_lines.proofs.draft.Draft.begin.Goals as goal

some_col : Col
some_col = record { name = []; kind = kind.Long }

pub loop-preserved : goal.loop-preserved
loop-preserved c =
    let cols = c.args.columns.cols.now in
    let lt : c.loop.index < length cols = subst (λ (cs : List Col). c.loop.index < length cs) c.as_slice-items.ensures.items c.loop-test.true in
    (c.loop.invariant.0, c.in_ok-push.ensures.items ∙ ap (λ (ms : List (Option ℕ)). ms ++ None ∷ []) c.loop.invariant.1 ∙ sym (map_more (mark []) cols c.loop.index some_col lt))

pub returns : goal.returns
returns c =
    let cols = c.args.columns.cols.now in
    let all = take_all c.loop.index cols (subst (λ (cs : List Col). length cs ≤ c.loop.index) c.as_slice-items.ensures.items c.loop-test.false) in
    record { draws = begun c.args.columns _ c.requires.usable c.loop.invariant.0 (c.loop.invariant.1 ∙ ap (map (mark [])) all) c.none-self.ensures.values c.none-self.ensures.names c.none-self.ensures.others.0 c.none-self.ensures.others.1 }
