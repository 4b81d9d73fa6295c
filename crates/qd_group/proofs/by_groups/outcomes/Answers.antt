use Rattle.std.proofs.Common.{◌∙◌, ◌<◌, ◌≤◌, ◌++◌, ◌∷◌, [], ℕ, List, ap, ap₂, sym, arith, map, length}
use Rattle.std.proofs.lemmas.List.{map_push, map_more, take_all}
use Rattle.qd_base.specs.declared.cell.Cell.{Cell}
use Rattle.qd_value.specs.Scalars.{cell_of}
use Rattle.qd_group.specs.Tallies.{answer}
use Rattle.qd_group.proofs.by_groups.outcomes.Goals as goal

pub loop-tally-preserved : goal.loop-tally-preserved
loop-tally-preserved g c =
    let state = g.K.Keeping.state in
    let i : ℕ = c.loop-tally.tally-index in
    let low : c.loop-tally.tally-index < length c.args.tallies.now = omega arith in
    ap (map cell_of) c.in_ok-push.ensures.items
    ∙ map_push cell_of c.loop-tally.answers.items c.outcome.result
    ∙ ap₂ (λ (l : List Cell) (x : Cell). l ++ x ∷ []) c.loop-tally.invariant (c.outcome.ensures.answer ∙ ap (λ t. answer (state t)) c.tally-item.is)
    ∙ sym (map_more (λ t. answer (state t)) c.args.tallies.now i c.tally-item.result low)

pub returns : goal.returns
returns g c =
    let all : length c.args.tallies.now ≤ c.loop-tally.tally-index = omega arith in
    record { answers = c.loop-tally.invariant ∙ ap (map (λ t. answer (g.K.Keeping.state t))) (take_all c.loop-tally.tally-index c.args.tallies.now all) }
