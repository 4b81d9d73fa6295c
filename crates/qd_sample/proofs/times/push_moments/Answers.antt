use Rattle.std.proofs.Common.{◌≡◌, ◌∙◌, ◌++◌, ◌∷◌, [], ◌<◌, ℕ, List, ap, sym, arith, get_or, length, map, take}
use Rattle.std.proofs.lemmas.List.{map_more, take_all}
use Rattle.qd_base.specs.Rows.{time_in}
use Rattle.qd_column.specs.Cells.{time_cell}
use Rattle.qd_sample.proofs.RunTimes.{pushed}
use Rattle.qd_sample.proofs.times.push_moments.Goals as goal

pub loop-moment-preserved : goal.loop-moment-preserved
loop-moment-preserved c =
    let f : ℕ → ℕ = λ t. time_in (time_cell t) in
    let xs = c.args.moments.now in
    let i : ℕ = c.loop-moment.moment-index in
    let low : c.loop-moment.moment-index < length c.args.moments.now = omega arith in
    let first = c.args.times.now.items in
    pushed first c.loop-moment.times.items c.push.new.self.items c.kept_moment.result (map f (take i xs)) c.loop-moment.invariant c.in_ok-push.ensures.items
    ∙ ap (λ (l : List ℕ). first ++ l) (ap (λ (x : ℕ). map f (take i xs) ++ x ∷ []) c.kept_moment.ensures ∙ sym (map_more f xs i 0 low))

pub returns : goal.returns
returns c = record { times = c.loop-moment.invariant ∙ ap (λ (l : List ℕ). c.args.times.now.items ++ map (λ t. time_in (time_cell t)) l) (take_all c.loop-moment.moment-index c.args.moments.now (omega arith)) }
