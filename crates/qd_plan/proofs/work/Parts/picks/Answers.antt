use Rattle.std.proofs.Common.{◌∙◌, ◌+◌, ℕ, List, map, ap, ap₂}
use Rattle.qd_plan.specs.declared.work.Seat.{Seat}
use Rattle.qd_plan.specs.Showing.{pick}
use Rattle.qd_plan.proofs.QueryLemmas.{ok_same}
use Rattle.qd_plan.proofs.work.Parts.picks.Goals as goal

pub returns : goal.returns
returns c = record {
  picks =
      ok_same c.picks_of.result _ _
      (ap₂ (λ (n : ℕ) (ss : List Seat). map (pick c.args.front n) ss) (c.in_ok-aggs.ensures.sum ∙ ap (λ (n : ℕ). c.args.front + n) c.len.ensures.count) c.as_slice.ensures.items)
      c.picks_of.ensures.picks;
}
