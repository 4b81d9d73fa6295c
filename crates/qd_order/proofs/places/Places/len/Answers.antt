use Rattle.std.proofs.Common.{◌∙◌, ℕ, ◌-◌, List, ap, sym, length}
use Rattle.std.proofs.lemmas.List.FromFn.{length-range_with_len}
use Rattle.qd_order.specs.Cuts.{places_of}
use Rattle.qd_order.proofs.places.Places.len.Goals as goal

pub returns-in-Neighbours : goal.returns-in-Neighbours
returns-in-Neighbours c =
    record { count = c.saturating_sub.ensures ∙ sym (length-range_with_len c.in-Neighbours.from (c.in-Neighbours.to - c.in-Neighbours.from)) ∙ ap (λ s. length (places_of s)) (sym c.in-Neighbours.is) ∙ ap (λ (l : List ℕ). length l) c.self.view_is }
