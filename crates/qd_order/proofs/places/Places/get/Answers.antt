use Rattle.std.proofs.Common.{◌≡◌, ◌<◌, ◌-◌, ◌∙◌, ℕ, List, Some, ap, sym, length, refl, subst, arith}
use Rattle.std.specs.Prelude.{slice_get}
use Rattle.std.specs.List.{range_with_len}
use Rattle.std.proofs.lemmas.List.FromFn.{length-range_with_len}
use Rattle.std.proofs.lemmas.Option.{slice_get_read}
use Rattle.qd_order.specs.Cuts.{places_of}
use Rattle.qd_order.proofs.Positions.{range_at}
use Rattle.qd_order.proofs.places.Places.get.Goals as goal

pub nth-requires : goal.nth-requires
nth-requires c =
    let is : c.args.self.now ≡ range_with_len c.in-Neighbours.from (c.in-Neighbours.to - c.in-Neighbours.from) = sym c.self.view_is ∙ ap places_of c.in-Neighbours.is in
    let size = length-range_with_len c.in-Neighbours.from (c.in-Neighbours.to - c.in-Neighbours.from) in
    omega (arith, size, c.requires, ap length is)

pub returns-in-Listed : goal.returns-in-Listed
returns-in-Listed c =
    let is : c.args.self.now ≡ c.in-Listed.places.items = sym c.self.view_is ∙ ap places_of c.in-Listed.is in
    let low : c.args.i < length c.in-Listed.places.items = subst (λ (l : List ℕ). c.args.i < length l) is c.requires in
    record { place = ap (λ (l : List ℕ). slice_get l c.args.i) is ∙ slice_get_read c.in-Listed.places.items (length c.in-Listed.places.items) c.args.i c.index.result.now refl low c.index.ensures }

pub returns-in-Neighbours : goal.returns-in-Neighbours
returns-in-Neighbours c =
    let is : c.args.self.now ≡ range_with_len c.in-Neighbours.from (c.in-Neighbours.to - c.in-Neighbours.from) = sym c.self.view_is ∙ ap places_of c.in-Neighbours.is in
    let low : c.args.i < length (range_with_len c.in-Neighbours.from (c.in-Neighbours.to - c.in-Neighbours.from)) = subst (λ (l : List ℕ). c.args.i < length l) is c.requires in
    record { place = ap (λ (l : List ℕ). slice_get l c.args.i) is ∙ range_at c.in-Neighbours.from (c.in-Neighbours.to - c.in-Neighbours.from) c.args.i low ∙ ap Some (sym c.nth.ensures) }
