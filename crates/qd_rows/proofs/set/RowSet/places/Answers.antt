use Rattle.std.proofs.Common.{◌≡◌, ◌<◌, ◌∙◌, List, Option, Some, None, length, get_or, slice_get, map, ap, sym, subst, arith}
use Rattle.std.specs.Arc.{arc_value}
use Rattle.qd_rows.specs.Runs.{Spot}
use Rattle.qd_rows.specs.Sets.{ResultRows, IsPlace, set_of}
use Rattle.qd_rows.proofs.SetLemmas.{length-paired, place_found, IsFound}
use Rattle.qd_rows.proofs.set.RowSet.places.Goals as goal

pub place-requires : goal.place-requires
place-requires g c = omega (arith, c.requires, ap (λ (s : ResultRows). length s.places) c.self.view_is, length-paired c.self.inside.lefts c.self.inside.rights.items)

pub returns-clause-places : goal.returns-clause-places
returns-clause-places g c =
    let s = c.self.inside in
    let low : c.args.i < length s.lefts = omega (arith, c.requires, ap (λ (s : ResultRows). length s.places) c.self.view_is, length-paired c.self.inside.lefts c.self.inside.rights.items) in
    let right : c.right_at.result ≡ get_or s.rights.items c.args.i None = c.right_at.ensures ∙ ap (λ (rs : List (Option Spot)). get_or rs c.args.i None) c.as_slice.ensures.value in
    let found = place_found s.left s.right (map (λ b. arc_value b) s.blocks.items) s.lefts s.rights.items c.args.i c.place.result c.right_at.result c.self.invariant low c.place.ensures.place right in
    ap (λ (t : ResultRows). slice_get t.places c.args.i) (sym c.self.view_is) ∙ found.at

pub returns-clause-there : goal.returns-clause-there
returns-clause-there g c =
    let s = c.self.inside in
    let low : c.args.i < length s.lefts = omega (arith, c.requires, ap (λ (s : ResultRows). length s.places) c.self.view_is, length-paired c.self.inside.lefts c.self.inside.rights.items) in
    let right : c.right_at.result ≡ get_or s.rights.items c.args.i None = c.right_at.ensures ∙ ap (λ (rs : List (Option Spot)). get_or rs c.args.i None) c.as_slice.ensures.value in
    let found = place_found s.left s.right (map (λ b. arc_value b) s.blocks.items) s.lefts s.rights.items c.args.i c.place.result c.right_at.result c.self.invariant low c.place.ensures.place right in
    subst (λ (t : ResultRows). IsPlace t.left t.right t.blocks (c.place.result, c.right_at.result)) c.self.view_is found.there
