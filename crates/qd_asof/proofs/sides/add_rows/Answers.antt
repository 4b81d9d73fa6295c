use Rattle.std.proofs.Common.{◌≡◌, ◌+◌, ◌∙◌, ◌++◌, ℕ, None, Option, Some, ap, arith, get_or, length, length-append, refl, subst, sym}
use Rattle.qd_rows.specs.Runs.{Spot}
use Rattle.qd_rows.specs.Sets.{ResultRows, with_place, IsPlaced}
use Rattle.qd_asof.specs.Choices.{moved}
use Rattle.qd_asof.proofs.SideLemmas.{beside_none, beside_more, beside_place, beside_all}
use Rattle.qd_asof.proofs.sides.add_rows.Goals as goal

pub loop-i-init : goal.loop-i-init
loop-i-init g c = beside_none c.args.left.now c.args.right.now c.requires.left_alone c.requires.right_alone c.args.choices.now c.args.set.now c.requires.empty

pub right_place-requires : goal.right_place-requires
right_place-requires g c =
    record {
      there = c.requires.there c.loop-i.i None (omega arith);
      fits = omega (arith, c.blocks-total.ensures.count, c.blocks-shift.ensures.count, ap (λ (s : ResultRows). length s.blocks) c.requires.empty, length-append c.args.left.now.blocks c.args.right.now.blocks);
    }

pub push_row-requires : goal.push_row-requires
push_row-requires g c =
    let left = c.args.left.now in
    let right = c.args.right.now in
    let choice : Option ℕ = get_or c.args.choices.now c.loop-i.i None in
    let place = c.right_place.ensures.place ∙ ap (λ (n : ℕ). moved n right choice) c.blocks-shift.ensures.count in
    subst (λ (q : Option Spot). IsPlaced c.loop-i.set (c.places.result.0, q)) (sym place)
    (beside_place left right c.requires.left_alone c.requires.right_alone c.args.choices.now c.loop-i.set c.loop-i.i c.places.result choice c.places.ensures.there c.right_place.ensures.there c.loop-i.invariant)

pub loop-i-preserved : goal.loop-i-preserved
loop-i-preserved g c =
    let left = c.args.left.now in
    let right = c.args.right.now in
    let choice : Option ℕ = get_or c.args.choices.now c.loop-i.i None in
    let place = c.right_place.ensures.place ∙ ap (λ (n : ℕ). moved n right choice) c.blocks-shift.ensures.count in
    beside_more left right c.requires.left_alone c.requires.right_alone c.args.choices.now c.loop-i.set c.push_row.new.self c.loop-i.i c.places.result choice c.places.ensures.places c.places.ensures.there refl (c.requires.there c.loop-i.i None (omega arith))
    (c.in_ok-push_row.ensures.ok ∙ ap (λ (q : Option Spot). with_place c.loop-i.set (c.places.result.0, q)) place) c.loop-i.invariant

pub returns : goal.returns
returns g c =
    record {
      over = c.loop-i.invariant.over;
      rows = beside_all c.args.left.now c.args.right.now c.requires.left_alone c.requires.right_alone c.args.choices.now c.loop-i.set c.loop-i.i (length c.args.left.now.places) (omega (arith, c.requires.count)) c.loop-i.invariant;
    }
