use Rattle.std.proofs.Common.{◌≡◌, ◌∙◌, ap, subst, sym}
use Rattle.qd_asof.specs.Choices.{moved, IsThere}
use Rattle.qd_asof.proofs.SideLemmas.{moved_place, moved_there}
use Rattle.qd_asof.proofs.sides.right_place.Goals as goal

pub returns-in-Some : goal.returns-in-Some
returns-in-Some g c =
    record {
      place = sym (ap (moved c.args.shift c.args.right.now) c.in-Some.is ∙ moved_place c.args.right.now c.args.shift c.in-Some.j c.places.result c.places.ensures.places);
      there = subst (IsThere c.args.right.now) (sym c.in-Some.is) (moved_there c.args.right.now c.in-Some.j c.places.result c.places.ensures.places c.places.ensures.there.left);
    }
