use Rattle.qd_validate.proofs.FollowLemmas.{sound_behind}
use Rattle.qd_validate.proofs.lawful.follow.Goals as goal

pub returns-in_ok-follow_each-clause-sound : goal.returns-in_ok-follow_each-clause-sound
returns-in_ok-follow_each-clause-sound c =
    sound_behind c.args.schemas.now c.follow_each.new.schemas c.as_slice-ops.result.now c.in_ok-follow_each.field-0 c.requires c.in_ok-follow_each.ensures.lawful.0 c.in_ok-follow_each.ensures.behind
