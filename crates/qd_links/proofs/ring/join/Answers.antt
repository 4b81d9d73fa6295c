-- The two writes join the slots.
use Rattle.std.proofs.Common.{refl}
use Rattle.qd_links.specs.Ring.{next_slot, prev_slot}
use Rattle.qd_links.proofs.JoinLemmas.{joined}
use Rattle.qd_links.proofs.ring.join.Goals as goal

pub returns : goal.returns
unfolding next_slot prev_slot
returns c = joined c.args.ring.now _ c.args.from c.args.to c.requires.from_in c.requires.to_in refl
