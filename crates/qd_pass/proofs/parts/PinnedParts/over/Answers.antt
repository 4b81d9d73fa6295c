use Rattle.std.proofs.Common.{None, sym, subst}
use Rattle.qd_shared.specs.Passes.{Pass}
use Rattle.qd_shared.specs.Snaps.{pinned_at}
use Rattle.qd_pass.specs.Reading.{IsReading}
use Rattle.qd_pass.proofs.Pinned.{reading_first}
use Rattle.qd_pass.proofs.parts.PinnedParts.over.Goals as goal

pub invariant_of-result : goal.invariant_of-result
invariant_of-result g c = (c.requires.pass, subst (λ (p : Pass). IsReading (record { from = p; pass = c.args.pass; pin = pinned_at c.args.pin; memo = c.args.memo; damages = 0; last_damage = None })) (sym c.of.ensures) (reading_first c.args.pass (pinned_at c.args.pin) c.args.memo c.requires.counted c.requires.pinned c.requires.number c.requires.memo))
