use Rattle.std.proofs.Common.{subst}
use Rattle.qd_scan.specs.Sources.{IsSource}
use Rattle.qd_shared.specs.Snaps.{pinned_at}
use Rattle.qd_pass.specs.Reading.{Reading, shown_of}
use Rattle.qd_pass.proofs.Pinned.{pinned_law}
use Rattle.qd_pass.proofs.parts.PinnedPartsPartSource.keeps_its_law.Goals as goal

pub returns : goal.returns
returns g c =
    let i = c.self.inside in
    let r : Reading = record { from = i.from.was; pass = i.pass; pin = pinned_at i.pin; memo = i.memo; damages = i.damages; last_damage = i.last_damage } in
    record { law = subst (λ (x : Reading). IsSource (shown_of x)) c.self.view_is (pinned_law r c.self.invariant.1) }
