use Rattle.std.proofs.Common.{ap, subst}
use Rattle.qd_shared.specs.Passes.{Pass, history_of, view_of}
use Rattle.qd_shared.specs.Snaps.{pinned_at}
use Rattle.qd_pass.specs.Reading.{IsReading, Reading}
use Rattle.qd_pass.proofs.Pinned.{memo_left}
use Rattle.qd_pass.proofs.parts.PinnedParts.end.Goals as goal

pub returns-clause-memo : goal.returns-clause-memo
returns-clause-memo g c =
    let i = c.self.inside in
    let r : Reading = record { from = i.from.was; pass = i.pass; pin = pinned_at i.pin; memo = i.memo; damages = i.damages; last_damage = i.last_damage } in
    let is = c.release.ensures.released in
    memo_left r c.release.new.pass c.self.invariant.1 (ap (λ (p : Pass). (view_of p).noted) is) (ap (λ (p : Pass). (view_of p).seen) is) (ap (λ (p : Pass). history_of p) is)

pub returns-clause-reading : goal.returns-clause-reading
returns-clause-reading g c = subst (λ (x : Reading). IsReading x) c.self.view_is c.self.invariant.1
