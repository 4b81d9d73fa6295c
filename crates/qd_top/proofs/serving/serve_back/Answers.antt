use Rattle.std.proofs.Common.{ap, subst, sym}
use Rattle.qd_io.specs.Clocks.{Timeline}
use Rattle.qd_top.specs.declared.status.Status.{Status}
use Rattle.qd_top.specs.Status.{status_of}
use Rattle.qd_top.specs.Run.{CountsReads, CountsWrites, RanOver, fresh, traffic}
use Rattle.qd_top.specs.Stores.{IsOfNoStore, store_of}
use Rattle.qd_top.proofs.HostLemmas.{clock-is, session-ended, session-folders, session-stays}
use Rattle.qd_top.proofs.RunLemmas.{ran, reads-from_faults, writes-from_faults}
use Rattle.qd_top.proofs.serving.serve_back.Goals as goal

pub returns-clause-ran : goal.returns-clause-ran
returns-clause-ran g c =
    let host = g.H.Host.supply c.args.host.now in
    let one = g.H.Host.supply c.clock-clock.new.self in
    let two = g.H.Host.supply c.clock_back.new.self in
    let three = g.H.Host.supply c.put_back.new.self in
    let start = g.H.Clk.Clock.timeline c.clock-clock.result in
    let end = g.H.Clk.Clock.timeline c.serve-ended.new.clock in
    let storage = g.H.Vol.Volume.storage c.into_volume.result in
    let was = g.W.Ends.stream c.args.wire.now in
    let now = g.W.Ends.stream c.serve-ended.new.wire in
    let new = c.serve-ended.new.back in
    let fresh_is = clock-is host start c.clock-clock.ensures.told c.clock-clock.ensures.none_failed in
    λ print reads. (
      store_of new end,
      session-ended host one two three one.clock_times storage (store_of c.args.back (fresh host)) (store_of new end) c.clock-clock.ensures.rest c.clock_back.ensures c.put_back.ensures
          (ap (λ s. s.faults) c.into_volume.ensures.volume) c.requires.lent c.into_volume.ensures.kept,
      subst (λ (s : Status). RanOver print (store_of c.args.back (fresh host)) (store_of new end) (traffic was now was now) s) (sym c.of.ensures.status)
          (subst (λ (t : Timeline). RanOver print (store_of c.args.back t) (store_of new end) (traffic was now was now) (status_of c.serve-ended.result)) fresh_is
          (ran print (g.F.Front.protocol c.args.front.now) (g.F.Front.protocol c.serve-ended.new.front) reads c.one_script.ensures.some c.args.back new start end c.serve-ended.ensures.history was now c.serve-ended.result c.serve-ended.ensures.served)),
    )

pub returns-clause-reads : goal.returns-clause-reads
returns-clause-reads g c =
    subst (λ (s : Status). CountsReads (g.W.Ends.stream c.args.wire.now).reads_failed (g.W.Ends.stream c.serve-ended.new.wire).reads_failed s) (sym c.of.ensures.status)
    (reads-from_faults _ _ c.serve-ended.result c.serve-ended.ensures.faults)

pub returns-clause-writes : goal.returns-clause-writes
returns-clause-writes g c =
    subst (λ (s : Status). CountsWrites (g.W.Ends.stream c.args.wire.now).writes_failed (g.W.Ends.stream c.serve-ended.new.wire).writes_failed s) (sym c.of.ensures.status)
    (writes-from_faults _ _ c.serve-ended.result c.serve-ended.ensures.faults)

pub returns-clause-served : goal.returns-clause-served
returns-clause-served g c = λ none. session-stays c.serve-ended.result (subst IsOfNoStore c.of.ensures.status none)

pub returns-clause-folders : goal.returns-clause-folders
returns-clause-folders g c =
    let one = g.H.Host.supply c.clock-clock.new.self in
    session-folders (g.H.Host.supply c.args.host.now) one (g.H.Host.supply c.clock_back.new.self) (g.H.Host.supply c.put_back.new.self) one.clock_times (g.H.Clk.Clock.timeline c.serve-ended.new.clock).faults (g.H.Vol.Volume.storage c.into_volume.result) c.clock-clock.ensures.rest c.clock_back.ensures c.put_back.ensures
