use Rattle.std.proofs.Common.{rules, ◌≡◌, ◌∙◌, ℕ, refl, sym, ap, subst, MutBor}
use Rattle.std.specs.Arc.{arc_value}
use Rattle.qd_fronts.specs.declared.front.FrontKind.{FrontKind}
use Rattle.qd_host.specs.Hosts.{Supply, after_starts}
use Rattle.qd_server.specs.declared.maker.TheConstants.{MOST}
use Rattle.qd_threads.specs.Jobs.{Starter}
use Rattle.qd_shared.specs.Passes.{Pass, view_of}
use Rattle.qd_connections.specs.Accounts.{IsMain}
use Rattle.qd_connections.specs.Serving.{ServesAll}
use Rattle.qd_connections.proofs.Accepted.{no_works, serves_all, works_begin}
use Rattle.qd_connections.proofs.serving.serve_connections.Goals as goal

pub accept_all-ended-requires-clause-none_out : goal.accept_all-ended-requires-clause-none_out
accept_all-ended-requires-clause-none_out g c κs within =
    let m = c.new-maker.result in
    let made = c.new-maker.ensures in
    let e : m.host ≡ m.began.was = made.host ∙ sym made.began in (
      no_works,
      (
        works_begin g.H.Lst.Wire.Ends.stream m.kind m.began.was.ghost_name m.host.ghost_name (g.H.Host.supply m.began.was.now) (g.H.Host.supply m.host.now) (arc_value m.shared) m.first.was m.main m.starved
            (ap (λ (b : MutBor g.row.H.Denot). b.ghost_name) e) (ap (λ (b : MutBor g.row.H.Denot). g.H.Host.supply b.now) e) (made.shared ∙ sym c.requires.pass ∙ sym (ap (λ (p : Pass). p.table) made.first)) (made.main ∙ sym made.first) made.fed
            (ap (λ (p : Pass). (view_of p).own) made.main ∙ c.requires.new) (subst (λ (p : Pass). IsMain p 0 MOST) (sym made.main) c.requires.main),
        refl,
      ),
    )

pub returns-clause-serves : goal.returns-clause-serves
returns-clause-serves g c =
    let m = c.new-maker.result in
    let made = c.new-maker.ensures in
    let e : m.host ≡ m.began.was = made.host ∙ sym made.began in
    let a = c.accept_all-ended.ensures.accepts in
    let fixed = c.accept_all-ended.ensures.fixed in
    let n = c.accept_all-ended.new.maker in
    let p = a.2 no_works (
      works_begin g.H.Lst.Wire.Ends.stream m.kind m.began.was.ghost_name m.host.ghost_name (g.H.Host.supply m.began.was.now) (g.H.Host.supply m.host.now) (arc_value m.shared) m.first.was m.main m.starved
          (ap (λ (b : MutBor g.row.H.Denot). b.ghost_name) e) (ap (λ (b : MutBor g.row.H.Denot). g.H.Host.supply b.now) e) (made.shared ∙ sym c.requires.pass ∙ sym (ap (λ (p : Pass). p.table) made.first)) (made.main ∙ sym made.first) made.fed
          (ap (λ (p : Pass). (view_of p).own) made.main ∙ c.requires.new) (subst (λ (p : Pass). IsMain p 0 MOST) (sym made.main) c.requires.main),
      refl,
    ) in
    let lent = p.1.0.0 in
    let counted = p.1.0.1 in
    let name : n.host.ghost_name ≡ m.host.ghost_name = lent.same ∙ ap (λ s. s.0.was.ghost_name) fixed ∙ sym (ap (λ (b : MutBor g.row.H.Denot). b.ghost_name) e) in
    let back : g.H.Host.supply c.starts_back.new.self ≡ g.H.Host.supply c.host-1.given.0 = search (rules, name) in
    let began : g.H.Host.supply n.began.was.now ≡ g.H.Host.supply c.args.host.now = ap (λ s. g.H.Host.supply s.0.was.now) fixed ∙ ap (λ (b : MutBor g.row.H.Denot). g.H.Host.supply b.now) made.began in
    let first : n.first.was ≡ c.args.main = ap (λ s. s.1.was) fixed ∙ made.first in
    let stream = g.H.Lst.Wire.Ends.stream in
    let before = g.H.Lst.Listener.arrivals c.args.listener.now in
    let after = g.H.Lst.Listener.arrivals c.accept_all-ended.new.listener in
    let all = serves_all stream n.kind n.began.was.ghost_name n.host.ghost_name (g.H.Host.supply n.began.was.now) (g.H.Host.supply n.host.now) (g.H.Host.supply c.starts_back.new.self) (arc_value n.shared) before after n.first.was n.main n.starved c.args.most
    c.accept_all-ended.result a.0 p.0 c.set_refuses.new.self.failed c.accept_all-ended.new.threads.failed a.1 a.3 a.4 lent counted p.1.1 (ap (λ (t : Starter). t.failed) (c.set_refuses.ensures ∙ ap (λ (t : Starter). record t { refuses = c.refuses_starts.result }) c.new-threads.ensures)) p.2
    (c.starts_back.ensures ∙ ap (λ (k : ℕ). after_starts k (g.H.Host.supply n.host.now)) c.starts_failed.ensures)
    in
    let kind : n.kind ≡ c.args.kind = ap (λ s. s.2) fixed ∙ made.kind in
    subst (λ (f : FrontKind). ServesAll stream f (g.H.Host.supply c.args.host.now) (g.H.Host.supply c.host-1.given.0) before after c.args.main n.main n.starved c.args.most c.accept_all-ended.result) kind
    (subst (λ (x : Supply). ServesAll stream n.kind x (g.H.Host.supply c.host-1.given.0) before after c.args.main n.main n.starved c.args.most c.accept_all-ended.result) began
    (subst (λ (y : Supply). ServesAll stream n.kind (g.H.Host.supply n.began.was.now) y before after c.args.main n.main n.starved c.args.most c.accept_all-ended.result) back
    (subst (λ (q : Pass). ServesAll stream n.kind (g.H.Host.supply n.began.was.now) (g.H.Host.supply c.starts_back.new.self) before after q n.main n.starved c.args.most c.accept_all-ended.result) first all)))

pub returns-clause-shared : goal.returns-clause-shared
returns-clause-shared g c =
    let m = c.new-maker.result in
    let made = c.new-maker.ensures in
    let e : m.host ≡ m.began.was = made.host ∙ sym made.began in
    let a = c.accept_all-ended.ensures.accepts in
    let fixed = c.accept_all-ended.ensures.fixed in
    let n = c.accept_all-ended.new.maker in
    let p = a.2 no_works (
      works_begin g.H.Lst.Wire.Ends.stream m.kind m.began.was.ghost_name m.host.ghost_name (g.H.Host.supply m.began.was.now) (g.H.Host.supply m.host.now) (arc_value m.shared) m.first.was m.main m.starved
          (ap (λ (b : MutBor g.row.H.Denot). b.ghost_name) e) (ap (λ (b : MutBor g.row.H.Denot). g.H.Host.supply b.now) e) (made.shared ∙ sym c.requires.pass ∙ sym (ap (λ (p : Pass). p.table) made.first)) (made.main ∙ sym made.first) made.fed
          (ap (λ (p : Pass). (view_of p).own) made.main ∙ c.requires.new) (subst (λ (p : Pass). IsMain p 0 MOST) (sym made.main) c.requires.main),
      refl,
    ) in
    let lent = p.1.0.0 in
    let first : n.first.was ≡ c.args.main = ap (λ s. s.1.was) fixed ∙ made.first in
    lent.shared ∙ ap (λ (q : Pass). q.table) first ∙ c.requires.pass
