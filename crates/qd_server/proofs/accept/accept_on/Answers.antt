use Rattle.std.proofs.Common.{rules, ◌≡◌, ◌≢◌, ◌+◌, ◌≤◌, [], ◌++◌, true, false, length, refl, ap, ◌∙◌, inr, arith, zero-le}
use Rattle.std.specs.Prelude.{min}
use Rattle.std.proofs.lemmas.List.{length-append}
use Rattle.qd_io.specs.Ends.{last_count}
use Rattle.qd_server.specs.Accepting.{Ends}
use Rattle.qd_server.proofs.Serving.{takes_nothing, takes_more, goes_nowhere, goes_further, still_out, within_more, number_more, round_over, round_on, emptied_on}
use Rattle.qd_server.proofs.accept.accept_on.Goals as goal

pub loop-init : goal.loop-init
loop-init g c = record {
  so_far = ([], takes_nothing (g.L.Listener.arrivals c.args.listener.now).ahead, goes_nowhere g.M.Maker.works c.args.maker.now c.args.outs.now.items c.args.threads.now.failed, refl, (λ asked. zero-le));
  out = c.requires.out;
  few = c.requires.few;
  capacity = c.requires.capacity;
  fixed = refl;
  none_failed = refl;
}

pub returns-in_err-accept_next-clause-accepts : goal.returns-in_err-accept_next-clause-accepts
returns-in_err-accept_next-clause-accepts g c =
    let b = c.loop.invariant.so_far in
    let a = c.in_err-accept_next.ensures.accepts in
    let going : c.args.most ≢ 0 → c.loop.taken ≢ c.args.most = search rules in
    let fits : c.args.most ≤ last_count = search rules in
    let ends : Ends (b.0 ++ a.0) c.args.most (g.L.Listener.arrivals c.args.listener.now).ahead (g.L.Listener.arrivals c.accept_next.new.listener).ahead (g.L.Listener.arrivals c.accept_next.new.listener).closed c.from_residual.result = search rules in (
      b.0 ++ a.0,
      takes_more b.0 a.0 (g.L.Listener.arrivals c.args.listener.now).ahead (g.L.Listener.arrivals c.loop.listener).ahead (g.L.Listener.arrivals c.accept_next.new.listener).ahead b.1 a.1,
      goes_further g.M.Maker.works c.args.maker.now c.loop.maker c.accept_next.new.maker c.args.outs.now.items c.loop.outs.items c.accept_next.new.outs.items b.0 a.0 c.args.threads.now.failed c.loop.threads.failed c.accept_next.new.threads.failed b.2 a.2,
      ends,
      within_more b.0 a.0 c.loop.taken c.args.most b.3 b.4 going a.3 fits,
    )

pub returns-then-not-branch-clause-accepts : goal.returns-then-not-branch-clause-accepts
returns-then-not-branch-clause-accepts g c =
    let b = c.loop.invariant.so_far in
    let a = c.in_ok-accept_next.ensures.accepts in
    let over : c.in_ok-accept_next.field-0 ≡ false = search rules in
    let round = round_over a.0 (g.L.Listener.arrivals c.loop.listener).ahead (g.L.Listener.arrivals c.accept_next.new.listener).ahead (g.L.Listener.arrivals c.accept_next.new.listener).closed c.in_ok-accept_next.field-0 over a.3 in
    let going : c.args.most ≢ 0 → c.loop.taken ≢ c.args.most = search rules in
    let fits : c.args.most ≤ last_count = search rules in
    let none : length a.0 ≡ 0 = ap length round.0 in
    let l = length-append b.0 a.0 in
    let n = b.3 in (
      b.0 ++ a.0,
      takes_more b.0 a.0 (g.L.Listener.arrivals c.args.listener.now).ahead (g.L.Listener.arrivals c.loop.listener).ahead (g.L.Listener.arrivals c.accept_next.new.listener).ahead b.1 a.1,
      goes_further g.M.Maker.works c.args.maker.now c.loop.maker c.accept_next.new.maker c.args.outs.now.items c.loop.outs.items c.accept_next.new.outs.items b.0 a.0 c.args.threads.now.failed c.loop.threads.failed c.accept_next.new.threads.failed b.2 a.2,
      (omega (arith, n, l, none), inr (round.1, emptied_on b.0 (g.L.Listener.arrivals c.args.listener.now).ahead (g.L.Listener.arrivals c.loop.listener).ahead (g.L.Listener.arrivals c.accept_next.new.listener).ahead b.1 round.2)),
      within_more b.0 a.0 c.loop.taken c.args.most b.3 b.4 going (omega (arith, none)) fits,
    )

pub loop-preserved : goal.loop-preserved
loop-preserved g c =
    let b = c.loop.invariant.so_far in
    let a = c.in_ok-accept_next.ensures.accepts in
    let on : c.in_ok-accept_next.field-0 ≡ true = search rules in
    let one = round_on a.0 (g.L.Listener.arrivals c.loop.listener).ahead (g.L.Listener.arrivals c.accept_next.new.listener).ahead (g.L.Listener.arrivals c.accept_next.new.listener).closed c.in_ok-accept_next.field-0 on a.3 in
    let going : c.args.most ≢ 0 → c.loop.taken ≢ c.args.most = search rules in
    let fits : c.args.most ≤ last_count = search rules in
    let more : c.saturating_add-taken.result ≡ min (c.loop.taken + 1) last_count = search rules in
    record {
      so_far = (
        b.0 ++ a.0,
        takes_more b.0 a.0 (g.L.Listener.arrivals c.args.listener.now).ahead (g.L.Listener.arrivals c.loop.listener).ahead (g.L.Listener.arrivals c.accept_next.new.listener).ahead b.1 a.1,
        goes_further g.M.Maker.works c.args.maker.now c.loop.maker c.accept_next.new.maker c.args.outs.now.items c.loop.outs.items c.accept_next.new.outs.items b.0 a.0 c.args.threads.now.failed c.loop.threads.failed c.accept_next.new.threads.failed b.2 a.2,
        number_more b.0 a.0 c.loop.taken c.saturating_add-taken.result b.3 one more,
        within_more b.0 a.0 c.loop.taken c.args.most b.3 b.4 going (omega (arith, one)) fits,
      );
      out = still_out g.M.Maker.works c.loop.maker c.accept_next.new.maker c.loop.outs.items c.accept_next.new.outs.items a.0 c.loop.threads.failed c.accept_next.new.threads.failed c.loop.invariant.out a.2;
      few = c.accept_next.ensures.few;
      capacity = c.accept_next.ensures.capacity;
      fixed = c.accept_next.ensures.fixed ∙ c.loop.invariant.fixed;
      none_failed = c.in_ok-accept_next.ensures.counted ∙ c.loop.invariant.none_failed;
    }
