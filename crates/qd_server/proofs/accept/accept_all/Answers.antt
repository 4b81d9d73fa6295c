use Rattle.std.proofs.Common.{rules, ◌≡◌, [], subst, zero-le}
use Rattle.qd_server.specs.Accepting.{GoesOn, Ends}
use Rattle.qd_server.proofs.Serving.{goes_nowhere, goes_and_joins, takes_nothing}
use Rattle.qd_server.proofs.accept.accept_all.Goals as goal

pub returns-in_err-outs-clause-accepts : goal.returns-in_err-outs-clause-accepts
returns-in_err-outs-clause-accepts g c =
    let ends : Ends {W = g.row.L-Wire.Denot} [] c.args.most (g.L.Listener.arrivals c.args.listener.now).ahead (g.L.Listener.arrivals c.args.listener.now).ahead (g.L.Listener.arrivals c.args.listener.now).closed c.from_residual.result = search rules in
    ([], takes_nothing (g.L.Listener.arrivals c.args.listener.now).ahead, goes_nowhere g.M.Maker.works c.args.maker.now [] c.args.threads.now.failed, ends, (λ ne. zero-le))

pub returns-clause-accepts : goal.returns-clause-accepts
returns-clause-accepts g c =
    let a = c.accept_on-ended.ensures.accepts in
    let none_out : c.in_ok-outs.outs.items ≡ [] = search rules in (
      a.0,
      a.1,
      goes_and_joins g.M.Maker.works c.args.maker.now c.accept_on-ended.new.maker c.settle_all.new.maker [] c.accept_on-ended.new.outs.items [] a.0 c.args.threads.now.failed c.accept_on-ended.new.threads.failed
          (subst (λ xs. GoesOn g.M.Maker.works c.args.maker.now c.accept_on-ended.new.maker xs c.accept_on-ended.new.outs.items a.0 c.args.threads.now.failed c.accept_on-ended.new.threads.failed) none_out a.2) (c.settle_all.ensures.goes_on c.accept_on-ended.new.threads.failed),
      a.3,
      a.4,
    )
