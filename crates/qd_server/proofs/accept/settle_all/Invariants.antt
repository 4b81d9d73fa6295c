use Rattle.std.proofs.Common.{◌≡◌, ℕ, [], length}
use Rattle.qd_server.specs.Works.{Works}
use Rattle.qd_server.specs.Accepting.{IsOut, GoesOn}
use Rattle.qd_server.proofs.accept.settle_all.Given as goal

abbrev pub invariant-loop-maker : goal.invariant-loop-maker
invariant-loop-maker g l = ((failed : ℕ) → GoesOn g.M.Maker.works l.initial.maker l.maker l.initial.outs.items l.outs.items [] failed failed) × ((s : Works g.row.W.Denot g.row.M-Work.Denot) × IsOut g.M.Maker.works l.maker l.outs.items s) × (g.M.Maker.fixed l.maker ≡ g.M.Maker.fixed l.initial.maker)

abbrev pub decreases-loop-maker : goal.decreases-loop-maker
decreases-loop-maker g l = length l.outs.items
