use Rattle.qd_bind.proofs.expr.+nested.Given as goal

abbrev pub decreases-nested : goal.decreases-nested
decreases-nested l = l.depth
