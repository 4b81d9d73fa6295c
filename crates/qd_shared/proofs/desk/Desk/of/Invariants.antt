use Rattle.qd_shared.proofs.desk.Desk.of.Given as goal

abbrev pub ghost-of : goal.ghost-of
ghost-of g a = a.from.now.history
