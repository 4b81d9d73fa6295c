use Rattle.qd_ghost.proofs.telling.TellingDuplicate.copy.Given as goal

abbrev pub ghost-of : goal.ghost-of
ghost-of a = a.from.now.history
