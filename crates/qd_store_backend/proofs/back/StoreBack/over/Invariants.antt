use Rattle.qd_store_backend.proofs.back.StoreBack.over.Given as goal

abbrev pub ghost-of : goal.ghost-of
ghost-of g a = a.from.now.history
