use Rattle.std.proofs.Common.{[], refl}
use Rattle.qd_server.proofs.tests.a_start_that_is_refused.Goals as goal

pub accept_all-served-requires-clause-none_out : goal.accept_all-served-requires-clause-none_out
accept_all-served-requires-clause-none_out g c κs = (record { taken = []; out = []; unstarted = [] }, (tt, refl))
