use Rattle.std.proofs.Common.{None}
use Rattle.qd_store_backend.proofs.back.left_behind.Given as goal

abbrev pub ghost-of : goal.ghost-of
ghost-of g a = None
