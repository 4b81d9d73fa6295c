use Rattle.std.proofs.Common.{None}
use Rattle.qd_vectors.proofs.sizes.values_for_proofs_take_no_bytes.Given as goal

abbrev pub ghost-of : goal.ghost-of
ghost-of g a = None
