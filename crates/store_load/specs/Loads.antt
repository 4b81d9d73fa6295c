-- What may be loaded.
use Rattle.std.specs.Prelude.{◌≤◌}
use Rattle.store_load.specs.declared.lines.Load.{Load}
use Rattle.qd_base.specs.declared.limits.TheConstants.{MAX_TXNS}

-- no more transactions than a store takes, and no longer ones than one may be
pub record IsFew (load : Load) : Type 0 where
  pub transactions : load.transactions ≤ MAX_TXNS
  pub lines : load.lines ≤ 100000
