-- A device that is lent, with the count of its calls that failed meanwhile.
use Rattle.std.specs.Prelude.{ℕ}
use Rattle.qd_host.specs.declared.lent.Lent.{Lent}

module _ {D : Type 0} where
  -- the device itself
  abbrev pub device_of : Lent D → D
  device_of lent = lent.device

  -- how many of its calls have failed since it was lent
  abbrev pub faults_of : Lent D → ℕ
  faults_of lent = lent.faults
