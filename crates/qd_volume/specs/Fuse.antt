-- A volume that passes a number of calls on to another one, and fails every call after them.
use Rattle.std.specs.Prelude.{◌≡◌, ℕ, ◌+◌, ◌-◌, ◌<◌, Result, Err}
use Rattle.qd_io.specs.declared.fault.IoFault.{IoFault}
use Rattle.qd_io.specs.declared.fault.IoFault.TheVariants.{Failed}
use Rattle.qd_io.specs.Ends.{Counts}
use Rattle.qd_volume.specs.declared.fuse.FuseVolume.{FuseVolume}

module _ {V : Type 0} where
  -- the other volume
  abbrev pub inner_of : FuseVolume V → V
  inner_of fuse = fuse.inner

  -- how many calls it still passes on
  abbrev pub passes_of : FuseVolume V → ℕ
  passes_of fuse = fuse.passes

  -- the faults of the other volume, and the calls that it failed itself
  abbrev pub faults_of : ℕ → FuseVolume V → ℕ
  faults_of inner fuse = inner + fuse.refused

  -- A call takes one from those that are passed on. One that is passed on fails only by the other volume's fault; where none are
  -- left it fails, and the other volume stays as it is.
  pub record Burns {T : Type 0} (old new : FuseVolume V) (before now : ℕ) (result : Result T IoFault) : Type 0 where
    pub spent : passes_of new ≡ passes_of old - 1
    pub passed : 0 < passes_of old → Counts before now result
    pub blown : passes_of old ≡ 0 → (result ≡ Err Failed) × (inner_of new ≡ inner_of old)
