-- Why bytes give no manifest.
use Rattle.std.specs.Prelude.{◌≡◌, ℕ, ◌-◌, List, length, Err}
use Rattle.qd_manifest.specs.declared.fault.ManifestFault.{ManifestFault}
use Rattle.qd_manifest.specs.declared.fault.ManifestFault.TheVariants as fault
use Rattle.qd_manifest.specs.declared.shape.Manifest.{Manifest}
use Rattle.qd_manifest.specs.Spelling.{SpellsManifest}
use Rattle.qd_manifest.specs.Layout.{manifest_from}

-- The bytes of a version's manifest are damaged at a place.
abbrev pub IsDamagedAt : ℕ → List ℕ → ℕ → Type 0
IsDamagedAt n bytes at = (left : ℕ) × (manifest_from n bytes ≡ Err left) × (at ≡ length bytes - left)

-- why there is no manifest
abbrev pub IsFault : ℕ → List ℕ → ManifestFault → Type 0
IsFault n bytes fault.Memory = Unit {0}
IsFault n bytes (fault.Damaged at) = IsDamagedAt n bytes at

-- no manifest is spelled, unless memory was wanting
abbrev pub IsUnspelled : ℕ → List ℕ → ManifestFault → Type 0
IsUnspelled n bytes fault.Memory = Unit {0}
IsUnspelled n bytes (fault.Damaged at) = (m : Manifest) → SpellsManifest n bytes m → ⊥
