-- The laws of manifests.
use Rattle.std.specs.Prelude.{◌≡◌, ℕ, List}
use Rattle.qd_manifest.specs.declared.shape.Manifest.{Manifest}
use Rattle.qd_manifest.specs.Spelling.{SpellsManifest}
use Rattle.qd_manifest.specs.Reading.{IsDamagedAt}

-- Bytes spell one manifest, and a manifest has one spelling, for whatever numbers of transactions.
abbrev pub OneManifestIsSpelled : Type 0
OneManifestIsSpelled = (n k : ℕ) (bytes : List ℕ) (a b : Manifest) → SpellsManifest n bytes a → SpellsManifest k bytes b → a ≡ b

abbrev pub OneSpelling : Type 0
OneSpelling = (n k : ℕ) (a b : List ℕ) (m : Manifest) → SpellsManifest n a m → SpellsManifest k b m → a ≡ b

-- Damaged bytes have one place of damage, and spell nothing.
abbrev pub DamageHasOnePlace : Type 0
DamageHasOnePlace = (n : ℕ) (bytes : List ℕ) (at other : ℕ) → IsDamagedAt n bytes at → IsDamagedAt n bytes other → at ≡ other

abbrev pub DamagedIsUnspelled : Type 0
DamagedIsUnspelled = (n : ℕ) (bytes : List ℕ) (at : ℕ) (m : Manifest) → IsDamagedAt n bytes at → SpellsManifest n bytes m → ⊥
