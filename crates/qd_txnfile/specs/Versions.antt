-- Version files, and the version that two of them give.
--
-- A version file holds a gate in one byte, the number of a version and the length of its manifest in 8 bytes each, the lowest
-- byte first, and the manifest. What follows is of no account. The gate is open where its byte is 1; behind a gate that isn't
-- open anything may stand.
use Rattle.std.specs.Prelude.{◌≡◌, ◌⊎◌, ℕ, ◌+◌, ◌^◌, ◌<◌, List, [], ◌∷◌, ◌++◌, length, nat_eq, Bool, ◌||◌}
use Rattle.std.specs.Int.{to_le_bytes, w64}
use Rattle.qd_volume.specs.Disk.{Image}
use Rattle.qd_durable.specs.Places.{StandsAt}
use Rattle.qd_txnfile.specs.declared.half.Half.{Half}
use Rattle.qd_txnfile.specs.declared.half.Half.TheVariants.{First, Second}

-- a version: its number, and the bytes that say what it is
pub record Version : Type 0 where
  pub n : ℕ
  pub manifest : List ℕ

-- what stands behind the gate
abbrev pub body : Version → List ℕ
body v = to_le_bytes w64 v.n ++ (to_le_bytes w64 (length v.manifest) ++ v.manifest)

-- The number of each of the two files.
abbrev pub file_of : Half → ℕ
file_of First = 2
file_of Second = 3

abbrev pub other_of : Half → Half
other_of First = Second
other_of Second = First

abbrev pub is_version_file : ℕ → Bool
is_version_file file = nat_eq file 2 || nat_eq file 3

-- a file whose gate is open holds a version
pub record HoldsVersion (bytes : List ℕ) (v : Version) : Type 0 where
  pub number : v.n < 2 ^ 64
  pub size : length v.manifest < 2 ^ 64
  pub open_gate : StandsAt bytes 0 (1 ∷ body v)

-- the gate of a file is there, and isn't open
pub record IsClosed (bytes : List ℕ) : Type 0 where
  pub gate : ℕ
  pub there : StandsAt bytes 0 (gate ∷ [])
  pub not_open : gate ≡ 1 → ⊥

-- a file is open for a version of a number below a limit
pub record IsOpenBelow (limit : ℕ) (bytes : List ℕ) : Type 0 where
  pub n : ℕ
  pub small : n < 2 ^ 64
  pub below : n < limit
  pub open_gate : StandsAt bytes 0 (1 ∷ to_le_bytes w64 n)

-- The other file's version is the older one, where it has a number below this limit: where both have one number, it is the
-- first file's version that counts.
abbrev pub limit_of : Half → ℕ → ℕ
limit_of First n = n + 1
limit_of Second n = n

-- one of the two files has the version that they give
pub record GivesFrom (half : Half) (v : Version) (image : Image) : Type 0 where
  pub holds : HoldsVersion (image (file_of half)) v
  pub older : IsClosed (image (file_of (other_of half))) ⊎ IsOpenBelow (limit_of half v.n) (image (file_of (other_of half)))

-- The version that two files give: that of the greater number among those whose gate is open.
abbrev pub GivesVersion : Version → Image → Type 0
GivesVersion v image = (half : Half) × GivesFrom half v image
