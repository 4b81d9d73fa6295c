-- What an object knows of the two version files of a told volume.
use Rattle.std.specs.Prelude.{◌≡◌, ◌⊎◌, ℕ, ◌^◌, ◌<◌, List, length}
use Rattle.std.specs.Int.{to_le_bytes, w64}
use Rattle.qd_volume.specs.Disk.{Disk, Image}
use Rattle.qd_durable.specs.Moments.{EachNow}
use Rattle.qd_durable.specs.Places.{StandsAt}
use Rattle.qd_txnfile.specs.declared.half.Half.{Half}
use Rattle.qd_txnfile.specs.declared.half.Other.{Other}
use Rattle.qd_txnfile.specs.declared.half.Other.TheVariants as other
use Rattle.qd_txnfile.specs.Versions.{GivesVersion, HoldsVersion, IsClosed, Version, body, file_of, limit_of, other_of}

-- A root: which file has the current version, the number of that version, and what is known of the other file.
pub record Root : Type 0 where
  pub current : Half
  pub n : ℕ
  pub other : Other

-- a version was written into the other file, its gate being closed
abbrev pub IsWritten : Other → Type 0
IsWritten (other.Written n) = Unit {0}
IsWritten _ = ⊥

-- the gate of a version may be open in the other file, by a call that failed
abbrev pub IsDirty : Other → Type 0
IsDirty (other.Opening n) = Unit {0}
IsDirty _ = ⊥

-- the version in the other file is newer than the current one
abbrev pub IsNewer : ℕ → Other → Type 0
IsNewer current (other.Written n) = current < n
IsNewer current (other.Opening n) = current < n
IsNewer current _ = Unit {0}

-- the number of the version in the other file, or else another one
abbrev pub number_in : Other → ℕ → ℕ
number_in (other.Written n) none = n
number_in (other.Opening n) none = n
number_in _ none = none

-- a root once the gate of the other file is open
abbrev pub with_next : Root → Root
with_next root = record { current = other_of root.current; n = number_in root.other root.n; other = other.Older }

-- a root once the gate of the other file may be open
abbrev pub with_opening : Root → Root
with_opening root = record root { other = other.Opening (number_in root.other root.n) }

-- a root once something is known of the other file
abbrev pub with_other : Root → Other → Root
with_other root known = record root { other = known }

-- the version in the other file is this one
pub record IsNext (n : ℕ) (current next : Version) : Type 0 where
  pub is : n ≡ next.n
  pub number : next.n < 2 ^ 64
  pub size : length next.manifest < 2 ^ 64
  pub newer : current.n < next.n

abbrev pub HasNext : Other → Version → Version → Type 0
HasNext (other.Written n) current next = IsNext n current next
HasNext (other.Opening n) current next = IsNext n current next
HasNext _ current next = Unit {0}

-- What the bytes of the other file are, in each image. Whatever its gate is, it may have an older version behind it, or the
-- next one.
abbrev pub IsKnown : Other → ℕ → Version → List ℕ → Type 0
IsKnown other.Older limit next bytes = (n : ℕ) × (n < 2 ^ 64) × (n < limit) × StandsAt bytes 1 (to_le_bytes w64 n)
IsKnown other.Closed limit next bytes = IsClosed bytes
IsKnown (other.Written n) limit next bytes = IsClosed bytes × StandsAt bytes 1 (body next)
IsKnown (other.Opening n) limit next bytes = StandsAt bytes 1 (body next)

-- What a root knows of a told volume: the current version is this one, and the one that was written into the other file, where
-- one was, is that one, each in every image that a crash may leave now.
pub record Knows (root : Root) (current next : Version) (disk : Disk) : Type 0 where
  pub number : root.n ≡ current.n
  pub follows : HasNext root.other current next
  pub holds : EachNow disk (λ image. HoldsVersion (image (file_of root.current)) current)
  pub known : EachNow disk (λ image. IsKnown root.other (limit_of root.current current.n) next (image (file_of (other_of root.current))))

-- an image gives one of two versions
abbrev pub GivesOneOf : Version → Version → Image → Type 0
GivesOneOf current next image = GivesVersion current image ⊎ GivesVersion next image

-- What an image gives by what is known of the other file: the current version, or the next one where its gate may be open.
abbrev pub GivesKnown : Other → Version → Version → Image → Type 0
GivesKnown (other.Opening n) current next image = GivesOneOf current next image
GivesKnown _ current next image = GivesVersion current image
