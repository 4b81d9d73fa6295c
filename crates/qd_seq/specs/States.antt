-- What an object knows of the log of a told volume.
use Rattle.std.specs.Prelude.{◌⊎◌, ℕ, ◌+◌, ◌<◌, List, [], ◌∷◌, ◌++◌, length, Option, None, Some}
use Rattle.qd_base.specs.declared.part.WalRef.{WalRef}
use Rattle.qd_volume.specs.Disk.{Disk, Image}
use Rattle.qd_durable.specs.Moments.{EachNow}
use Rattle.qd_durable.specs.Places.{StandsAt}
use Rattle.qd_seq.specs.Layout.{GivesList, HasRecords, IsClosed, IsLawful, body, place_of}
use Rattle.qd_base.specs.declared.limits.TheConstants.{MAX_TXNS}

-- A log as contracts see it.
pub record Log : Type 0 where
  -- the references, in commit order
  pub refs : List WalRef
  -- how many more fit into the memory that it has
  pub spare : ℕ
  -- the one whose gate may be open by an append that failed
  pub pending : Option WalRef

-- What stands at record n, behind the last one: a gate that isn't open; or, whatever the gate is, the reference that is pending, with
-- the closed gate of the record behind it.
abbrev pub IsBehind : Option WalRef → ℕ → List ℕ → Type 0
IsBehind None n bytes = IsClosed bytes (place_of n)
IsBehind (Some ref) n bytes = IsLawful n ref × (n < MAX_TXNS) × StandsAt bytes (place_of n + 1) (body ref ++ 0 ∷ [])

pub record IsKnown (refs : List WalRef) (pending : Option WalRef) (bytes : List ℕ) : Type 0 where
  pub records : HasRecords refs bytes
  pub behind : IsBehind pending (length refs) bytes

-- what is known of the log in every image that a crash may leave now
abbrev pub Knows : List WalRef → Option WalRef → Disk → Type 0
Knows refs pending disk = EachNow disk (λ image. IsKnown refs pending (image 1))

-- an image gives a list, or that list with one more reference
abbrev pub GivesOneOf : List WalRef → WalRef → Image → Type 0
GivesOneOf refs ref image = GivesList refs image ⊎ GivesList (refs ++ ref ∷ []) image

-- What an image gives by what is known: the list, or that with the reference that is pending.
abbrev pub GivesKnown : List WalRef → Option WalRef → Image → Type 0
GivesKnown refs None image = GivesList refs image
GivesKnown refs (Some ref) image = GivesOneOf refs ref image
