-- What is read of the bytes of a log.
use Rattle.std.specs.Prelude.{◌≡◌, ◌⊎◌, ℕ, ◌+◌, ◌-◌, ◌*◌, ◌<◌, ◌≤◌, Bool, true, false, List, [], ◌∷◌, length, slice_index, Result, Ok, Err, Vec}
use Rattle.std.specs.declared.alloc.Global.{Global}
use Rattle.qd_base.specs.declared.part.WalRef.{WalRef}
use Rattle.qd_durable.specs.Places.{StandsAt}
use Rattle.qd_durable.specs.declared.fault.LogFault.{LogFault}
use Rattle.qd_durable.specs.declared.fault.LogFault.TheVariants as fault
use Rattle.qd_seq.specs.declared.reading.End.{End}
use Rattle.qd_seq.specs.declared.reading.End.TheVariants as end
use Rattle.qd_seq.specs.declared.reading.Seen.{Seen}
use Rattle.qd_seq.specs.declared.reading.Seen.TheVariants as seen
use Rattle.qd_seq.specs.Layout.{Fits, HasRecords, IsClosed, IsLawful, IsOpen, SpellsLog, body, mark, place_of, spelled}
use Rattle.qd_seq.specs.Damage.{IsDamaged, IsUnlawfulAt}
use Rattle.qd_base.specs.declared.limits.TheConstants.{MAX_TXNS}

-- a byte of the log is one that a read of its place gave
pub record IsGivenByte (gives : ℕ → ℕ → List ℕ → Type 0) (place byte : ℕ) : Type 0 where
  pub from : ℕ
  pub part : List ℕ
  pub given : gives 1 from part
  pub behind : from ≤ place
  pub within : place < from + length part
  pub same : slice_index part (place - from) ≡ byte

-- The first bytes of the log, each of which a read gave. Which bytes a read may have given is what a volume says, also one that tells
-- nothing of what it holds.
abbrev pub AreGiven : (ℕ → ℕ → List ℕ → Type 0) → List ℕ → Type 0
AreGiven gives bytes = (i : ℕ) → i < length bytes → IsGivenByte gives i (slice_index bytes i)

-- bytes that reads gave spell a log of this list
pub record IsGiven (gives : ℕ → ℕ → List ℕ → Type 0) (refs : List WalRef) : Type 0 where
  pub bytes : List ℕ
  pub given : AreGiven gives bytes
  pub spelled : SpellsLog refs bytes

-- bytes that reads gave are the mark and the records so far
pub record IsSoFar (gives : ℕ → ℕ → List ℕ → Type 0) (refs : List WalRef) : Type 0 where
  pub given : AreGiven gives (spelled refs)
  pub records : HasRecords refs (spelled refs)

-- a piece is read: more may follow, or the log ends behind the records
abbrev pub IsPieceGiven : (ℕ → ℕ → List ℕ → Type 0) → Result Bool LogFault → List WalRef → Type 0
IsPieceGiven gives (Ok true) refs = IsSoFar gives refs
IsPieceGiven gives (Ok false) refs = IsGiven gives refs
IsPieceGiven gives (Err cause) refs = Unit {0}

-- the log is damaged there
abbrev pub IsBroken : List ℕ → LogFault → Type 0
IsBroken bytes (fault.Damaged file at) = (file ≡ 1) × IsDamaged bytes at
IsBroken bytes _ = Unit {0}

-- the volume didn't fail
abbrev pub IsOfBytes : LogFault → Type 0
IsOfBytes fault.Vol = ⊥
IsOfBytes _ = Unit {0}

-- the mark stands, or the log is damaged
abbrev pub IsMarked : {T : Type 0} → Result T LogFault → List ℕ → Type 0
IsMarked (Ok done) bytes = StandsAt bytes 0 mark
IsMarked (Err cause) bytes = IsBroken bytes cause

-- record n is one too many, which its gate says
abbrev pub IsTooMany : ℕ → ℕ → Type 0
IsTooMany n byte = (n ≡ MAX_TXNS) × (byte ≡ 0)

-- a reference that can't be that of record n, in bytes that begin with it
abbrev pub IsBadRest : ℕ → ℕ → List ℕ → Type 0
IsBadRest n byte rest = (n < MAX_TXNS) × (ref : WalRef) × Fits ref × StandsAt rest 0 (1 ∷ body ref) × IsUnlawfulAt n ref byte

-- why record n is none, in bytes that begin with it
abbrev pub IsEnd : End → ℕ → List ℕ → Type 0
IsEnd end.Closed n rest = IsClosed rest 0
IsEnd end.Cut n rest = (rest ≡ []) ⊎ (IsOpen rest 0 × (n < MAX_TXNS) × (length rest < 25))
IsEnd (end.Broken byte) n rest = IsOpen rest 0 × (IsTooMany n byte ⊎ IsBadRest n byte rest)

-- record n, or why it is none
abbrev pub IsSeen : Seen → ℕ → List ℕ → Type 0
IsSeen (seen.Entry ref) n rest = (n < MAX_TXNS) × IsLawful n ref × StandsAt rest 0 (1 ∷ body ref)
IsSeen (seen.Ends end) n rest = IsEnd end n rest

-- why there is no record behind these, in the bytes of a log up to a place
abbrev pub EndsAt : End → ℕ → ℕ → List ℕ → Type 0
EndsAt end.Closed n limit bytes = IsClosed bytes (place_of n)
EndsAt end.Cut n limit bytes = (limit ≡ place_of n) ⊎ (IsOpen bytes (place_of n) × (n < MAX_TXNS) × (limit < place_of n + 25))
EndsAt (end.Broken byte) n limit bytes = IsDamaged bytes (place_of n + byte)

-- the records up to that place are these
pub record AreTaken (end : End) (refs : List WalRef) (limit : ℕ) (bytes : List ℕ) : Type 0 where
  pub records : HasRecords refs bytes
  pub ends : EndsAt end (length refs) limit bytes

-- of a piece of so many bytes less than a record is left, where it is cut
abbrev pub IsUsedUp : End → ℕ → ℕ → ℕ → Type 0
IsUsedUp end.Cut before now size = 25 * before + size < 25 * now + 25
IsUsedUp _ before now size = Unit {0}

-- A piece of a log is read: more may follow, or the log ends behind the records so far, or it is damaged.
abbrev pub IsPieceRead : Result Bool LogFault → List WalRef → List ℕ → Type 0
IsPieceRead (Ok true) refs bytes = HasRecords refs bytes
IsPieceRead (Ok false) refs bytes = SpellsLog refs bytes
IsPieceRead (Err cause) refs bytes = IsBroken bytes cause

-- all pieces of a log are read: it ends behind the records so far, or it is damaged
abbrev pub IsListRead : {T : Type 0} → Result T LogFault → List WalRef → List ℕ → Type 0
IsListRead (Ok done) refs bytes = SpellsLog refs bytes
IsListRead (Err cause) refs bytes = IsBroken bytes cause

-- what is read of a log: its list, or where it is damaged
abbrev pub IsRead : Result (Vec WalRef Global) LogFault → List ℕ → Type 0
IsRead (Ok refs) bytes = SpellsLog refs.items bytes
IsRead (Err cause) bytes = IsBroken bytes cause
