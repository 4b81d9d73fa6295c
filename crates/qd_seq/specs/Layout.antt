-- The sequencer log, and the list of references that it gives.
--
-- The log begins with a mark of eight bytes. Record n begins 25·n bytes behind the mark: a gate in one byte, and a reference to the
-- bytes of a transaction in the write-ahead log, as the numbers of a writer's log and of a segment in 4 bytes each, the offset of
-- the first byte and the number of bytes in 8 bytes each, the lowest byte first. The log gives the references before the first gate
-- that isn't open; a gate is open where its byte is 1. What follows that gate is of no account.
use Rattle.std.specs.Prelude.{◌≡◌, ℕ, suc, ◌+◌, ◌*◌, ◌^◌, ◌<◌, ◌≤◌, List, [], ◌∷◌, ◌++◌, length, All}
use Rattle.std.specs.Int.{to_le_bytes, w32, w64}
use Rattle.qd_base.specs.declared.part.WalRef.{WalRef}
use Rattle.qd_volume.specs.Disk.{Image}
use Rattle.qd_durable.specs.Places.{StandsAt}
use Rattle.qd_base.specs.declared.limits.TheConstants.{MAX_TXNS}

-- `TSDBSEQ1`
abbrev pub mark : List ℕ
mark = 84 ∷ 83 ∷ 68 ∷ 66 ∷ 83 ∷ 69 ∷ 81 ∷ 49 ∷ []

-- what stands behind the gate of a record
abbrev pub body : WalRef → List ℕ
body ref = to_le_bytes w32 ref.wal ++ (to_le_bytes w32 ref.segment ++ (to_le_bytes w64 ref.start ++ to_le_bytes w64 ref.len))

-- records whose gates are open
abbrev pub records : List WalRef → List ℕ
records [] = []
records (ref ∷ more) = (1 ∷ body ref) ++ records more

-- a log up to the gate behind its last record
abbrev pub spelled : List WalRef → List ℕ
spelled refs = mark ++ records refs

-- where a record begins
abbrev pub place_of : ℕ → ℕ
place_of n = 8 + 25 * n

-- the numbers of a reference fit their bytes
pub record Fits (ref : WalRef) : Type 0 where
  pub wal : ref.wal < 2 ^ 32
  pub segment : ref.segment < 2 ^ 32
  pub start : ref.start < 2 ^ 64
  pub size : ref.len < 2 ^ 64

-- A reference may be that of record n: logs of writers are numbered in order of their first record, so none has a number
-- greater than that of its record.
pub record IsLawful (n : ℕ) (ref : WalRef) : Type 0 where
  pub wal : ref.wal ≤ n
  pub segment : ref.segment < 2 ^ 24
  pub start : ref.start < 2 ^ 64
  pub size : ref.len < 2 ^ 64

-- each of some references, from record n on
abbrev pub AreLawful : ℕ → List WalRef → Type 0
AreLawful n [] = Unit {0}
AreLawful n (ref ∷ more) = IsLawful n ref × AreLawful (suc n) more

-- each of some references is to a segment whose file is its log's own
abbrev pub AreInSegments : List WalRef → Type 0
AreInSegments refs = All (λ (ref : WalRef). ref.segment < 2 ^ 24) refs

-- a gate is open
abbrev pub IsOpen : List ℕ → ℕ → Type 0
IsOpen bytes at = StandsAt bytes at (1 ∷ [])

-- a gate is there, and isn't open
pub record IsClosed (bytes : List ℕ) (at : ℕ) : Type 0 where
  pub gate : ℕ
  pub there : StandsAt bytes at (gate ∷ [])
  pub not_open : gate ≡ 1 → ⊥

-- a log begins with these records
pub record HasRecords (refs : List WalRef) (bytes : List ℕ) : Type 0 where
  pub stand : StandsAt bytes 0 (spelled refs)
  pub lawful : AreLawful 0 refs
  pub few : length refs ≤ MAX_TXNS

-- the bytes of a log of these records: behind them stands a gate that isn't open
pub record SpellsLog (refs : List WalRef) (bytes : List ℕ) : Type 0 where
  pub records : HasRecords refs bytes
  pub closed : IsClosed bytes (place_of (length refs))

-- The list that a volume's log gives. The log is file 1.
abbrev pub GivesList : List WalRef → Image → Type 0
GivesList refs image = SpellsLog refs (image 1)
