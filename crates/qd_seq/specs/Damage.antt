-- Where a log gives no list: at the first byte of the mark or of the record that breaks the layout, or at the log's length where
-- bytes are missing.
use Rattle.std.specs.Prelude.{◌≡◌, ◌⊎◌, ℕ, ◌+◌, ◌^◌, ◌<◌, ◌≤◌, List, ◌∷◌, length, take}
use Rattle.qd_base.specs.declared.part.WalRef.{WalRef}
use Rattle.qd_durable.specs.Places.{StandsAt}
use Rattle.qd_seq.specs.Layout.{Fits, HasRecords, IsOpen, body, mark, place_of}
use Rattle.qd_base.specs.declared.limits.TheConstants.{MAX_TXNS}

-- The byte of record n at which a reference that can't be its breaks the layout: that of the number of a writer, where it is greater
-- than the record's own; else that of the number of a segment, where it is too great.
pub data IsUnlawfulAt (n : ℕ) (ref : WalRef) : ℕ → Type 0 where
  Writer : n < ref.wal → IsUnlawfulAt n ref 1
  Segment : ref.wal ≤ n → 2 ^ 24 ≤ ref.segment → IsUnlawfulAt n ref 5

-- the bytes of a reference that can't be that of record n, which breaks the layout at one of its bytes
pub record IsBadRecord (bytes : List ℕ) (n byte : ℕ) : Type 0 where
  pub ref : WalRef
  pub fits : Fits ref
  pub stands : StandsAt bytes (place_of n) (1 ∷ body ref)
  pub unlawful : IsUnlawfulAt n ref byte

-- Record n is where a log breaks off: it has no gate; or its gate is open, and it is one too many, or cut, or has a reference that
-- can't be its.
pub data IsBreak (bytes : List ℕ) (n : ℕ) : ℕ → Type 0 where
  NoGate : length bytes ≡ place_of n → IsBreak bytes n (length bytes)
  TooMany : IsOpen bytes (place_of n) → n ≡ MAX_TXNS → IsBreak bytes n (place_of n)
  CutRecord : IsOpen bytes (place_of n) → n < MAX_TXNS → length bytes < place_of n + 25 → IsBreak bytes n (length bytes)
  BadRecord : (byte : ℕ) → n < MAX_TXNS → IsBadRecord bytes n byte → IsBreak bytes n (place_of n + byte)

-- The damage of a log, in the order in which it is looked for: another mark, as far as its bytes go; a mark that is cut; the first
-- record that breaks the layout.
pub data IsDamaged (bytes : List ℕ) : ℕ → Type 0 where
  OtherMark : (take 8 bytes ≡ take (length bytes) mark → ⊥) → IsDamaged bytes 0
  CutMark : bytes ≡ take (length bytes) mark → length bytes < 8 → IsDamaged bytes (length bytes)
  AtRecord : (refs : List WalRef) (at : ℕ) → HasRecords refs bytes → IsBreak bytes (length refs) at → IsDamaged bytes at
