-- What a read and a write do to the two ends of a stream of bytes, and when a count of failures has risen.
--
-- The rules are those of POSIX read() and write() (The Open Group Base Specifications, System Interfaces): a
-- read gives at most as many bytes as its buffer has room for, and 0 only at the end of the input; a write
-- takes a prefix of the bytes that it is given, and says how many.
use Rattle.std.specs.Prelude.{◌≡◌, ℕ, ◌+◌, ◌-◌, ◌<◌, ◌≤◌, ◌⊎◌, List, [], ◌++◌, length, take, drop, min}
use Rattle.std.specs.Prelude.{Option, None, Some, Result, Ok, Err}
use Rattle.std.specs.Borrow.{GName}
use Rattle.qd_io.specs.declared.fault.IoFault.{IoFault}
use Rattle.qd_io.specs.declared.fault.IoFault.TheVariants as fault

-- What an object that reads or writes bytes shows at a moment.
pub record Stream : Type 0 where
  -- the bytes that reads may still give, where the object tells them
  pub input : Option (List ℕ)
  -- the bytes that writes have taken so far, where it tells them
  pub output : Option (List ℕ)
  -- how many reads, and how many writes, have failed
  pub reads_failed : ℕ
  pub writes_failed : ℕ
  -- the borrows through which each end is reached, from the outermost
  pub input_lent : List GName
  pub output_lent : List GName

-- a read leaves all but the input and the count of failed reads as it was
pub record OutputStays (old new : Stream) : Type 0 where
  pub output : new.output ≡ old.output
  pub writes_failed : new.writes_failed ≡ old.writes_failed
  pub input_lent : new.input_lent ≡ old.input_lent
  pub output_lent : new.output_lent ≡ old.output_lent

-- a write leaves all but the output and the count of failed writes as it was
pub record InputStays (old new : Stream) : Type 0 where
  pub input : new.input ≡ old.input
  pub reads_failed : new.reads_failed ≡ old.reads_failed
  pub input_lent : new.input_lent ≡ old.input_lent
  pub output_lent : new.output_lent ≡ old.output_lent

-- the greatest number that a count of failures can show; there it stands still
abbrev pub last_count : ℕ
last_count = 18446744073709551615

-- a count and so many failures more, as far as a count can show them
abbrev pub counts_together : ℕ → ℕ → ℕ
counts_together count more = count + min more (last_count - count)

-- the count is greater now than it was before, or it stands at its greatest number
abbrev pub HasRisen : ℕ → ℕ → Type 0
HasRisen before now = (before < now) ⊎ (last_count ≤ now)

-- A call answers `Failed` exactly where it raises the count of failures: it has risen then, and is what it was after every
-- other answer, want of memory among them.
abbrev pub Counts : {T : Type 0} → ℕ → ℕ → Result T IoFault → Type 0
Counts before now (Ok answer) = now ≡ before
Counts before now (Err fault.Failed) = (before ≤ now) × HasRisen before now
Counts before now (Err fault.Memory) = now ≡ before

-- a read of n of the bytes
pub record TakesPrefix (bytes : List ℕ) (now : Option (List ℕ)) (buffer : List ℕ) (n : ℕ) : Type 0 where
  pub within : n ≤ length bytes
  -- they stand at the start of the buffer
  pub given : take n buffer ≡ take n bytes
  -- and are gone from the input
  pub rest : now ≡ Some (drop n bytes)
  -- there are none only at the end of the input, or where the buffer has no room
  pub at_end : n ≡ 0 → 0 < length buffer → bytes ≡ []

-- a read of an input that tells its bytes: it takes the first ones, or none where it fails
abbrev pub Reads : {E : Type 0} → Option (List ℕ) → Option (List ℕ) → List ℕ → Result ℕ E → Type 0
Reads None now buffer result = Unit {0}
Reads (Some bytes) now buffer (Ok n) = TakesPrefix bytes now buffer n
Reads (Some bytes) now buffer (Err fault) = now ≡ Some bytes

-- a write to a told output: the first n of the bytes stand behind what was there; a write that fails adds none
abbrev pub Writes : {E : Type 0} → Option (List ℕ) → Option (List ℕ) → List ℕ → Result ℕ E → Type 0
Writes None now bytes result = Unit {0}
Writes (Some before) now bytes (Ok n) = now ≡ Some (before ++ take n bytes)
Writes (Some before) now bytes (Err fault) = now ≡ Some before

-- all of the bytes are written to a told output; after a fault a prefix of them is
abbrev pub WritesAll : {T E : Type 0} → Option (List ℕ) → Option (List ℕ) → List ℕ → Result T E → Type 0
WritesAll None now bytes result = Unit {0}
WritesAll (Some before) now bytes (Ok done) = now ≡ Some (before ++ bytes)
WritesAll (Some before) now bytes (Err fault) = (n : ℕ) × (n ≤ length bytes) × (now ≡ Some (before ++ take n bytes))
