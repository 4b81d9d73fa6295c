-- The laws of what is read of a segment.
use Rattle.std.specs.Prelude.{◌≡◌, ℕ, ◌^◌, ◌<◌, List, Result}
use Rattle.qd_base.specs.declared.op.Entry.{Entry}
use Rattle.qd_base.specs.declared.part.WalRef.{WalRef}
use Rattle.qd_durable.specs.Moments.{EachNow, LeavesOnly}
use Rattle.qd_io.specs.declared.fault.IoFault.{IoFault}
use Rattle.qd_volume.specs.Disk.{Disk}
use Rattle.qd_wal.specs.Puts.{IsApart, Puts}
use Rattle.qd_wal.specs.Reading.{IsDamagedIn, SpellsAt}
use Rattle.qd_wal.specs.Segments.{file_in, segment_file}

-- Each segment of each log has a file of its own.
abbrev pub SegmentsAreFiles : Type 0
SegmentsAreFiles = (wal segment log other : ℕ) → segment < 2 ^ 24 → other < 2 ^ 24 → segment_file wal segment ≡ segment_file log other → (wal ≡ log) × (segment ≡ other)

-- While an entry is put, and behind that, those that lie apart from its place are spelled on, in each image that a crash may leave.
abbrev pub EntriesStay : Type 0
EntriesStay = (result : Result WalRef IoFault) (at entry : WalRef) (bytes : List ℕ) (e : Entry) (before after : Disk) → Puts result at bytes before after → IsApart at entry → EachNow before (λ image. SpellsAt (image (file_in entry)) entry e) → LeavesOnly before after (λ image. SpellsAt (image (file_in entry)) entry e) × EachNow after (λ image. SpellsAt (image (file_in entry)) entry e)

-- The bytes at a place spell one transaction.
abbrev pub OneEntryIsRead : Type 0
OneEntryIsRead = (bytes : List ℕ) (at : WalRef) (a b : Entry) → SpellsAt bytes at a → SpellsAt bytes at b → a ≡ b

-- Damaged bytes have one place of damage, and spell nothing.
abbrev pub DamageHasOnePlace : Type 0
DamageHasOnePlace = (bytes : List ℕ) (at : WalRef) (place other : ℕ) → IsDamagedIn bytes at place → IsDamagedIn bytes at other → place ≡ other

abbrev pub DamagedIsUnspelled : Type 0
DamagedIsUnspelled = (bytes : List ℕ) (at : WalRef) (place : ℕ) (e : Entry) → IsDamagedIn bytes at place → SpellsAt bytes at e → ⊥
