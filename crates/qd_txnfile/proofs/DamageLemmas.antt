-- Damaged files have one place of damage.
use Rattle.std.proofs.Common.{◌≡◌, inl, inr, ℕ, ◌+◌, ◌<◌, ◌≤◌, List, [], ◌∷◌, length, refl, ap, arith}
use Rattle.std.specs.Int.{to_le_bytes, w64}
use Rattle.qd_volume.specs.Disk.{Image}
use Rattle.qd_durable.specs.Places.{StandsAt}
use Rattle.qd_durable.proofs.Standing.{stands_room}
use Rattle.qd_txnfile.specs.declared.half.Half.{Half}
use Rattle.qd_txnfile.specs.declared.half.Half.TheVariants.{First, Second}
use Rattle.qd_txnfile.specs.Versions.{IsClosed, file_of}
use Rattle.qd_txnfile.specs.Damage.{Cut, FirstShort, HasItsNumber, HasNoGate, HasNoNumber, IsCutVersion, IsDamaged, NoFirst, NoSecond, NoneOpen, SecondShort}
use Rattle.qd_txnfile.proofs.Files.{closed_or_open, number_long}
use Rattle.qd_txnfile.proofs.LawLemmas.{not_short, open_below, some_byte}

no_byte : (bytes : List ℕ) → HasNoGate bytes → 0 < length bytes → ⊥
no_byte bytes none some = omega (arith, ap length none, some)

closed_byte : (bytes : List ℕ) → IsClosed bytes → 0 < length bytes
closed_byte bytes closed = omega (arith, stands_room bytes 0 (closed.gate ∷ []) closed.there (omega arith))

short_byte : (bytes : List ℕ) → HasNoNumber bytes → 0 < length bytes
short_byte bytes short = omega (arith, stands_room bytes 0 (1 ∷ []) short.open_gate (omega arith))

had_byte : (bytes : List ℕ) → HasItsNumber bytes → 0 < length bytes
had_byte bytes (inl closed) = closed_byte bytes closed
had_byte bytes (inr long) = omega (arith, long)

-- a file that is open for a number
numbered : (bytes : List ℕ) (n : ℕ) → StandsAt bytes 0 (1 ∷ to_le_bytes w64 n) → 9 ≤ length bytes
numbered bytes n opened = omega (arith, stands_room bytes 0 (1 ∷ to_le_bytes w64 n) opened (omega arith), number_long n)

cut_byte : (image : Image) (half : Half) → IsCutVersion half image → (file : Half) → 0 < length (image (file_of file))
cut_byte image First cut First = omega (arith, numbered (image 2) cut.n cut.open_gate)
cut_byte image First cut Second = some_byte (cut.n + 1) (image 3) cut.older
cut_byte image Second cut First = some_byte cut.n (image 2) cut.older
cut_byte image Second cut Second = omega (arith, numbered (image 3) cut.n cut.open_gate)

none_cut : (image : Image) (half : Half) → IsClosed (image 2) → IsClosed (image 3) → IsCutVersion half image → ⊥
none_cut image First first second cut = closed_or_open (image 2) (to_le_bytes w64 cut.n) first cut.open_gate
none_cut image Second first second cut = closed_or_open (image 3) (to_le_bytes w64 cut.n) second cut.open_gate

short_numbered : (bytes : List ℕ) → HasNoNumber bytes → HasItsNumber bytes → ⊥
short_numbered bytes short (inl closed) = closed_or_open bytes [] closed short.open_gate
short_numbered bytes short (inr long) = omega (arith, short.short, long)

first_cut : (image : Image) (half : Half) → HasNoNumber (image 2) → IsCutVersion half image → ⊥
first_cut image First short cut = omega (arith, short.short, numbered (image 2) cut.n cut.open_gate)
first_cut image Second short cut = not_short cut.n (image 2) short cut.older

second_cut : (image : Image) (half : Half) → HasNoNumber (image 3) → IsCutVersion half image → ⊥
second_cut image First short cut = not_short (cut.n + 1) (image 3) short cut.older
second_cut image Second short cut = omega (arith, short.short, numbered (image 3) cut.n cut.open_gate)

-- the newest version is in one file
two_cut : (image : Image) → IsCutVersion First image → IsCutVersion Second image → ⊥
two_cut image a b = omega (arith, open_below b.n a.n (image 2) a.number a.open_gate b.older, open_below (a.n + 1) b.n (image 3) b.number b.open_gate a.older)

one_cut : (image : Image) (one two : Half) → IsCutVersion one image → IsCutVersion two image → (file_of one ≡ file_of two) × (length (image (file_of one)) ≡ length (image (file_of two)))
one_cut image First First a b = (refl, refl)
one_cut image First Second a b = absurd (two_cut image a b)
one_cut image Second First a b = absurd (two_cut image b a)
one_cut image Second Second a b = (refl, refl)

pub one_place : (image : Image) (file at other_file other_at : ℕ) → IsDamaged image file at → IsDamaged image other_file other_at → (file ≡ other_file) × (at ≡ other_at)
one_place image file at other_file other_at (NoFirst xa) (NoFirst ya) = (refl, refl)
one_place image file at other_file other_at (NoFirst xa) (NoSecond ya yb) = absurd (no_byte (image 2) xa ya)
one_place image file at other_file other_at (NoFirst xa) (NoneOpen ya yb) = absurd (no_byte (image 2) xa (closed_byte (image 2) ya))
one_place image file at other_file other_at (NoFirst xa) (FirstShort ya yb) = absurd (no_byte (image 2) xa (short_byte (image 2) ya))
one_place image file at other_file other_at (NoFirst xa) (SecondShort ya yb) = absurd (no_byte (image 2) xa (had_byte (image 2) ya))
one_place image file at other_file other_at (NoFirst xa) (Cut yh ya) = absurd (no_byte (image 2) xa (cut_byte image yh ya First))
one_place image file at other_file other_at (NoSecond xa xb) (NoFirst ya) = absurd (no_byte (image 2) ya xa)
one_place image file at other_file other_at (NoSecond xa xb) (NoSecond ya yb) = (refl, refl)
one_place image file at other_file other_at (NoSecond xa xb) (NoneOpen ya yb) = absurd (no_byte (image 3) xb (closed_byte (image 3) yb))
one_place image file at other_file other_at (NoSecond xa xb) (FirstShort ya yb) = absurd (no_byte (image 3) xb yb)
one_place image file at other_file other_at (NoSecond xa xb) (SecondShort ya yb) = absurd (no_byte (image 3) xb (short_byte (image 3) yb))
one_place image file at other_file other_at (NoSecond xa xb) (Cut yh ya) = absurd (no_byte (image 3) xb (cut_byte image yh ya Second))
one_place image file at other_file other_at (NoneOpen xa xb) (NoFirst ya) = absurd (no_byte (image 2) ya (closed_byte (image 2) xa))
one_place image file at other_file other_at (NoneOpen xa xb) (NoSecond ya yb) = absurd (no_byte (image 3) yb (closed_byte (image 3) xb))
one_place image file at other_file other_at (NoneOpen xa xb) (NoneOpen ya yb) = (refl, refl)
one_place image file at other_file other_at (NoneOpen xa xb) (FirstShort ya yb) = absurd (closed_or_open (image 2) [] xa ya.open_gate)
one_place image file at other_file other_at (NoneOpen xa xb) (SecondShort ya yb) = absurd (closed_or_open (image 3) [] xb yb.open_gate)
one_place image file at other_file other_at (NoneOpen xa xb) (Cut yh ya) = absurd (none_cut image yh xa xb ya)
one_place image file at other_file other_at (FirstShort xa xb) (NoFirst ya) = absurd (no_byte (image 2) ya (short_byte (image 2) xa))
one_place image file at other_file other_at (FirstShort xa xb) (NoSecond ya yb) = absurd (no_byte (image 3) yb xb)
one_place image file at other_file other_at (FirstShort xa xb) (NoneOpen ya yb) = absurd (closed_or_open (image 2) [] ya xa.open_gate)
one_place image file at other_file other_at (FirstShort xa xb) (FirstShort ya yb) = (refl, refl)
one_place image file at other_file other_at (FirstShort xa xb) (SecondShort ya yb) = absurd (short_numbered (image 2) xa ya)
one_place image file at other_file other_at (FirstShort xa xb) (Cut yh ya) = absurd (first_cut image yh xa ya)
one_place image file at other_file other_at (SecondShort xa xb) (NoFirst ya) = absurd (no_byte (image 2) ya (had_byte (image 2) xa))
one_place image file at other_file other_at (SecondShort xa xb) (NoSecond ya yb) = absurd (no_byte (image 3) yb (short_byte (image 3) xb))
one_place image file at other_file other_at (SecondShort xa xb) (NoneOpen ya yb) = absurd (closed_or_open (image 3) [] yb xb.open_gate)
one_place image file at other_file other_at (SecondShort xa xb) (FirstShort ya yb) = absurd (short_numbered (image 2) ya xa)
one_place image file at other_file other_at (SecondShort xa xb) (SecondShort ya yb) = (refl, refl)
one_place image file at other_file other_at (SecondShort xa xb) (Cut yh ya) = absurd (second_cut image yh xb ya)
one_place image file at other_file other_at (Cut xh xa) (NoFirst ya) = absurd (no_byte (image 2) ya (cut_byte image xh xa First))
one_place image file at other_file other_at (Cut xh xa) (NoSecond ya yb) = absurd (no_byte (image 3) yb (cut_byte image xh xa Second))
one_place image file at other_file other_at (Cut xh xa) (NoneOpen ya yb) = absurd (none_cut image xh ya yb xa)
one_place image file at other_file other_at (Cut xh xa) (FirstShort ya yb) = absurd (first_cut image xh ya xa)
one_place image file at other_file other_at (Cut xh xa) (SecondShort ya yb) = absurd (second_cut image xh yb xa)
one_place image file at other_file other_at (Cut xh xa) (Cut yh ya) = one_cut image xh yh xa ya
