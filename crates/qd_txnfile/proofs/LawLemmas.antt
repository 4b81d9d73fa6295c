-- The laws of version files.
use Rattle.std.proofs.Common.{◌≡◌, ◌⊎◌, inl, inr, ℕ, ◌+◌, ◌^◌, ◌<◌, ◌≤◌, List, [], ◌∷◌, ◌++◌, length, take, drop, sym, ◌∙◌, ap, arith, length-append}
use Rattle.std.specs.Int.{to_le_bytes, from_le_bytes, w64}
use Rattle.std.proofs.lemmas.Nat.{from_le_bytes-to_le_bytes_8}
use Rattle.qd_volume.specs.Disk.{Image}
use Rattle.qd_durable.specs.Places.{StandsAt}
use Rattle.qd_durable.proofs.Standing.{stands_back, stands_front, stands_room}
use Rattle.qd_txnfile.specs.declared.half.Half.{Half}
use Rattle.qd_txnfile.specs.declared.half.Half.TheVariants.{First, Second}
use Rattle.qd_txnfile.specs.Versions.{GivesFrom, GivesVersion, HoldsVersion, IsClosed, IsOpenBelow, Version, body, file_of}
use Rattle.qd_txnfile.specs.Damage.{Cut, FirstShort, HasNoGate, HasNoNumber, IsCut, IsCutVersion, IsDamaged, NoFirst, NoSecond, NoneOpen, SecondShort}
use Rattle.qd_txnfile.proofs.Files.{behind_gate, closed_or_open, number_long, number_of_body}

-- 8 bytes at a place are those of one number
one_number : (bytes : List ℕ) (at n m : ℕ) → n < 2 ^ 64 → m < 2 ^ 64 → StandsAt bytes at (to_le_bytes w64 n) → StandsAt bytes at (to_le_bytes w64 m) → n ≡ m
one_number bytes at n m small less first second =
    let same : to_le_bytes w64 n ≡ to_le_bytes w64 m = sym first ∙ second in
    sym (from_le_bytes-to_le_bytes_8 n small) ∙ ap (λ (l : List ℕ). from_le_bytes w64 l) same ∙ from_le_bytes-to_le_bytes_8 m less

-- a piece of a length at a place is one
one_piece : (bytes : List ℕ) (at : ℕ) (a b : List ℕ) → length a ≡ length b → StandsAt bytes at a → StandsAt bytes at b → a ≡ b
one_piece bytes at a b same first second = sym first ∙ ap (λ n. take n (drop at bytes)) same ∙ second

abbrev version : ℕ → List ℕ → Version
version n manifest = record { n = n; manifest = manifest }

same_version : (v w : Version) → v.n ≡ w.n → v.manifest ≡ w.manifest → v ≡ w
same_version v w number manifest = ap (λ n. version n v.manifest) number ∙ ap (λ (m : List ℕ). version w.n m) manifest

-- how long a body is
body_long : (v : Version) → length (body v) ≡ 16 + length v.manifest
body_long v = omega (arith, length-append (to_le_bytes w64 v.n) (to_le_bytes w64 (length v.manifest) ++ v.manifest), length-append (to_le_bytes w64 (length v.manifest)) v.manifest, number_long v.n, number_long (length v.manifest))

-- what stands behind an open gate
module _ (bytes : List ℕ) (v : Version) (holds : HoldsVersion bytes v) where
  held_body : StandsAt bytes 1 (body v)
  held_body = behind_gate bytes (body v) holds.open_gate

  held_number : StandsAt bytes 1 (to_le_bytes w64 v.n)
  held_number = number_of_body bytes v held_body

  held_rest : StandsAt bytes 9 (to_le_bytes w64 (length v.manifest) ++ v.manifest)
  held_rest = stands_back bytes 1 (to_le_bytes w64 v.n) (to_le_bytes w64 (length v.manifest) ++ v.manifest) held_body

  held_size : StandsAt bytes 9 (to_le_bytes w64 (length v.manifest))
  held_size = stands_front bytes 9 (to_le_bytes w64 (length v.manifest)) v.manifest held_rest

  held_manifest : StandsAt bytes 17 v.manifest
  held_manifest = stands_back bytes 9 (to_le_bytes w64 (length v.manifest)) v.manifest held_rest

  held_long : 17 + length v.manifest ≤ length bytes
  held_long = omega (arith, stands_room bytes 0 (1 ∷ body v) holds.open_gate (omega arith), body_long v)

one_held : (bytes : List ℕ) (v w : Version) → HoldsVersion bytes v → HoldsVersion bytes w → v ≡ w
one_held bytes v w a b =
    let number = one_number bytes 1 v.n w.n a.number b.number (held_number bytes v a) (held_number bytes w b) in
    let size = one_number bytes 9 (length v.manifest) (length w.manifest) a.size b.size (held_size bytes v a) (held_size bytes w b) in
    same_version v w number (one_piece bytes 17 v.manifest w.manifest size (held_manifest bytes v a) (held_manifest bytes w b))

-- a file that holds a version and is older than another one has a smaller number
held_below : (limit : ℕ) (bytes : List ℕ) (v : Version) → HoldsVersion bytes v → IsClosed bytes ⊎ IsOpenBelow limit bytes → v.n < limit
held_below limit bytes v holds (inl closed) = absurd (closed_or_open bytes (body v) closed holds.open_gate)
held_below limit bytes v holds (inr below) =
    let same = one_number bytes 1 v.n below.n holds.number below.small (held_number bytes v holds) (behind_gate bytes (to_le_bytes w64 below.n) below.open_gate) in
    omega (arith, same, below.below)

pub one_version : (image : Image) (v w : Version) → GivesVersion v image → GivesVersion w image → v ≡ w
one_version image v w a b = by a.0 b.0 a.1 b.1
  where
    by : (one two : Half) → GivesFrom one v image → GivesFrom two w image → v ≡ w
    by First First x y = one_held (image 2) v w x.holds y.holds
    by Second Second x y = one_held (image 3) v w x.holds y.holds
    by First Second x y = absurd (apart (held_below w.n (image 2) v x.holds y.older) (held_below (v.n + 1) (image 3) w y.holds x.older))
      where
        apart : v.n < w.n → w.n < v.n + 1 → ⊥
        apart lt le = omega arith
    by Second First x y = absurd (apart (held_below (w.n + 1) (image 3) v x.holds y.older) (held_below v.n (image 2) w y.holds x.older))
      where
        apart : v.n < w.n + 1 → w.n < v.n → ⊥
        apart le lt = omega arith

-- a file with a version or an older one has a byte
pub some_byte : (limit : ℕ) (bytes : List ℕ) → IsClosed bytes ⊎ IsOpenBelow limit bytes → 0 < length bytes
some_byte limit bytes (inl closed) = omega (arith, stands_room bytes 0 (closed.gate ∷ []) closed.there (omega arith))
some_byte limit bytes (inr below) = omega (arith, stands_room bytes 0 (1 ∷ to_le_bytes w64 below.n) below.open_gate (omega arith))

-- a file without a number
pub not_short : (limit : ℕ) (bytes : List ℕ) → HasNoNumber bytes → IsClosed bytes ⊎ IsOpenBelow limit bytes → ⊥
not_short limit bytes short (inl closed) = closed_or_open bytes [] closed short.open_gate
not_short limit bytes short (inr below) = omega (arith, short.short, stands_room bytes 0 (1 ∷ to_le_bytes w64 below.n) below.open_gate (omega arith), number_long below.n)

-- what each of the two files is, where they give a version
module _ (image : Image) (v : Version) (half : Half) (gives : GivesFrom half v image) where
  either : (file : Half) → HoldsVersion (image (file_of file)) v ⊎ ((limit : ℕ) × (IsClosed (image (file_of file)) ⊎ IsOpenBelow limit (image (file_of file))))
  either file = by half file gives
    where
      by : (half file : Half) → GivesFrom half v image → HoldsVersion (image (file_of file)) v ⊎ ((limit : ℕ) × (IsClosed (image (file_of file)) ⊎ IsOpenBelow limit (image (file_of file))))
      by First First x = inl x.holds
      by First Second x = inr (v.n + 1, x.older)
      by Second First x = inr (v.n, x.older)
      by Second Second x = inl x.holds

  has_gate : (file : Half) → HasNoGate (image (file_of file)) → ⊥
  has_gate file none = by (either file)
    where
      by : HoldsVersion (image (file_of file)) v ⊎ ((limit : ℕ) × (IsClosed (image (file_of file)) ⊎ IsOpenBelow limit (image (file_of file)))) → ⊥
      by (inl holds) = omega (arith, ap length none, held_long (image (file_of file)) v holds)
      by (inr older) = omega (arith, ap length none, some_byte older.0 (image (file_of file)) older.1)

  has_its_number : (file : Half) → HasNoNumber (image (file_of file)) → ⊥
  has_its_number file short = by (either file)
    where
      by : HoldsVersion (image (file_of file)) v ⊎ ((limit : ℕ) × (IsClosed (image (file_of file)) ⊎ IsOpenBelow limit (image (file_of file)))) → ⊥
      by (inl holds) = omega (arith, short.short, held_long (image (file_of file)) v holds)
      by (inr older) = not_short older.0 (image (file_of file)) short older.1

-- a version isn't cut
not_cut : (bytes : List ℕ) (v : Version) → HoldsVersion bytes v → IsCut bytes → ⊥
not_cut bytes v holds (inl short) = omega (arith, short, held_long bytes v holds)
not_cut bytes v holds (inr cut) =
    let same = one_number bytes 9 (length v.manifest) cut.0 holds.size cut.1 (held_size bytes v holds) cut.2 in
    omega (arith, same, cut.4, held_long bytes v holds)

-- a file open for a number and older than another one has a smaller number
pub open_below : (limit n : ℕ) (bytes : List ℕ) → n < 2 ^ 64 → StandsAt bytes 0 (1 ∷ to_le_bytes w64 n) → IsClosed bytes ⊎ IsOpenBelow limit bytes → n < limit
open_below limit n bytes small opened (inl closed) = absurd (closed_or_open bytes (to_le_bytes w64 n) closed opened)
open_below limit n bytes small opened (inr below) =
    let same = one_number bytes 1 n below.n small below.small (behind_gate bytes (to_le_bytes w64 n) opened) (behind_gate bytes (to_le_bytes w64 below.n) below.open_gate) in
    omega (arith, same, below.below)

cut_gives_none : (image : Image) (v : Version) (one two : Half) → GivesFrom one v image → IsCutVersion two image → ⊥
cut_gives_none image v First First gives cut = not_cut (image 2) v gives.holds cut.cut
cut_gives_none image v Second Second gives cut = not_cut (image 3) v gives.holds cut.cut
cut_gives_none image v First Second gives cut = omega (arith, held_below cut.n (image 2) v gives.holds cut.older, open_below (v.n + 1) cut.n (image 3) cut.number cut.open_gate gives.older)
cut_gives_none image v Second First gives cut = omega (arith, held_below (cut.n + 1) (image 3) v gives.holds cut.older, open_below v.n cut.n (image 2) cut.number cut.open_gate gives.older)

pub damaged_none : (image : Image) (v : Version) (file at : ℕ) → IsDamaged image file at → GivesVersion v image → ⊥
damaged_none image v file at (NoFirst none) gives = has_gate image v gives.0 gives.1 First none
damaged_none image v file at (NoSecond some none) gives = has_gate image v gives.0 gives.1 Second none
damaged_none image v file at (NoneOpen first second) gives = by gives.0 gives.1
  where
    by : (half : Half) → GivesFrom half v image → ⊥
    by First x = closed_or_open (image 2) (body v) first x.holds.open_gate
    by Second x = closed_or_open (image 3) (body v) second x.holds.open_gate
damaged_none image v file at (FirstShort short some) gives = has_its_number image v gives.0 gives.1 First short
damaged_none image v file at (SecondShort had short) gives = has_its_number image v gives.0 gives.1 Second short
damaged_none image v file at (Cut half cut) gives = cut_gives_none image v gives.0 half gives.1 cut
