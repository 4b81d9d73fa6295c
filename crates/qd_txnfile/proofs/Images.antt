-- What an image gives by what is known of its two version files, and what a write to one of them leaves of that.
use Rattle.std.proofs.Common.{◌≡◌, ◌⊎◌, inl, inr, ℕ, ◌+◌, ◌<◌, List, [], ◌∷◌, refl, sym, subst, arith}
use Rattle.std.specs.Int.{to_le_bytes, w64}
use Rattle.qd_volume.specs.Disk.{Image}
use Rattle.qd_durable.specs.Places.{StandsAt}
use Rattle.qd_durable.specs.Moments.{SameOutside}
use Rattle.qd_durable.proofs.Standing.{stands_kept, stands_room}
use Rattle.qd_txnfile.specs.declared.half.Half.{Half}
use Rattle.qd_txnfile.specs.declared.half.Half.TheVariants.{First, Second}
use Rattle.qd_txnfile.specs.declared.half.Other.{Other}
use Rattle.qd_txnfile.specs.declared.half.Other.TheVariants as other
use Rattle.qd_txnfile.specs.Versions.{GivesVersion, HoldsVersion, IsClosed, Version, body, file_of, limit_of, other_of}
use Rattle.qd_txnfile.specs.States.{GivesKnown, GivesOneOf, HasNext, IsDirty, IsKnown, IsNext, IsWritten}
use Rattle.qd_txnfile.proofs.Files.{judged, number_long, number_of_body, older_of, open_for, with_gate}

-- what is known of both files of an image
abbrev pub AreKnown : Half → Other → Version → Version → Image → Type 0
AreKnown half known current next image = HoldsVersion (image (file_of half)) current × IsKnown known (limit_of half current.n) next (image (file_of (other_of half)))

-- the newer version, where the other file's gate is open for it
pub newer_given : (half : Half) (current next : Version) (image : Image) → current.n < next.n → HoldsVersion (image (file_of half)) current → HoldsVersion (image (file_of (other_of half))) next → GivesVersion next image
newer_given First current next image newer holds has = (Second, record { holds = has; older = inr (open_for next.n (image 2) current newer holds) })
newer_given Second current next image newer holds has = (First, record { holds = has; older = inr (open_for (next.n + 1) (image 3) current (omega (arith, newer)) holds) })

-- a file with the next version behind its gate, whatever that is
opening_gives : (half : Half) (n : ℕ) (current next : Version) (image : Image) → IsNext n current next → HoldsVersion (image (file_of half)) current → StandsAt (image (file_of (other_of half))) 1 (body next) → GivesOneOf current next image
opening_gives half n current next image is holds behind =
    let bytes = image (file_of (other_of half)) in
    by (judged bytes (omega (arith, stands_room bytes 1 (to_le_bytes w64 next.n) (number_of_body bytes next behind) (omega (arith, number_long next.n)), number_long next.n)))
  where
    by : IsClosed (image (file_of (other_of half))) ⊎ StandsAt (image (file_of (other_of half))) 0 (1 ∷ []) → GivesOneOf current next image
    by (inl closed) = inl (half, record { holds = holds; older = inl closed })
    by (inr opened) = inr (newer_given half current next image is.newer holds (record { number = is.number; size = is.size; open_gate = with_gate (image (file_of (other_of half))) (body next) opened behind }))

-- what is known is given
pub gives_known : (half : Half) (known : Other) (current next : Version) (image : Image) → HasNext known current next → AreKnown half known current next image → GivesKnown known current next image
gives_known half other.Older current next image has are = (half, record { holds = are.0; older = older_of (limit_of half current.n) (image (file_of (other_of half))) are.1.0 are.1.1 are.1.2 are.1.3 })
gives_known half other.Closed current next image has are = (half, record { holds = are.0; older = inl are.1 })
gives_known half (other.Written n) current next image has are = (half, record { holds = are.0; older = inl are.1.0 })
gives_known half (other.Opening n) current next image has are = opening_gives half n current next image has are.0 are.1

-- a write to the other file leaves the current one
pub current_same : (half : Half) (at size : ℕ) (earlier image : Image) → SameOutside (file_of (other_of half)) at size earlier image → image (file_of half) ≡ earlier (file_of half)
current_same First at size earlier image same = same.others 2 refl
current_same Second at size earlier image same = same.others 3 refl

pub current_kept : (half : Half) (v : Version) (at size : ℕ) (earlier image : Image) → SameOutside (file_of (other_of half)) at size earlier image → HoldsVersion (earlier (file_of half)) v → HoldsVersion (image (file_of half)) v
current_kept half v at size earlier image same holds = subst (λ (l : List ℕ). HoldsVersion l v) (sym (current_same half at size earlier image same)) holds

-- what is behind a gate stays while the gate is written
behind_kept : (file : ℕ) (part : List ℕ) (earlier image : Image) → SameOutside file 0 1 earlier image → StandsAt (earlier file) 1 part → StandsAt (image file) 1 part
behind_kept file part earlier image same stands = stands_kept (earlier file) (image file) 1 part 0 1 same.longer same.same (inr (omega arith)) stands

-- and a gate while what is behind it is written
gate_kept : (file gate size : ℕ) (earlier image : Image) → SameOutside file 1 size earlier image → StandsAt (earlier file) 0 (gate ∷ []) → StandsAt (image file) 0 (gate ∷ [])
gate_kept file gate size earlier image same stands = stands_kept (earlier file) (image file) 0 (gate ∷ []) 1 size same.longer same.same (inl (omega arith)) stands

-- a gate is written in front of an older version
pub older_step : (half : Half) (current last next : Version) (earlier image : Image) → AreKnown half other.Older current last earlier → SameOutside (file_of (other_of half)) 0 1 earlier image → AreKnown half other.Older current next image
older_step half current last next earlier image are same =
    (current_kept half current 0 1 earlier image same are.0, (are.1.0, are.1.1, are.1.2, behind_kept (file_of (other_of half)) (to_le_bytes w64 are.1.0) earlier image same are.1.3))

-- or in front of the next one
pub opening_step : (half : Half) (n : ℕ) (current next : Version) (earlier image : Image) → AreKnown half (other.Opening n) current next earlier → SameOutside (file_of (other_of half)) 0 1 earlier image → AreKnown half (other.Opening n) current next image
opening_step half n current next earlier image are same =
    (current_kept half current 0 1 earlier image same are.0, behind_kept (file_of (other_of half)) (body next) earlier image same are.1)

pub written_step : (half : Half) (n : ℕ) (current next : Version) (earlier image : Image) → AreKnown half (other.Written n) current next earlier → SameOutside (file_of (other_of half)) 0 1 earlier image → AreKnown half (other.Opening n) current next image
written_step half n current next earlier image are same = opening_step half n current next earlier image (are.0, are.1.1) same

-- a version is written behind a closed gate
pub closed_step : (half : Half) (size : ℕ) (current last next : Version) (earlier image : Image) → AreKnown half other.Closed current last earlier → SameOutside (file_of (other_of half)) 1 size earlier image → AreKnown half other.Closed current next image
closed_step half size current last next earlier image are same =
    (current_kept half current 1 size earlier image same are.0, record { gate = are.1.gate; there = gate_kept (file_of (other_of half)) are.1.gate size earlier image same are.1.there; not_open = are.1.not_open })

-- a gate of 0 is closed
pub zero_closed : (bytes : List ℕ) → StandsAt bytes 0 (0 ∷ []) → IsClosed bytes
zero_closed bytes stands = record { gate = 0; there = stands; not_open = λ e. omega arith }

-- where the other file is neither dirty nor may be open for an older version, it is closed
pub known_closed : (known : Other) (limit : ℕ) (next : Version) (bytes : List ℕ) → (IsDirty known → ⊥) → (known ≡ other.Older → ⊥) → IsKnown known limit next bytes → IsClosed bytes
known_closed other.Older limit next bytes clean not is = absurd (not refl)
known_closed other.Closed limit next bytes clean not is = is
known_closed (other.Written n) limit next bytes clean not is = is.0
known_closed (other.Opening n) limit next bytes clean not is = absurd (clean tt)

-- the version of a root that is dirty, or that was written into
pub dirty_is : (known : Other) → IsDirty known → (n : ℕ) × (known ≡ other.Opening n)
dirty_is other.Older is = absurd is
dirty_is other.Closed is = absurd is
dirty_is (other.Written n) is = absurd is
dirty_is (other.Opening n) is = (n, refl)

pub written_is : (known : Other) → IsWritten known → (n : ℕ) × (known ≡ other.Written n)
written_is other.Older is = absurd is
written_is other.Closed is = absurd is
written_is (other.Written n) is = (n, refl)
written_is (other.Opening n) is = absurd is
