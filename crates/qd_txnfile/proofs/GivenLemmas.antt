-- What reads gave of version files.
use Rattle.std.proofs.Common.{◌≡◌, ℕ, ◌≤◌, cond, nat_eq, List, ◌∷◌, ◌++◌, length, take, Ok, sym}
use Rattle.std.specs.Int.{to_le_bytes, w64}
use Rattle.std.proofs.lemmas.List.{take_all}
use Rattle.qd_volume.specs.Disk.{Image}
use Rattle.qd_durable.specs.Places.{StandsAt}
use Rattle.qd_durable.proofs.Standing.{stands_join}
use Rattle.qd_txnfile.specs.declared.half.Half.{Half}
use Rattle.qd_txnfile.specs.declared.half.Half.TheVariants.{First, Second}
use Rattle.qd_txnfile.specs.declared.reading.Newest.{Newest}
use Rattle.qd_txnfile.specs.Versions.{file_of}
use Rattle.qd_txnfile.specs.Reading.{IsHeadGiven, IsHeadOf, IsNewest, IsNewestOf}

-- a head is that of a file of its bytes alone
whole_head : (head : List ℕ) → length head ≤ 17 → IsHeadOf head head
whole_head head few = sym (take_all 17 head few)

-- the number and the length, one behind the other
joined : (head : List ℕ) (n size : ℕ) → StandsAt head 0 (1 ∷ to_le_bytes w64 n) → StandsAt head 9 (to_le_bytes w64 size) → StandsAt head 0 (1 ∷ (to_le_bytes w64 n ++ to_le_bytes w64 size))
joined head n size gate behind = stands_join head 0 (1 ∷ to_le_bytes w64 n) (to_le_bytes w64 size) gate behind

-- the head of the newest version is one of two that reads gave
pub head_given : (gives : ℕ → ℕ → List ℕ → Type 0) (first second : List ℕ) (newest : Newest) → length first ≤ 17 → length second ≤ 17 → gives 2 0 first → gives 3 0 second
    → ((image : Image) → IsHeadOf first (image 2) → IsHeadOf second (image 3) → IsNewestOf (Ok newest) image) → IsHeadGiven gives newest.half newest.n newest.size
head_given gives first second newest short small one two says =
    let image : Image = λ file. cond (nat_eq file 2) first second in
    let is : IsNewest newest image = says image (whole_head first short) (whole_head second small) in
    by newest.half newest.n newest.size is.chosen.open_gate is.size
  where
    by : (half : Half) (n size : ℕ) → StandsAt (cond (nat_eq (file_of half) 2) first second) 0 (1 ∷ to_le_bytes w64 n) → StandsAt (cond (nat_eq (file_of half) 2) first second) 9 (to_le_bytes w64 size) → IsHeadGiven gives half n size
    by First n size gate behind = record { head = first; given = one; stands = joined first n size gate behind }
    by Second n size gate behind = record { head = second; given = two; stands = joined second n size gate behind }
