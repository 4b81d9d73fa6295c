-- Bytes that stand in others: each of them, and two pieces one behind the other.
use Rattle.std.proofs.Common.{◌≡◌, ◌⊎◌, inl, inr, ℕ, ◌+◌, ◌-◌, ◌<◌, ◌≤◌, List, [], ◌∷◌, ◌++◌, length, take, drop, replicate, slice_index, refl, sym, ◌∙◌, ap, get_or, arith, length-append, length-drop, subst}
use Rattle.std.proofs.Math.Seq.{take-add, take-append_seam}
use Rattle.std.proofs.lemmas.Grind.{same_number_lists}
use Rattle.std.proofs.lemmas.List.{append_assoc, length-take, length-replicate, drop-drop, drop_at, take_at, get_or-take, get_or-drop}
use Rattle.qd_volume.specs.Files.{written}
use Rattle.qd_volume.proofs.Written.{written-longer, written-outside}
use Rattle.qd_durable.specs.Places.{StandsAt}

-- a piece ends no later than the bytes do
pub stands_room : (bytes : List ℕ) (at : ℕ) (part : List ℕ) → StandsAt bytes at part → 0 < length part → at + length part ≤ length bytes
stands_room bytes at part stands some = omega (arith, ap length stands, length-take (length part) (drop at bytes), length-drop at bytes)

-- each of its bytes
pub stands_each : (bytes : List ℕ) (at : ℕ) (part : List ℕ) → StandsAt bytes at part → (i : ℕ) → i < length part → slice_index bytes (at + i) ≡ slice_index part i
stands_each bytes at part stands i within =
    sym (get_or-drop at bytes i 0)
    ∙ sym (get_or-take (length part) (drop at bytes) i 0 within)
    ∙ ap (λ (l : List ℕ). get_or l i 0) stands

pub stands_by : (bytes : List ℕ) (at : ℕ) (part : List ℕ) → (0 < length part → at + length part ≤ length bytes) → ((i : ℕ) → i < length part → slice_index bytes (at + i) ≡ slice_index part i) → StandsAt bytes at part
stands_by bytes at [] room each = refl
stands_by bytes at (b ∷ more) room each =
    let part : List ℕ = b ∷ more in
    let long : length (take (length part) (drop at bytes)) ≡ length part = omega (arith, length-take (length part) (drop at bytes), length-drop at bytes, room (omega arith)) in
    same_number_lists (take (length part) (drop at bytes)) part long
    (λ i within. get_or-take (length part) (drop at bytes) i 0 (omega (arith, within, long)) ∙ get_or-drop at bytes i 0 ∙ each i (omega (arith, within, long)))

-- a piece that other changes leave alone
pub stands_kept : (old new : List ℕ) (at : ℕ) (part : List ℕ) (from size : ℕ)
    → length old ≤ length new
    → ((place : ℕ) → place < length old → (place < from) ⊎ (from + size ≤ place) → slice_index new place ≡ slice_index old place)
    → (at + length part ≤ from) ⊎ (from + size ≤ at)
    → StandsAt old at part → StandsAt new at part
stands_kept old new at part from size longer same apart stands =
    stands_by new at part (λ some. omega (arith, longer, stands_room old at part stands some))
    (λ i within. same (at + i) (omega (arith, within, stands_room old at part stands (omega (arith, within)))) (outside i within apart) ∙ stands_each old at part stands i within)
  where
    outside : (i : ℕ) → i < length part → (at + length part ≤ from) ⊎ (from + size ≤ at) → (at + i < from) ⊎ (from + size ≤ at + i)
    outside i within (inl before) = inl (omega arith)
    outside i within (inr behind) = inr (omega arith)

-- two pieces, one behind the other
pub stands_join : (bytes : List ℕ) (at : ℕ) (front back : List ℕ) → StandsAt bytes at front → StandsAt bytes (at + length front) back → StandsAt bytes at (front ++ back)
stands_join bytes at front back first second =
    ap (λ n. take n (drop at bytes)) (length-append front back)
    ∙ take-add (length front) (length back) (drop at bytes)
    ∙ ap (λ (l : List ℕ). l ++ take (length back) (drop (length front) (drop at bytes))) first
    ∙ ap (λ (l : List ℕ). front ++ take (length back) l) (drop-drop (length front) at bytes)
    ∙ ap (λ (l : List ℕ). front ++ l) second

pub stands_front : (bytes : List ℕ) (at : ℕ) (front back : List ℕ) → StandsAt bytes at (front ++ back) → StandsAt bytes at front
stands_front bytes at front back both =
    stands_by bytes at front (λ some. omega (arith, stands_room bytes at (front ++ back) both (omega (arith, length-append front back, some)), length-append front back))
    (λ i within. stands_each bytes at (front ++ back) both i (omega (arith, length-append front back, within)) ∙ in_front i within)
  where
    in_front : (i : ℕ) → i < length front → slice_index (front ++ back) i ≡ slice_index front i
    in_front i within = sym (get_or-take (length front) (front ++ back) i 0 within) ∙ ap (λ (l : List ℕ). get_or l i 0) (take-append_seam front back)

pub stands_back : (bytes : List ℕ) (at : ℕ) (front back : List ℕ) → StandsAt bytes at (front ++ back) → StandsAt bytes (at + length front) back
stands_back bytes at front back both =
    stands_by bytes (at + length front) back (λ some. omega (arith, stands_room bytes at (front ++ back) both (omega (arith, length-append front back, some)), length-append front back))
    (λ i within. ap (λ n. slice_index bytes n) (shift i) ∙ stands_each bytes at (front ++ back) both (length front + i) (omega (arith, length-append front back, within)) ∙ in_back i)
  where
    shift : (i : ℕ) → at + length front + i ≡ at + (length front + i)
    shift i = omega arith

    in_back : (i : ℕ) → slice_index (front ++ back) (length front + i) ≡ slice_index back i
    in_back i = sym (get_or-drop (length front) (front ++ back) i 0) ∙ ap (λ (l : List ℕ). get_or l i 0) (drop_at front back (length front) refl)

-- what was written stands at its place
pub stands_written : (bytes : List ℕ) (at : ℕ) (part : List ℕ) → StandsAt (written bytes at part) at part
stands_written bytes at [] = refl
stands_written bytes at (b ∷ more) =
    let part : List ℕ = b ∷ more in
    let padded : List ℕ = bytes ++ replicate (at - length bytes) 0 in
    let behind : List ℕ = drop (at + length part) bytes in
    let front : length (take at padded) ≡ at = omega (arith, length-take at padded, length-append bytes (replicate (at - length bytes) 0), length-replicate {A = ℕ} (at - length bytes) 0) in
    ap (λ (l : List ℕ). take (length part) (drop at l)) (append_assoc (take at padded) part behind)
    ∙ ap (λ (l : List ℕ). take (length part) l) (drop_at (take at padded) (part ++ behind) at front)
    ∙ take_at part behind (length part) refl

-- and a piece outside of it stays
pub written_apart : (bytes : List ℕ) (at : ℕ) (part : List ℕ) (from : ℕ) (more : List ℕ) → (at + length part ≤ from) ⊎ (from + length more ≤ at) → StandsAt bytes at part → StandsAt (written bytes from more) at part
written_apart bytes at part from more apart stands =
    stands_kept bytes (written bytes from more) at part from (length more) (written-longer bytes from more)
    (λ place within outside. written-outside bytes from more place within outside) apart stands

-- two pieces written one behind the other
pub both_written : (bytes : List ℕ) (at : ℕ) (front back : List ℕ) → StandsAt (written (written bytes at front) (at + length front) back) at (front ++ back)
both_written bytes at front back =
    let once : List ℕ = written bytes at front in
    stands_join (written once (at + length front) back) at front back
    (written_apart once at front (at + length front) back (inl (omega arith)) (stands_written bytes at front))
    (stands_written once (at + length front) back)
