-- One pass over slots and the pieces of a batch: slots that are done stand before those that are later.
use Rattle.std.proofs.Common.{◌≡◌, ℕ, zero, suc, ◌+◌, ◌-◌, ◌<◌, ◌≤◌, List, [], ◌∷◌, ◌++◌, length, take, drop, get_or, set, refl, sym, ap, ap₂, ◌∙◌, arith, All, subst, append_assoc, length-append, length-drop, slice_range}
use Rattle.std.specs.List.{AllByRecursion, fold}
use Rattle.std.proofs.lemmas.List.{drop-drop, get_or-drop, get_or-take, take_all}
use Rattle.std.proofs.Math.Seq.{drop-append-add, drop-append_seam, take-append-add}
use Rattle.qd_base.specs.declared.schema.Schema.{Schema}
use Rattle.qd_base.specs.Lawful.{IsSchema}
use Rattle.qd_base.specs.Rows.{Row, put}
use Rattle.qd_block.specs.Blocks.{Block}
use Rattle.qd_scan.specs.Sources.{table_rows}
use Rattle.qd_memory.specs.declared.slots.Slot.{Slot}
use Rattle.qd_memory.specs.Kept.{joined, partition_of, AreSlots, HasPut, IsPiece, IsPlace, IsSlot}
use Rattle.qd_memory.proofs.MergingLemmas.{piece_into, piece_over}
use Rattle.qd_memory.proofs.PieceLemmas.{piece_put, pieces_done}
use Rattle.qd_memory.proofs.PutLemmas.{each_append, each_then}
use Rattle.qd_memory.proofs.SlotLemmas.{front_before, rows_of, set_split, slots_rest}

-- ---- places

place_cons : (start : ℕ) (x : Slot) (xs : List Slot) (at : ℕ) → x.start < start → IsPlace start xs at → IsPlace start (x ∷ xs) (suc at)
place_cons start x xs at low p = record {
  within = omega (arith, p.within);
  before = before;
  behind = behind;
}
  where
    before : (k : ℕ) (d : Slot) → k < suc at → (get_or (x ∷ xs) k d).start < start
    before zero d lt = low
    before (suc k) d lt = p.before k d (omega arith)

    behind : (k : ℕ) (d : Slot) → suc at ≤ k → k < length (x ∷ xs) → start ≤ (get_or (x ∷ xs) k d).start
    behind zero d ge lt = absurd (omega arith)
    behind (suc k) d ge lt = p.behind k d (omega arith) (omega arith)

-- a place among later slots, and among all
pub place_behind : (start : ℕ) (done later : List Slot) (at : ℕ) → AllByRecursion (λ (x : Slot). x.start < start) done → IsPlace start later at → IsPlace start (done ++ later) (length done + at)
place_behind start [] later at low p = let e : at ≡ 0 + at = omega arith in subst (IsPlace start later) e p
place_behind start (x ∷ done) later at low p = let e : suc (length done + at) ≡ suc (length done) + at = omega arith in subst (IsPlace start (x ∷ (done ++ later))) e (place_cons start x (done ++ later) (length done + at) low.0 (place_behind start done later at low.1 p))

-- what stands there
got_behind : (done later : List Slot) (at : ℕ) (d : Slot) → get_or (done ++ later) (length done + at) d ≡ get_or later at d
got_behind [] later at d = let e : 0 + at ≡ at = omega arith in ap (λ (n : ℕ). get_or later n d) e
got_behind (x ∷ done) later at d = let e : suc (length done) + at ≡ suc (length done + at) = omega arith in ap (λ (n : ℕ). get_or (x ∷ (done ++ later)) n d) e ∙ got_behind done later at d

count_behind : (done later : List Slot) (at : ℕ) → at < length later → length done + at < length (done ++ later)
count_behind done later at lt = omega (arith, length-append done later)

-- ---- slots put together

-- the slots that are done then, and those that are left
split_behind : (done later : List Slot) (at m : ℕ) (y : Slot) → take (length done + at) (done ++ later) ++ y ∷ drop (length done + m) (done ++ later) ≡ ((done ++ take at later) ++ y ∷ []) ++ drop m later
split_behind done later at m y =
    ap₂ (λ (a b : List Slot). a ++ y ∷ b) (take-append-add done later at) (drop-append-add done later m)
    ∙ sym (append_assoc (done ++ take at later) (y ∷ []) (drop m later))

-- they start no later than the one that was last
pub starts_last : (start at : ℕ) (done later : List Slot) (y : Slot) → AllByRecursion (λ (x : Slot). x.start < start) done → IsPlace start later at → y.start ≡ start → AllByRecursion (λ (x : Slot). x.start ≤ start) ((done ++ take at later) ++ y ∷ [])
starts_last start at done later y low place same =
    let weak : (x : Slot) → x.start < start → x.start ≤ start = λ x lt. omega (arith, lt) in
    each_append (λ (x : Slot). x.start ≤ start) (done ++ take at later) (y ∷ [])
    (each_append (λ (x : Slot). x.start ≤ start) done (take at later)
    (each_then (λ (x : Slot). x.start < start) (λ (x : Slot). x.start ≤ start) weak done low)
    (each_then (λ (x : Slot). x.start < start) (λ (x : Slot). x.start ≤ start) weak (take at later) (front_before start at later place.within place.before)))
    (omega (arith, same), tt)

pub put_in_pass : (s : Schema) (at : ℕ) (done later : List Slot) (x y : Slot) (b : Block) → IsSchema s → AreSlots s (done ++ later) → IsPiece s b → IsSlot s y → at < length later → x ≡ get_or later at x → x.start ≡ partition_of s (get_or b.rows 0 []) → y.start ≡ x.start
    → IsPlace (partition_of s (get_or b.rows 0 [])) later at → AllByRecursion (λ (z : Slot). z.start < partition_of s (get_or b.rows 0 [])) done → joined s.cols (y ∷ []) ≡ fold (put s.time_col s.keys) (rows_of s x) b.rows
    → HasPut s (done ++ later) b.rows (((done ++ take at later) ++ y ∷ []) ++ drop (at + 1) later)
put_in_pass s at done later x y b schema slots piece is lt there start same place low rows =
    let start' = partition_of s (get_or b.rows 0 []) in
    let n = length done + at in
    let all = done ++ later in
    let within : n < length all = count_behind done later at lt in
    let next : suc n ≡ length done + (at + 1) = omega arith in
    subst (HasPut s all b.rows)
    (set_split all n y within ∙ ap (λ (m : ℕ). take n all ++ y ∷ drop m all) next ∙ split_behind done later at (at + 1) y)
    (piece_over s n all x y b schema slots piece is within (there ∙ sym (got_behind done later at x)) start same (place_behind start' done later at low place) rows)

pub put_new_pass : (s : Schema) (at : ℕ) (done later : List Slot) (y : Slot) (old b : Block) → IsSchema s → AreSlots s (done ++ later) → IsPiece s b → IsSlot s y → y.start ≡ partition_of s (get_or b.rows 0 [])
    → IsPlace (partition_of s (get_or b.rows 0 [])) later at → ((d : Slot) → at < length later → (get_or later at d).start ≡ partition_of s (get_or b.rows 0 []) → ⊥) → AllByRecursion (λ (z : Slot). z.start < partition_of s (get_or b.rows 0 [])) done
    → old.rows ≡ [] → joined s.cols (y ∷ []) ≡ fold (put s.time_col s.keys) (table_rows s.cols old) b.rows → HasPut s (done ++ later) b.rows (((done ++ take at later) ++ y ∷ []) ++ drop at later)
put_new_pass s at done later y old b schema slots piece is same place none low empty rows =
    let start = partition_of s (get_or b.rows 0 []) in
    let n = length done + at in
    let all = done ++ later in
    subst (HasPut s all b.rows) (split_behind done later at at y)
    (piece_into s start n all y old b schema slots piece is same refl (place_behind start done later at low place)
    (λ d lt e. none d (omega (arith, lt, length-append done later)) (ap (λ (z : Slot). z.start) (sym (got_behind done later at d)) ∙ e)) empty rows)

-- ---- the pass

-- the slots that are done start before a row's partition
abbrev pub StartBefore : (s : Schema) (rows : List Row) (at : ℕ) (done : List Slot) → Type 0
StartBefore s rows at done = AllByRecursion (λ (x : Slot). x.start < partition_of s (get_or rows at [])) done

pub starts_before : (s : Schema) (rows : List Row) (first last : ℕ) (done : List Slot) → first < last → AllByRecursion (λ (x : Slot). x.start ≤ first) done → AllByRecursion (λ (x : Slot). x.start < last) done
starts_before s rows first last done lt low = each_then (λ (x : Slot). x.start ≤ first) (λ (x : Slot). x.start < last) (λ x le. omega (arith, le, lt)) done low

pub rest_all : (n : ℕ) (xs : List Slot) → take (length xs - n) (drop n xs) ≡ drop n xs
rest_all n xs = take_all (length xs - n) (drop n xs) (omega (arith, length-drop n xs))

-- the later ones of slots
pub later_slots : (s : Schema) (done later : List Slot) → AreSlots s (done ++ later) → AreSlots s later
later_slots s done later h = subst (AreSlots s) (drop-append_seam done later) (slots_rest s (length done) (done ++ later) h)

-- nothing is put at first
pub none_passed : (s : Schema) (old done : List Slot) (rows : List Row) → AreSlots s old → done ≡ [] → HasPut s old (take 0 rows) (done ++ drop 0 old)
none_passed s old done rows slots none = subst (λ (l : List Slot). HasPut s old (take 0 rows) (l ++ old)) (sym none) (record { slots = slots; rows = refl })

-- the first row of a piece
pub piece_first : (b p : Block) (from to : ℕ) → p ≡ record b { rows = slice_range b.rows from to } → from < to → get_or p.rows 0 [] ≡ get_or b.rows from []
piece_first b p from to is low =
    ap (λ (x : Block). get_or x.rows 0 []) is ∙ get_or-take (to - from) (drop from b.rows) 0 [] (omega arith) ∙ get_or-drop from b.rows 0 [] ∙ ap (λ (n : ℕ). get_or b.rows n []) (let e : from + 0 ≡ from = omega arith in e)

-- a piece more is put, and some slots more are done
pub pass_on : (s : Schema) (old done done' rest : List Slot) (rows : List Row) (passed n from to : ℕ) → from ≤ to → rest ≡ drop passed old
    → HasPut s old (take from rows) (done ++ drop passed old) → HasPut s (done ++ rest) (slice_range rows from to) (done' ++ drop n rest) → HasPut s old (take to rows) (done' ++ drop (passed + n) old)
pass_on s old done done' rest rows passed n from to low is first second =
    let next : HasPut s (done ++ drop passed old) (slice_range rows from to) (done' ++ drop (passed + n) old) =
    subst (λ (l : List Slot). HasPut s (done ++ drop passed old) (slice_range rows from to) (done' ++ l)) (ap (drop n) is ∙ drop-drop n passed old)
    (subst (λ (l : List Slot). HasPut s (done ++ l) (slice_range rows from to) (done' ++ drop n rest)) is second) in
    piece_put s old (done ++ drop passed old) (done' ++ drop (passed + n) old) rows from to low first next

-- all rows are put, and the slots that are left are done
pub pass_done : (s : Schema) (old done done' rest : List Slot) (rows : List Row) (passed from : ℕ) → length rows ≤ from → rest ≡ drop passed old → done' ≡ done ++ rest → HasPut s old (take from rows) (done ++ drop passed old) → HasPut s old rows done'
pass_done s old done done' rest rows passed from all is made put =
    subst (HasPut s old rows) (sym (made ∙ ap (λ (l : List Slot). done ++ l) is)) (pieces_done s old (done ++ drop passed old) rows from all put)
