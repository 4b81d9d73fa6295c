-- The acts of shares, by where parts begin and end.
use Rattle.std.proofs.Common.{◌≡◌, ℕ, zero, suc, ◌<◌, ◌≤◌, max, Bool, true, false, ◌&&◌, cond, eqb, ltb, leb, List, [], ◌∷◌, ◌++◌, Some, length, map, get_or, refl, sym, ap, ◌∙◌, arith, All, true≢false}
use Rattle.std.specs.List.{AllByRecursion, filter, flat_map}
use Rattle.std.specs.List.Sorted.{IsNonDecreasing}
use Rattle.std.proofs.lemmas.Bool.{eqb-true, leb-false, leb-true, ltb-true}
use Rattle.std.proofs.lemmas.Grind.{flat_map-append}
use Rattle.std.proofs.lemmas.List.Elements.{All-from_recursion}
use Rattle.qd_base.specs.declared.limits.TheConstants.{MAX_TIME}
use Rattle.qd_base.specs.declared.part.Part.{Part}
use Rattle.qd_base.specs.declared.unit.TimeUnit.{TimeUnit}
use Rattle.qd_time.specs.Units.{start_of, unit_of}
use Rattle.qd_manifest.specs.Spelling.{no_part}
use Rattle.qd_merge.specs.declared.plan.Act.{Act}
use Rattle.qd_merge.specs.declared.plan.Act.TheVariants as act
use Rattle.qd_merge.specs.declared.shares.Rules.{Rules}
use Rattle.qd_merge.specs.declared.shares.Share.TheVariants as share
use Rattle.qd_merge.specs.Acts.{before, between, new_part, part_end, partitions}
use Rattle.qd_merge.specs.Owners.{AreInOrder}
use Rattle.qd_merge.specs.Shares.{acts, acts_on, first_rows, goes_behind, is_behind, new_share, share_on}
use Rattle.qd_merge.proofs.Walks.{shares_walked, walk}
use Rattle.qd_apply.specs.Next.{Piece}
use Rattle.qd_apply.proofs.EachLemmas.{each_map}

-- the acts on the parts from a number on, and in partitions without parts from a moment on
abbrev pub walked_acts : Rules → List ℕ → (ℕ → List ℕ) → List ℕ → ℕ → ℕ → List Part → List Act
walked_acts r counts olds times done n ps = flat_map (acts_on r olds times) (walk r counts times done n ps)

-- those on one part, whose rows of the batch are those from one up to another
abbrev pub here_acts : Rules → List ℕ → (ℕ → List ℕ) → List ℕ → ℕ → Part → ℕ → ℕ → List Act
here_acts r counts olds times n p i j = acts_on r olds times (share_on r n p (get_or counts n 0) times i j)

pub gap_acts : (r : Rules) (olds : ℕ → List ℕ) (u : TimeUnit) (times starts : List ℕ) → flat_map (acts_on r olds times) (map (new_share u times) starts) ≡ map (new_part u times) starts
gap_acts r olds u times [] = refl
gap_acts r olds u times (t ∷ starts) = ap (λ (l : List Act). new_part u times t ∷ l) (gap_acts r olds u times starts)

pub acts_last : (r : Rules) (counts : List ℕ) (olds : ℕ → List ℕ) (times : List ℕ) (done n : ℕ)
    → walked_acts r counts olds times done n [] ≡ map (new_part (unit_of r.unit) times) (partitions (unit_of r.unit) (filter (λ t. leb done t) times))
acts_last r counts olds times done n = gap_acts r olds (unit_of r.unit) times (partitions (unit_of r.unit) (filter (λ t. leb done t) times))

pub acts_more : (r : Rules) (counts : List ℕ) (olds : ℕ → List ℕ) (times : List ℕ) (done n : ℕ) (p : Part) (ps : List Part)
    → walked_acts r counts olds times done n (p ∷ ps)
    ≡ map (new_part (unit_of r.unit) times) (partitions (unit_of r.unit) (between done (max done (start_of (unit_of r.unit) p.lo)) times))
    ++ (here_acts r counts olds times n p (before (max done (start_of (unit_of r.unit) p.lo)) times) (before (part_end (unit_of r.unit) p ps) times)
    ++ walked_acts r counts olds times (part_end (unit_of r.unit) p ps) (suc n) ps)
acts_more r counts olds times done n p ps =
    let u = unit_of r.unit in
    let from = max done (start_of u p.lo) in
    let to = part_end u p ps in
    let starts = partitions u (between done from times) in
    let later = share_on r n p (get_or counts n 0) times (before from times) (before to times) ∷ walk r counts times to (suc n) ps in
    flat_map-append (acts_on r olds times) (map (new_share u times) starts) later
    ∙ ap (λ (l : List Act). l ++ flat_map (acts_on r olds times) later) (gap_acts r olds u times starts)

-- the acts on a table's parts are these
pub acts_walked : (r : Rules) (counts : List ℕ) (olds : ℕ → List ℕ) (times : List ℕ) (parts : List Part) → AreInOrder parts → All (λ p. p.lo ≤ MAX_TIME) parts → IsNonDecreasing times → All (λ t. t ≤ MAX_TIME) times
    → acts r parts counts times olds ≡ walked_acts r counts olds times 0 0 parts
acts_walked r counts olds times parts ordered begin rising moments = ap (flat_map (acts_on r olds times)) (shares_walked r parts counts times ordered begin rising moments)

-- pieces in order of time
abbrev pub AreAscending : List Piece → Type 0
AreAscending [] = Unit {0}
AreAscending (x ∷ xs) = AllByRecursion (λ y. x.part.hi < y.part.lo) xs × AreAscending xs

pub ascending_order : (xs : List Piece) → AllByRecursion (λ (x : Piece). x.part.lo ≤ x.part.hi) xs → AreAscending xs → AreInOrder (map (λ (x : Piece). x.part) xs)
ascending_order [] each up i j lt within = absurd (omega (arith, lt, within))
ascending_order (x ∷ xs) each up i zero lt within = absurd (omega (arith, lt))
ascending_order (x ∷ xs) each up zero (suc j) lt within =
    let above : AllByRecursion (λ (p : Part). x.part.hi < p.lo) (map (λ (y : Piece). y.part) xs) = each_map (λ (p : Part). x.part.hi < p.lo) (λ (y : Piece). y.part) xs up.0 in
    let got = All-from_recursion (λ (p : Part). x.part.hi < p.lo) (map (λ (y : Piece). y.part) xs) above j no_part (omega (arith, within)) in
    let low = each.0 in
    omega (arith, got, low)
ascending_order (x ∷ xs) each up (suc i) (suc j) lt within = ascending_order xs each.1 up.1 i j (omega (arith, lt)) (omega (arith, within))

-- ---- which acts a share has

-- what is known where rows are appended
pub record IsAppend (r : Rules) (p : Part) (held : ℕ) (time : ℕ) : Type 0 where
  pub all : p.rows ≡ held
  pub full : p.cols ≡ r.cols
  pub behind : is_behind r.keyed p time ≡ true

both_so : (a b : Bool) → (a && b) ≡ true → (a ≡ true) × (b ≡ true)
both_so true b e = (refl, e)
both_so false b e = absurd (true≢false (sym e))

is_append : (r : Rules) (p : Part) (held time : ℕ) → goes_behind r p held time ≡ true → IsAppend r p held time
is_append r p held time e =
    let one = both_so (eqb p.rows held) (eqb p.cols r.cols && is_behind r.keyed p time) e in
    let two = both_so (eqb p.cols r.cols) (is_behind r.keyed p time) one.1 in
    record { all = eqb-true p.rows held one.0; full = eqb-true p.cols r.cols two.0; behind = two.1 }

-- what holds of the acts of each kind of share holds of those of a part's share
pub on_share : (r : Rules) (olds : ℕ → List ℕ) (times : List ℕ) (n : ℕ) (p : Part) (held i j : ℕ) (P : List Act → Type 0)
    → (j ≤ i → P (act.Keep n ∷ []))
    → (i < j → IsAppend r p held (get_or times i 0) → P (act.Append n i j ∷ []))
    → (i < j → 0 < before (get_or times i 0) (olds n) → before (get_or times i 0) (olds n) ≡ length (olds n) → P (act.Keep n ∷ act.Write (Some n) (before (get_or times i 0) (olds n)) i j ∷ []))
    → (i < j → 0 < before (get_or times i 0) (olds n) → P (act.Shorten n (before (get_or times i 0) (olds n)) ∷ act.Write (Some n) (before (get_or times i 0) (olds n)) i j ∷ []))
    → (i < j → P (act.Write (Some n) 0 i j ∷ []))
    → P (acts_on r olds times (share_on r n p held times i j))
on_share r olds times n p held i j P keep append stay shorten whole = first (leb j i) refl
  where
    count : ℕ
    count = before (get_or times i 0) (olds n)

    fourth : (b : Bool) → eqb count (length (olds n)) ≡ b → i < j → 0 < count → P (cond b (act.Keep n) (act.Shorten n count) ∷ act.Write (Some n) count i j ∷ [])
    fourth true e some there = stay some there (eqb-true count (length (olds n)) e)
    fourth false e some there = shorten some there

    third : (b : Bool) → (ltb 0 count && leb r.split_rows count) ≡ b → i < j → P (cond b (first_rows n count (length (olds n)) ∷ act.Write (Some n) count i j ∷ []) (act.Write (Some n) 0 i j ∷ []))
    third true e some = fourth (eqb count (length (olds n))) refl some (ltb-true 0 count (both_so (ltb 0 count) (leb r.split_rows count) e).0)
    third false e some = whole some

    second : (b : Bool) → goes_behind r p held (get_or times i 0) ≡ b → i < j → P (acts_on r olds times (cond b (share.Append n i j) (share.Merge n i j)))
    second true e some = append some (is_append r p held (get_or times i 0) e)
    second false e some = third (ltb 0 count && leb r.split_rows count) refl some

    first : (b : Bool) → leb j i ≡ b → P (acts_on r olds times (cond b (share.Keep n) (cond (goes_behind r p held (get_or times i 0)) (share.Append n i j) (share.Merge n i j))))
    first true e = keep (leb-true j i e)
    first false e = second (goes_behind r p held (get_or times i 0)) refl (leb-false j i e)
