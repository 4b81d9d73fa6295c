-- The numbers of the blocks that acts leave and write.
use Rattle.std.proofs.Common.{◌≡◌, ℕ, suc, ◌+◌, ◌-◌, ◌<◌, ◌≤◌, Bool, true, false, not, cond, eqb, leb, nat_eq, List, [], ◌∷◌, ◌++◌, length, map, drop, get_or, refl, sym, ap, arith, subst, slice_range}
use Rattle.std.specs.List.{AllByRecursion, IsDistinct, filter, flat_map}
use Rattle.std.proofs.lemmas.Bool.{ne_eqb}
use Rattle.std.proofs.lemmas.Grind.{flat_map-append}
use Rattle.std.proofs.lemmas.List.{length-take}
use Rattle.qd_base.specs.declared.part.Part.{Part}
use Rattle.qd_base.specs.declared.schema.Schema.{Schema}
use Rattle.qd_base.specs.declared.unit.TimeUnit.{TimeUnit}
use Rattle.qd_base.specs.Rows.{Row}
use Rattle.qd_base.proofs.Lists.{IsDistinct-cons, IsDistinct-nil}
use Rattle.qd_time.specs.Units.{start_of, unit_of}
use Rattle.qd_merge.specs.declared.plan.Act.{Act}
use Rattle.qd_merge.specs.declared.plan.Act.TheVariants as act
use Rattle.qd_merge.specs.declared.shares.Rules.{Rules}
use Rattle.qd_merge.specs.Acts.{between, new_part, partitions}
use Rattle.qd_merge.specs.Owners.{is_number, owned, owner, strays}
use Rattle.qd_merge.specs.Shares.{acts, acts_on, new_share, place_of, share_of, share_on, shares_behind}
use Rattle.qd_apply.specs.Next.{blocks_made, no_piece, pieces_after, Piece}
use Rattle.qd_apply.proofs.ShareLemmas.{gap_acts, here_acts, on_share}

-- ---- which parts acts leave with their numbers

-- the parts that acts keep, shorten or append to have numbers from one on and below a count, and ascend
abbrev pub KeepUp : ℕ → ℕ → List Act → Type 0
KeepUp count from [] = Unit {0}
KeepUp count from (act.Keep part ∷ acts) = (from ≤ part) × (part < count) × KeepUp count (suc part) acts
KeepUp count from (act.Append part a b ∷ acts) = (from ≤ part) × (part < count) × KeepUp count (suc part) acts
KeepUp count from (act.Shorten part n ∷ acts) = (from ≤ part) × (part < count) × KeepUp count (suc part) acts
KeepUp count from (act.Write part skip a b ∷ acts) = KeepUp count from acts

keep_from : (count from low : ℕ) (acts : List Act) → low ≤ from → KeepUp count from acts → KeepUp count low acts
keep_from count from low [] le h = tt
keep_from count from low (act.Keep part ∷ acts) le h = (omega (arith, le, h.0), h.1, h.2)
keep_from count from low (act.Append part a b ∷ acts) le h = (omega (arith, le, h.0), h.1, h.2)
keep_from count from low (act.Shorten part n ∷ acts) le h = (omega (arith, le, h.0), h.1, h.2)
keep_from count from low (act.Write part skip a b ∷ acts) le h = keep_from count from low acts le h

keep_new : (count from : ℕ) (u : TimeUnit) (times starts : List ℕ) (acts : List Act) → KeepUp count from acts → KeepUp count from (map (new_part u times) starts ++ acts)
keep_new count from u times [] acts h = h
keep_new count from u times (t ∷ starts) acts h = keep_new count from u times starts acts h

keep_gap : (count from : ℕ) (u : TimeUnit) (times starts : List ℕ) → KeepUp count from (map (new_part u times) starts)
keep_gap count from u times [] = tt
keep_gap count from u times (t ∷ starts) = keep_gap count from u times starts

keep_on : (r : Rules) (olds : ℕ → List ℕ) (times : List ℕ) (count number : ℕ) (p : Part) (held i j : ℕ) (acts : List Act) → number < count → KeepUp count (suc number) acts
    → KeepUp count number (acts_on r olds times (share_on r number p held times i j) ++ acts)
keep_on r olds times count number p held i j acts lt h =
    on_share r olds times number p held i j (λ l. KeepUp count number (l ++ acts))
    (λ none. (omega arith, lt, h)) (λ some is. (omega arith, lt, h)) (λ some there all. (omega arith, lt, h)) (λ some there. (omega arith, lt, h)) (λ some. keep_from count (suc number) number acts (omega arith) h)

keep_since : (r : Rules) (all : List Part) (counts : List ℕ) (olds : ℕ → List ℕ) (count : ℕ) (times : List ℕ) (low number : ℕ) (parts : List Part) → number + length parts ≤ count
    → KeepUp count number (flat_map (acts_on r olds times) (shares_behind r all counts times low number parts))
keep_since r all counts olds count times low number [] few =
    let starts = partitions (unit_of r.unit) (filter (λ t. leb low t) (strays (unit_of r.unit) all times)) in
    subst (KeepUp count number) (sym (gap_acts r olds (unit_of r.unit) times starts)) (keep_gap count number (unit_of r.unit) times starts)
keep_since r all counts olds count times low number (p ∷ ps) few =
    let u = unit_of r.unit in
    let starts = partitions u (between low p.lo (strays u all times)) in
    let gap = map (new_share u times) starts in
    let here = share_of r all counts times number p in
    let behind = shares_behind r all counts times p.lo (suc number) ps in
    let acts = flat_map (acts_on r olds times) behind in
    let from = place_of (λ t. is_number number (owner u all t)) times in
    subst (KeepUp count number) (sym (flat_map-append (acts_on r olds times) gap (here ∷ behind)))
    (subst (λ (l : List Act). KeepUp count number (l ++ flat_map (acts_on r olds times) (here ∷ behind))) (sym (gap_acts r olds u times starts))
    (keep_new count number u times starts (flat_map (acts_on r olds times) (here ∷ behind))
    (keep_on r olds times count number p (get_or counts number 0) from (from + length (owned u all number times)) acts (omega (arith, few)) (keep_since r all counts olds count times p.lo (suc number) ps (omega (arith, few))))))

pub keep_up : (r : Rules) (counts : List ℕ) (olds : ℕ → List ℕ) (count : ℕ) (times : List ℕ) (parts : List Part) → length parts ≤ count → KeepUp count 0 (acts r parts counts times olds)
keep_up r counts olds count times parts few = keep_since r parts counts olds count times 0 0 parts (omega (arith, few))

-- ---- what holds of each number

module _ (s : Schema) (old : List Piece) (rows : List Row) where
  -- what holds of the numbers of the parts that stay and of new ones holds of each
  pub spread_numbers : (Q : ℕ → Type 0) (from next : ℕ) (acts : List Act) → KeepUp (length old) from acts → ((i : ℕ) → from ≤ i → i < length old → Q (get_or old i no_piece).part.block)
      → ((n : ℕ) → next ≤ n → n < next + length (blocks_made s old rows acts) → Q n) → AllByRecursion Q (map (λ (x : Piece). x.part.block) (pieces_after s old rows next acts))
  spread_numbers Q from next [] up h new = tt
  spread_numbers Q from next (act.Keep part ∷ acts) up h new = (h part up.0 up.1, spread_numbers Q (suc part) next acts up.2 (λ i ge lt. h i (omega (arith, up.0, ge)) lt) new)
  spread_numbers Q from next (act.Append part a b ∷ acts) up h new = (h part up.0 up.1, spread_numbers Q (suc part) next acts up.2 (λ i ge lt. h i (omega (arith, up.0, ge)) lt) new)
  spread_numbers Q from next (act.Shorten part n ∷ acts) up h new = (h part up.0 up.1, spread_numbers Q (suc part) next acts up.2 (λ i ge lt. h i (omega (arith, up.0, ge)) lt) new)
  spread_numbers Q from next (act.Write part skip a b ∷ acts) up h new = (
    new next (omega arith) (omega arith),
    spread_numbers Q from (suc next) acts up h (λ n ge lt. new n (omega (arith, ge)) (omega (arith, lt))),
  )

  stays_apart : {bound next : ℕ} (part : ℕ) (acts : List Act) → bound ≤ next → part < length old → KeepUp (length old) (suc part) acts → ((i : ℕ) → i < length old → (get_or old i no_piece).part.block < bound)
      → ((i j : ℕ) → i < j → j < length old → eqb (get_or old i no_piece).part.block (get_or old j no_piece).part.block ≡ false)
      → IsDistinct nat_eq (map (λ (x : Piece). x.part.block) (pieces_after s old rows next acts))
      → IsDistinct nat_eq ((get_or old part no_piece).part.block ∷ map (λ (x : Piece). x.part.block) (pieces_after s old rows next acts))
  stays_apart {bound} {next} part acts le lt up low apart later =
      let n : ℕ = (get_or old part no_piece).part.block in
      let few = low part lt in
      IsDistinct-cons nat_eq n (map (λ (x : Piece). x.part.block) (pieces_after s old rows next acts))
      (spread_numbers (λ m. eqb n m ≡ false) (suc part) next acts up (λ i ge below. apart part i (omega (arith, ge)) below) (λ m ge below. ne_eqb n m (λ e. omega (arith, few, ge, le, e))))
      later

  -- no two have one number
  pub numbers_apart : (bound from next : ℕ) (acts : List Act) → bound ≤ next → KeepUp (length old) from acts → ((i : ℕ) → i < length old → (get_or old i no_piece).part.block < bound)
      → ((i j : ℕ) → i < j → j < length old → eqb (get_or old i no_piece).part.block (get_or old j no_piece).part.block ≡ false)
      → IsDistinct nat_eq (map (λ (x : Piece). x.part.block) (pieces_after s old rows next acts))
  numbers_apart bound from next [] le up low apart = IsDistinct-nil nat_eq
  numbers_apart bound from next (act.Keep part ∷ acts) le up low apart = stays_apart part acts le up.1 up.2 low apart (numbers_apart bound (suc part) next acts le up.2 low apart)
  numbers_apart bound from next (act.Append part a b ∷ acts) le up low apart = stays_apart part acts le up.1 up.2 low apart (numbers_apart bound (suc part) next acts le up.2 low apart)
  numbers_apart bound from next (act.Shorten part n ∷ acts) le up low apart = stays_apart part acts le up.1 up.2 low apart (numbers_apart bound (suc part) next acts le up.2 low apart)
  numbers_apart bound from next (act.Write part skip a b ∷ acts) le up low apart =
      IsDistinct-cons nat_eq next (map (λ (x : Piece). x.part.block) (pieces_after s old rows (suc next) acts))
      (spread_numbers (λ m. eqb next m ≡ false) from (suc next) acts up (λ i ge lt. let few = low i lt in ne_eqb next (get_or old i no_piece).part.block (λ e. omega (arith, few, le, e))) (λ m ge lt. ne_eqb next m (λ e. omega (arith, ge, e))))
      (numbers_apart bound from (suc next) acts (omega (arith, le)) up low apart)

  -- ---- how many blocks are written

  pub made_append : (xs ys : List Act) → length (blocks_made s old rows (xs ++ ys)) ≡ length (blocks_made s old rows xs) + length (blocks_made s old rows ys)
  made_append [] ys = omega arith
  made_append (act.Keep part ∷ xs) ys = made_append xs ys
  made_append (act.Append part a b ∷ xs) ys = made_append xs ys
  made_append (act.Shorten part n ∷ xs) ys = made_append xs ys
  made_append (act.Write part skip a b ∷ xs) ys = let e = made_append xs ys in omega (arith, e)

  made_new : (u : TimeUnit) (times starts : List ℕ) → length (blocks_made s old rows (map (new_part u times) starts)) ≡ length starts
  made_new u times [] = refl
  made_new u times (t ∷ starts) = ap suc (made_new u times starts)

  fewer : {X : Type 0} (p : X → Bool) (xs : List X) → length (filter p xs) ≤ length xs
  fewer p [] = omega arith
  fewer p (x ∷ xs) = step (p x) (fewer p xs)
    where
      step : (b : Bool) → length (filter p xs) ≤ length xs → length (cond b (x ∷ filter p xs) (filter p xs)) ≤ suc (length xs)
      step true h = omega (arith, h)
      step false h = omega (arith, h)

  few_partitions : (u : TimeUnit) (times : List ℕ) → length (partitions u times) ≤ length times
  few_partitions u [] = omega arith
  few_partitions u (t ∷ ts) =
      let a = fewer (λ x. not (eqb x (start_of u t))) (partitions u ts) in
      let b = few_partitions u ts in
      omega (arith, a, b)

  pub made_gap : (u : TimeUnit) (times : List ℕ) (i j : ℕ) → length (blocks_made s old rows (map (new_part u times) (partitions u (slice_range times i j)))) ≤ j - i
  made_gap u times i j =
      let a = made_new u times (partitions u (slice_range times i j)) in
      let b = few_partitions u (slice_range times i j) in
      let c = length-take (j - i) (drop i times) in
      omega (arith, a, b, c)

  pub made_on : (r : Rules) (counts : List ℕ) (olds : ℕ → List ℕ) (times : List ℕ) (number : ℕ) (p : Part) (i j : ℕ) (acts : List Act)
      → length (blocks_made s old rows (here_acts r counts olds times number p i j ++ acts)) ≤ (j - i) + length (blocks_made s old rows acts)
  made_on r counts olds times number p i j acts =
      on_share r olds times number p (get_or counts number 0) i j (λ l. length (blocks_made s old rows (l ++ acts)) ≤ (j - i) + length (blocks_made s old rows acts))
      (λ none. omega arith) (λ some is. omega arith) (λ some there all. omega (arith, some)) (λ some there. omega (arith, some)) (λ some. omega (arith, some))
