-- The parts that rows are merged into: none of them twice, so that no two have one number.
use Rattle.std.proofs.Common.{◌≡◌, ℕ, zero, suc, ◌+◌, ◌<◌, ◌≤◌, Bool, true, false, cond, leb, nat_eq, List, [], ◌∷◌, ◌++◌, Some, drop, length, map, get_or, slice_get, refl, ap, ap₂, ◌∙◌, subst, arith}
use Rattle.std.specs.List.{AllByRecursion, IsDistinct, filter}
use Rattle.std.proofs.lemmas.List.{map-append}
use Rattle.std.proofs.lemmas.List.Elements.{All-from_recursion}
use Rattle.std.proofs.lemmas.Option.{get_or_from_slice_get}
use Rattle.qd_base.specs.declared.part.Part.{Part}
use Rattle.qd_base.specs.declared.unit.TimeUnit.{TimeUnit}
use Rattle.qd_base.specs.Database.{StoredTable}
use Rattle.qd_base.proofs.Lists.{each-from_map, IsDistinct-append, IsDistinct-cons, IsDistinct-nil}
use Rattle.qd_time.specs.Units.{unit_of}
use Rattle.qd_manifest.specs.declared.shape.TableParts.{TableParts}
use Rattle.qd_manifest.specs.Spelling.{blocks_in, blocks_of, no_part}
use Rattle.qd_merge.specs.declared.shares.Rules.{Rules}
use Rattle.qd_merge.specs.declared.shares.Share.{Share}
use Rattle.qd_merge.specs.declared.shares.Share.TheVariants as share
use Rattle.qd_merge.specs.Acts.{between, partitions}
use Rattle.qd_merge.specs.Owners.{is_number, owned, owner, strays}
use Rattle.qd_merge.specs.Shares.{goes_behind, new_share, place_of, share_of, share_on, shares_behind}
use Rattle.qd_apply.specs.declared.olds.Late.{Late}
use Rattle.qd_apply.specs.Arrivals.{rest}
use Rattle.qd_apply.specs.Next.{batch_of, first_counts, first_parts, rules_of, shares_of, times_in}
use Rattle.qd_apply.specs.Olds.{all_late, late_by, table_late}
use Rattle.qd_store.specs.Drafting.{number_there}
use Rattle.qd_apply.proofs.EachLemmas.{each_append, each_back, each_front, each_then}

-- the numbers of the parts that shares merge rows into, in order
abbrev pub touched : List Share → List ℕ
touched [] = []
touched (share.Keep n ∷ list) = touched list
touched (share.Append n from to ∷ list) = touched list
touched (share.Merge n from to ∷ list) = n ∷ touched list
touched (share.New from to ∷ list) = touched list

-- ---- shares merge rows into parts upwards

-- numbers from one on and below a count, each above the one before it
abbrev pub Rises : ℕ → ℕ → List ℕ → Type 0
Rises count from [] = Unit {0}
Rises count from (n ∷ ns) = (from ≤ n) × (n < count) × Rises count (suc n) ns

rises_from : (count from low : ℕ) (ns : List ℕ) → low ≤ from → Rises count from ns → Rises count low ns
rises_from count from low [] le up = tt
rises_from count from low (n ∷ ns) le up = (let ge = up.0 in omega (arith, le, ge), up.1, up.2)

rise_new : (count from : ℕ) (u : TimeUnit) (times starts : List ℕ) (list : List Share) → Rises count from (touched list)
    → Rises count from (touched (map (new_share u times) starts ++ list))
rise_new count from u times [] list up = up
rise_new count from u times (t ∷ starts) list up = rise_new count from u times starts list up

rise_last : (count from : ℕ) (u : TimeUnit) (times starts : List ℕ) → Rises count from (touched (map (new_share u times) starts))
rise_last count from u times [] = tt
rise_last count from u times (t ∷ starts) = rise_last count from u times starts

rise_on : (count number : ℕ) (r : Rules) (p : Part) (written : ℕ) (times : List ℕ) (i j : ℕ) (list : List Share) → number < count → Rises count (suc number) (touched list)
    → Rises count number (touched (share_on r number p written times i j ∷ list))
rise_on count number r p written times i j list lt up = step (leb j i) (goes_behind r p written (get_or times i 0))
  where
    passed : Rises count number (touched list)
    passed = rises_from count (suc number) number (touched list) (omega arith) up

    step : (none behind : Bool) → Rises count number (touched (cond none (share.Keep number) (cond behind (share.Append number i j) (share.Merge number i j)) ∷ list))
    step true behind = passed
    step false true = passed
    step false false = (omega arith, lt, up)

shares_rise : (count : ℕ) (r : Rules) (all : List Part) (written times : List ℕ) (low number : ℕ) (parts : List Part) → number + length parts ≤ count
    → Rises count number (touched (shares_behind r all written times low number parts))
shares_rise count r all written times low number [] few =
    rise_last count number (unit_of r.unit) times (partitions (unit_of r.unit) (filter (leb low) (strays (unit_of r.unit) all times)))
shares_rise count r all written times low number (p ∷ ps) few =
    let u = unit_of r.unit in
    let from = place_of (λ (t : ℕ). is_number number (owner u all t)) times in
    rise_new count number u times (partitions u (between low p.lo (strays u all times))) (share_of r all written times number p ∷ shares_behind r all written times p.lo (suc number) ps)
    (rise_on count number r p (get_or written number 0) times from (from + length (owned u all number times)) (shares_behind r all written times p.lo (suc number) ps) (omega (arith, few))
    (shares_rise count r all written times p.lo (suc number) ps (omega (arith, few))))

pub table_rises : (counts : List ℕ) (split : ℕ) (parts : List Part) (t : StoredTable) → Rises (length parts) 0 (touched (shares_of counts split parts t))
table_rises counts split parts t = shares_rise (length parts) (rules_of split t.schema) parts counts (times_in t.schema (batch_of t)) 0 0 parts (omega arith)

pub rises_low : (count from : ℕ) (ns : List ℕ) → Rises count from ns → AllByRecursion (λ (n : ℕ). n < count) ns
rises_low count from [] up = tt
rises_low count from (n ∷ ns) up = (up.1, rises_low count (suc n) ns up.2)

-- ---- the numbers of the parts' blocks

abbrev pub named : List Part → ℕ → ℕ
named parts i = (get_or parts i no_part).block

-- those of all parts that a merge reads, in order
abbrev pub numbers_read : List (List ℕ) → ℕ → List TableParts → List StoredTable → List ℕ
numbers_read written split shape [] = []
numbers_read written split shape (t ∷ ts) = map (named (first_parts shape)) (touched (shares_of (first_counts written) split (first_parts shape) t)) ++ numbers_read (rest written) split (rest shape) ts

-- ---- no two are one

module _ (Q : ℕ → Type 0) where
  part_named : (parts : List Part) (i : ℕ) → AllByRecursion Q (blocks_in parts) → i < length parts → Q (named parts i)
  part_named parts i h lt = All-from_recursion (λ (p : Part). Q p.block) parts (each-from_map (λ (p : Part). p.block) Q parts h) i no_part lt

  parts_named : (parts : List Part) (from : ℕ) (ns : List ℕ) → AllByRecursion Q (blocks_in parts) → Rises (length parts) from ns
      → AllByRecursion Q (map (named parts) ns)
  parts_named parts from [] h up = tt
  parts_named parts from (n ∷ ns) h up = (part_named parts n h up.1, parts_named parts (suc n) ns h up.2)

  first_each : (shape : List TableParts) → AllByRecursion Q (blocks_of shape) → AllByRecursion Q (blocks_in (first_parts shape))
  first_each [] h = tt
  first_each (t ∷ ts) h = each_front Q (blocks_in t.parts) (blocks_of ts) h

  rest_each : (shape : List TableParts) → AllByRecursion Q (blocks_of shape) → AllByRecursion Q (blocks_of (rest shape))
  rest_each [] h = tt
  rest_each (t ∷ ts) h = each_back Q (blocks_in t.parts) (blocks_of ts) h

  -- what holds of the numbers of all parts holds of those that are read
  numbers_each : (written : List (List ℕ)) (split : ℕ) (shape : List TableParts) (ts : List StoredTable) → AllByRecursion Q (blocks_of shape) → AllByRecursion Q (numbers_read written split shape ts)
  numbers_each written split shape [] h = tt
  numbers_each written split shape (t ∷ ts) h =
      let parts : List Part = first_parts shape in
      each_append Q (map (named parts) (touched (shares_of (first_counts written) split parts t))) (numbers_read (rest written) split (rest shape) ts)
      (parts_named parts 0 (touched (shares_of (first_counts written) split parts t)) (first_each shape h) (table_rises (first_counts written) split parts t))
      (numbers_each (rest written) split (rest shape) ts (rest_each shape h))

parts_apart : (parts : List Part) (i j : ℕ) → IsDistinct nat_eq (blocks_in parts) → i < j → j < length parts → nat_eq (named parts i) (named parts j) ≡ false
unfolding IsDistinct
parts_apart [] i j apart lt within = absurd (omega arith)
parts_apart (p ∷ ps) i zero apart lt within = absurd (omega arith)
parts_apart (p ∷ ps) zero (suc j) apart lt within = part_named (λ (m : ℕ). nat_eq p.block m ≡ false) ps j apart.0 (omega arith)
parts_apart (p ∷ ps) (suc i) (suc j) apart lt within = parts_apart ps i j apart.1 (omega arith) (omega arith)

-- a part's number, and those of later ones
one_apart : (parts : List Part) (i from : ℕ) (ns : List ℕ) → IsDistinct nat_eq (blocks_in parts) → i < from → Rises (length parts) from ns
    → AllByRecursion (λ (m : ℕ). nat_eq (named parts i) m ≡ false) (map (named parts) ns)
one_apart parts i from [] apart lt up = tt
one_apart parts i from (n ∷ ns) apart lt up =
    let ge = up.0 in
    (parts_apart parts i n apart (omega (arith, lt, ge)) up.1, one_apart parts i (suc n) ns apart (omega (arith, lt, ge)) up.2)

named_apart : (parts : List Part) (from : ℕ) (ns : List ℕ) → IsDistinct nat_eq (blocks_in parts) → Rises (length parts) from ns
    → IsDistinct nat_eq (map (named parts) ns)
named_apart parts from [] apart up = IsDistinct-nil nat_eq
named_apart parts from (n ∷ ns) apart up =
    IsDistinct-cons nat_eq (named parts n) (map (named parts) ns) (one_apart parts n (suc n) ns apart (omega arith) up.2) (named_apart parts (suc n) ns apart up.2)

-- two lists of which no two elements are one
record AreApart (xs ys : List ℕ) : Type 0 where
  front : IsDistinct nat_eq xs
  back : IsDistinct nat_eq ys
  across : AllByRecursion (λ (x : ℕ). AllByRecursion (λ (y : ℕ). nat_eq x y ≡ false) ys) xs

split_apart : (xs ys : List ℕ) → IsDistinct nat_eq (xs ++ ys) → AreApart xs ys
unfolding IsDistinct
split_apart [] ys apart = record { front = tt; back = apart; across = tt }
split_apart (x ∷ xs) ys apart =
    let later = split_apart xs ys apart.1 in
    record {
      front = (each_front (λ (y : ℕ). nat_eq x y ≡ false) xs ys apart.0, later.front);
      back = later.back;
      across = (each_back (λ (y : ℕ). nat_eq x y ≡ false) xs ys apart.0, later.across);
    }

tables_apart : (shape : List TableParts) → IsDistinct nat_eq (blocks_of shape) → AreApart (blocks_in (first_parts shape)) (blocks_of (rest shape))
tables_apart [] apart = record { front = IsDistinct-nil nat_eq; back = IsDistinct-nil nat_eq; across = tt }
tables_apart (t ∷ ts) apart = split_apart (blocks_in t.parts) (blocks_of ts) apart

pub numbers_apart : (written : List (List ℕ)) (split : ℕ) (shape : List TableParts) (ts : List StoredTable) → IsDistinct nat_eq (blocks_of shape) → IsDistinct nat_eq (numbers_read written split shape ts)
numbers_apart written split shape [] apart = IsDistinct-nil nat_eq
numbers_apart written split shape (t ∷ ts) apart =
    let parts : List Part = first_parts shape in
    let these : List ℕ = touched (shares_of (first_counts written) split parts t) in
    let later : List ℕ = numbers_read (rest written) split (rest shape) ts in
    let up = table_rises (first_counts written) split parts t in
    let are = tables_apart shape apart in
    let Q : ℕ → Type 0 = λ x. AllByRecursion (λ (y : ℕ). nat_eq x y ≡ false) later in
    let across : AllByRecursion Q (blocks_in parts) =
    each_then (λ (x : ℕ). AllByRecursion (λ (y : ℕ). nat_eq x y ≡ false) (blocks_of (rest shape))) Q
    (λ x h. numbers_each (λ (y : ℕ). nat_eq x y ≡ false) (rest written) split (rest shape) ts h) (blocks_in parts) are.across in
    IsDistinct-append nat_eq (map (named parts) these) later (named_apart parts 0 these are.front up) (numbers_apart (rest written) split (rest shape) ts are.back) (parts_named Q parts 0 these across up)

-- ---- the same by the parts' places

-- the tables of a version from one on
drop_next : (n : ℕ) (whole shape : List TableParts) → drop n whole ≡ shape → drop (suc n) whole ≡ rest shape
drop_next zero [] shape e = ap (λ (l : List TableParts). rest l) e
drop_next zero (t ∷ ts) shape e = ap (λ (l : List TableParts). rest l) e
drop_next (suc n) [] shape e = ap (λ (l : List TableParts). rest l) e
drop_next (suc n) (t ∷ ts) shape e = drop_next n ts shape e

pub drop_rest : (n : ℕ) (whole shape : List TableParts) → drop n whole ≡ shape → drop (n + 1) whole ≡ rest shape
drop_rest n whole shape e = subst (λ k. drop k whole ≡ rest shape) (one_more n) (drop_next n whole shape e)
  where
    one_more : (k : ℕ) → suc k ≡ k + 1
    one_more k = omega arith

module _ (whole : List TableParts) where
  numbers_by : (n : ℕ) (shape : List TableParts) (times : List ℕ) (list : List Share) → drop n whole ≡ shape → map (number_there whole) (late_by n times list) ≡ map (named (first_parts shape)) (touched list)
  numbers_by n shape times [] e = refl
  numbers_by n shape times (share.Keep k ∷ list) e = numbers_by n shape times list e
  numbers_by n shape times (share.Append k i j ∷ list) e = numbers_by n shape times list e
  numbers_by n shape times (share.Merge k i j ∷ list) e =
      ap₂ (λ (x : ℕ) (l : List ℕ). x ∷ l) (ap (λ (l : List TableParts). named (first_parts l) k) e) (numbers_by n shape times list e)
  numbers_by n shape times (share.New i j ∷ list) e = numbers_by n shape times list e

  numbers_from : (n : ℕ) (written : List (List ℕ)) (split : ℕ) (shape : List TableParts) (ts : List StoredTable) → drop n whole ≡ shape
      → map (number_there whole) (all_late n written split shape ts) ≡ numbers_read written split shape ts
  numbers_from n written split shape [] e = refl
  numbers_from n written split shape (t ∷ ts) e =
      let parts : List Part = first_parts shape in
      map-append (number_there whole) (table_late n (first_counts written) split parts t) (all_late (n + 1) (rest written) split (rest shape) ts)
      ∙ ap₂ (λ (a b : List ℕ). a ++ b)
      (numbers_by n shape (times_in t.schema (batch_of t)) (shares_of (first_counts written) split parts t) e)
      (numbers_from (n + 1) (rest written) split (rest shape) ts (drop_rest n whole shape e))

pub numbers_at : (written : List (List ℕ)) (split : ℕ) (shape : List TableParts) (ts : List StoredTable) → map (number_there shape) (all_late 0 written split shape ts) ≡ numbers_read written split shape ts
numbers_at written split shape ts = numbers_from shape 0 written split shape ts refl

-- the number of a part that is there
table_first : (shape : List TableParts) (n : ℕ) (t : TableParts) → slice_get shape n ≡ Some t → first_parts (drop n shape) ≡ t.parts
table_first [] n t at = cc
table_first (u ∷ us) zero t at = ap (λ (x : TableParts). x.parts) (get_or_from_slice_get (u ∷ us) 0 t u at)
table_first (u ∷ us) (suc n) t at = table_first us n t at

pub its_number : (shape : List TableParts) (late : Late) (t : TableParts) (p : Part) → slice_get shape late.table ≡ Some t
    → slice_get t.parts late.part ≡ Some p → number_there shape late ≡ p.block
its_number shape late t p its_table its_part =
    ap (λ (ps : List Part). named ps late.part) (table_first shape late.table t its_table)
    ∙ ap (λ (x : Part). x.block) (get_or_from_slice_get t.parts late.part p no_part its_part)
