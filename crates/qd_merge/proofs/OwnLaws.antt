-- Each share has its owner's rows.
use Rattle.std.proofs.Common.{◌≡◌, ◌≢◌, ◌⊎◌, ℕ, zero, suc, ◌+◌, ◌-◌, ◌<◌, ◌≤◌, min, max, Bool, true, false, not, ◌&&◌, cond, eqb, ltb, leb, List, [], ◌∷◌, ◌++◌, length, map, take, drop, get_or, refl, sym, ap, ap₂, ◌∙◌, arith, All, Option, Some, None, is_some, subst, inl, inr, slice_range, append_assoc, true≢false}
use Rattle.std.specs.List.{filter, flat_map, range_with_len, AllByRecursion}
use Rattle.std.specs.List.Sorted.{IsNonDecreasing}
use Rattle.std.specs.Option.{option_or}
use Rattle.std.proofs.lemmas.Bool.{lt-ltb, le-ltb, le-leb, lt-leb, eq-eqb, ne_eqb, cases_lt}
use Rattle.std.proofs.lemmas.Option.{none-some}
use Rattle.qd_base.specs.declared.limits.TheConstants.{MAX_TIME}
use Rattle.qd_base.specs.declared.part.Part.{Part}
use Rattle.qd_base.specs.declared.unit.TimeUnit.{TimeUnit}
use Rattle.qd_time.specs.Units.{start_of, unit_of}
use Rattle.qd_time.proofs.UnitLemmas.{in_unit}
use Rattle.qd_merge.specs.declared.shares.Rules.{Rules}
use Rattle.qd_merge.specs.declared.shares.Share.{Share}
use Rattle.qd_merge.specs.declared.shares.Share.TheVariants as share
use Rattle.qd_merge.specs.Acts.{before, between, partition_end, partitions, part_end}
use Rattle.qd_merge.specs.Owners.{begins_by, first_with, is_beside, is_number, last_with, no_part, owned, owner, strays, AreInOrder}
use Rattle.qd_merge.specs.Shares.{goes_behind, new_share, part_of, share_of, share_on, shares, shares_behind, AreOwners, IsOwners}
use Rattle.qd_merge.proofs.Filters.{filter_both}
use Rattle.qd_merge.proofs.Plans.{before_splits, between_slice, start_fixed}
use Rattle.qd_merge.proofs.OwnerLemmas.{behind_part, first_none, last_none, within_part}
use Rattle.qd_merge.proofs.Walks.{count_owned, ends_rise, filter_same_on, none_passed, one_passed, owned_slice, share_same, Passed}

-- ---- lists

all_joined : {T : Type 0} (P : T → Type 0) (xs ys : List T) → AllByRecursion P xs → AllByRecursion P ys → AllByRecursion P (xs ++ ys)
all_joined P [] ys a b = b
all_joined P (x ∷ xs) ys a b = (a.0, all_joined P xs ys a.1 b)

all_filtered : {T : Type 0} (P : T → Type 0) (f : T → Bool) (xs : List T) → AllByRecursion P xs → AllByRecursion P (filter f xs)
all_filtered P f [] a = tt
all_filtered P f (x ∷ xs) a = pick (f x) (all_filtered P f xs a.1)
  where
    pick : (b : Bool) → AllByRecursion P (filter f xs) → AllByRecursion P (cond b (x ∷ filter f xs) (filter f xs))
    pick true rest = (a.0, rest)
    pick false rest = rest

all_mapped : {T U : Type 0} (P : T → Type 0) (Q : U → Type 0) (f : T → U) → ((x : T) → P x → Q (f x)) → (xs : List T) → AllByRecursion P xs → AllByRecursion Q (map f xs)
all_mapped P Q f h [] a = tt
all_mapped P Q f h (x ∷ xs) a = (h x a.0, all_mapped P Q f h xs a.1)

-- where an item that passes stands
pub record StandsIn (f : ℕ → Bool) (xs : List ℕ) (x : ℕ) : Type 0 where
  pub place : ℕ
  pub within : place < length xs
  pub there : get_or xs place 0 ≡ x
  pub passes : f x ≡ true

stands_later : (f : ℕ → Bool) (y : ℕ) (xs : List ℕ) (x : ℕ) → StandsIn f xs x → StandsIn f (y ∷ xs) x
stands_later f y xs x s = record { place = suc s.place; within = (let w = s.within in omega arith); there = s.there; passes = s.passes }

all_stand : (f : ℕ → Bool) (xs : List ℕ) → AllByRecursion (StandsIn f xs) (filter f xs)
all_stand f [] = tt
all_stand f (x ∷ xs) = pick (f x) refl (later (filter f xs) (all_stand f xs))
  where
    later : (ys : List ℕ) → AllByRecursion (StandsIn f xs) ys → AllByRecursion (StandsIn f (x ∷ xs)) ys
    later [] a = tt
    later (y ∷ ys) a = (stands_later f x xs y a.0, later ys a.1)

    pick : (b : Bool) → f x ≡ b → AllByRecursion (StandsIn f (x ∷ xs)) (filter f xs) → AllByRecursion (StandsIn f (x ∷ xs)) (filter f (x ∷ xs))
    pick true e rest = subst (λ (b : Bool). AllByRecursion (StandsIn f (x ∷ xs)) (cond b (x ∷ filter f xs) (filter f xs))) (sym e) (record { place = zero; within = omega arith; there = refl; passes = e }, rest)
    pick false e rest = subst (λ (b : Bool). AllByRecursion (StandsIn f (x ∷ xs)) (cond b (x ∷ filter f xs) (filter f xs))) (sym e) rest

-- a filter that an item passes gives something
passed_some : (f : ℕ → Bool) (xs : List ℕ) (x : ℕ) → StandsIn f xs x → filter f xs ≢ []
passed_some f [] x s none = let w = s.within in absurd (omega arith)
passed_some f (y ∷ ys) x s none = pick (f y) refl (λ in_rest gone. passed_some f ys x in_rest gone)
  where
    no_cons : (z : ℕ) (zs : List ℕ) → z ∷ zs ≡ [] → ⊥
    no_cons z zs e = cc

    rest : (k : ℕ) → s.place ≡ k → f y ≡ false → (StandsIn f ys x → filter f ys ≡ [] → ⊥) → ⊥
    rest zero e fails more = true≢false (sym (ap f (sym (ap (λ n. get_or (y ∷ ys) n 0) e) ∙ s.there) ∙ s.passes) ∙ fails)
    rest (suc k) e fails more = more (record { place = k; within = (let w = s.within in omega arith); there = sym (ap (λ n. get_or (y ∷ ys) n 0) e) ∙ s.there; passes = s.passes }) (sym (ap (λ b. cond b (y ∷ filter f ys) (filter f ys)) fails) ∙ none)

    pick : (b : Bool) → f y ≡ b → (StandsIn f ys x → filter f ys ≡ [] → ⊥) → ⊥
    pick true e more = no_cons y (filter f ys) (sym (ap (λ b. cond b (y ∷ filter f ys) (filter f ys)) e) ∙ none)
    pick false e more = rest s.place refl e more

and_parts : (a b : Bool) → (a && b) ≡ true → (a ≡ true) × (b ≡ true)
and_parts true true e = (refl, refl)
and_parts true false e = cc
and_parts false b e = cc

not_true : (b : Bool) → not b ≡ true → b ≡ false
not_true false e = refl
not_true true e = cc

no_second : (a b : Bool) → b ≡ false → (a && b) ≡ false
no_second true b e = e
no_second false b e = refl

first_no : (a b : Bool) → a ≡ false → (a && b) ≡ false
first_no a b e = rw e refl

-- ---- times of no part

none_first : (f : Part → Bool) (n : ℕ) (ps : List Part) → first_with f n ps ≡ None → (k : ℕ) → k < length ps → f (get_or ps k no_part) ≡ false
none_first f n [] e k lt = absurd (omega arith)
none_first f n (p ∷ ps) e k lt = pick (f p) refl k lt (λ later j low. none_first f (suc n) ps later j low)
  where
    pick : (b : Bool) → f p ≡ b → (k : ℕ) → k < length (p ∷ ps) → (first_with f (suc n) ps ≡ None → (j : ℕ) → j < length ps → f (get_or ps j no_part) ≡ false) → f (get_or (p ∷ ps) k no_part) ≡ false
    pick true fp k lt more = absurd (none-some n (sym e ∙ ap (λ b. cond b (Some n) (first_with f (suc n) ps)) fp))
    pick false fp zero lt more = fp
    pick false fp (suc k) lt more = more (sym (ap (λ b. cond b (Some n) (first_with f (suc n) ps)) fp) ∙ e) k (omega arith)

none_second : (a b : Option ℕ) → is_some (option_or a b) ≡ false → b ≡ None
none_second None None e = refl
none_second None (Some k) e = cc
none_second (Some k) b e = cc

-- times of one partition are all of some part, or all of none
pub stray_same : (u : TimeUnit) (all : List Part) (t x : ℕ) → is_some (owner u all t) ≡ false → start_of u x ≡ start_of u t → is_some (owner u all x) ≡ false
stray_same u all t x e same =
    let none = none_first (is_beside u t) zero all (none_second (last_with (begins_by u t) zero all) (first_with (is_beside u t) zero all) e) in
    let not_beside : (k : ℕ) → k < length all → is_beside u x (get_or all k no_part) ≡ false = λ k lt. ap (λ s. eqb (start_of u (get_or all k no_part).lo) s) same ∙ none k lt in
    ap is_some (ap₂ option_or (last_none (begins_by u x) zero all (λ k lt. first_no (is_beside u x (get_or all k no_part)) (leb (get_or all k no_part).lo x) (not_beside k lt))) (first_none (is_beside u x) zero all not_beside))

-- ---- shares
module _ (u : TimeUnit) (all : List Part) (times : List ℕ) (rising : IsNonDecreasing times) (moments : All (λ t. t ≤ MAX_TIME) times) where
  abbrev is_stray : ℕ → Bool
  is_stray t = not (is_some (owner u all t))

  -- a partition of times of no part
  record StartsAt (s : ℕ) : Type 0 where
    time : ℕ
    stands : StandsIn is_stray times time
    starts : start_of u time ≡ s

  new_owners : (s : ℕ) → StartsAt s → IsOwners u all times (new_share u times s)
  new_owners s at =
      let t = at.time in
      let end = partition_end u s in
      let fixed : start_of u s ≡ s = ap (start_of u) (sym at.starts) ∙ start_fixed u t ∙ at.starts in
      let stray : is_some (owner u all t) ≡ false = not_true (is_some (owner u all t)) at.stands.passes in
      let each : (x : ℕ) → x ≤ MAX_TIME → (is_stray x && eqb s (start_of u x)) ≡ (leb s x && ltb x end) = λ x m. alike s t at.starts fixed stray x m in
      let same : filter (λ x. eqb s (start_of u x)) (strays u all times) ≡ between s end times = filter_both (λ x. eqb s (start_of u x)) is_stray (λ x. is_stray x && eqb s (start_of u x)) (λ x. refl) times ∙ filter_same_on (λ x. is_stray x && eqb s (start_of u x)) (λ x. leb s x && ltb x end) times (λ k d lt. each (get_or times k d) (moments k d lt)) in
      let slice : slice_range times (before s times) (before end times) ≡ between s end times = sym (between_slice s end times rising) in
      let moment : t ≤ MAX_TIME = subst (λ (x : ℕ). x ≤ MAX_TIME) at.stands.there (moments at.stands.place 0 at.stands.within) in
      let passes : (leb s t && ltb t end) ≡ true = sym (each t moment) ∙ ap₂ (λ a b. a && b) at.stands.passes (eq-eqb s (start_of u t) (sym at.starts)) in
      (s, slice ∙ sym same, λ none. passed_some (λ x. leb s x && ltb x end) times t (record { place = at.stands.place; within = at.stands.within; there = at.stands.there; passes = passes }) (sym slice ∙ none))
    where
      alike : (s t : ℕ) → start_of u t ≡ s → start_of u s ≡ s → is_some (owner u all t) ≡ false → (x : ℕ) → x ≤ MAX_TIME → (is_stray x && eqb s (start_of u x)) ≡ (leb s x && ltb x (partition_end u s))
      alike s t starts fixed stray x m = elim (cases_lt x s) [
        | inl early ↦ (no_second (is_stray x) (eqb s (start_of u x)) (ne_eqb s (start_of u x) (λ e. let i = in_unit u x in absurd (omega (arith, i.0)))) ∙ sym (first_no (leb s x) (ltb x (partition_end u s)) (lt-leb s x early)))
        | inr reached ↦ elim (cases_lt x (partition_end u s)) [
          | inl inside ↦
              (let same : start_of u x ≡ s = within_part u s x (omega (arith, fixed)) inside m ∙ fixed in
              ap₂ (λ a b. not a && b) (stray_same u all t x stray (same ∙ sym starts)) (eq-eqb s (start_of u x) (sym same)) ∙ sym (ap₂ (λ a b. a && b) (le-leb s x reached) (lt-ltb x (partition_end u s) inside)))
          | inr outside ↦ (no_second (is_stray x) (eqb s (start_of u x)) (ne_eqb s (start_of u x) (λ e. behind_part u s x outside m (sym e ∙ sym fixed))) ∙ sym (no_second (leb s x) (ltb x (partition_end u s)) (le-ltb x (partition_end u s) outside)))
        ]
      ]

  -- the partitions of such times
  starts_all : (ts : List ℕ) → AllByRecursion (StandsIn is_stray times) ts → AllByRecursion StartsAt (partitions u ts)
  starts_all [] a = tt
  starts_all (t ∷ ts) a = (record { time = t; stands = a.0; starts = refl }, all_filtered StartsAt (λ s. not (eqb s (start_of u t))) (partitions u ts) (starts_all ts a.1))

  pub new_shares_owners : (f : ℕ → Bool) → AllByRecursion (IsOwners u all times) (map (new_share u times) (partitions u (filter f (strays u all times))))
  new_shares_owners f = all_mapped StartsAt (IsOwners u all times) (new_share u times) new_owners (partitions u (filter f (strays u all times))) (starts_all (filter f (strays u all times)) (all_filtered (StandsIn is_stray times) f (strays u all times) (all_stand is_stray times)))

  -- a part's share, between places
  pub part_owners : (r : Rules) (n : ℕ) (p : Part) (written a b : ℕ) → a ≤ b → owned u all n times ≡ slice_range times a b → length (owned u all n times) ≡ b - a → IsOwners u all times (share_on r n p written times a b)
  part_owners r n p written a b le same count = elim (cases_lt a b) [
    | inr none ↦
        (let nothing : b - a ≡ 0 = omega arith in
        subst (IsOwners u all times) (sym (is_kept none)) (same ∙ ap (λ m. take m (drop a times)) nothing))
    | inl some ↦
        (let differ : leb b a ≡ false = lt-leb b a some in
        let held : (owned u all n times ≢ []) = λ none. (let zero_long = ap length none in absurd (omega arith)) in
        subst (IsOwners u all times) (sym (goes differ)) (pick (goes_behind r p written (get_or times a 0)) (sym same) held))
  ]
    where
      is_kept : b ≤ a → share_on r n p written times a b ≡ share.Keep n
      is_kept le = rw (le-leb b a le) refl

      goes : leb b a ≡ false → share_on r n p written times a b ≡ cond (goes_behind r p written (get_or times a 0)) (share.Append n a b) (share.Merge n a b)
      goes e = rw e refl

      pick : (c : Bool) → slice_range times a b ≡ owned u all n times → owned u all n times ≢ [] → IsOwners u all times (cond c (share.Append n a b) (share.Merge n a b))
      pick true e h = (e, h)
      pick false e h = (e, h)

pub each_owners : (r : Rules) (all : List Part) (written times : List ℕ) → IsNonDecreasing times → All (λ t. t ≤ MAX_TIME) times → (low done n : ℕ) (rest : List Part) → Passed (unit_of r.unit) all low done n rest
    → AllByRecursion (IsOwners (unit_of r.unit) all times) (shares_behind r all written times low n rest)
each_owners r all written times rising moments low done n [] passed = new_shares_owners (unit_of r.unit) all times rising moments (leb low)
each_owners r all written times rising moments low done n (p ∷ ps) passed =
    let u = unit_of r.unit in
    let from = max done (start_of u p.lo) in
    let to = part_end u p ps in
    let mine : IsOwners u all times (share_of r all written times n p) = subst (IsOwners u all times) (sym (share_same r all written times rising moments low done n p ps passed))
    (part_owners u all times rising moments r n p (get_or written n 0) (before from times) (before to times) (ends_rise u all low done n p ps passed times rising moments) (owned_slice u all low done n p ps passed times rising moments ∙ between_slice from to times rising) (count_owned u all low done n p ps passed times rising moments)) in
    all_joined (IsOwners u all times) (map (new_share u times) (partitions u (between low p.lo (strays u all times)))) (share_of r all written times n p ∷ shares_behind r all written times p.lo (suc n) ps)
    (new_shares_owners u all times rising moments (λ t. leb low t && ltb t p.lo))
    (mine, each_owners r all written times rising moments p.lo to (suc n) ps (one_passed u all low done n p ps passed))

-- ---- each part has one share

flat_joined : (f : Share → List ℕ) (xs ys : List Share) → flat_map f (xs ++ ys) ≡ flat_map f xs ++ flat_map f ys
flat_joined f [] ys = refl
flat_joined f (x ∷ xs) ys = ap (λ l. f x ++ l) (flat_joined f xs ys) ∙ sym (append_assoc (f x) (flat_map f xs) (flat_map f ys))

no_parts : (u : TimeUnit) (times starts : List ℕ) → flat_map part_of (map (new_share u times) starts) ≡ []
no_parts u times [] = refl
no_parts u times (s ∷ ss) = no_parts u times ss

part_named : (r : Rules) (n : ℕ) (p : Part) (written : ℕ) (times : List ℕ) (a b : ℕ) → part_of (share_on r n p written times a b) ≡ n ∷ []
part_named r n p written times a b = pick (leb b a) (goes_behind r p written (get_or times a 0))
  where
    pick : (c d : Bool) → part_of (cond c (share.Keep n) (cond d (share.Append n a b) (share.Merge n a b))) ≡ n ∷ []
    pick true d = refl
    pick false true = refl
    pick false false = refl

pub all_named : (r : Rules) (all : List Part) (written times : List ℕ) (low n : ℕ) (rest : List Part) → flat_map part_of (shares_behind r all written times low n rest) ≡ range_with_len n (length rest)
all_named r all written times low n [] = no_parts (unit_of r.unit) times (partitions (unit_of r.unit) (filter (leb low) (strays (unit_of r.unit) all times)))
all_named r all written times low n (p ∷ ps) =
    let u = unit_of r.unit in
    let gap = map (new_share u times) (partitions u (between low p.lo (strays u all times))) in
    flat_joined part_of gap (share_of r all written times n p ∷ shares_behind r all written times p.lo (suc n) ps)
    ∙ ap₂ (λ a b. a ++ b) (no_parts u times (partitions u (between low p.lo (strays u all times))))
    (ap₂ (λ a b. a ++ b) (part_named r n p (get_or written n 0) times _ _) (all_named r all written times p.lo (suc n) ps) ∙ (let e : suc n ≡ n + 1 = omega arith in ap (λ m. n ∷ range_with_len m (length ps)) e))

pub owners : (r : Rules) (parts : List Part) (written times : List ℕ) → AreInOrder parts → IsNonDecreasing times → All (λ p. p.lo ≤ MAX_TIME) parts → All (λ t. t ≤ MAX_TIME) times → AreOwners (unit_of r.unit) parts times (shares r parts written times)
owners r parts written times ordered rising begin moments = record {
  each = each_owners r parts written times rising moments zero zero zero parts (none_passed (unit_of r.unit) parts ordered begin);
  all = all_named r parts written times zero zero parts;
}
