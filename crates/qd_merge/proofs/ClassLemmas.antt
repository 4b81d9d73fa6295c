-- Rows by their classes.
use Rattle.std.proofs.Common.{◌≡◌, ℕ, zero, suc, ◌+◌, ◌<◌, ◌≤◌, ◌↔◌, Bool, true, false, ◌&&◌, ◌||◌, cond, eqb, List, [], ◌∷◌, ◌++◌, length, map, drop, get_or, set, refl, sym, ap, ap₂, ◌∙◌, arith, subst, length-drop, replicate, inl, inr}
use Rattle.std.specs.List.{list_any, range_with_len}
use Rattle.std.specs.Cmp.{both_ways, nat_cmp_is, IsTotalOrder}
use Rattle.std.specs.Cmp.Lexicographic.{slice_cmp}
use Rattle.std.proofs.lemmas.Cmp.{nat_cmp_total, int_cmp_total, nat_list_cmp_total}
use Rattle.std.specs.Ordering.{nat_cmp, int_cmp, bool_cmp, ordering_then, ordering_reverse}
use Rattle.std.proofs.lemmas.List.FromFn.{get_or-map-range_with_len, length-map-range_with_len}
use Rattle.std.proofs.lemmas.Map.Lookups.{exact_pairs, exact_unsigned, exact_signed, exact_bytes}
use Rattle.std.specs.declared.cmp.Ordering.{Ordering}
use Rattle.std.specs.declared.cmp.Ordering.TheVariants.{Less, Equal, Greater}
use Rattle.std.proofs.lemmas.Bool.{eqb-true, eq-eqb, ne_eqb, cases_eq}
use Rattle.std.proofs.lemmas.List.{get_or-drop, get_or-map, length-map, length-replicate, get_or-replicate, get_or-set_same, get_or-set_other, drop_more, drop_all, ext_get_or}
use Rattle.qd_base.specs.declared.cell.Cell.{Cell}
use Rattle.qd_base.specs.declared.cell.Cell.TheVariants as cell
use Rattle.qd_base.specs.Rows.{Row, cell_eq, cell_at, same_on}
use Rattle.qd_merge.specs.Batch.{lasts, last_of_equals}
use Rattle.qd_merge.specs.Classes.{kept}
use Rattle.qd_merge.specs.declared.cells.Lent.{Lent}
use Rattle.qd_merge.specs.declared.cells.Lent.TheVariants as lent
use Rattle.qd_merge.specs.contracts.cells.LentOrd.TheImpl as lent_ord
use Rattle.qd_merge.specs.Classes.{AreClasses, AreNumbered, AreRefined, cell_of, repeats}
use Rattle.qd_merge.proofs.Filters.{and_parts}
use Rattle.qd_merge.proofs.Batches.{cell_decides, cell_same}

-- a test of numbers and one of rows that agree place by place
pub any_same : (p : ℕ → Bool) (q : Row → Bool) (cs : List ℕ) (rows : List Row) → length cs ≡ length rows → ((k : ℕ) → k < length rows → p (get_or cs k 0) ≡ q (get_or rows k [])) → list_any p cs ≡ list_any q rows
any_same p q [] [] e same = refl
any_same p q [] (r ∷ rs) e same = absurd (omega arith)
any_same p q (c ∷ cs) [] e same = absurd (omega arith)
any_same p q (c ∷ cs) (r ∷ rs) e same = ap₂ (λ a b. a || b) (same zero (omega arith)) (any_same p q cs rs (omega arith) (λ k lt. same (suc k) (omega arith)))

-- the flag of a place
repeats_at : (cs : List ℕ) (k : ℕ) → k < length cs → get_or (repeats cs) k false ≡ list_any (λ c. eqb (get_or cs k 0) c) (drop (k + 1) cs)
repeats_at [] k lt = absurd (omega arith)
repeats_at (c ∷ cs) zero lt = refl
repeats_at (c ∷ cs) (suc k) lt = let e : suc k + 1 ≡ suc (k + 1) = omega arith in rw e (repeats_at cs k (omega arith))

pub length-repeats : (cs : List ℕ) → length (repeats cs) ≡ length cs
length-repeats [] = refl
length-repeats (c ∷ cs) = ap suc (length-repeats cs)

-- flags that say of each place whether its class stands behind it
pub repeats_by_places : (cs : List ℕ) (flags : List Bool) → length flags ≡ length cs → ((k : ℕ) → k < length cs → get_or flags k false ≡ list_any (λ d. eqb (get_or cs k 0) d) (drop (k + 1) cs)) → flags ≡ repeats cs
repeats_by_places cs flags size at = ext_get_or false flags (repeats cs) (size ∙ sym (length-repeats cs)) (λ k lt. let low : k < length cs = omega arith in at k low ∙ sym (repeats_at cs k low))

-- the classes that stand from a place on, one place earlier
pub seen_more : (cs : List ℕ) (seen : List Bool) (p : ℕ) → p < length cs → get_or cs p 0 < length seen → ((c : ℕ) → c < length cs → get_or seen c false ≡ list_any (λ d. eqb c d) (drop (p + 1) cs)) → (c : ℕ) → c < length cs → get_or (set seen (get_or cs p 0) true) c false ≡ list_any (λ d. eqb c d) (drop p cs)
seen_more cs seen p low within so_far c lt =
    let class : ℕ = get_or cs p 0 in
    let later : Bool = list_any (λ d. eqb c d) (drop (p + 1) cs) in
    let here : list_any (λ d. eqb c d) (drop p cs) ≡ (eqb c class || later) = ap (list_any (λ d. eqb c d)) (drop_more cs p 0 low) in
    elim (cases_eq c class) [
      | inl same ↦ ap (λ i. get_or (set seen class true) i false) same ∙ get_or-set_same seen class true false within ∙ sym (here ∙ ap (λ b. b || later) (eq-eqb c class same))
      | inr differ ↦ get_or-set_other seen class c true false differ ∙ so_far c lt ∙ sym (here ∙ ap (λ b. b || later) (ne_eqb c class differ))
    ]

-- and the flags
pub flags_more : (cs : List ℕ) (flags : List Bool) (b : Bool) (p : ℕ) → p < length flags → b ≡ list_any (λ d. eqb (get_or cs p 0) d) (drop (p + 1) cs) → ((k : ℕ) → p + 1 ≤ k → k < length cs → get_or flags k false ≡ list_any (λ d. eqb (get_or cs k 0) d) (drop (k + 1) cs)) → (k : ℕ) → p ≤ k → k < length cs → get_or (set flags p b) k false ≡ list_any (λ d. eqb (get_or cs k 0) d) (drop (k + 1) cs)
flags_more cs flags b p within is so_far k low high =
    elim (cases_eq k p) [
      | inl same ↦ ap (λ i. get_or (set flags p b) i false) same ∙ get_or-set_same flags p b false within ∙ is ∙ ap (λ i. list_any (λ d. eqb (get_or cs i 0) d) (drop (i + 1) cs)) (sym same)
      | inr differ ↦ get_or-set_other flags p k b false differ ∙ so_far k (omega arith) high
    ]

-- at first no class is seen
pub none_seen : (cs : List ℕ) (seen : List Bool) → seen ≡ replicate (length cs) false → (c : ℕ) → c < length cs → get_or seen c false ≡ list_any (λ d. eqb c d) (drop (length cs) cs)
none_seen cs seen are c lt = ap (λ (l : List Bool). get_or l c false) are ∙ get_or-replicate (length cs) c false false lt ∙ sym (ap (list_any (λ d. eqb c d)) (drop_all (length cs) cs (omega arith)))

-- rows kept by flags that say whether an equal stands behind
kept_lasts : (keys : List ℕ) (flags : List Bool) (rows : List Row) → length flags ≡ length rows → ((k : ℕ) → k < length rows → get_or flags k false ≡ list_any (same_on keys (get_or rows k [])) (drop (k + 1) rows)) → kept flags rows ≡ lasts keys rows
kept_lasts keys [] [] e tell = refl
kept_lasts keys [] (r ∷ rs) e tell = absurd (omega arith)
kept_lasts keys (b ∷ bs) [] e tell = absurd (omega arith)
kept_lasts keys (b ∷ bs) (r ∷ rs) e tell =
    let first : b ≡ list_any (same_on keys r) rs = tell zero (omega arith) in
    let rest : kept bs rs ≡ lasts keys rs = kept_lasts keys bs rs (omega arith) (λ k lt. let shift : suc k + 1 ≡ suc (k + 1) = omega arith in tell (suc k) (omega arith) ∙ ap (λ n. list_any (same_on keys (get_or rs k [])) (drop n (r ∷ rs))) shift) in
    ap (λ d. cond d (kept bs rs) (r ∷ kept bs rs)) first ∙ ap (λ l. cond (list_any (same_on keys r) rs) l (r ∷ l)) rest

-- the flag of a row's class says whether an equal stands behind the row
pub repeats_tell : (keys : List ℕ) (rows : List Row) (classes : List ℕ) → AreClasses keys rows classes → (k : ℕ) → k < length rows → get_or (repeats classes) k false ≡ list_any (same_on keys (get_or rows k [])) (drop (k + 1) rows)
repeats_tell keys rows classes are k lt =
    let left = length-drop (k + 1) rows in
    let left_classes = length-drop (k + 1) classes in
    let count = are.count in
    repeats_at classes k (omega arith)
    ∙ any_same (λ c. eqb (get_or classes k 0) c) (same_on keys (get_or rows k [])) (drop (k + 1) classes) (drop (k + 1) rows) (omega arith) (λ m low.
    ap (λ c. eqb (get_or classes k 0) c) (get_or-drop (k + 1) classes m 0) ∙ are.tell k (k + 1 + m) lt (omega arith) ∙ ap (same_on keys (get_or rows k [])) (sym (get_or-drop (k + 1) rows m [])))

pub classes_keep : (keys : List ℕ) (rows : List Row) (classes : List ℕ) → AreClasses keys rows classes → kept (repeats classes) rows ≡ lasts keys rows
classes_keep keys rows classes are = kept_lasts keys (repeats classes) rows (length-repeats classes ∙ are.count) (repeats_tell keys rows classes are)

-- keys one by one
pub same_on-more : (keys : List ℕ) (k : ℕ) (a b : Row) → same_on (keys ++ k ∷ []) a b ≡ (same_on keys a b && same_on (k ∷ []) a b)
same_on-more [] k a b = refl
same_on-more (x ∷ xs) k a b = ap (λ r. cell_eq (cell_at a x) (cell_at b x) && r) (same_on-more xs k a b) ∙ joined (cell_eq (cell_at a x) (cell_at b x)) (same_on xs a b) (same_on (k ∷ []) a b)
  where
    joined : (p q r : Bool) → (p && (q && r)) ≡ ((p && q) && r)
    joined true q r = refl
    joined false q r = refl

-- classes told apart by one key more
pub classes_more : (keys : List ℕ) (key : ℕ) (rows : List Row) (classes : List ℕ) (cmp : Lent → Lent → Ordering) (cells : List Lent) (numbers refined : List ℕ) → ((a b : Lent) → (cmp a b ≡ Equal) ↔ (cell_of a ≡ cell_of b)) → AreClasses keys rows classes → map cell_of cells ≡ map (λ r. cell_at r key) rows → AreNumbered cmp cells numbers → AreRefined classes numbers refined → AreClasses (keys ++ key ∷ []) rows refined
classes_more keys key rows classes cmp cells numbers refined exact are shown told further =
    let size : length cells ≡ length rows = sym (length-map cells cell_of) ∙ ap length shown ∙ length-map rows (λ r. cell_at r key) in
    record {
      count = further.count ∙ are.count;
      below = λ k d lt. let low = further.below k d lt in let count = are.count in omega arith;
      tell = λ i j i_low j_low.
          let count = are.count in
          let none : Lent = lent.Null in
          let at : (k : ℕ) → k < length rows → cell_of (get_or cells k none) ≡ cell_at (get_or rows k []) key = λ k lt. sym (get_or-map cell_of cells k none cell.Null (omega arith)) ∙ ap (λ (cs : List Cell). get_or cs k cell.Null) shown ∙ get_or-map (λ r. cell_at r key) rows k [] cell.Null lt in
          let r = further.tell i j (omega arith) (omega arith) in
          let n = told.tell i j none (omega arith) (omega arith) in
          let e = exact (get_or cells i none) (get_or cells j none) in
          let x : Cell = cell_at (get_or rows i []) key in
          let y : Cell = cell_at (get_or rows j []) key in
          let ci : ℕ = get_or classes i 0 in
          let cj : ℕ = get_or classes j 0 in
          let ri : ℕ = get_or refined i 0 in
          let rj : ℕ = get_or refined j 0 in
          let told_before : eqb ci cj ≡ same_on keys (get_or rows i []) (get_or rows j []) = are.tell i j i_low j_low in
          let forward : eqb ri rj ≡ true → (eqb ci cj && (cell_eq x y && true)) ≡ true = λ is.
          let both = r.0 (eqb-true ri rj is) in
          let cells_same : x ≡ y = sym (at i i_low) ∙ e.0 (n.0 both.1) ∙ at j j_low in
          true_both (eqb ci cj) (cell_eq x y && true) (eq-eqb ci cj both.0) (true_both (cell_eq x y) true ((cell_decides x y).1 cells_same) refl) in
          let backward : (eqb ci cj && (cell_eq x y && true)) ≡ true → eqb ri rj ≡ true = λ is.
          let parts = and_parts (eqb ci cj) (cell_eq x y && true) is in
          let cells_same : x ≡ y = cell_same x y (and_parts (cell_eq x y) true parts.1).0 in
          eq-eqb ri rj (r.1 (eqb-true ci cj parts.0, n.1 (e.1 (at i i_low ∙ cells_same ∙ sym (at j j_low))))) in
          both_ways (eqb ri rj) (eqb ci cj && (cell_eq x y && true)) forward backward ∙ ap (λ b. b && (cell_eq x y && true)) told_before ∙ sym (same_on-more keys key (get_or rows i []) (get_or rows j []));
    }
  where
    true_both : (a b : Bool) → a ≡ true → b ≡ true → (a && b) ≡ true
    true_both a b e f = rw (e, f) refl

-- the same, where what is given is equal to what is said
pub classes_next : (all keys : List ℕ) (key : ℕ) (rows : List Row) (classes given_classes : List ℕ) (cmp : Lent → Lent → Ordering) (cells given_cells : List Lent) (numbers given_numbers refined : List ℕ) → all ≡ keys ++ key ∷ [] → ((a b : Lent) → (cmp a b ≡ Equal) ↔ (cell_of a ≡ cell_of b)) → AreClasses keys rows classes → map cell_of cells ≡ map (λ r. cell_at r key) rows → given_cells ≡ cells → AreNumbered cmp given_cells numbers → given_classes ≡ classes → given_numbers ≡ numbers → AreRefined given_classes given_numbers refined → AreClasses all rows refined
classes_next all keys key rows classes given_classes cmp cells given_cells numbers given_numbers refined all_is exact are shown cells_is told classes_is numbers_is further =
    let told_cells : AreNumbered cmp cells numbers = subst (λ (cs : List Lent). AreNumbered cmp cs numbers) cells_is told in
    let further_classes : AreRefined classes given_numbers refined = subst (λ (cs : List ℕ). AreRefined cs given_numbers refined) classes_is further in
    let further_numbers : AreRefined classes numbers refined = subst (λ (ns : List ℕ). AreRefined classes ns refined) numbers_is further_classes in
    subst (λ (ks : List ℕ). AreClasses ks rows refined) (sym all_is) (classes_more keys key rows classes cmp cells numbers refined exact are shown told_cells further_numbers)

-- without keys all rows are of one class
pub no_classes : (rows : List Row) (classes : List ℕ) → classes ≡ replicate (length rows) 0 → AreClasses [] rows classes
no_classes rows classes are =
    let zero_at : (i : ℕ) → i < length rows → get_or classes i 0 ≡ 0 = λ i lt. ap (λ (cs : List ℕ). get_or cs i 0) are ∙ get_or-replicate (length rows) i 0 0 lt in
    record {
      count = ap length are ∙ length-replicate (length rows) 0;
      below = λ k d lt. let size : length classes ≡ length rows = ap length are ∙ length-replicate (length rows) 0 in let z : get_or classes k d ≡ 0 = ap (λ (cs : List ℕ). get_or cs k d) are ∙ get_or-replicate (length rows) k 0 d (omega arith) in omega arith;
      tell = λ i j i_low j_low. eq-eqb (get_or classes i 0) (get_or classes j 0) (zero_at i i_low ∙ sym (zero_at j j_low));
    }

pub last_of_none : (keys : List ℕ) (rows : List Row) → length keys ≡ 0 → rows ≡ last_of_equals keys rows
last_of_none [] rows e = refl
last_of_none (k ∷ ks) rows e = absurd (omega arith)

pub last_of_some : (keys : List ℕ) (rows : List Row) → (length keys ≡ 0 → ⊥) → lasts keys rows ≡ last_of_equals keys rows
last_of_some [] rows some = absurd (some refl)
last_of_some (k ∷ ks) rows some = refl

-- rows kept by the flags of their classes
pub flags_fit : (keys : List ℕ) (rows : List Row) (classes : List ℕ) (gone : List Bool) → AreClasses keys rows classes → gone ≡ repeats classes → length gone ≡ length rows
flags_fit keys rows classes gone are is = ap length is ∙ length-repeats classes ∙ are.count

pub flags_keep : (keys : List ℕ) (rows : List Row) (classes : List ℕ) (gone : List Bool) → AreClasses keys rows classes → gone ≡ repeats classes → (length keys ≡ 0 → ⊥) → kept gone rows ≡ last_of_equals keys rows
flags_keep keys rows classes gone are is some = ap (λ (f : List Bool). kept f rows) is ∙ classes_keep keys rows classes are ∙ last_of_some keys rows some

-- pairs of numbers, ordered as pairs are
abbrev pub pair_cmp : ℕ × ℕ → ℕ × ℕ → Ordering
pair_cmp a b = ordering_then (nat_cmp a.0 b.0) (nat_cmp a.1 b.1)

-- numbers of pairs tell the pairs' parts apart
pub pairs_refine : (classes numbers : List ℕ) (pairs : List (ℕ × ℕ)) (refined : List ℕ) → pairs ≡ map (λ i. (get_or classes i 0, get_or numbers i 0)) (range_with_len 0 (length classes)) → AreNumbered pair_cmp pairs refined → AreRefined classes numbers refined
pairs_refine classes numbers pairs refined are told =
    let n : ℕ = length classes in
    let make : ℕ → ℕ × ℕ = λ i. (get_or classes i 0, get_or numbers i 0) in
    let size : length pairs ≡ n = ap length are ∙ length-map-range_with_len make 0 n in
    let at : (i : ℕ) → i < n → get_or pairs i (0, 0) ≡ make i = λ i lt. ap (λ (ps : List (ℕ × ℕ)). get_or ps i (0, 0)) are ∙ get_or-map-range_with_len make 0 n i i (0, 0) lt (omega arith) in
    record {
      count = told.count ∙ size;
      below = λ k d lt. let low = told.below k d lt in omega arith;
      tell = λ i j i_low j_low.
          let t = told.tell i j (0, 0) (omega arith) (omega arith) in (
            (λ same. let e : get_or pairs i (0, 0) ≡ get_or pairs j (0, 0) = exact_pairs nat_cmp nat_cmp exact_unsigned exact_unsigned (get_or pairs i (0, 0)) (get_or pairs j (0, 0)) (t.0 same) in let f : make i ≡ make j = sym (at i i_low) ∙ e ∙ at j j_low in (ap (λ (p : ℕ × ℕ). p.0) f, ap (λ (p : ℕ × ℕ). p.1) f)),
            (λ both. t.1 (ap₂ pair_cmp (at i i_low) (at j j_low) ∙ equal_pairs (make i) (make j) both.0 both.1)),
          );
    }
  where
    equal_pairs : (a b : ℕ × ℕ) → a.0 ≡ b.0 → a.1 ≡ b.1 → pair_cmp a b ≡ Equal
    equal_pairs a b e f = ap₂ ordering_then (ap (λ x. nat_cmp x b.0) e ∙ sym (nat_cmp_is b.0 b.0 Equal refl)) (ap (λ x. nat_cmp x b.1) f ∙ sym (nat_cmp_is b.1 b.1 Equal refl))

-- an order gives Equal for one thing twice
self_equal : (o : Ordering) → o ≡ ordering_reverse o → o ≡ Equal
self_equal Less e = cc
self_equal Equal e = refl
self_equal Greater e = cc

same_twice : {K : Type 0} (R : K → K → Ordering) → IsTotalOrder R → (x : K) → R x x ≡ Equal
same_twice R total x = self_equal (R x x) (total.antisymm x x)

exact_truth : (x y : Bool) → bool_cmp x y ≡ Equal → x ≡ y
exact_truth true true e = refl
exact_truth true false e = cc
exact_truth false true e = cc
exact_truth false false e = refl

truth_twice : (x : Bool) → bool_cmp x x ≡ Equal
truth_twice true = refl
truth_twice false = refl

-- The order of cells that are lent tells two apart exactly where the cells differ.
abbrev pub lent_cmp : Lent → Lent → Ordering
lent_cmp = (lent_ord.ghosts).cmp

pub lent_exact : (a b : Lent) → (lent_cmp a b ≡ Equal) ↔ (cell_of a ≡ cell_of b)
lent_exact lent.Null lent.Null = ((λ e. refl), (λ e. refl))
lent_exact (lent.Long x) (lent.Long y) = ((λ e. ap cell.Long (exact_signed x y e)), (λ e. let same : x ≡ y = cc in ap (int_cmp x) (sym same) ∙ same_twice int_cmp int_cmp_total x))
lent_exact (lent.Truth x) (lent.Truth y) = ((λ e. ap cell.Bool (exact_truth x y e)), (λ e. let same : x ≡ y = cc in ap (bool_cmp x) (sym same) ∙ truth_twice x))
lent_exact (lent.Text x) (lent.Text y) = ((λ e. ap cell.Text (exact_bytes x.now y.now e)), (λ e. let same : x.now ≡ y.now = cc in ap (slice_cmp nat_cmp x.now) (sym same) ∙ same_twice (slice_cmp nat_cmp) nat_list_cmp_total x.now))
lent_exact (lent.Time x) (lent.Time y) = ((λ e. ap cell.Time (exact_unsigned x y e)), (λ e. let same : x ≡ y = cc in ap (nat_cmp x) (sym same) ∙ same_twice nat_cmp nat_cmp_total x))
lent_exact _ _ = ((λ e. cc), (λ e. cc))
