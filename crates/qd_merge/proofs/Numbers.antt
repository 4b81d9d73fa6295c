-- Numbers of keys in a map.
use Rattle.std.proofs.Common.{◌≡◌, ℕ, zero, suc, ◌+◌, ◌<◌, ◌≤◌, Bool, true, false, cond, Some, None, List, [], ◌∷◌, ◌++◌, inl, inr, length, get_or, refl, sym, ap, ◌∙◌, arith, All}
use Rattle.std.proofs.lemmas.Bool.{cases_lt}
use Rattle.std.specs.BTreeMap.{BTreeMap, get, is_at, btree_map_len, Updates}
use Rattle.std.specs.Cmp.{IsTotalOrder}
use Rattle.std.specs.Map.{lookup}
use Rattle.std.specs.Ordering.{is_eq}
use Rattle.std.specs.declared.cmp.Ordering.{Ordering}
use Rattle.std.specs.declared.cmp.Ordering.TheVariants.{Less, Equal, Greater}
use Rattle.qd_merge.specs.Classes.{AreNumbers, KeepsNumbers, AreNumbered}

equal_of : (o : Ordering) → is_eq o ≡ true → o ≡ Equal
equal_of Less e = cc
equal_of Equal e = refl
equal_of Greater e = cc

lookup_same : {K X : Type 0} (p q : K → Bool) → ((k : K) → p k ≡ q k) → (es : List (K × X)) → lookup p es ≡ lookup q es
lookup_same p q same [] = refl
lookup_same p q same (e ∷ es) = ap (λ b. cond b (Some e.1) (lookup p es)) (same e.0) ∙ ap (λ r. cond (q e.0) (Some e.1) r) (lookup_same p q same es)

module _ {K : Type 0} (cmp : K → K → Ordering) (o : IsTotalOrder cmp) where
  -- equal keys find the same
  pub get_same : (m : BTreeMap K ℕ) (a b : K) → cmp a b ≡ Equal → get cmp m a ≡ get cmp m b
  get_same m a b e = lookup_same (is_at (cmp a)) (is_at (cmp b)) (λ k. ap is_eq (o.congr a b k e)) m.entries

  -- a key that wasn't there gets the next number
  module _ (old new : BTreeMap K ℕ) (key : K) (n : ℕ) (absent : get cmp old key ≡ None) (updates : Updates cmp old new key (Some n)) (next : n ≡ btree_map_len old) (size : btree_map_len new ≡ n + 1) (are : AreNumbers cmp old) where
    found : (q : K) (b : Bool) → is_at (cmp key) q ≡ b → get cmp new q ≡ cond b (Some n) (get cmp old q)
    found q b is = updates.0 q ∙ ap (λ c. cond c (Some n) (get cmp old q)) is

    pub number_kept : KeepsNumbers cmp old new
    number_kept q m was = go (is_at (cmp key) q) refl
      where
        go : (b : Bool) → is_at (cmp key) q ≡ b → get cmp new q ≡ Some m
        go true is = let none : get cmp old key ≡ Some m = get_same old key q (equal_of (cmp key q) is) ∙ was in let e : None ≡ Some m = sym absent ∙ none in cc
        go false is = found q false is ∙ was

    pub numbers_kept : AreNumbers cmp new
    numbers_kept = record { below = below; apart = apart }
      where
        below : (q : K) (m : ℕ) → get cmp new q ≡ Some m → m < btree_map_len new
        below q m is = go (is_at (cmp key) q) refl
          where
            go : (b : Bool) → is_at (cmp key) q ≡ b → m < btree_map_len new
            go true at = let e : Some n ≡ Some m = sym (found q true at) ∙ is in let same : n ≡ m = cc in omega arith
            go false at = let e : get cmp old q ≡ Some m = sym (found q false at) ∙ is in let low = are.below q m e in omega arith

        apart : (a b : K) (m : ℕ) → get cmp new a ≡ Some m → get cmp new b ≡ Some m → cmp a b ≡ Equal
        apart a b m is_a is_b = go (is_at (cmp key) a) refl (is_at (cmp key) b) refl
          where
            go : (x : Bool) → is_at (cmp key) a ≡ x → (y : Bool) → is_at (cmp key) b ≡ y → cmp a b ≡ Equal
            go true at_a true at_b = sym (o.congr key a b (equal_of (cmp key a) at_a)) ∙ equal_of (cmp key b) at_b
            go true at_a false at_b = let e : Some n ≡ Some m = sym (found a true at_a) ∙ is_a in let same : n ≡ m = cc in let f : get cmp old b ≡ Some m = sym (found b false at_b) ∙ is_b in let low = are.below b m f in absurd (omega arith)
            go false at_a true at_b = let e : Some n ≡ Some m = sym (found b true at_b) ∙ is_b in let same : n ≡ m = cc in let f : get cmp old a ≡ Some m = sym (found a false at_a) ∙ is_a in let low = are.below a m f in absurd (omega arith)
            go false at_a false at_b = are.apart a b m (sym (found a false at_a) ∙ is_a) (sym (found b false at_b) ∙ is_b)

  -- a map without keys
  pub no_numbers : (m : BTreeMap K ℕ) → m.entries ≡ [] → AreNumbers cmp m
  no_numbers m empty = record { below = λ key n is. let e : None ≡ Some n = sym (ap (lookup (is_at (cmp key))) empty) ∙ is in cc; apart = λ a b n is_a is_b. let e : None ≡ Some n = sym (ap (lookup (is_at (cmp a))) empty) ∙ is_a in cc }

  got_default : (xs : List ℕ) (i d : ℕ) → i < length xs → get_or xs i d ≡ get_or xs i 0
  got_default [] i d h = absurd (omega arith)
  got_default (x ∷ xs) zero d h = refl
  got_default (x ∷ xs) (suc i) d h = got_default xs i d (omega arith)

  all_low : (m : BTreeMap K ℕ) (keys : List K) (numbers : List ℕ) → AreNumbers cmp m → btree_map_len m ≤ length keys → length numbers ≡ length keys → ((k : ℕ) (d : K) → k < length keys → get cmp m (get_or keys k d) ≡ Some (get_or numbers k 0)) → All (λ n. n < length keys) numbers
  all_low m [] numbers are few count each k d lt = absurd (omega arith)
  all_low m (x ∷ xs) numbers are few count each k d lt = let same = got_default numbers k d lt in let fits = are.below (get_or (x ∷ xs) k x) (get_or numbers k 0) (each k x (omega arith)) in omega arith

  -- the numbers of keys that were all asked for
  pub are_numbered : (m : BTreeMap K ℕ) (keys : List K) (numbers : List ℕ) → AreNumbers cmp m → btree_map_len m ≤ length keys → length numbers ≡ length keys → ((k : ℕ) (d : K) → k < length keys → get cmp m (get_or keys k d) ≡ Some (get_or numbers k 0)) → AreNumbered cmp keys numbers
  are_numbered m keys numbers are few count each =
      record {
        count = count;
        below = all_low m keys numbers are few count each;
        tell = λ i j d i_low j_low. (
          (λ same. are.apart (get_or keys i d) (get_or keys j d) (get_or numbers i 0) (each i d i_low) (each j d j_low ∙ ap Some (sym same))),
          (λ equal. let e : Some (get_or numbers i 0) ≡ Some (get_or numbers j 0) = sym (each i d i_low) ∙ get_same m (get_or keys i d) (get_or keys j d) equal ∙ each j d j_low in cc),
        );
      }

  get-front : (xs : List ℕ) (y : ℕ) (i : ℕ) → i < length xs → get_or (xs ++ y ∷ []) i 0 ≡ get_or xs i 0
  get-front [] y i h = absurd (omega arith)
  get-front (x ∷ xs) y zero h = refl
  get-front (x ∷ xs) y (suc i) h = get-front xs y i (omega arith)

  get-last : (xs : List ℕ) (y : ℕ) → get_or (xs ++ y ∷ []) (length xs) 0 ≡ y
  get-last [] y = refl
  get-last (x ∷ xs) y = get-last xs y

  got_any : (xs : List K) (i : ℕ) (d e : K) → i < length xs → get_or xs i d ≡ get_or xs i e
  got_any [] i d e h = absurd (omega arith)
  got_any (x ∷ xs) zero d e h = refl
  got_any (x ∷ xs) (suc i) d e h = got_any xs i d e (omega arith)

  -- the number of the next key is found
  pub found_more : (old new : BTreeMap K ℕ) (keys : List K) (found done : List ℕ) (i : ℕ) (e : K) (n : ℕ) → i < length keys → length found ≡ i → ((k : ℕ) (d : K) → k < i → get cmp old (get_or keys k d) ≡ Some (get_or found k 0)) → KeepsNumbers cmp old new → get cmp new (get_or keys i e) ≡ Some n → done ≡ found ++ n ∷ [] → (k : ℕ) (d : K) → k < i + 1 → get cmp new (get_or keys k d) ≡ Some (get_or done k 0)
  found_more old new keys found done i e n low size each kept number items k d lt =
      elim (cases_lt k i) [
        | inl before ↦ kept (get_or keys k d) (get_or found k 0) (each k d before) ∙ ap Some (sym (ap (λ (l : List ℕ). get_or l k 0) items ∙ get-front found n k (omega arith)))
        | inr here ↦
            (let at : k ≡ i = omega arith in
            let key : get_or keys k d ≡ get_or keys i e = ap (λ j. get_or keys j d) at ∙ got_any keys i d e low in
            let last : get_or done k 0 ≡ n = ap (λ (l : List ℕ). get_or l k 0) items ∙ ap (λ j. get_or (found ++ n ∷ []) j 0) (at ∙ sym size) ∙ get-last found n in
            ap (get cmp new) key ∙ number ∙ ap Some (sym last))
      ]
