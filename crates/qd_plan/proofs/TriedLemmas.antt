-- Numbers behind output names that were tried.
use Rattle.std.proofs.Common.{◌≡◌, ℕ, ◌+◌, ◌<◌, ◌≤◌, ◌⊎◌, inl, inr, Bool, true, false, ◌||◌, List, [], ◌∷◌, ◌++◌, length, map, set, get_or, Some, refl, sym, ap, ap₂, ◌∙◌, subst, arith, length-append}
use Rattle.std.specs.Fmt.{decimal}
use Rattle.std.specs.Char.{to_ascii_lowercase}
use Rattle.std.proofs.lemmas.Bool.{cases_lt}
use Rattle.std.proofs.Math.ListN.{get_or-append}
use Rattle.std.proofs.Math.Seq.{get_or-append_seam}
use Rattle.std.proofs.lemmas.List.{get_or-map, get_or-set_other, get_or-set_same, length-map, length-set, map-append}
use Rattle.std.proofs.lemmas.List.Quantifiers.{position-Some}
use Rattle.std.proofs.lemmas.List.Folds.{list_any-append}
use Rattle.std.proofs.lemmas.Slice.Eq.{bytes_eq-Decides}
use Rattle.qd_base.specs.declared.schema.Col.{Col}
use Rattle.qd_base.specs.declared.schema.ColType.{ColType}
use Rattle.qd_base.specs.Schemas.{same_name, column_at}
use Rattle.qd_base.proofs.Alike.{names_equal, turned}
use Rattle.qd_meaning.specs.Outputs.{is_taken, numbered}
use Rattle.qd_plan.specs.Names.{names, AreTried, IsLeastNew, IsTried}
use Rattle.qd_plan.proofs.TakenLemmas.{or_true}

-- ---- numbers that were tried

pub either : (a b : Bool) → a ≡ true → (a || b) ≡ true
either a b e = ap (λ (x : Bool). x || b) e

-- what is taken stays taken
pub stays : (taken : List (List ℕ)) (one name : List ℕ) → is_taken taken name ≡ true → is_taken (taken ++ one ∷ []) name ≡ true
stays taken one name e = list_any-append (same_name name) taken (one ∷ []) ∙ either (is_taken taken name) (is_taken (one ∷ []) name) e

pub last : (taken : List (List ℕ)) (one name : List ℕ) → same_name name one ≡ true → is_taken (taken ++ one ∷ []) name ≡ true
last taken one name e =
    list_any-append (same_name name) taken (one ∷ []) ∙ ap (λ (x : Bool). is_taken taken name || (x || false)) e ∙ or_true (is_taken taken name)

pub same_numbered : (a b : List ℕ) (n : ℕ) → same_name a b ≡ true → same_name (numbered a n) (numbered b n) ≡ true
same_numbered a b n e =
    (bytes_eq-Decides (map to_ascii_lowercase (numbered a n)) (map to_ascii_lowercase (numbered b n))).1
    (map-append to_ascii_lowercase a (decimal n)
    ∙ ap (λ (xs : List ℕ). xs ++ map to_ascii_lowercase (decimal n)) ((bytes_eq-Decides (map to_ascii_lowercase a) (map to_ascii_lowercase b)).0 e)
    ∙ sym (map-append to_ascii_lowercase b (decimal n)))

-- names that are one are taken alike
pub taken_alike : (taken : List (List ℕ)) (a b : List ℕ) → same_name a b ≡ true → is_taken taken a ≡ is_taken taken b
taken_alike [] a b e = refl
taken_alike (x ∷ xs) a b e = ap₂ (λ (p q : Bool). p || q) (names_equal.congr a b x e) (taken_alike xs a b e)

pub tried_up : (taken : List (List ℕ)) (name : List ℕ) (n : ℕ) → IsTried taken name n → is_taken taken (numbered name (n + 1)) ≡ true → IsTried taken name (n + 1)
tried_up taken name n h e = λ k a b. go k a (cases_lt n k) b
  where
    go : (k : ℕ) → 1 ≤ k → (n < k) ⊎ (k ≤ n) → k ≤ n + 1 → is_taken taken (numbered name k) ≡ true
    go k a (inl lt) b = let same : n + 1 ≡ k = omega arith in subst (λ (m : ℕ). is_taken taken (numbered name m) ≡ true) same e
    go k a (inr le) b = h k a le

pub none_tried : AreTried [] []
none_tried = record { size = refl; each = λ i lt. absurd (omega arith) }

-- a name more, behind which no number was tried
pub tried_more : (taken : List (List ℕ)) (tried : List ℕ) (one : List ℕ) → AreTried taken tried → AreTried (taken ++ one ∷ []) (tried ++ 0 ∷ [])
tried_more taken tried one h =
    let same = h.size in
    let more : length (taken ++ one ∷ []) ≡ length taken + 1 = length-append taken (one ∷ []) in
    let more_tried : length (tried ++ 0 ∷ []) ≡ length tried + 1 = length-append tried (0 ∷ []) in
    record { size = omega arith; each = λ i lt. go i (cases_lt i (length taken)) (omega arith) }
  where
    at_end : (i k : ℕ) → i ≡ length tried → 1 ≤ k → k ≤ get_or (tried ++ 0 ∷ []) i 0 → ⊥
    at_end i k e a b = let zero_there : get_or (tried ++ 0 ∷ []) i 0 ≡ 0 = ap (λ (j : ℕ). get_or (tried ++ 0 ∷ []) j 0) e ∙ get_or-append_seam tried 0 [] 0 in omega arith

    go : (i : ℕ) → (i < length taken) ⊎ (length taken ≤ i) → i ≤ length taken → IsTried (taken ++ one ∷ []) (get_or (taken ++ one ∷ []) i []) (get_or (tried ++ 0 ∷ []) i 0)
    go i (inl lt) most =
        let same = h.size in
        let low : i < length tried = omega arith in
        λ k a b. subst (λ (name : List ℕ). is_taken (taken ++ one ∷ []) (numbered name k) ≡ true) (sym (get_or-append taken (one ∷ []) [] i lt))
        (stays taken one (numbered (get_or taken i []) k) (h.each i lt k a (subst (λ (n : ℕ). k ≤ n) (get_or-append tried (0 ∷ []) 0 i low) b)))
    go i (inr le) most = let same = h.size in λ k a b. absurd (at_end i k (omega arith) a b)

-- a name is tried up to a number more, which the last name has
pub tried_last : (taken : List (List ℕ)) (first name : List ℕ) (number : ℕ) → same_name first name ≡ true → IsLeastNew taken name number → IsTried (taken ++ numbered name number ∷ []) first number
tried_last taken first name number same h = λ k a b. go k a (cases_lt k number) b
  where
    go : (k : ℕ) → 1 ≤ k → (k < number) ⊎ (number ≤ k) → k ≤ number → is_taken (taken ++ numbered name number ∷ []) (numbered first k) ≡ true
    go k a (inl lt) b =
        stays taken (numbered name number) (numbered first k) (taken_alike taken (numbered first k) (numbered name k) (same_numbered first name k same) ∙ h.others k a lt)
    go k a (inr le) b =
        let e : number ≡ k = omega arith in
        subst (λ (n : ℕ). is_taken (taken ++ numbered name number ∷ []) (numbered first n) ≡ true) e
        (last taken (numbered name number) (numbered first number) (same_numbered first name number same))

pub tried_set : (taken : List (List ℕ)) (tried : List ℕ) (at number : ℕ) → at < length taken → AreTried taken tried → IsTried taken (get_or taken at []) number → AreTried taken (set tried at number)
tried_set taken tried at number lt h now =
    let same = h.size in
    let kept = length-set tried at number in
    record { size = omega arith; each = λ i low. go i low (cases_lt i at) (cases_lt at i) }
  where
    other : (i : ℕ) → i < length taken → (i ≡ at → ⊥) → IsTried taken (get_or taken i []) (get_or (set tried at number) i 0)
    other i low ne = λ k a b. h.each i low k a (subst (λ (n : ℕ). k ≤ n) (get_or-set_other tried at i number 0 ne) b)

    go : (i : ℕ) → i < length taken → (i < at) ⊎ (at ≤ i) → (at < i) ⊎ (i ≤ at) → IsTried taken (get_or taken i []) (get_or (set tried at number) i 0)
    go i low (inl under) right = other i low (λ e. omega arith)
    go i low (inr over) (inl above) = other i low (λ e. omega arith)
    go i low (inr over) (inr under) =
        let same = h.size in
        let e : at ≡ i = omega arith in
        let here : at < length tried = omega arith in
        subst (λ (j : ℕ). IsTried taken (get_or taken j []) (get_or (set tried at number) j 0)) e (subst (IsTried taken (get_or taken at [])) (sym (get_or-set_same tried at number 0 here)) now)

-- ---- the first of a name

pub first_of_name : (cols : List Col) (name : List ℕ) (i : ℕ) → Some i ≡ column_at cols name → (i < length (names cols)) × (same_name (get_or (names cols) i []) name ≡ true)
first_of_name cols name i e = go cols (sym e)
  where
    go : (cs : List Col) → column_at cs name ≡ Some i → (i < length (names cs)) × (same_name (get_or (names cs) i []) name ≡ true)
    go [] h = absurd (cc)
    go (c ∷ cs) h =
        let w = position-Some (λ (d : Col). same_name d.name name) (c ∷ cs) i c h in
        let size = length-map (c ∷ cs) (λ (d : Col). d.name) in
        (omega (arith, w.0), ap (λ (n : List ℕ). same_name n name) (get_or-map (λ (d : Col). d.name) (c ∷ cs) i c [] w.0) ∙ w.1)

-- a column of a name that comes again, in the list with one more
pub first_kept : (cols : List Col) (c : Col) (i : ℕ) → i < length (names cols) → get_or (names (cols ++ c ∷ [])) i [] ≡ get_or (names cols) i []
first_kept cols c i lt = ap (λ (ns : List (List ℕ)). get_or ns i []) (map-append (λ (d : Col). d.name) cols (c ∷ [])) ∙ get_or-append (names cols) (c.name ∷ []) [] i lt

pub tried_added : (cols : List Col) (tried : List ℕ) (c : Col) → AreTried (names cols) tried → AreTried (names (cols ++ c ∷ [])) (tried ++ 0 ∷ [])
tried_added cols tried c h = subst (λ (ns : List (List ℕ)). AreTried ns (tried ++ 0 ∷ [])) (sym (map-append (λ (d : Col). d.name) cols (c ∷ []))) (tried_more (names cols) tried c.name h)

-- the first column of a name is tried up to the number that the last one has
pub tried_numbered : (cols : List Col) (tried : List ℕ) (name : List ℕ) (kind : ColType) (at number : ℕ) → Some at ≡ column_at cols name → IsLeastNew (names cols) name number
    → let more : List Col = cols ++ record { name = numbered name number; kind = kind } ∷ [] in AreTried (names more) tried → AreTried (names more) (set tried at number)
tried_numbered cols tried name kind at number e least h =
    let one : Col = record { name = numbered name number; kind = kind } in
    let w = first_of_name cols name at e in
    let size : length (names (cols ++ one ∷ [])) ≡ length (names cols) + 1 = ap length (map-append (λ (d : Col). d.name) cols (one ∷ [])) ∙ length-append (names cols) (one.name ∷ []) in
    tried_set (names (cols ++ one ∷ [])) tried at number (omega (arith, w.0)) h
    (subst (λ (n : List ℕ). IsTried (names (cols ++ one ∷ [])) n number) (sym (first_kept cols one at w.0))
    (subst (λ (ns : List (List ℕ)). IsTried ns (get_or (names cols) at []) number) (sym (map-append (λ (d : Col). d.name) cols (one ∷ []))) (tried_last (names cols) (get_or (names cols) at []) name number w.1 least)))

-- the number from which the numbers behind a name are tried
pub tried_before : (cols : List Col) (tried : List ℕ) (name : List ℕ) (at : ℕ) → Some at ≡ column_at cols name → AreTried (names cols) tried → IsTried (names cols) name (get_or tried at 0)
tried_before cols tried name at e h =
    let w = first_of_name cols name at e in
    λ k a b. taken_alike (names cols) (numbered name k) (numbered (get_or (names cols) at []) k) (same_numbered name (get_or (names cols) at []) k (turned (get_or (names cols) at []) name true w.1)) ∙ h.each at w.0 k a b
