-- Lists of fields and of bytes, as the loops that print them build them up.
use Rattle.std.proofs.Common.{◌≡◌, ℕ, ◌+◌, ◌<◌, ◌≤◌, ◌≢◌, List, [], ◌∷◌, ◌++◌, length, take, get_or, map, flat_map, if◌then◌else◌, ◌==◌, refl, ap, sym, ◌∙◌, append_assoc, arith, false, ◌-◌, drop, zero, suc, rules, tests}
use Rattle.std.specs.List.{join_with_byte}
use Rattle.std.proofs.lemmas.List.{append-nil, take_more, map-append, flat_map_more, length-map, length-take-le, length-drop, get_or-drop}

-- one more field, behind others
pub join_with_byte-push : (fields : List (List ℕ)) (field : List ℕ) → 0 < length fields → join_with_byte 44 (fields ++ field ∷ []) ≡ join_with_byte 44 fields ++ (44 ∷ field)
join_with_byte-push [] field h = absurd (omega arith)
join_with_byte-push (f ∷ []) field h = refl
join_with_byte-push (f ∷ g ∷ rest) field h =
    ap (λ t. f ++ (44 ∷ t)) (join_with_byte-push (g ∷ rest) field (omega arith)) ∙ sym (append_assoc f (44 ∷ join_with_byte 44 (g ∷ rest)) (44 ∷ field))

-- a comma, but before the first field, and a field
pub field_more : (bytes : List ℕ) (fields : List (List ℕ)) (field : List ℕ) (i : ℕ) → length fields ≡ i → ((bytes ++ join_with_byte 44 fields) ++ (if i == 0 then [] else 44 ∷ [])) ++ field ≡ bytes ++ join_with_byte 44 (fields ++ field ∷ [])
field_more bytes [] field i h = rw (← h) (simp (append-nil))
field_more bytes (f ∷ fields) field zero h = absurd (omega arith)
field_more bytes (f ∷ fields) field (suc i) h =
    let later : (suc i == 0) ≡ false = search (rules, tests) in
    rw (join_with_byte-push (f ∷ fields) field (omega arith)) (simp append_assoc (rw later refl))

-- the fields of the items so far, then a comma, and then one more field
pub field_step : {X : Type 0} (f : X → List ℕ) (bytes : List ℕ) (xs : List X) (i : ℕ) (x : X) → i < length xs → x ≡ get_or xs i x → (before parted after : List ℕ) → before ≡ bytes ++ join_with_byte 44 (map f (take i xs)) → parted ≡ before ++ (if i == 0 then [] else 44 ∷ []) → after ≡ parted ++ f x → after ≡ bytes ++ join_with_byte 44 (map f (take (i + 1) xs))
field_step f bytes xs i x within is before parted after at_before at_parted at_after =
    let comma : List ℕ = if i == 0 then [] else 44 ∷ [] in
    let more : map f (take (i + 1) xs) ≡ map f (take i xs) ++ f x ∷ [] =
    ap (map f) (take_more xs i x within) ∙ map-append f (take i xs) (get_or xs i x ∷ []) ∙ ap (λ y. map f (take i xs) ++ f y ∷ []) (sym is) in
    let count : length (map f (take i xs)) ≡ i = length-map (take i xs) f ∙ length-take-le i xs (omega arith) in
    at_after
    ∙ ap (λ t. t ++ f x) (at_parted ∙ ap (λ t. t ++ comma) at_before)
    ∙ field_more bytes (map f (take i xs)) (f x) i count
    ∙ ap (λ fields. bytes ++ join_with_byte 44 fields) (sym more)

-- one byte more of a stretch
pub stretch_more : (xs : List ℕ) (start i b : ℕ) → start ≤ i → i < length xs → b ≡ get_or xs i 0 → take (i + 1 - start) (drop start xs) ≡ take (i - start) (drop start xs) ++ b ∷ []
stretch_more xs start i b in_order within is =
    let further : i + 1 - start ≡ (i - start) + 1 = omega arith in
    let there : i - start < length (drop start xs) = rw length-drop (omega arith) in
    let place : start + (i - start) ≡ i = omega arith in
    let same : get_or (drop start xs) (i - start) 0 ≡ b = get_or-drop start xs (i - start) 0 ∙ ap (λ k. get_or xs k 0) place ∙ sym is in
    ap (λ n. take n (drop start xs)) further ∙ take_more (drop start xs) (i - start) 0 there ∙ ap (λ y. take (i - start) (drop start xs) ++ y ∷ []) same

-- what the bytes so far become, and one more
pub flat_map_step : (f : ℕ → List ℕ) (bytes xs : List ℕ) (i b : ℕ) → i < length xs → b ≡ get_or xs i 0 → (bytes ++ flat_map f (take i xs)) ++ f b ≡ bytes ++ flat_map f (take (i + 1) xs)
flat_map_step f bytes xs i b within is =
    flat_map_more f bytes (take i xs) b ∙ ap (λ ys. bytes ++ flat_map f ys) (ap (λ y. take i xs ++ y ∷ []) is ∙ sym (take_more xs i 0 within))

-- a byte that stays as it is lengthens the stretch
pub stretch_step : (f : ℕ → List ℕ) (out bytes xs : List ℕ) (start i b : ℕ) → start ≤ i → i < length xs → b ≡ get_or xs i 0 → f b ≡ b ∷ [] → out ++ take (i - start) (drop start xs) ≡ bytes ++ flat_map f (take i xs) → out ++ take (i + 1 - start) (drop start xs) ≡ bytes ++ flat_map f (take (i + 1) xs)
stretch_step f out bytes xs start i b in_order within is kept written =
    let stretch = take (i - start) (drop start xs) in
    ap (λ t. out ++ t) (stretch_more xs start i b in_order within is)
    ∙ sym (append_assoc out stretch (b ∷ []))
    ∙ ap (λ t. t ++ b ∷ []) written
    ∙ ap (λ t. (bytes ++ flat_map f (take i xs)) ++ t) (sym kept)
    ∙ flat_map_step f bytes xs i b within is

-- a byte that is doubled ends the stretch, and begins the next
pub doubled_step : (f : ℕ → List ℕ) (out bytes xs : List ℕ) (start i b : ℕ) → start ≤ i → i < length xs → b ≡ get_or xs i 0 → f b ≡ b ∷ b ∷ [] → out ++ take (i - start) (drop start xs) ≡ bytes ++ flat_map f (take i xs) → (out ++ take (i + 1 - start) (drop start xs)) ++ take (i + 1 - i) (drop i xs) ≡ bytes ++ flat_map f (take (i + 1) xs)
doubled_step f out bytes xs start i b in_order within is doubled written =
    let stretch = take (i - start) (drop start xs) in
    let before = bytes ++ flat_map f (take i xs) in
    let once : out ++ take (i + 1 - start) (drop start xs) ≡ before ++ b ∷ [] =
    ap (λ t. out ++ t) (stretch_more xs start i b in_order within is) ∙ sym (append_assoc out stretch (b ∷ [])) ∙ ap (λ t. t ++ b ∷ []) written in
    let none : i - i ≡ 0 = omega arith in
    let next : take (i + 1 - i) (drop i xs) ≡ b ∷ [] =
    stretch_more xs i i b (omega arith) within is ∙ ap (λ n. take n (drop i xs) ++ b ∷ []) none in
    ap (λ t. t ++ take (i + 1 - i) (drop i xs)) once
    ∙ ap (λ t. (before ++ b ∷ []) ++ t) next
    ∙ append_assoc before (b ∷ []) (b ∷ [])
    ∙ ap (λ t. before ++ t) (sym doubled)
    ∙ flat_map_step f bytes xs i b within is

-- a quote with each quote doubled, and another byte
pub quote_doubled : (b : ℕ) → b ≡ 34 → (if b == 34 then 34 ∷ 34 ∷ [] else b ∷ []) ≡ b ∷ b ∷ []
quote_doubled b is = rw is refl

pub other_kept : (b : ℕ) → b ≢ 34 → (if b == 34 then 34 ∷ 34 ∷ [] else b ∷ []) ≡ b ∷ []
other_kept b other = let no : (b == 34) ≡ false = search (rules, tests) in rw no refl
