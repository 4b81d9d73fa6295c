-- Texts in JSON, as the loop that prints them builds them up.
use Rattle.std.proofs.Common.{◌≡◌, ℕ, ◌+◌, ◌-◌, ◌<◌, ◌||◌, Bool, true, false, List, [], ◌∷◌, ◌++◌, length, take, drop, get_or, flat_map, nat_lt, ◌==◌, refl, ap, ◌∙◌, arith, if◌then◌else◌}
use Rattle.std.proofs.lemmas.List.{append-nil}
use Rattle.qd_print.proofs.PrintLemmas.{flat_map_step}
use Rattle.qd_http.specs.Json.{escaped, needs_escape}

-- a byte that is escaped ends the stretch before it
pub escape_step : (out before out' bytes xs : List ℕ) (start i b : ℕ) → i < length xs → b ≡ get_or xs i 0 → before ≡ out ++ take (i - start) (drop start xs) → out' ≡ before ++ escaped b
    → out ++ take (i - start) (drop start xs) ≡ bytes ++ flat_map escaped (take i xs) → out' ++ take (i + 1 - (i + 1)) (drop (i + 1) xs) ≡ bytes ++ flat_map escaped (take (i + 1) xs)
escape_step out before out' bytes xs start i b within is stretch escape written =
    let none : i + 1 - (i + 1) ≡ 0 = omega arith in
    ap (λ n. out' ++ take n (drop (i + 1) xs)) none
    ∙ append-nil out'
    ∙ escape
    ∙ ap (λ t. t ++ escaped b) (stretch ∙ written)
    ∙ flat_map_step escaped bytes xs i b within is

-- none of three tests passes
none_of : {A : Type 0} (a b c : Bool) (x y z : A) → (a || b || c) ≡ false → (if a then x else (if b || c then y else z)) ≡ z
none_of true b c x y z h = absurd (cc)
none_of false true c x y z h = absurd (cc)
none_of false false true x y z h = absurd (cc)
none_of false false false x y z h = refl

-- another byte stands
pub plain_byte : (b : ℕ) → needs_escape b ≡ false → escaped b ≡ b ∷ []
plain_byte b plain = none_of (nat_lt b 32) (b == 34) (b == 92) _ (92 ∷ b ∷ []) (b ∷ []) plain
