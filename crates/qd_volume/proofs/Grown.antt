-- A file that is made longer first and written over then.
use Rattle.std.proofs.Common.{◌≡◌, ℕ, ◌+◌, ◌-◌, ◌<◌, ◌≤◌, nat_le, Bool, true, false, List, [], ◌∷◌, ◌++◌, length, take, drop, replicate, refl, sym, ◌∙◌, ap, arith, length-append}
use Rattle.std.proofs.Math.Seq.{take-append-add}
use Rattle.std.proofs.lemmas.Bool.Decides.{nat_tests}
use Rattle.std.proofs.lemmas.List.{append-nil, drop_all, length-replicate, take-append-le, take-replicate, take_all}
use Rattle.qd_volume.specs.Files.{written}

-- bytes with zeros behind them
abbrev pub longer : List ℕ → ℕ → List ℕ
longer bytes zeros = bytes ++ replicate zeros 0

module _ (bytes : List ℕ) (at : ℕ) where
  -- the first bytes are the same however many zeros there are, once they are enough
  front_within : (zeros : ℕ) → at ≤ length bytes → take at (longer bytes zeros) ≡ take at bytes
  front_within zeros within = take-append-le at bytes (replicate zeros 0) within

  front_past : (zeros : ℕ) → length bytes ≤ at → at - length bytes ≤ zeros → take at (longer bytes zeros) ≡ longer bytes (at - length bytes)
  front_past zeros past enough =
      let same : at ≡ length bytes + (at - length bytes) = omega arith in
      ap (λ n. take n (longer bytes zeros)) same
      ∙ take-append-add bytes (replicate zeros 0) (at - length bytes)
      ∙ ap (λ (l : List ℕ). bytes ++ l) (take-replicate (at - length bytes) zeros 0 enough)

  pub front_same : (zeros : ℕ) → at - length bytes ≤ zeros → take at (longer bytes zeros) ≡ take at (longer bytes (at - length bytes))
  front_same zeros enough = by (nat_le at (length bytes)) refl
    where
      by : (within : Bool) → nat_le at (length bytes) ≡ within → take at (longer bytes zeros) ≡ take at (longer bytes (at - length bytes))
      by true e = let le : at ≤ length bytes = grind (arith, nat_tests) in front_within zeros le ∙ sym (front_within (at - length bytes) le)
      by false e = let le : length bytes ≤ at = grind (arith, nat_tests) in front_past zeros le enough ∙ sym (front_past (at - length bytes) le (omega arith))

-- behind the end there are no more of the zeros that reach it
pub back_same : (bytes : List ℕ) (end : ℕ) → drop end (longer bytes (end - length bytes)) ≡ drop end bytes
back_same bytes end = by (nat_le end (length bytes)) refl
  where
    by : (within : Bool) → nat_le end (length bytes) ≡ within → drop end (longer bytes (end - length bytes)) ≡ drop end bytes
    by true e =
        let le : end ≤ length bytes = grind (arith, nat_tests) in
        let none : end - length bytes ≡ 0 = omega (arith, le) in
        ap (λ n. drop end (longer bytes n)) none ∙ ap (λ (l : List ℕ). drop end l) (append-nil bytes)
    by false e =
        let le : length bytes ≤ end = grind (arith, nat_tests) in
        drop_all end (longer bytes (end - length bytes)) (omega (arith, le, length-append bytes (replicate (end - length bytes) 0), length-replicate {A = ℕ} (end - length bytes) 0))
        ∙ sym (drop_all end bytes le)

-- written over once it is long enough, it is what a write makes of it
pub written_over : (bytes : List ℕ) (at : ℕ) (more : List ℕ) → 0 < length more
    → take at (longer bytes (at + length more - length bytes)) ++ more ++ drop (at + length more) (longer bytes (at + length more - length bytes)) ≡ written bytes at more
written_over bytes at [] some = absurd (omega arith)
written_over bytes at (b ∷ more) some =
    let end : ℕ = at + length (b ∷ more) in
    ap (λ (l : List ℕ). l ++ (b ∷ more) ++ drop end (longer bytes (end - length bytes))) (front_same bytes at (end - length bytes) (omega arith))
    ∙ ap (λ (l : List ℕ). take at (longer bytes (at - length bytes)) ++ (b ∷ more) ++ l) (back_same bytes end)

-- what is written over the whole of a vector is what it holds
pub whole : (n : ℕ) (now items : List ℕ) → length now ≡ length items → n ≡ length items → take n (now ++ drop (length now) items) ≡ now
whole n now items same is =
    ap (λ (l : List ℕ). take n (now ++ l)) (drop_all (length now) items (omega arith)) ∙ ap (λ (l : List ℕ). take n l) (append-nil now) ∙ take_all n now (omega arith)
