-- Some bytes of a list replaced by one that stands for any.
use Rattle.std.proofs.Common.{◌≡◌, ℕ, ◌+◌, ◌-◌, ◌<◌, ◌≤◌, min, nat_le, nat_lt, Bool, true, false, not, ◌&&◌, cond, List, ◌++◌, length, take, drop, replicate, reverse, slice_index, refl, sym, ◌∙◌, ap, get_or, arith, length-append, length-drop}
use Rattle.std.proofs.lemmas.Bool.Decides.{nat_tests}
use Rattle.std.proofs.lemmas.List.{length-take, length-replicate, get_or_append_left, get_or-append_right, get_or-take, get_or-drop, get_or-replicate}
use Rattle.std.proofs.lemmas.List.Sorted.{IsPermutation-reverse, list_any-IsPermutation}
use Rattle.qd_volume.specs.Files.{File, Range, is_named}
use Rattle.qd_volume.specs.Crash.{Fills, FillsLost, IsFilled}

-- n of the bytes from a place on are 255
module _ (old : List ℕ) (start n : ℕ) (within : start + n ≤ length old) where
  abbrev middle : List ℕ
  middle = replicate n 255

  abbrev back : List ℕ
  back = drop n (drop start old)

  abbrev replaced : List ℕ
  replaced = take start old ++ (middle ++ back)

  front-length : length (take start old) ≡ start
  front-length = omega (arith, length-take start old)

  back-length : length back ≡ length old - start - n
  back-length = omega (arith, length-drop n (drop start old), length-drop start old)

  replaced-long : length replaced ≡ length old
  replaced-long = omega (arith, length-append (take start old) (middle ++ back), length-append middle back, front-length, length-replicate {A = ℕ} n 255, back-length)

  below : (place : ℕ) → place < start → slice_index replaced place ≡ slice_index old place
  below place less = get_or_append_left (take start old) (middle ++ back) 0 place (omega (arith, front-length)) ∙ get_or-take start old place 0 less

  inside : (place : ℕ) → start ≤ place → place < start + n → slice_index replaced place ≡ 255
  inside place from to =
      get_or-append_right (take start old) (middle ++ back) start place 0 front-length from
      ∙ get_or_append_left middle back 0 (place - start) (omega (arith, length-replicate {A = ℕ} n 255))
      ∙ get_or-replicate n (place - start) 255 0 (omega arith)

  above : (place : ℕ) → start + n ≤ place → slice_index replaced place ≡ slice_index old place
  above place from =
      let same : start + (n + (place - start - n)) ≡ place = omega arith in
      get_or-append_right (take start old) (middle ++ back) start place 0 front-length (omega arith)
      ∙ get_or-append_right middle back n (place - start) 0 (length-replicate {A = ℕ} n 255) (omega arith)
      ∙ get_or-drop n (drop start old) (place - start - n) 0
      ∙ get_or-drop start old (n + (place - start - n)) 0
      ∙ ap (λ i. get_or old i 0) same

-- so many bytes from a place on, as far as they go
pub fills_part : (old : List ℕ) (at size start n : ℕ) → start ≡ min at (length old) → n ≡ min size (length old - start) → Fills old at size (take start old ++ (replicate n 255 ++ drop n (drop start old)))
fills_part old at size start n from some = record { long = replaced-long old start n fits; each = λ place within. by place within (nat_le at place && nat_lt place (at + size)) refl }
  where
    fits : start + n ≤ length old
    fits = omega (arith, from, some)

    outside : (place : ℕ) → place < length old → (past : Bool) → nat_le at place ≡ past → (nat_le at place && nat_lt place (at + size)) ≡ false
        → slice_index (take start old ++ (replicate n 255 ++ drop n (drop start old))) place ≡ slice_index old place
    outside place within true e free =
        let lower : at ≤ place = grind (arith, nat_tests) in
        let upper : at + size ≤ place = grind (arith, nat_tests) in
        above old start n fits place (omega (arith, from, some, lower, upper, within))
    outside place within false e free =
        let less : place < at = grind (arith, nat_tests) in
        below old start n fits place (omega (arith, from, less, within))

    by : (place : ℕ) → place < length old → (here : Bool) → (nat_le at place && nat_lt place (at + size)) ≡ here
        → slice_index (take start old ++ (replicate n 255 ++ drop n (drop start old))) place ≡ cond here 255 (slice_index old place)
    by place within true e =
        let lower : at ≤ place = grind (arith, nat_tests) in
        let upper : place < at + size = grind (arith, nat_tests) in
        inside old start n fits place (omega (arith, from, lower)) (omega (arith, from, some, lower, upper, within))
    by place within false e = outside place within (nat_le at place) refl e

-- ranges in another order hold the same places
named_reverse : (ranges : List Range) (place : ℕ) → is_named (reverse ranges) place ≡ is_named ranges place
named_reverse ranges place = sym (list_any-IsPermutation _ _ _ (IsPermutation-reverse ranges))

-- a file's bytes, with what may be lost filled
pub filled_lost : (file : File) (ranges : List Range) (new : List ℕ) → file.named ≡ reverse ranges → FillsLost file.reads file.least ranges new → IsFilled file new
filled_lost file ranges new same lost = record {
  long = lost.long;
  each = λ place within. lost.each place (omega (arith, lost.long)) ∙ ap (λ b. cond (nat_lt place file.least && not b) (slice_index file.reads place) 255) (sym (named_reverse ranges place) ∙ ap (λ (l : List Range). is_named l place) (sym same));
}
