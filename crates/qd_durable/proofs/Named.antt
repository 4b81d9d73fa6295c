-- An image of a file after a write was begun agrees with one from before it, outside of the range of the write.
use Rattle.std.proofs.Common.{◌≡◌, ◌⊎◌, inl, inr, ℕ, ◌+◌, ◌<◌, ◌≤◌, nat_eq, nat_le, nat_lt, Bool, true, false, not, ◌&&◌, cond, List, [], ◌∷◌, length, map, slice_index, refl, sym, ◌∙◌, ap, subst, arith, eq-eqb}
use Rattle.std.specs.List.{range_with_len}
use Rattle.std.proofs.lemmas.Bool.{eqb-true}
use Rattle.std.proofs.lemmas.Bool.Decides.{nat_tests}
use Rattle.std.proofs.lemmas.List.FromFn.{get_or-map-range_with_len, length-map-range_with_len}
use Rattle.qd_volume.specs.Files.{File, IsImageOf, Range, is_named}
use Rattle.qd_volume.proofs.Sound.{IsSound, image_of_synced}

-- a place outside of the first range is named where one of the others has it
others_have : (range : Range) (ranges : List Range) (place : ℕ) → (place < range.at) ⊎ (range.at + range.size ≤ place) → is_named ranges place ≡ false → is_named (range ∷ ranges) place ≡ false
others_have range ranges place outside free = by (nat_le range.at place && nat_lt place (range.at + range.size)) refl (apart outside)
  where
    apart : (place < range.at) ⊎ (range.at + range.size ≤ place) → (nat_le range.at place && nat_lt place (range.at + range.size)) ≡ false
    apart (inl below) = grind (arith, nat_tests)
    apart (inr above) = grind (arith, nat_tests)

    by : (here : Bool) → (nat_le range.at place && nat_lt place (range.at + range.size)) ≡ here → here ≡ false → is_named (range ∷ ranges) place ≡ false
    by true e f = cc
    by false e f = cc

-- an image from before that agrees with this one
pub record HasEarlier (file : File) (at size : ℕ) (image : List ℕ) : Type 0 where
  pub earlier : List ℕ
  pub is : IsImageOf file earlier
  pub longer : length earlier ≤ length image
  pub same : (place : ℕ) → place < length earlier → (place < at) ⊎ (at + size ≤ place) → slice_index image place ≡ slice_index earlier place

module _ (file : File) (sound : IsSound file) (at size : ℕ) (reads image : List ℕ)
    (is : IsImageOf (record { reads = reads; synced = file.synced; least = file.least; named = record { at = at; size = size } ∷ file.named }) image)
  where
    -- whether a crash before the write kept what was synced
    was_kept : ℕ → Bool
    was_kept place = nat_lt place file.least && not (is_named file.named place)

    byte : ℕ → ℕ
    byte place = cond (was_kept place) (slice_index file.synced place) (slice_index image place)

    bytes : List ℕ
    bytes = map byte (range_with_len 0 (length image))

    long : length bytes ≡ length image
    unfolding bytes
    long = length-map-range_with_len byte 0 (length image)

    each : (place : ℕ) → place < length image → slice_index bytes place ≡ byte place
    unfolding bytes
    each place within = get_or-map-range_with_len byte 0 (length image) place place 0 within (omega arith)

    byte_kept : (place : ℕ) → place < file.least → is_named file.named place ≡ false → byte place ≡ slice_index file.synced place
    unfolding byte was_kept
    byte_kept place below free = by (nat_lt place file.least && not (is_named file.named place)) (grind (arith, nat_tests))
      where
        by : (kept : Bool) → kept ≡ true → cond kept (slice_index file.synced place) (slice_index image place) ≡ slice_index file.synced place
        by true e = refl
        by false e = cc

    byte_same : (place : ℕ) → (place < at) ⊎ (at + size ≤ place) → slice_index image place ≡ byte place
    unfolding byte was_kept
    byte_same place outside = by (nat_lt place file.least) (is_named file.named place) refl refl
      where
        by : (below named : Bool) → nat_lt place file.least ≡ below → is_named file.named place ≡ named → slice_index image place ≡ cond (below && not named) (slice_index file.synced place) (slice_index image place)
        by true true e f = refl
        by true false e f = is.kept place (grind (arith, nat_tests)) (others_have _ file.named place outside f)
        by false true e f = refl
        by false false e f = refl

    -- a file with something unsettled
    loose : (file.named ≡ [] → file.least ≡ length file.synced → ⊥) → HasEarlier file at size image
    loose unsettled = record {
      earlier = bytes;
      is = record {
        long = omega (arith, long, is.long);
        kept = λ place below free. each place (omega (arith, below, is.long)) ∙ byte_kept place below free;
        settled = λ none same. absurd (unsettled none same);
      };
      longer = omega (arith, long);
      same = λ place within outside. byte_same place outside ∙ sym (each place (omega (arith, within, long)));
    }

    -- a file of which a crash left one image
    settled : file.named ≡ [] → file.least ≡ length file.synced → HasEarlier file at size image
    settled none all = record {
      earlier = file.synced;
      is = image_of_synced file sound;
      longer = omega (arith, all, is.long);
      same = λ place within outside. is.kept place (omega (arith, all, within)) (others_have _ file.named place outside (ap (λ (l : List Range). is_named l place) none));
    }

    pub has_earlier : HasEarlier file at size image
    has_earlier = by file.named refl (nat_eq file.least (length file.synced)) refl
      where
        by : (ranges : List Range) → file.named ≡ ranges → (all : Bool) → nat_eq file.least (length file.synced) ≡ all → HasEarlier file at size image
        by [] none true e = settled none (eqb-true file.least (length file.synced) e)
        by [] none false e = loose (λ _ same. let h : nat_eq file.least (length file.synced) ≡ true = eq-eqb file.least (length file.synced) same in cc)
        by (range ∷ more) some all e = loose (λ none _. cc)
