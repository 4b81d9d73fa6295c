-- An image after a change agrees with one from before it, but for what lies from a place on.
use Rattle.std.proofs.Common.{◌≡◌, ℕ, ◌+◌, ◌-◌, ◌<◌, ◌≤◌, min, nat_le, nat_lt, Bool, true, false, List, [], ◌++◌, length, take, drop, slice_index, refl, sym, ◌∙◌, ap, get_or, arith, length-append, length-drop, take-append-drop}
use Rattle.std.proofs.lemmas.Bool.Decides.{nat_tests}
use Rattle.std.proofs.lemmas.List.{get_or_append_left, get_or-append_right, get_or-drop, get_or-take, length-take, take_all, take_at}
use Rattle.qd_volume.specs.Files.{File, IsImageOf, is_named}
use Rattle.qd_volume.proofs.Sound.{IsSound}

-- what the image is below a place is what was synced, wherever that counts
module _ (file : File) (sound : IsSound file) (at : ℕ) (image : List ℕ)
    (long : min file.least at ≤ length image)
    (kept : (place : ℕ) → place < file.least → place < at → is_named file.named place ≡ false → slice_index image place ≡ slice_index file.synced place)
    (settled : file.named ≡ [] → file.least ≡ length file.synced → take at image ≡ take at file.synced)
  where
    -- the image below the place, and what was synced behind it
    abbrev joined : List ℕ
    joined = take at image ++ drop at file.synced

    joined_kept : at ≤ length image → (place : ℕ) → place < file.least → is_named file.named place ≡ false → (front : Bool) → nat_lt place at ≡ front → slice_index joined place ≡ slice_index file.synced place
    joined_kept reaches place below free true e =
        let less : place < at = grind (arith, nat_tests) in
        get_or_append_left (take at image) (drop at file.synced) 0 place (omega (arith, length-take at image, less, reaches))
        ∙ get_or-take at image place 0 less
        ∙ kept place below less free
    joined_kept reaches place below free false e =
        let past : at ≤ place = grind (arith, nat_tests) in
        let same : at + (place - at) ≡ place = omega (arith, past) in
        get_or-append_right (take at image) (drop at file.synced) at place 0 (omega (arith, length-take at image, reaches)) past
        ∙ get_or-drop at file.synced (place - at) 0
        ∙ ap (λ i. get_or file.synced i 0) same

    joined_image : at ≤ length image → IsImageOf file joined
    joined_image reaches = record {
      long = omega (arith, length-append (take at image) (drop at file.synced), length-take at image, length-drop at file.synced, sound.in_synced, reaches);
      kept = λ place below free. joined_kept reaches place below free (nat_lt place at) refl;
      settled = λ none same. ap (λ (l : List ℕ). l ++ drop at file.synced) (settled none same) ∙ take-append-drop at file.synced;
    }

    -- an image that ends before the place
    short_image : length image < at → IsImageOf file image
    short_image ends = record {
      long = omega (arith, long, ends);
      kept = λ place below free. kept place below (omega (arith, long, ends, below)) free;
      settled = λ none same. sym (take_all at image (omega (arith, ends))) ∙ settled none same ∙ take_all at file.synced (omega (arith, long, ends, same));
    }

    pub before_place : (before : List ℕ) × IsImageOf file before × (take at before ≡ take at image)
    before_place = by (nat_le at (length image)) refl
      where
        by : (reaches : Bool) → nat_le at (length image) ≡ reaches → (before : List ℕ) × IsImageOf file before × (take at before ≡ take at image)
        by true e =
            let reaches : at ≤ length image = grind (arith, nat_tests) in
            (joined, joined_image reaches, take_at (take at image) (drop at file.synced) at (omega (arith, length-take at image, reaches)))
        by false e =
            let ends : length image < at = grind (arith, nat_tests) in
            (image, short_image ends, refl)
