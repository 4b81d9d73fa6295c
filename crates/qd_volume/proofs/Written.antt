-- The bytes of a file once others are written at a place: it is no shorter, and outside of the range it is as before.
use Rattle.std.proofs.Common.{◌≡◌, ◌⊎◌, inl, inr, ℕ, ◌+◌, ◌-◌, ◌<◌, ◌≤◌, List, [], ◌∷◌, ◌++◌, length, take, drop, replicate, slice_index, refl, ◌∙◌, ap, get_or, arith, length-append, length-drop}
use Rattle.std.proofs.lemmas.List.{length-take, length-replicate, get_or_append_left, get_or-append_right, get_or-take, get_or-drop}
use Rattle.qd_volume.specs.Files.{written}

module _ (bytes : List ℕ) (at b : ℕ) (more : List ℕ) where
  abbrev padded : List ℕ
  padded = bytes ++ replicate (at - length bytes) 0

  abbrev front : List ℕ
  front = take at padded ++ (b ∷ more)

  abbrev end : ℕ
  end = at + length (b ∷ more)

  front-length : length front ≡ end
  front-length = omega (arith, length-append (take at padded) (b ∷ more), length-take at padded, length-append bytes (replicate (at - length bytes) 0), length-replicate {A = ℕ} (at - length bytes) 0)

  pub some-longer : length bytes ≤ length (written bytes at (b ∷ more))
  some-longer = omega (arith, length-append front (drop end bytes), front-length, length-drop end bytes)

  pub some-below : (place : ℕ) → place < length bytes → place < at → slice_index (written bytes at (b ∷ more)) place ≡ slice_index bytes place
  some-below place within below =
      get_or_append_left front (drop end bytes) 0 place (omega (arith, front-length))
      ∙ get_or_append_left (take at padded) (b ∷ more) 0 place (omega (arith, length-take at padded, length-append bytes (replicate (at - length bytes) 0), length-replicate {A = ℕ} (at - length bytes) 0))
      ∙ get_or-take at padded place 0 below
      ∙ get_or_append_left bytes (replicate (at - length bytes) 0) 0 place within

  pub some-above : (place : ℕ) → end ≤ place → slice_index (written bytes at (b ∷ more)) place ≡ slice_index bytes place
  some-above place above =
      let same : end + (place - end) ≡ place = omega arith in
      get_or-append_right front (drop end bytes) end place 0 front-length above
      ∙ get_or-drop end bytes (place - end) 0
      ∙ ap (λ i. get_or bytes i 0) same

pub written-longer : (bytes : List ℕ) (at : ℕ) (more : List ℕ) → length bytes ≤ length (written bytes at more)
written-longer bytes at [] = omega arith
written-longer bytes at (b ∷ more) = some-longer bytes at b more

pub written-outside : (bytes : List ℕ) (at : ℕ) (more : List ℕ) (place : ℕ) → place < length bytes → (place < at) ⊎ (at + length more ≤ place) → slice_index (written bytes at more) place ≡ slice_index bytes place
written-outside bytes at [] place within outside = refl
written-outside bytes at (b ∷ more) place within (inl below) = some-below bytes at b more place within below
written-outside bytes at (b ∷ more) place within (inr above) = some-above bytes at b more place above
