-- What is written from a place on leaves what is below it, in each image that a crash may leave.
use Rattle.std.proofs.Common.{◌≡◌, ◌⊎◌, inl, inr, ℕ, ◌<◌, ◌≤◌, nat_eq, Option, None, Some, Bool, true, false, cond, List, length, take, slice_index, Result, Ok, Err, refl, sym, ◌∙◌, ap, subst, arith, eq-eqb, IfSome}
use Rattle.std.proofs.lemmas.Bool.{cases_lt, eqb-true, false≢true}
use Rattle.std.proofs.lemmas.Grind.{same_number_lists}
use Rattle.std.proofs.lemmas.List.{length-take, get_or-take, take_all}
use Rattle.qd_volume.specs.Files.{File, IsImageOf}
use Rattle.qd_volume.specs.Disk.{Disk, Image, file_of, images_now, reads_of}
use Rattle.qd_volume.proofs.Sound.{IsSound, image_of_reads, sound_file}
use Rattle.qd_durable.specs.Moments.{ComesFrom, Moves, SameOutside, Told, Touches}
use Rattle.qd_durable.specs.Writing.{Overwrites}
use Rattle.qd_durable.proofs.Moved.{leaves_weaker}
use Rattle.qd_column_files.specs.Calls.{PutsFile, SameBelow}

-- bytes of a file that a crash may leave, where it may leave others that are shorter and agree with them, and the file reads
-- as long as they are
longer_left : (file : File) (short long : List ℕ) → IsSound file → IsImageOf file short → length short < length long → length long ≤ length file.reads → ((place : ℕ) → place < length short → slice_index long place ≡ slice_index short place) → IsImageOf file long
longer_left file short long sound is more within same = record {
  long = omega (arith, is.long, more);
  kept = λ place below free. same place (omega (arith, below, is.long)) ∙ is.kept place below free;
  settled = λ none least.
      let settled = ap length (is.settled none least) in
      let reads = ap length (sound.untouched none least) in
      absurd (omega (arith, settled, reads, more, within));
}

module _ (file at size : ℕ) (earlier image : Image) (same : SameOutside file at size earlier image) where
  -- both are as long as the place
  long_below : at ≤ length (earlier file) → SameBelow file at earlier image
  long_below le = record {
    others = same.others;
    below = same_number_lists (take at (image file)) (take at (earlier file))
        (omega (arith, length-take at (image file), length-take at (earlier file), same.longer, le))
        (λ i within.
        let lt : i < at = omega (arith, within, length-take at (image file)) in
        get_or-take at (image file) i 0 lt ∙ same.same i (omega (arith, lt, le)) (inl lt) ∙ sym (get_or-take at (earlier file) i 0 lt));
  }

  -- an earlier image that has what this one has below the place
  filled : Image
  filled other = cond (nat_eq file other) (take at (image file)) (earlier other)

  filled_below : SameBelow file at filled image
  unfolding filled
  filled_below = record {
    others = λ other e. same.others other e ∙ elsewhere other (nat_eq file other) e;
    below = sym (here (nat_eq file file) (eq-eqb file file refl) ∙ refl);
  }
    where
      elsewhere : (other : ℕ) (b : Bool) → b ≡ false → earlier other ≡ cond b (take at (image file)) (earlier other)
      elsewhere other true e = absurd (false≢true (sym e))
      elsewhere other false e = refl

      here : (b : Bool) → b ≡ true → take at (cond b (take at (image file)) (earlier file)) ≡ take at (image file)
      here true e = take_all at (take at (image file)) (omega (arith, length-take at (image file)))
      here false e = cc

  module _ (before : Disk) (left : images_now before earlier) (reads : at ≤ length (reads_of before file)) where
    short_left : length (earlier file) < at → IsImageOf (file_of before file) (take at (image file))
    short_left short = by (cases_lt (length (earlier file)) (length (take at (image file))))
      where
        -- where this one is no longer, it is that one
        same_whole : length (take at (image file)) ≤ length (earlier file) → take at (image file) ≡ earlier file
        same_whole le = same_number_lists (take at (image file)) (earlier file)
            (omega (arith, le, length-take at (image file), same.longer, short))
            (λ i within.
            let lt : i < at = omega (arith, within, length-take at (image file)) in
            get_or-take at (image file) i 0 lt ∙ same.same i (omega (arith, within, le)) (inl lt))

        by : (length (earlier file) < length (take at (image file))) ⊎ (length (take at (image file)) ≤ length (earlier file)) → IsImageOf (file_of before file) (take at (image file))
        by (inl more) = longer_left (file_of before file) (earlier file) (take at (image file)) (sound_file before file) (left file) more
            (omega (arith, length-take at (image file), reads))
            (λ place within. get_or-take at (image file) place 0 (omega (arith, within, short)) ∙ same.same place within (inl (omega (arith, within, short))))
        by (inr le) = subst (λ (l : List ℕ). IsImageOf (file_of before file) l) (sym (same_whole le)) (left file)

    filled_left : length (earlier file) < at → images_now before filled
    unfolding filled
    filled_left short other = by (nat_eq file other) refl
      where
        by : (b : Bool) → nat_eq file other ≡ b → IsImageOf (file_of before other) (cond b (take at (image file)) (earlier other))
        by true e = subst (λ n. IsImageOf (file_of before n) (take at (image file))) (eqb-true file other e) (short_left short)
        by false e = left other

    pub comes_below : ComesFrom (SameBelow file at) before image
    comes_below =
        elim (cases_lt (length (earlier file)) at) [
          | inl short ↦ (filled, filled_left short, filled_below)
          | inr long ↦ (earlier, left, long_below long)
        ]

-- a call that touches bytes from a place on leaves those below it
pub moves_below : (file at size : ℕ) (before after : Disk) → at ≤ length (reads_of before file) → Touches file at size before after → Moves (SameBelow file at) before after
moves_below file at size before after reads touches = record {
  moments = leaves_weaker (ComesFrom (SameOutside file at size) before) (ComesFrom (SameBelow file at) before) before after (λ image from. comes_below file at size from.0 image from.2 before from.1 reads) touches.moments;
  now = λ image now. let from = touches.now image now in comes_below file at size from.0 image from.2 before from.1 reads;
}

-- what reads give is an image
pub reads_left : (disk : Disk) → images_now disk (reads_of disk)
reads_left disk file = image_of_reads (file_of disk file) (sound_file disk file)

module _ (T E : Type 0) (file at : ℕ) (bytes : List ℕ) where
  file_put : (before after : Disk) (result : Result T E) → at ≤ length (reads_of before file) → Overwrites {T = T} {E = E} result file at bytes before after → PutsFile {T = T} {E = E} result file at bytes before after
  file_put before after (Ok done) reads wrote = record {
    below = moves_below file at (length bytes) before after reads wrote.touches;
    put = (wrote.durable, wrote.durable (reads_of after) (reads_left after));
  }
  file_put before after (Err fault) reads wrote = record {
    below = moves_below file at (length bytes) before after reads wrote.touches;
    put = tt;
  }

  -- the same of a volume that may tell nothing
  pub file_put_told : (old new : Option Disk) (result : Result T E) → IfSome old (λ disk. at ≤ length (reads_of disk file)) → Told old new (Overwrites {T = T} {E = E} result file at bytes) → Told old new (PutsFile {T = T} {E = E} result file at bytes)
  file_put_told None new result reads told = told
  file_put_told (Some before) new result reads told = (told.0, told.1, file_put before told.0 result reads told.2)
