-- What a crash of a volume in memory leaves is one of its images.
use Rattle.std.proofs.Common.{◌≡◌, ℕ, zero, suc, ◌+◌, ◌<◌, nat_eq, nat_lt, cond, Bool, true, false, List, [], ◌∷◌, ◌++◌, length, slice_index, Option, None, Some, refl, sym, ◌∙◌, ap, subst, arith}
use Rattle.std.specs.declared.cmp.Ordering.TheVariants.{Less, Equal, Greater}
use Rattle.std.specs.Ordering.{is_eq, nat_cmp}
use Rattle.std.proofs.lemmas.Bool.{eqb-true, ltb-true}
use Rattle.std.proofs.lemmas.Bool.Decides.{nat_tests}
use Rattle.std.proofs.lemmas.List.{append-nil, drop_all, get_or_default, same_lists}
use Rattle.qd_volume.specs.Files.{File, IsImageOf, Synced, Wrote, after_change, is_named, settled, written}
use Rattle.qd_volume.specs.Disk.{Disk, changed, file_of, images_now, reads_of}
use Rattle.qd_volume.specs.Crash.{IsAfterCrash, IsFilled, IsLeft, is_kept}
use Rattle.qd_volume.proofs.Sound.{IsSound, image_of_reads, image_of_synced, sound_file}

kept_by : (file : File) (place : ℕ) → place < file.least → is_named file.named place ≡ false → is_kept file place ≡ true
kept_by file place below free = grind (arith, nat_tests)

filled_kept : (file : File) (image : List ℕ) → IsSound file → IsFilled file image → (place : ℕ) → place < file.least → is_named file.named place ≡ false → slice_index image place ≡ slice_index file.synced place
filled_kept file image sound filled place below free =
    filled.each place (omega (arith, filled.long, sound.in_reads))
    ∙ ap (λ b. cond b (slice_index file.reads place) 255) (kept_by file place below free)
    ∙ sound.kept place below free

image_of_filled : (file : File) (image : List ℕ) → IsSound file → IsFilled file image → IsImageOf file image
image_of_filled file image sound filled = record {
  long = omega (arith, filled.long, sound.in_reads);
  kept = filled_kept file image sound filled;
  settled = λ none same. same_lists image file.synced (long none same) (λ place d within. get_or_default image place d 0 within ∙ filled_kept file image sound filled place (omega (arith, long none same)) (ap (λ l. is_named l place) none) ∙ get_or_default file.synced place 0 d (omega (arith, long none same)));
}
  where
    long : file.named ≡ [] → file.least ≡ length file.synced → length image ≡ length file.synced
    long none same = filled.long ∙ ap length (sound.untouched none same)

image_of_left : (pick : ℕ) (file : File) (image : List ℕ) → IsSound file → IsLeft pick file image → IsImageOf file image
image_of_left zero file image sound left = subst (λ (l : List ℕ). IsImageOf file l) (sym left) (image_of_synced file sound)
image_of_left (suc zero) file image sound left = subst (λ (l : List ℕ). IsImageOf file l) (sym left) (image_of_reads file sound)
image_of_left (suc (suc more)) file image sound left = image_of_filled file image sound left

pub image_left : (pick : ℕ) (before after : Disk) → ((file : ℕ) → IsAfterCrash pick (file_of before file) (file_of after file)) → images_now before (reads_of after)
image_left pick before after left file = image_of_left pick (file_of before file) (reads_of after file) (sound_file before file) (left file).left

-- a file to which nothing happened has nothing to lose
left_of_none : (pick : ℕ) → IsLeft pick (settled []) []
left_of_none zero = refl
left_of_none (suc zero) = refl
left_of_none (suc (suc more)) = record { long = refl; each = λ place within. absurd (omega arith) }

-- How far a crash has come: a file whose state was taken out is what it leaves, and the others wait with what is known of them.
abbrev pub IsDone : ℕ → File → Option File → File → Type 0
IsDone pick before None after = IsAfterCrash pick before after
IsDone pick before (Some state) after = (state ≡ before) × (after ≡ settled [])

same_number : (a b : ℕ) → is_eq (nat_cmp a b) ≡ nat_eq a b
same_number a b = by (nat_lt a b) (nat_eq a b) refl refl
  where
    by : (less same : Bool) → nat_lt a b ≡ less → nat_eq a b ≡ same → is_eq (cond less Less (cond same Equal Greater)) ≡ same
    by true true l e = absurd (omega (arith, ltb-true a b l, eqb-true a b e))
    by true false l e = refl
    by false true l e = refl
    by false false l e = refl

written_anew : (bytes : List ℕ) → written [] 0 bytes ≡ bytes
written_anew [] = refl
written_anew (b ∷ more) = ap (λ (l : List ℕ). (b ∷ more) ++ l) (drop_all (0 + length (b ∷ more)) [] (omega arith)) ∙ append-nil (b ∷ more)

-- one file more is what the crash leaves
module _ (pick : ℕ) (before after : Disk) (file : ℕ) (state : File) (image : List ℕ) (old new : ℕ → Option File)
    (so_far : (other : ℕ) → IsDone pick (file_of before other) (old other) (file_of after other))
    (taken : (other : ℕ) → new other ≡ cond (is_eq (nat_cmp file other)) None (old other))
    (had : old file ≡ Some state)
    (left : IsLeft pick state image)
  where
    abbrev next : Disk
    next = changed (changed after file (Wrote 0 image)) file Synced

    here : IsDone pick (file_of before file) (Some state) (file_of after file)
    here = subst (λ o. IsDone pick (file_of before file) o (file_of after file)) had (so_far file)

    kept_here : (other : ℕ) → nat_eq file other ≡ true → file_of next other ≡ settled image
    kept_here other e =
        let at : file_of after other ≡ settled [] = subst (λ n. file_of after n ≡ settled []) (eqb-true file other e) here.1 in
        ap (λ b. cond b (after_change (cond b (after_change (file_of after other) (Wrote 0 image)) (file_of after other)) Synced) (cond b (after_change (file_of after other) (Wrote 0 image)) (file_of after other))) e
        ∙ ap (λ (f : File). settled (written f.reads 0 image)) at
        ∙ ap settled (written_anew image)

    kept_other : (other : ℕ) → nat_eq file other ≡ false → file_of next other ≡ file_of after other
    kept_other other e =
        ap (λ b. cond b (after_change (cond b (after_change (file_of after other) (Wrote 0 image)) (file_of after other)) Synced) (cond b (after_change (file_of after other) (Wrote 0 image)) (file_of after other))) e

    done_here : (other : ℕ) → nat_eq file other ≡ true → IsDone pick (file_of before other) None (file_of next other)
    done_here other e =
        let known : IsLeft pick (file_of before other) image = subst (λ (f : File). IsLeft pick f image) (here.0 ∙ ap (λ n. file_of before n) (eqb-true file other e)) left in
        subst (λ (f : File). IsAfterCrash pick (file_of before other) f) (sym (kept_here other e)) (record { left = known; durable = refl })

    pub done_next : (other : ℕ) → IsDone pick (file_of before other) (new other) (file_of next other)
    done_next other = by (nat_eq file other) refl
      where
        by : (same : Bool) → nat_eq file other ≡ same → IsDone pick (file_of before other) (new other) (file_of next other)
        by true e = subst (λ o. IsDone pick (file_of before other) o (file_of next other)) (sym (taken other ∙ ap (λ b. cond b None (old other)) (same_number file other ∙ e))) (done_here other e)
        by false e = subst (λ o. IsDone pick (file_of before other) o (file_of next other)) (sym (taken other ∙ ap (λ b. cond b None (old other)) (same_number file other ∙ e)))
            (subst (λ (f : File). IsDone pick (file_of before other) (old other) f) (sym (kept_other other e)) (so_far other))
