-- What changes and calls leave, and what follows for a run of them.
use Rattle.std.proofs.Common.{◌≡◌, ◌⊎◌, inl, inr, ℕ, ◌+◌, ◌<◌, ◌≤◌, nat_eq, Bool, true, false, cond, List, [], ◌∷◌, length, take, slice_index, refl, sym, ◌∙◌, ap, subst, arith, eq-eqb}
use Rattle.std.proofs.lemmas.Bool.{eqb-true}
use Rattle.qd_volume.specs.Files.{Change, File, IsImageOf, Spoiled, Synced, Wrote, after_change, settled, written}
use Rattle.qd_volume.specs.Disk.{Disk, Image, changed, file_of, images_now, images_since, moment, reads_of}
use Rattle.qd_volume.proofs.Sound.{image_of_reads, sound_file}
use Rattle.qd_volume.proofs.Moments.{only_now}
use Rattle.qd_durable.specs.Moments.{ComesFrom, EachNow, LeavesEarlier, LeavesOnly, Moves, SameBut, SameOutside, Touches}
use Rattle.qd_durable.specs.Places.{StandsAt}
use Rattle.qd_durable.proofs.Standing.{stands_kept}
use Rattle.qd_durable.proofs.Named.{HasEarlier, has_earlier}

-- a fact that the relation of a call makes of one from before it
pub moments_have : (R : Image → Image → Type 0) (P Q : Image → Type 0) (before after : Disk) → Moves R before after → EachNow before P → ((earlier image : Image) → P earlier → R earlier image → Q image) → LeavesOnly before after Q
moments_have R P Q before after moves had keeps = record {
  later = moves.moments.later;
  each = λ image since. of image (moves.moments.each image since);
  joined = λ start image le since. by (images_since before start) image (moves.moments.joined start image le since);
}
  where
    of : (image : Image) → ComesFrom R before image → Q image
    of image from = keeps from.0 image (had from.0 from.1) from.2

    by : (S : Image → Type 0) (image : Image) → S image ⊎ ComesFrom R before image → S image ⊎ Q image
    by S image (inl earlier) = inl earlier
    by S image (inr from) = inr (of image from)

-- the same behind the call
pub now_has : (R : Image → Image → Type 0) (P Q : Image → Type 0) (before after : Disk) → Moves R before after → EachNow before P → ((earlier image : Image) → P earlier → R earlier image → Q image) → EachNow after Q
now_has R P Q before after moves had keeps image now =
    let from = moves.now image now in
    keeps from.0 image (had from.0 from.1) from.2

-- a weaker fact
pub leaves_weaker : (P Q : Image → Type 0) (before after : Disk) → ((image : Image) → P image → Q image) → LeavesOnly before after P → LeavesOnly before after Q
leaves_weaker P Q before after weaker leaves = record {
  later = leaves.later;
  each = λ image since. weaker image (leaves.each image since);
  joined = λ start image le since. by (images_since before start) image (leaves.joined start image le since);
}
  where
    by : (S : Image → Type 0) (image : Image) → S image ⊎ P image → S image ⊎ Q image
    by S image (inl earlier) = inl earlier
    by S image (inr p) = inr (weaker image p)

-- two calls, one behind the other
pub leaves_both : (a b c : Disk) (P : Image → Type 0) → LeavesOnly a b P → LeavesOnly b c P → LeavesOnly a c P
leaves_both a b c P first second = record {
  later = omega (arith, first.later, second.later);
  each = λ image since. by image (second.joined (moment a) image first.later since);
  joined = λ start image le since. by_start start image le (second.joined start image (omega (arith, le, first.later)) since);
}
  where
    by : (image : Image) → images_since b (moment a) image ⊎ P image → P image
    by image (inl earlier) = first.each image earlier
    by image (inr p) = p

    by_start : (start : ℕ) (image : Image) → start ≤ moment a → images_since b start image ⊎ P image → images_since a start image ⊎ P image
    by_start start image le (inl earlier) = first.joined start image le earlier
    by_start start image le (inr p) = inr p

pub moves_both : (R S T : Image → Image → Type 0) (a b c : Disk) → ((x y : Image) → R x y → T x y) → ((x y z : Image) → R x y → S y z → T x z) → Moves R a b → Moves S b c → Moves T a c
moves_both R S T a b c only both first second = record {
  moments = leaves_both a b c (ComesFrom T a)
      (leaves_weaker (ComesFrom R a) (ComesFrom T a) a b (λ image from. (from.0, from.1, only from.0 image from.2)) first.moments)
      (moments_have S (ComesFrom R a) (ComesFrom T a) b c second first.now (λ y z from step. (from.0, from.1, both from.0 y z from.2 step)));
  now = now_has S (ComesFrom R a) (ComesFrom T a) b c second first.now (λ y z from step. (from.0, from.1, both from.0 y z from.2 step));
}

pub moves_weaker : (R T : Image → Image → Type 0) (a b : Disk) → ((x y : Image) → R x y → T x y) → Moves R a b → Moves T a b
moves_weaker R T a b weaker moves = record {
  moments = leaves_weaker (ComesFrom R a) (ComesFrom T a) a b (λ image from. (from.0, from.1, weaker from.0 image from.2)) moves.moments;
  now = λ image now. let from = moves.now image now in (from.0, from.1, weaker from.0 image from.2);
}

-- nothing happened
pub leaves_still : (P : Image → Type 0) (disk : Disk) → EachNow disk P → LeavesOnly disk disk P
leaves_still P disk has = record {
  later = omega arith;
  each = λ image since. has image (only_now disk image since);
  joined = λ start image le since. inl since;
}

pub moves_still : (R : Image → Image → Type 0) (disk : Disk) → ((image : Image) → R image image) → Moves R disk disk
moves_still R disk same = record {
  moments = record {
    later = omega arith;
    each = λ image since. (image, only_now disk image since, same image);
    joined = λ start image le since. inl since;
  };
  now = λ image now. (image, now, same image);
}

-- one change
pub moves_change : (R : Image → Image → Type 0) (disk : Disk) (file : ℕ) (change : Change) → ((image : Image) → R image image) → EachNow (changed disk file change) (ComesFrom R disk) → Moves R disk (changed disk file change)
moves_change R disk file change same now = record {
  moments = record {
    later = omega arith;
    each = λ image since. by image since;
    joined = λ start image le since. by_start start image since;
  };
  now = now;
}
  where
    by : (image : Image) → images_now (changed disk file change) image ⊎ ((moment disk ≤ moment disk) × images_since disk (moment disk) image) → ComesFrom R disk image
    by image (inl after) = now image after
    by image (inr before) = (image, only_now disk image before.1, same image)

    by_start : (start : ℕ) (image : Image) → images_now (changed disk file change) image ⊎ ((start ≤ moment disk) × images_since disk start image) → images_since disk start image ⊎ ComesFrom R disk image
    by_start start image (inl after) = inr (now image after)
    by_start start image (inr before) = inl before.1

-- images that are the same outside of a range
pub outside_same : (file at size : ℕ) (image : Image) → SameOutside file at size image image
outside_same file at size image = record { others = λ other e. refl; longer = omega arith; same = λ place within outside. refl }

pub outside_both : (file at size : ℕ) (x y z : Image) → SameOutside file at size x y → SameOutside file at size y z → SameOutside file at size x z
outside_both file at size x y z first second = record {
  others = λ other e. second.others other e ∙ first.others other e;
  longer = omega (arith, first.longer, second.longer);
  same = λ place within outside. second.same place (omega (arith, within, first.longer)) outside ∙ first.same place within outside;
}

pub outside_wider : (file at size outer_at outer_size : ℕ) → outer_at ≤ at → at + size ≤ outer_at + outer_size → (x y : Image) → SameOutside file at size x y → SameOutside file outer_at outer_size x y
outside_wider file at size outer_at outer_size low high x y inner = record {
  others = inner.others;
  longer = inner.longer;
  same = λ place within outside. inner.same place within (by place outside);
}
  where
    by : (place : ℕ) → (place < outer_at) ⊎ (outer_at + outer_size ≤ place) → (place < at) ⊎ (at + size ≤ place)
    by place (inl below) = inl (omega arith)
    by place (inr above) = inr (omega arith)

pub touches_wider : (file at size outer_at outer_size : ℕ) (a b : Disk) → outer_at ≤ at → at + size ≤ outer_at + outer_size → Touches file at size a b → Touches file outer_at outer_size a b
touches_wider file at size outer_at outer_size a b low high touches =
    moves_weaker (SameOutside file at size) (SameOutside file outer_at outer_size) a b (outside_wider file at size outer_at outer_size low high) touches

pub touches_both : (file at size : ℕ) (a b c : Disk) → Touches file at size a b → Touches file at size b c → Touches file at size a c
touches_both file at size a b c first second =
    moves_both (SameOutside file at size) (SameOutside file at size) (SameOutside file at size) a b c (λ x y r. r) (outside_both file at size) first second

-- files that no call names
pub but_same : (touched : ℕ → Bool) (image : Image) → SameBut touched image image
but_same touched image file e = refl

pub but_both : (touched : ℕ → Bool) (x y z : Image) → SameBut touched x y → SameBut touched y z → SameBut touched x z
but_both touched x y z first second file e = second file e ∙ first file e

pub outside_but : (touched : ℕ → Bool) (file at size : ℕ) → touched file ≡ true → (x y : Image) → SameOutside file at size x y → SameBut touched x y
outside_but touched file at size here x y same other e = same.others other (by (nat_eq file other) refl)
  where
    by : (is : Bool) → nat_eq file other ≡ is → is ≡ false
    by false f = refl
    by true f = let h : touched file ≡ touched other = ap touched (eqb-true file other f) in cc

-- a change after which each image of the file agrees with one from before
module _ (disk : Disk) (file at size : ℕ) (change : Change)
    (had : (image : List ℕ) → IsImageOf (after_change (file_of disk file) change) image → HasEarlier (file_of disk file) at size image)
  where
    here : nat_eq file file ≡ true
    here = eq-eqb file file refl

    -- this file as it was, and the others as they are
    with_earlier : List ℕ → Image → Image
    with_earlier bytes image other = cond (nat_eq file other) bytes (image other)

    at_file : (bytes : List ℕ) (image : Image) → with_earlier bytes image file ≡ bytes
    unfolding with_earlier
    at_file bytes image = ap (λ b. cond b bytes (image file)) here

    at_other : (bytes : List ℕ) (image : Image) (other : ℕ) → nat_eq file other ≡ false → image other ≡ with_earlier bytes image other
    unfolding with_earlier
    at_other bytes image other e = sym (ap (λ b. cond b bytes (image other)) e)

    image_of_file : (image : Image) → images_now (changed disk file change) image → IsImageOf (after_change (file_of disk file) change) (image file)
    image_of_file image now = subst (λ b. IsImageOf (cond b (after_change (file_of disk file) change) (file_of disk file)) (image file)) here (now file)

    earlier_now : (bytes : List ℕ) (image : Image) → images_now (changed disk file change) image → IsImageOf (file_of disk file) bytes → images_now disk (with_earlier bytes image)
    unfolding with_earlier
    earlier_now bytes image now is other = by (nat_eq file other) refl
      where
        by : (same : Bool) → nat_eq file other ≡ same → IsImageOf (file_of disk other) (cond same bytes (image other))
        by true e = subst (λ n. IsImageOf (file_of disk n) bytes) (eqb-true file other e) is
        by false e = subst (λ b. IsImageOf (cond b (after_change (file_of disk other) change) (file_of disk other)) (image other)) e (now other)

    earlier_same : (image : Image) (earlier : HasEarlier (file_of disk file) at size (image file)) → SameOutside file at size (with_earlier earlier.earlier image) image
    earlier_same image earlier = record {
      others = λ other e. at_other earlier.earlier image other e;
      longer = subst (λ (l : List ℕ). length l ≤ length (image file)) (sym (at_file earlier.earlier image)) earlier.longer;
      same = subst (λ (l : List ℕ). (place : ℕ) → place < length l → (place < at) ⊎ (at + size ≤ place) → slice_index (image file) place ≡ slice_index l place) (sym (at_file earlier.earlier image)) earlier.same;
    }

    pub touched : Touches file at size disk (changed disk file change)
    touched = moves_change (SameOutside file at size) disk file change (outside_same file at size)
        (λ image now. let earlier = had (image file) (image_of_file image now) in
        (with_earlier earlier.earlier image, earlier_now earlier.earlier image now earlier.is, earlier_same image earlier))

-- a write that is done
pub touched_wrote : (disk : Disk) (file at : ℕ) (bytes : List ℕ) → Touches file at (length bytes) disk (changed disk file (Wrote at bytes))
touched_wrote disk file at bytes =
    touched disk file at (length bytes) (Wrote at bytes)
    (λ image is. has_earlier (file_of disk file) (sound_file disk file) at (length bytes) (written (reads_of disk file) at bytes) image is)

-- one that was begun
pub touched_spoiled : (disk : Disk) (file at size : ℕ) (left : List ℕ) → Touches file at size disk (changed disk file (Spoiled at size left))
touched_spoiled disk file at size left =
    touched disk file at size (Spoiled at size left)
    (λ image is. has_earlier (file_of disk file) (sound_file disk file) at size (written (reads_of disk file) at (take size left)) image is)

-- a sync: of the images only the one that the file reads is left
synced_only : (disk : Disk) (file : ℕ) (image : List ℕ) → IsImageOf (settled (reads_of disk file)) image → image ≡ reads_of disk file
synced_only disk file image is = is.settled refl refl

pub touched_synced : (disk : Disk) (file at size : ℕ) → Touches file at size disk (changed disk file Synced)
touched_synced disk file at size =
    touched disk file at size Synced
    (λ image is. record {
      earlier = image;
      is = subst (λ (l : List ℕ). IsImageOf (file_of disk file) l) (sym (synced_only disk file image is)) (image_of_reads (file_of disk file) (sound_file disk file));
      longer = omega arith;
      same = λ place within outside. refl;
    })

-- what it leaves
pub synced_reads : (disk : Disk) (file : ℕ) → EachNow (changed disk file Synced) (λ image. image file ≡ reads_of disk file)
synced_reads disk file image now =
    synced_only disk file (image file) (subst (λ b. IsImageOf (cond b (after_change (file_of disk file) Synced) (file_of disk file)) (image file)) (eq-eqb file file refl) (now file))

-- it changes nothing that is read, and leaves no image that wasn't there
pub sync_reads : (disk : Disk) (file other : ℕ) → reads_of (changed disk file Synced) other ≡ reads_of disk other
sync_reads disk file other = by (nat_eq file other)
  where
    by : (same : Bool) → (cond same (after_change (file_of disk other) Synced) (file_of disk other)).reads ≡ reads_of disk other
    by true = refl
    by false = refl

image_before : (disk : Disk) (file : ℕ) (image : Image) → images_now (changed disk file Synced) image → images_now disk image
image_before disk file image now other = by (nat_eq file other) refl
  where
    by : (same : Bool) → nat_eq file other ≡ same → IsImageOf (file_of disk other) (image other)
    by true e =
        let is : image other ≡ reads_of disk other = subst (λ n. image n ≡ reads_of disk n) (eqb-true file other e) (synced_reads disk file image now) in
        subst (λ (l : List ℕ). IsImageOf (file_of disk other) l) (sym is) (image_of_reads (file_of disk other) (sound_file disk other))
    by false e = subst (λ b. IsImageOf (cond b (after_change (file_of disk other) Synced) (file_of disk other)) (image other)) e (now other)

pub earlier_synced : (disk : Disk) (file : ℕ) → LeavesEarlier disk (changed disk file Synced)
earlier_synced disk file = moves_change (SameBut (λ file. false)) disk file Synced (but_same (λ file. false)) (λ image now. (image, image_before disk file image now, but_same (λ file. false) image))

pub earlier_still : (disk : Disk) → LeavesEarlier disk disk
earlier_still disk = moves_still (SameBut (λ file. false)) disk (but_same (λ file. false))

pub earlier_both : (a b c : Disk) → LeavesEarlier a b → LeavesEarlier b c → LeavesEarlier a c
earlier_both a b c first second = moves_both (SameBut (λ file. false)) (SameBut (λ file. false)) (SameBut (λ file. false)) a b c (λ x y r. r) (but_both (λ file. false)) first second

-- what a file reads after a write
pub reads_wrote : (disk : Disk) (file at : ℕ) (bytes : List ℕ) → reads_of (changed disk file (Wrote at bytes)) file ≡ written (reads_of disk file) at bytes
reads_wrote disk file at bytes = ap (λ b. (cond b (after_change (file_of disk file) (Wrote at bytes)) (file_of disk file)).reads) (eq-eqb file file refl)

-- a piece outside of the range that a call touches stays in each image
pub piece_stays : (before after : Disk) (file from size at : ℕ) (part : List ℕ) → Touches file from size before after → (at + length part ≤ from) ⊎ (from + size ≤ at) → EachNow before (λ image. StandsAt (image file) at part) → LeavesOnly before after (λ image. StandsAt (image file) at part)
piece_stays before after file from size at part touches apart had =
    moments_have (SameOutside file from size) (λ image. StandsAt (image file) at part) (λ image. StandsAt (image file) at part) before after touches had
    (λ earlier image stands same. stands_kept (earlier file) (image file) at part from size same.longer same.same apart stands)
