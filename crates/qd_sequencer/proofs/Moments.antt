-- Facts of the images of a call, joined.
use Rattle.std.proofs.Common.{◌⊎◌, inl, inr}
use Rattle.qd_volume.specs.Disk.{Disk, Image, file_of, images_now, images_since, reads_of}
use Rattle.qd_volume.proofs.Sound.{image_of_reads, sound_file}
use Rattle.qd_durable.specs.Moments.{EachNow, LeavesOnly}

-- what a volume reads is one of its images
pub now_reads : (disk : Disk) → images_now disk (reads_of disk)
now_reads disk file = image_of_reads (file_of disk file) (sound_file disk file)

module _ (P Q : Image → Type 0) where
  -- two facts at once
  pub leaves_and : (a b : Disk) → LeavesOnly a b P → LeavesOnly a b Q → LeavesOnly a b (λ image. P image × Q image)
  leaves_and a b first second = record {
    later = first.later;
    each = λ image since. (first.each image since, second.each image since);
    joined = λ start image le since. by (images_since a start image) image (first.joined start image le since) (second.joined start image le since);
  }
    where
      by : (S : Type 0) (image : Image) → S ⊎ P image → S ⊎ Q image → S ⊎ (P image × Q image)
      by S image (inl s) other = inl s
      by S image (inr p) (inl s) = inl s
      by S image (inr p) (inr q) = inr (p, q)

  pub now_and : (disk : Disk) → EachNow disk P → EachNow disk Q → EachNow disk (λ image. P image × Q image)
  now_and disk p q image now = (p image now, q image now)
