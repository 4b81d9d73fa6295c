-- What a file reads is one of its images, whatever changes it went through.
use Rattle.std.proofs.Common.{◌≡◌, ◌⊎◌, inl, inr, ℕ, ◌+◌, ◌<◌, ◌≤◌, min, Bool, true, false, nat_le, nat_lt, ◌&&◌, cond, nat_eq, List, [], ◌∷◌, length, take, slice_index, refl, ◌∙◌, ap, arith}
use Rattle.std.proofs.lemmas.Bool.Decides.{nat_tests}
use Rattle.std.proofs.lemmas.List.{length-take, get_or-take, take_all}
use Rattle.qd_volume.specs.Files.{Change, File, IsImageOf, Range, after_change, is_named, settled, written}
use Rattle.qd_volume.specs.Files.{Cut, Spoiled, Synced, Uncut, Wrote}
use Rattle.qd_volume.specs.Disk.{Disk, file_of}
use Rattle.qd_volume.proofs.Written.{written-longer, written-outside}

-- what a file reads agrees with what was synced, as far as the changes since left it
pub record IsSound (file : File) : Type 0 where
  pub in_reads : file.least ≤ length file.reads
  pub in_synced : file.least ≤ length file.synced
  pub kept : (place : ℕ) → place < file.least → is_named file.named place ≡ false → slice_index file.reads place ≡ slice_index file.synced place
  pub untouched : file.named ≡ [] → file.least ≡ length file.synced → file.reads ≡ file.synced

pub image_of_reads : (file : File) → IsSound file → IsImageOf file file.reads
image_of_reads file sound = record { long = sound.in_reads; kept = sound.kept; settled = sound.untouched }

pub image_of_synced : (file : File) → IsSound file → IsImageOf file file.synced
image_of_synced file sound = record { long = sound.in_synced; kept = λ place below free. refl; settled = λ none same. refl }

pub sound_settled : (bytes : List ℕ) → IsSound (settled bytes)
sound_settled bytes = record { in_reads = omega arith; in_synced = omega arith; kept = λ place below free. refl; untouched = λ none same. refl }

-- a place that is in no range isn't in the last one, nor in the others
first_free : (range : Range) (ranges : List Range) (place : ℕ) → is_named (range ∷ ranges) place ≡ false → (place < range.at) ⊎ (range.at + range.size ≤ place)
first_free range ranges place free = by (nat_le range.at place) refl
  where
    by : (from : Bool) → nat_le range.at place ≡ from → (place < range.at) ⊎ (range.at + range.size ≤ place)
    by true e = inr (grind (arith, nat_tests))
    by false e = inl (grind (arith, nat_tests))

others_free : (range : Range) (ranges : List Range) (place : ℕ) → is_named (range ∷ ranges) place ≡ false → is_named ranges place ≡ false
others_free range ranges place free = by (nat_le range.at place && nat_lt place (range.at + range.size)) refl
  where
    by : (here : Bool) → (nat_le range.at place && nat_lt place (range.at + range.size)) ≡ here → is_named ranges place ≡ false
    by true e = cc
    by false e = cc

-- a write, whole or in part, of bytes that fit its range
sound_written : (file : File) (at size : ℕ) (bytes : List ℕ) → length bytes ≤ size → IsSound file → IsSound (record file { reads = written file.reads at bytes; named = record { at = at; size = size } ∷ file.named })
sound_written file at size bytes fits sound = record {
  in_reads = omega (arith, sound.in_reads, written-longer file.reads at bytes);
  in_synced = sound.in_synced;
  kept = λ place below free. written-outside file.reads at bytes place (omega (arith, sound.in_reads)) (outside place (first_free _ _ place free)) ∙ sound.kept place below (others_free _ _ place free);
  untouched = λ none same. cc;
}
  where
    outside : (place : ℕ) → (place < at) ⊎ (at + size ≤ place) → (place < at) ⊎ (at + length bytes ≤ place)
    outside place (inl below) = inl below
    outside place (inr above) = inr (omega arith)

-- a cut that was done or not
sound_cut : (file : File) (len : ℕ) → IsSound file → IsSound (record file { reads = take len file.reads; least = min file.least len })
sound_cut file len sound = record {
  in_reads = omega (arith, sound.in_reads, length-take len file.reads);
  in_synced = omega (arith, sound.in_synced);
  kept = λ place below free. get_or-take len file.reads place 0 (omega arith) ∙ sound.kept place (omega arith) free;
  untouched = λ none same. take_all len file.reads (omega (arith, sound.in_synced, ap length (sound.untouched none (omega (arith, sound.in_synced))))) ∙ sound.untouched none (omega (arith, sound.in_synced));
}

sound_uncut : (file : File) (len : ℕ) → IsSound file → IsSound (record file { least = min file.least len })
sound_uncut file len sound = record {
  in_reads = omega (arith, sound.in_reads);
  in_synced = omega (arith, sound.in_synced);
  kept = λ place below free. sound.kept place (omega arith) free;
  untouched = λ none same. sound.untouched none (omega (arith, sound.in_synced));
}

pub sound_change : (file : File) (change : Change) → IsSound file → IsSound (after_change file change)
sound_change file (Wrote at bytes) sound = sound_written file at (length bytes) bytes (omega arith) sound
sound_change file (Spoiled at size left) sound = sound_written file at size (take size left) (omega (arith, length-take size left)) sound
sound_change file (Cut len) sound = sound_cut file len sound
sound_change file (Uncut len) sound = sound_uncut file len sound
sound_change file Synced sound = sound_settled file.reads

-- each file of a volume
pub sound_file : (disk : Disk) (file : ℕ) → IsSound (file_of disk file)
sound_file [] file = sound_settled []
sound_file (call ∷ before) file = by (nat_eq call.file file) (sound_file before file)
  where
    by : (here : Bool) → IsSound (file_of before file) → IsSound (cond here (after_change (file_of before file) call.change) (file_of before file))
    by true sound = sound_change _ call.change sound
    by false sound = sound
