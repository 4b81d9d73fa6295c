-- Which files are those of blocks, and which those of versions.
use Rattle.std.proofs.Common.{◌≡◌, ℕ, ◌+◌, ◌^◌, ◌<◌, ◌≤◌, nat_eq, nat_le, nat_lt, Bool, true, false, ◌&&◌, ◌||◌, List, length, refl, sym, subst, arith}
use Rattle.std.proofs.lemmas.Bool.Decides.{nat_tests}
use Rattle.qd_base.specs.declared.limits.TheConstants.{MAX_COLUMNS}
use Rattle.qd_block.specs.Blocks.{Block, column_in}
use Rattle.qd_column_format.specs.Spelling.{SpellsColumn}
use Rattle.qd_volume.specs.Disk.{Image}
use Rattle.qd_durable.specs.Moments.{SameBut}
use Rattle.qd_txnfile.specs.Versions.{is_version_file}
use Rattle.qd_column_files.specs.Files.{HoldsBlock, column_file, is_file_of}
use Rattle.qd_versions.specs.Publishing.{is_file_from}

-- a file between two numbers
abbrev within : ℕ → ℕ → ℕ → Bool
within from to file = nat_le from file && nat_lt file to

within_true : (from to file : ℕ) → from ≤ file → file < to → within from to file ≡ true
within_true from to file low high = grind (arith, nat_tests)

within_low : (from to file : ℕ) → within from to file ≡ true → from ≤ file
within_low from to file is = grind (arith, nat_tests)

within_high : (from to file : ℕ) → within from to file ≡ true → file < to
within_high from to file is = grind (arith, nat_tests)

within_below : (from to file : ℕ) → file < from → within from to file ≡ false
within_below from to file below = grind (arith, nat_tests)

within_above : (from to file : ℕ) → to ≤ file → within from to file ≡ false
within_above from to file above = grind (arith, nat_tests)

not_two_three : (file : ℕ) → 3 < file → (nat_eq file 2 || nat_eq file 3) ≡ false
not_two_three file more = grind (arith, nat_tests)

-- a version file is none of a block
pub low_from : (next file : ℕ) → file ≤ 3 → is_file_from next file ≡ false
low_from next file low = within_below (column_file next 0 0) (2 ^ 63) file (omega arith)

pub low_of : (block file : ℕ) → file ≤ 3 → is_file_of block file ≡ false
low_of block file low = within_below (column_file block 0 0) (column_file (block + 1) 0 0) file (omega arith)

pub of_not_version : (block file : ℕ) → is_file_of block file ≡ true → is_version_file file ≡ false
of_not_version block file is = not_two_three file (omega (arith, within_low (column_file block 0 0) (column_file (block + 1) 0 0) file is))

-- a file of a later block is one from a number on
pub of_is_from : (next block file : ℕ) → next ≤ block → block < 2 ^ 52 → is_file_of block file ≡ true → is_file_from next file ≡ true
of_is_from next block file low small is =
    within_true (column_file next 0 0) (2 ^ 63) file
    (omega (arith, within_low (column_file block 0 0) (column_file (block + 1) 0 0) file is))
    (omega (arith, within_high (column_file block 0 0) (column_file (block + 1) 0 0) file is))

-- a file of a block is none of a later one
pub of_not_later : (block later file : ℕ) → block < later → is_file_of block file ≡ true → is_file_of later file ≡ false
of_not_later block later file less is =
    within_below (column_file later 0 0) (column_file (later + 1) 0 0) file
    (omega (arith, within_high (column_file block 0 0) (column_file (block + 1) 0 0) file is))

-- and of an earlier one
pub of_not_earlier : (block earlier file : ℕ) → earlier < block → is_file_of block file ≡ true → is_file_of earlier file ≡ false
of_not_earlier block earlier file less is =
    within_above (column_file earlier 0 0) (column_file (earlier + 1) 0 0) file
    (omega (arith, within_low (column_file block 0 0) (column_file (block + 1) 0 0) file is))

-- a file of a block below a number is none from there on
pub of_not_from : (next block file : ℕ) → block < next → is_file_of block file ≡ true → is_file_from next file ≡ false
of_not_from next block file less is =
    within_below (column_file next 0 0) (2 ^ 63) file
    (omega (arith, within_high (column_file block 0 0) (column_file (block + 1) 0 0) file is))

-- the files of a block's columns are among its files
pub column_of : (block col half : ℕ) → col < 512 → half < 2 → is_file_of block (column_file block col half) ≡ true
column_of block col half few two = within_true (column_file block 0 0) (column_file (block + 1) 0 0) (column_file block col half) (omega arith) (omega arith)

-- a block is held while its files stay
pub held_kept : (block : ℕ) (b : Block) (touched : ℕ → Bool) (earlier image : Image) → length b.kinds ≤ MAX_COLUMNS → ((file : ℕ) → is_file_of block file ≡ true → touched file ≡ false) → SameBut touched earlier image → HoldsBlock block b earlier → HoldsBlock block b image
held_kept block b touched earlier image few apart same holds = record {
  each = λ col less. by col less (same (column_file block col 0) (apart (column_file block col 0) (column_of block col 0 (omega arith) (omega arith)))) (same (column_file block col 1) (apart (column_file block col 1) (column_of block col 1 (omega arith) (omega arith))));
}
  where
    by : (col : ℕ) → col < length b.kinds → image (column_file block col 0) ≡ earlier (column_file block col 0) → image (column_file block col 1) ≡ earlier (column_file block col 1) → SpellsColumn (image (column_file block col 0)) (image (column_file block col 1)) (column_in b col)
    by col less main aux =
        subst (λ (l : List ℕ). SpellsColumn l (image (column_file block col 1)) (column_in b col)) (sym main)
        (subst (λ (l : List ℕ). SpellsColumn (earlier (column_file block col 0)) l (column_in b col)) (sym aux) (holds.each col less))

-- files that a publication may change
pub or_left : (a b : Bool) → (a || b) ≡ false → a ≡ false
or_left true b is = is
or_left false b is = refl

pub or_right : (a b : Bool) → (a || b) ≡ false → b ≡ false
or_right true b is = absurd (no is)
  where
    no : ◌≡◌ {A = Bool} true false → ⊥
    no e = grind arith
or_right false b is = is

pub but_version : (more : ℕ → Bool) (earlier image : Image) → SameBut is_version_file earlier image → SameBut (λ file. is_version_file file || more file) earlier image
but_version more earlier image same file e = same file (or_left (is_version_file file) (more file) e)

pub but_more : (more : ℕ → Bool) (earlier image : Image) → SameBut more earlier image → SameBut (λ file. is_version_file file || more file) earlier image
but_more more earlier image same file e = same file (or_right (is_version_file file) (more file) e)
