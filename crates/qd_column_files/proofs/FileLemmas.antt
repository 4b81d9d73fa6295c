-- Which files columns and blocks have.
use Rattle.std.proofs.Common.{◌≡◌, ◌≢◌, ℕ, ◌+◌, ◌<◌, ◌≤◌, nat_eq, nat_le, nat_lt, Bool, true, false, ◌&&◌, refl, arith}
use Rattle.std.proofs.lemmas.Bool.Decides.{nat_tests}
use Rattle.qd_column_files.specs.Calls.{is_column_file}
use Rattle.qd_column_files.specs.Files.{column_file, is_file_of}
use Rattle.qd_column_files.specs.Laws.{BlocksHaveFilesOfTheirOwn}

-- whether a number is from one up to another
abbrev pub within : ℕ → ℕ → ℕ → Bool
within low high n = nat_le low n && nat_lt n high

pub within_true : (low high n : ℕ) → within low high n ≡ true → (low ≤ n) × (n < high)
within_true low high n e = (grind (arith, nat_tests), grind (arith, nat_tests))

pub is_within : (low high n : ℕ) → low ≤ n → n < high → within low high n ≡ true
is_within low high n above below = grind (arith, nat_tests)

pub not_within : (low high n : ℕ) → (low ≤ n → n < high → ⊥) → within low high n ≡ false
not_within low high n out = by (within low high n) refl
  where
    by : (b : Bool) → within low high n ≡ b → within low high n ≡ false
    by true e = let h = within_true low high n e in absurd (out h.0 h.1)
    by false e = e

pub within_wider : (low high outer_low outer_high n : ℕ) → outer_low ≤ low → high ≤ outer_high → within outer_low outer_high n ≡ false → within low high n ≡ false
within_wider low high outer_low outer_high n below above out = not_within low high n (λ over under. let h : within outer_low outer_high n ≡ true = is_within outer_low outer_high n (omega arith) (omega arith) in cc)

-- a file that isn't a block's is none of its columns'
pub no_column_of : (block col file : ℕ) → col < 512 → is_file_of block file ≡ false → is_column_file block col file ≡ false
no_column_of block col file few out = within_wider (column_file block col 0) (column_file block (col + 1) 0) (column_file block 0 0) (column_file (block + 1) 0 0) file (omega arith) (omega arith) out

-- the main file and the second one of a column
pub column_has : (block col half : ℕ) → half < 2 → is_column_file block col (column_file block col half) ≡ true
column_has block col half low = is_within (column_file block col 0) (column_file block (col + 1) 0) (column_file block col half) (omega arith) (omega arith)

-- and those of another column of the block
pub other_column : (block col other half : ℕ) → col ≢ other → half < 2 → is_column_file block col (column_file block other half) ≡ false
other_column block col other half differ low = not_within (column_file block col 0) (column_file block (col + 1) 0) (column_file block other half) (λ over under. differ (omega arith))

-- one file isn't another
pub not_same : (a b : ℕ) → (a ≡ b → ⊥) → nat_eq a b ≡ false
not_same a b differ = grind (arith, nat_tests)

-- a file that isn't a column's is neither of its two
pub neither_file : (block col half file : ℕ) → half < 2 → is_column_file block col file ≡ false → nat_eq (column_file block col half) file ≡ false
neither_file block col half file low out = not_same (column_file block col half) file (λ e. let h : is_column_file block col file ≡ true = is_within (column_file block col 0) (column_file block (col + 1) 0) file (omega (arith, e)) (omega (arith, e)) in cc)

-- the two differ
pub halves_differ : (block col : ℕ) → nat_eq (column_file block col 1) (column_file block col 0) ≡ false
halves_differ block col = not_same (column_file block col 1) (column_file block col 0) (λ e. omega (arith, e))

pub halves_apart : (block col : ℕ) → nat_eq (column_file block col 0) (column_file block col 1) ≡ false
halves_apart block col = not_same (column_file block col 0) (column_file block col 1) (λ e. omega (arith, e))

pub own_files : BlocksHaveFilesOfTheirOwn
own_files = record {
  columns = λ block other col next half last few less low small same. (omega (arith, same, few, less, low, small), omega (arith, same, few, less, low, small), omega (arith, same, few, less, low, small));
  among = λ block col half few low. is_within (column_file block 0 0) (column_file (block + 1) 0 0) (column_file block col half) (omega arith) (omega arith);
  own = λ block other file first second.
      let a = within_true (column_file block 0 0) (column_file (block + 1) 0 0) file first in
      let b = within_true (column_file other 0 0) (column_file (other + 1) 0 0) file second in
      omega (arith, a.0, a.1, b.0, b.1);
  apart = λ block file low in_it.
      let a = within_true (column_file block 0 0) (column_file (block + 1) 0 0) file in_it in
      (omega (arith, a.0), omega (arith, a.1, low));
}
