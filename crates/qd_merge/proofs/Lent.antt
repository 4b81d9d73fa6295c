-- The times that a block lends.
use Rattle.std.proofs.Common.{◌≡◌, ℕ, ◌<◌, List, length, map, sym, ap, ◌∙◌, arith, All, subst}
use Rattle.std.specs.List.Sorted.{IsNonDecreasing}
use Rattle.std.proofs.lemmas.List.{length-map}
use Rattle.qd_base.specs.declared.cell.Cell.TheVariants as cell
use Rattle.qd_base.specs.declared.schema.ColType.TheVariants as kind
use Rattle.qd_base.specs.Rows.{cell_at, time_of}
use Rattle.qd_block.specs.Blocks.{Block, IsWhole}
use Rattle.qd_block.proofs.RowLemmas.{got_there}
use Rattle.qd_merge.proofs.Times.{times_lent, times_rise}

-- the designated column is in each row of a block
pub timed_within : (b : Block) → IsWhole b → All (λ r. b.time_col < length r) b.rows
timed_within b whole k d lt = let there = got_there b.kinds b.time_col kind.Time whole.designated in let size = whole.cells k d lt in omega arith

-- what a block's times say
pub record AreLent (b : Block) (times : List ℕ) : Type 0 where
  pub same : map (time_of b.time_col) b.rows ≡ times
  pub rise : IsNonDecreasing times
  pub size : length times ≡ length b.rows

pub lent_times : (b : Block) (times : List ℕ) → IsWhole b → map (λ t. cell.Time t) times ≡ map (λ r. cell_at r b.time_col) b.rows → AreLent b times
lent_times b times whole lent =
    let same : map (time_of b.time_col) b.rows ≡ times = times_lent b.time_col times b.rows lent in
    record {
      same = same;
      rise = subst IsNonDecreasing same (times_rise b.time_col b.rows whole.order);
      size = sym (ap length same) ∙ length-map b.rows (time_of b.time_col);
    }

pub at_col : (b : Block) (times : List ℕ) (col : ℕ) → b.time_col ≡ col → AreLent b times → map (time_of col) b.rows ≡ times
at_col b times col e lent = subst (λ (c : ℕ). map (time_of c) b.rows ≡ times) e lent.same
