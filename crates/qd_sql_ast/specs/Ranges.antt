-- Numbers in their range: the nearest one, where a number is out of it.
use Rattle.std.specs.Prelude.{ℕ, min, max}
use Rattle.qd_base.specs.declared.limits.TheConstants.{MAX_NUMBER, MAX_STRIDE}

abbrev pub magnitude : ℕ → ℕ
magnitude n = min n MAX_NUMBER

abbrev pub stride_count : ℕ → ℕ
stride_count n = min (max n 1) MAX_STRIDE
