-- How many rows a sample with a fill has, from the keys that were found.
use Rattle.std.proofs.Common.{◌≡◌, ℕ, ◌*◌, ◌/◌, ◌<◌, ◌≤◌, Bool, List, [], length, map, get_or, sym, ap, ◌∙◌, arith, Result, Ok, Err}
use Rattle.std.proofs.lemmas.List.{length-map}
use Rattle.qd_base.specs.declared.limits.TheConstants.{MAX_SAMPLED_ROWS}
use Rattle.qd_group.specs.Grouping.{same_rows, AreGroups}
use Rattle.qd_group.proofs.Assembly.{heads}
use Rattle.qd_group.proofs.Leaders.{number_below}
use Rattle.qd_meaning.specs.declared.parts.SampleSpec.{SampleSpec}
use Rattle.qd_meaning.specs.Grouped.{key_of, keys_of}
use Rattle.qd_rows.specs.Sets.{ResultRows, rows_in}
use Rattle.qd_time.specs.declared.buckets.Align.{Align}
use Rattle.qd_value.specs.declared.bound.Bound.{Bound}
use Rattle.qd_sample.specs.Sampling.{filled_whole}
use Rattle.qd_sample.proofs.Whole.{filled_count, fits, overflows}

fault_in : {T E : Type 0} → E → Result T E → E
fault_in other (Ok x) = other
fault_in other (Err e) = e

-- a result has one error
pub same_fault : {T E : Type 0} (x y : E) (r : Result T E) → r ≡ Err x → r ≡ Err y → x ≡ y
unfolding fault_in
same_fault x y r is other = ap (fault_in y) (sym is ∙ other)

-- some rows have some key
pub some_key : (same : ℕ → ℕ → Bool) (n : ℕ) (ns fs : List ℕ) → AreGroups same n ns fs → 0 < n → 0 < length fs
some_key same n ns fs are some = omega (arith, number_below same n ns fs 0 are some)

keys_found : (keys : List Bound) (s : ResultRows) (kn kfs : List ℕ) → AreGroups (same_rows keys s) (length s.places) kn kfs → length (keys_of keys (rows_in s)) ≡ length kfs
keys_found keys s kn kfs are = ap length (sym (heads keys s kn kfs are)) ∙ length-map kfs (λ f. get_or (map (key_of keys) (rows_in s)) f [])

module _ (s : ResultRows) (spec : SampleSpec) (align : Align) (time_col : ℕ) (list kn kfs : List ℕ) (most : ℕ) (keyed : AreGroups (same_rows spec.group.keys s) (length s.places) kn kfs) (some : 0 < length kfs) (is : most ≡ MAX_SAMPLED_ROWS / length kfs) where
  count : length (filled_whole spec align time_col list (rows_in s)) ≡ length list * length kfs
  count = filled_count spec align time_col list (rows_in s) ∙ ap (λ n. length list * n) (keys_found spec.group.keys s kn kfs keyed)

  pub few_rows : length list ≤ most → length (filled_whole spec align time_col list (rows_in s)) ≤ MAX_SAMPLED_ROWS
  few_rows le = omega (arith, count, fits (length list) (length kfs) most some is le)

  pub many_rows : most < length list → MAX_SAMPLED_ROWS < length (filled_whole spec align time_col list (rows_in s))
  many_rows more = omega (arith, count, overflows (length list) (length kfs) most some is more)
