-- The rows that were made, over numbers that were lent to the functions that make them.
use Rattle.std.proofs.Common.{◌≡◌, ℕ, List, [], ◌∷◌, length, map, fold, get_or, replicate, refl, sym, ap, ap₂, ◌∙◌, arith, inl, inr, ◌⊎◌}
use Rattle.std.specs.List.{flat_map, range_with_len}
use Rattle.std.proofs.lemmas.List.{length-map}
use Rattle.qd_base.specs.declared.cell.Cell.{Cell}
use Rattle.qd_base.specs.declared.cell.Cell.TheVariants as cell
use Rattle.qd_base.specs.Rows.{Row, time_of}
use Rattle.qd_group.specs.Grouping.{answers_of}
use Rattle.qd_meaning.specs.declared.parts.Agg.{Agg}
use Rattle.qd_meaning.specs.declared.parts.Fill.{Fill}
use Rattle.qd_meaning.specs.declared.parts.SampleSpec.{SampleSpec}
use Rattle.qd_meaning.specs.Grouped.{keys_of}
use Rattle.qd_meaning.specs.Sampled.{each_fill, nulls, unfilled}
use Rattle.qd_rows.specs.Sets.{ResultRows, rows_in}
use Rattle.qd_time.specs.declared.buckets.Align.{Align}
use Rattle.qd_value.specs.declared.bound.Bound.{Bound}
use Rattle.qd_sample.specs.Cells.{bucket_rows, with_bucket}
use Rattle.qd_sample.specs.Sampling.{filled_whole, starts_of, FillsFit}
use Rattle.qd_sample.specs.Starts.{StartsOfRows}
use Rattle.qd_sample.proofs.Filled.{deals_of}
use Rattle.qd_sample.proofs.Unfilled.{lists_of}
use Rattle.qd_sample.proofs.Whole.{filled_all, keys_count, unfilled_count, unfilled_whole, Known}

-- each aggregate has a fill
pub fills_sized : (spec : SampleSpec) (fills : List Fill) → FillsFit spec → fills ≡ each_fill spec.fills spec.group.aggs → length fills ≡ length spec.group.aggs
fills_sized spec fills fit is = ap length is ∙ by spec.fills spec.group.aggs fit
  where
    by : (list : List Fill) (aggs : List Agg) → (length list ≡ 1) ⊎ (length list ≡ length aggs) → length (each_fill list aggs) ≡ length aggs
    by [] aggs (inl one) = absurd (omega (arith, one))
    by [] aggs (inr same) = same
    by (f ∷ []) aggs fit = length-map aggs (λ a. f)
    by (f ∷ g ∷ rest) aggs (inl one) = absurd (omega (arith, one))
    by (f ∷ g ∷ rest) aggs (inr same) = same

constant : {X Y : Type 0} (xs : List X) (y : Y) (n : ℕ) → length xs ≡ n → replicate n y ≡ map (λ x. y) xs
constant {X = X} xs y n size = ap (λ k. replicate k y) (sym size) ∙ each xs
  where
    each : (list : List X) → replicate (length list) y ≡ map (λ x. y) list
    each [] = refl
    each (x ∷ rest) = ap (λ l. y ∷ l) (each rest)

module _ (s : ResultRows) (spec : SampleSpec) (align : Align) (times begin bn kn kfs ns fs : List ℕ) (known : Known s spec align times begin bn kn kfs ns fs)
    (columns : List (List Cell)) (shown : columns ≡ map (answers_of ns (length fs) (rows_in s)) spec.group.aggs)
    (lent_keys : List Bound) (lent_kfs lent_of_key lent_begin : List ℕ) (lent_lists : List (List ℕ)) (lent_columns : List (List Cell))
    (keys_are : lent_keys ≡ spec.group.keys) (kfs_are : lent_kfs ≡ kfs) (of_key_is : lent_of_key ≡ map (λ f. get_or kn f 0) fs) (begin_is : lent_begin ≡ begin) (columns_are : lent_columns ≡ columns) where
  abbrev of_bucket : List ℕ
  of_bucket = map (λ f. get_or bn f 0) fs

  abbrev of_key : List ℕ
  of_key = map (λ f. get_or kn f 0) fs

  abbrev in_keys : List (List ℕ)
  in_keys = lists_of (map (λ f. get_or bn f 0) fs) (map (λ f. get_or kn f 0) fs) (length fs) (length kfs) (length begin)

  abbrev in_turn : List (List ℕ)
  in_turn = deals_of (map (λ f. get_or bn f 0) fs) (length fs) (length begin)

  -- without a fill
  module _ (made : List Row) (lists_are : lent_lists ≡ lists_of (map (λ f. get_or bn f 0) fs) (map (λ f. get_or kn f 0) fs) (length fs) (length kfs) (length begin))
      (is : made ≡ flat_map (bucket_rows s lent_keys lent_kfs lent_columns lent_of_key lent_begin lent_lists) (range_with_len 0 (length lent_begin))) where
    unlent : made ≡ flat_map (bucket_rows s spec.group.keys kfs columns of_key begin in_keys) (range_with_len 0 (length begin))
    unlent =
        is
        ∙ ap (λ (l : List Bound). flat_map (bucket_rows s l lent_kfs lent_columns lent_of_key lent_begin lent_lists) (range_with_len 0 (length lent_begin))) keys_are
        ∙ ap₂ (λ (l : List ℕ) (cs : List (List Cell)). flat_map (bucket_rows s spec.group.keys l cs lent_of_key lent_begin lent_lists) (range_with_len 0 (length lent_begin))) kfs_are columns_are
        ∙ ap₂ (λ (l b : List ℕ). flat_map (bucket_rows s spec.group.keys kfs columns l b lent_lists) (range_with_len 0 (length b))) of_key_is begin_is
        ∙ ap (λ (l : List (List ℕ)). flat_map (bucket_rows s spec.group.keys kfs columns of_key begin l) (range_with_len 0 (length begin))) lists_are

    pub unfilled_made : StartsOfRows spec.stride align times begin → (time_col : ℕ) → times ≡ map (time_of time_col) (rows_in s) → made ≡ unfilled spec align time_col (keys_of spec.group.keys (rows_in s)) (starts_of spec align times) (rows_in s)
    unfilled_made rows time_col times_are = unlent ∙ unfilled_whole s spec align times begin bn kn kfs ns fs known columns shown rows time_col times_are

    pub unfilled_size : (time_col : ℕ) → times ≡ map (time_of time_col) (rows_in s) → length made ≡ length fs
    unfilled_size time_col times_are = ap length unlent ∙ unfilled_count s spec align times begin bn kn kfs ns fs known columns shown time_col times_are

  -- with one
  pub filled_made : (made : List Row) (fills lent_fills : List Fill) → lent_fills ≡ fills → fills ≡ each_fill spec.fills spec.group.aggs → FillsFit spec
      → lent_lists ≡ deals_of (map (λ f. get_or bn f 0) fs) (length fs) (length begin)
      → made ≡ (fold (with_bucket s lent_keys lent_kfs lent_columns lent_of_key lent_fills lent_begin lent_lists) ([], replicate (length lent_kfs) (replicate (length lent_fills) cell.Null)) (range_with_len 0 (length lent_begin))).0
      → begin ≡ starts_of spec align times → (time_col : ℕ) → times ≡ map (time_of time_col) (rows_in s) → made ≡ filled_whole spec align time_col (starts_of spec align times) (rows_in s)
  filled_made made fills lent_fills fills_are each fit lists_are is whole time_col times_are =
      is
      ∙ ap (λ (l : List Bound). (fold (with_bucket s l lent_kfs lent_columns lent_of_key lent_fills lent_begin lent_lists) ([], replicate (length lent_kfs) (replicate (length lent_fills) cell.Null)) (range_with_len 0 (length lent_begin))).0) keys_are
      ∙ ap₂ (λ (l : List ℕ) (cs : List (List Cell)). (fold (with_bucket s spec.group.keys l cs lent_of_key lent_fills lent_begin lent_lists) ([], replicate (length l) (replicate (length lent_fills) cell.Null)) (range_with_len 0 (length lent_begin))).0) kfs_are columns_are
      ∙ ap₂ (λ (l b : List ℕ). (fold (with_bucket s spec.group.keys kfs columns l lent_fills b lent_lists) ([], replicate (length kfs) (replicate (length lent_fills) cell.Null)) (range_with_len 0 (length b))).0) of_key_is begin_is
      ∙ ap₂ (λ (f : List Fill) (l : List (List ℕ)). (fold (with_bucket s spec.group.keys kfs columns of_key f begin l) ([], replicate (length kfs) (replicate (length f) cell.Null)) (range_with_len 0 (length begin))).0) fills_are lists_are
      ∙ ap (λ (cells : List Row). (fold (with_bucket s spec.group.keys kfs columns of_key fills begin in_turn) ([], cells) (range_with_len 0 (length begin))).0) none
      ∙ filled_all s spec align times begin bn kn kfs ns fs known columns shown fills each whole time_col times_are
    where
      none : replicate (length kfs) (replicate (length fills) cell.Null) ≡ map (λ k. nulls spec.group.aggs) (keys_of spec.group.keys (rows_in s))
      none =
          ap (replicate (length kfs)) (constant spec.group.aggs cell.Null (length fills) (sym (fills_sized spec fills fit each)))
          ∙ constant (keys_of spec.group.keys (rows_in s)) (nulls spec.group.aggs) (length kfs) (keys_count s spec align times begin bn kn kfs ns fs known columns shown time_col times_are)
