-- What the numbers of a set's rows owe the functions that they are handed to.
use Rattle.std.proofs.Common.{◌≡◌, ℕ, ◌<◌, Bool, List, length, map, get_or, subst, arith, All}
use Rattle.std.proofs.lemmas.List.{get_or_default}
use Rattle.qd_group.specs.Grouping.{same_numbers, same_rows, AreGroups}
use Rattle.qd_meaning.specs.declared.parts.SampleSpec.{SampleSpec}
use Rattle.qd_rows.specs.Sets.{ResultRows}
use Rattle.qd_time.specs.declared.buckets.Align.{Align}
use Rattle.qd_time.specs.Buckets.{IsStride}
use Rattle.qd_value.specs.declared.bound.Bound.{Bound}
use Rattle.qd_sample.specs.Starts.{AreNumbers, AreStarts, AreTimes}
use Rattle.qd_sample.proofs.Settings.{firsts_below, numbers_below, taken_below}
use Rattle.qd_sample.proofs.Whole.{Known}

-- a bucket's number and a key's number for each row
pub both_sized : (times begin bn kn kfs : List ℕ) (n : ℕ) (same : ℕ → ℕ → Bool) → length times ≡ n → AreNumbers times begin bn → AreGroups same n kn kfs → length bn ≡ length kn
both_sized times begin bn kn kfs n same count numbers keyed = omega (arith, count, numbers.count, keyed.count)

-- what is known of numbers that were lent to functions on the way
pub known_from : (s : ResultRows) (spec : SampleSpec) (align : Align) (times begin bn kn kfs ns fs lent_begin lent_bn lent_kn : List ℕ) (lent_keys : List Bound)
    → IsStride spec.stride → AreTimes align times → 0 < length times → length times ≡ length s.places → AreStarts spec.stride align times begin
    → lent_begin ≡ begin → AreNumbers times lent_begin bn → lent_keys ≡ spec.group.keys → AreGroups (same_rows lent_keys s) (length s.places) kn kfs
    → lent_bn ≡ bn → lent_kn ≡ kn → AreGroups (same_numbers lent_bn lent_kn) (length lent_bn) ns fs → Known s spec align times begin bn kn kfs ns fs
known_from s spec align times begin bn kn kfs ns fs lent_begin lent_bn lent_kn lent_keys strides are some count all begin_is numbers keys_are keyed bn_is kn_is paired = record {
  strides = strides;
  are = are;
  some = some;
  count = count;
  all = all;
  numbers = subst (λ (l : List ℕ). AreNumbers times l bn) begin_is numbers;
  keyed = subst (λ (l : List Bound). AreGroups (same_rows l s) (length s.places) kn kfs) keys_are keyed;
  paired = subst (λ (l : List ℕ). AreGroups (same_numbers bn l) (length bn) ns fs) kn_is (subst (λ (l : List ℕ). AreGroups (same_numbers l lent_kn) (length l) ns fs) bn_is paired);
}

module _ (s : ResultRows) (spec : SampleSpec) (align : Align) (times begin bn kn kfs ns fs : List ℕ) (known : Known s spec align times begin bn kn kfs ns fs) where
  sized : length bn ≡ length kn
  sized = both_sized times begin bn kn kfs (length s.places) (same_rows spec.group.keys s) known.count known.numbers known.keyed

  numbers_low : All (λ b. b < length begin) bn
  numbers_low = λ k d low.
      let there : k < length times = omega (arith, low, known.numbers.count) in
      subst (λ (b : ℕ). b < length begin) (get_or_default bn k 0 d low) (known.numbers.below k there)

  firsts : All (λ f. f < length bn) fs
  firsts = firsts_below (same_numbers bn kn) (length bn) ns fs known.paired

  pub buckets_low : All (λ b. b < length begin) (map (λ f. get_or bn f 0) fs)
  buckets_low = taken_below bn fs (length begin) numbers_low firsts

  pub keys_low : All (λ k. k < length kfs) (map (λ f. get_or kn f 0) fs)
  keys_low = taken_below kn fs (length kfs) (numbers_below (same_rows spec.group.keys s) (length s.places) kn kfs known.keyed) (subst (λ (n : ℕ). All (λ f. f < n) fs) sized firsts)

  pub groups_sized : length ns ≡ length s.places
  groups_sized = omega (arith, known.paired.count, known.numbers.count, known.count)

  pub groups_low : All (λ m. m < length fs) ns
  groups_low = numbers_below (same_numbers bn kn) (length bn) ns fs known.paired

  pub heads_low : All (λ f. f < length s.places) kfs
  heads_low = firsts_below (same_rows spec.group.keys s) (length s.places) kn kfs known.keyed
