use Rattle.std.proofs.Common.{◌≡◌, ℕ, List, arith, length, subst}
use Rattle.qd_group.specs.Grouping.{same_numbers}
use Rattle.qd_keys.specs.Keys.{Tells}
use Rattle.qd_keys.proofs.KeyLemmas.{told_further}
use Rattle.qd_keys.proofs.rows.further_apart.Goals as goal

pub returns : goal.returns
returns c =
    let a = c.args.numbers.now.numbers.items in
    let b = c.args.further.now.numbers.items in
    let ns = c.in_ok-groups.groups.numbers.items in
    let fs = c.in_ok-groups.groups.firsts.items in
    let same : length c.in_ok-groups.groups.firsts.items ≡ c.len.result = omega arith in
    record {
      tell = subst (λ (bound : ℕ). Tells (same_numbers a b) (length a) bound ns) same
          (subst (λ (l : List ℕ). Tells (same_numbers l b) (length l) (length fs) ns) c.as_slice.ensures.value
          (subst (λ (l : List ℕ). Tells (same_numbers c.as_slice.result.now l) (length c.as_slice.result.now) (length fs) ns) c.as_slice-2.ensures.value
          (told_further c.as_slice.result.now c.as_slice-2.result.now ns fs c.in_ok-groups.ensures.groups)));
    }
