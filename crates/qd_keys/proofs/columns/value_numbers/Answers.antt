use Rattle.std.proofs.Common.{◌≡◌, ◌+◌, ◌++◌, ◌∙◌, ℕ, ap, arith, length, map, subst}
use Rattle.std.proofs.lemmas.List.{length-map}
use Rattle.qd_rows.specs.Sets.{rows_in}
use Rattle.qd_value.specs.Value.{value}
use Rattle.qd_group.proofs.Assembly.{length_rows}
use Rattle.qd_keys.specs.Keys.{same_in, Tells}
use Rattle.qd_keys.proofs.KeyLemmas.{by_cells}
use Rattle.qd_keys.proofs.columns.value_numbers.Goals as goal

pub returns : goal.returns
returns g c =
    let first = c.args.first.now in
    let second = c.args.second.now in
    let xs = map (value c.args.of_first.now) (rows_in first) in
    let ys = map (value c.args.of_second.now) (rows_in second) in
    let same : length c.in_ok-groups.groups.firsts.items ≡ c.len.result = omega arith in
    record {
      tell = subst (λ (b : ℕ). Tells (same_in (xs ++ ys)) (length first.places + length second.places) b c.in_ok-groups.groups.numbers.items) same
          (by_cells xs ys c.in_ok-keys.keys.items c.in_ok-more.more.items c.extend_from_slice.new.self.items c.as_slice-2.result.now (length first.places) (length second.places) c.in_ok-groups.groups.numbers.items c.in_ok-groups.groups.firsts.items
          (length-map (rows_in first) (value c.args.of_first.now) ∙ length_rows first) (length-map (rows_in second) (value c.args.of_second.now) ∙ length_rows second) c.in_ok-keys.ensures.keys c.in_ok-more.ensures.keys
          (c.in_ok-extend_from_slice.ensures.items ∙ ap (λ l. c.in_ok-keys.keys.items ++ l) c.as_slice.ensures.value) c.as_slice-2.ensures.value c.in_ok-groups.ensures.groups);
    }
