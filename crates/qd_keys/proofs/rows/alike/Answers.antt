use Rattle.std.proofs.Common.{◌≡◌, ◌+◌, ◌∙◌, ℕ, ap, arith, length}
use Rattle.std.specs.Prelude.{replicate}
use Rattle.std.proofs.lemmas.List.{length-replicate}
use Rattle.qd_rows.specs.Sets.{rows_in}
use Rattle.qd_group.proofs.Assembly.{length_rows}
use Rattle.qd_keys.proofs.KeyLemmas.{no_keys}
use Rattle.qd_keys.proofs.rows.alike.Goals as goal

pub returns-in_ok-from_elem-in-Some : goal.returns-in_ok-from_elem-in-Some
returns-in_ok-from_elem-in-Some g c =
    let first = c.args.first.now in
    let second = c.args.second.now in
    let whole : c.in-Some.count ≡ length c.args.first.now.places + length c.args.second.now.places = omega arith in
    let zeros = c.in_ok-from_elem-in-Some.ensures.items_if_clones_equal (λ y e. e) ∙ ap (λ (k : ℕ). replicate k 0) whole in
    record {
      tell = no_keys (rows_in first) (rows_in second) (length first.places) (length second.places) (length_rows first) (length_rows second) c.in_ok-from_elem-in-Some.field-0.items zeros
          (ap length zeros ∙ length-replicate (length first.places + length second.places) 0);
    }
