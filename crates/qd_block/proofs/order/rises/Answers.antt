use Rattle.std.proofs.Common.{Bool, true, false}
use Rattle.std.specs.Bool.{MatchBool, OnTrue, OnFalse}
use Rattle.std.proofs.lemmas.List.Sorted.{non_decreasing_from_is_sorted}
use Rattle.qd_block.proofs.order.rises.Goals as goal

where_true : (b : Bool) (P Q : Type 0) → MatchBool b P Q → OnTrue b P
where_true true P Q h = h
where_true false P Q h = tt

where_false : (b : Bool) (P Q R : Type 0) → (Q → R) → MatchBool b P Q → OnFalse b R
where_false true P Q R f h = tt
where_false false P Q R f h = f h

pub returns : goal.returns
returns c =
    let told = non_decreasing_from_is_sorted c.args.times.now c.is_sorted.result c.is_sorted.ensures.cases in
    record {
      rises = where_true c.is_sorted.result _ _ told;
      falls = where_false c.is_sorted.result _ _ _ (λ q. (q.0, q.1, q.2 0)) told;
    }
