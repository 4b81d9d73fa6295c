use Rattle.std.proofs.Common.{◌∙◌, ◌++◌, ◌∷◌, [], ℕ, List, ap, sym, map, get_or, arith}
use Rattle.std.specs.List.{range_with_len}
use Rattle.std.proofs.lemmas.List.FromFn.{map-range_with_len_more}
use Rattle.std.proofs.lemmas.Result.{IfOk-weaker}
use Rattle.qd_group.proofs.Assembly.{pairs_grouped}
use Rattle.qd_group.proofs.classes.grouped_by_pairs.Goals as goal

pub loop-i-preserved : goal.loop-i-preserved
loop-i-preserved c =
    let make : ℕ → ℕ × ℕ = λ i. (get_or c.args.numbers.now i 0, get_or c.args.further.now i 0) in
    c.in_ok-push.ensures.items ∙ ap (λ (l : List (ℕ × ℕ)). l ++ make c.loop-i.i ∷ []) c.loop-i.invariant ∙ sym (map-range_with_len_more make 0 c.loop-i.i c.loop-i.i (omega arith))

pub returns : goal.returns
returns c =
    let make : ℕ → ℕ × ℕ = λ i. (get_or c.args.numbers.now i 0, get_or c.args.further.now i 0) in
    record { groups = IfOk-weaker c.numbered.result _ _ (λ v h. pairs_grouped c.args.numbers.now c.args.further.now c.as_slice.result.now v.numbers.items v.firsts.items (c.as_slice.ensures.value ∙ c.loop-i.invariant ∙ ap (λ n. map make (range_with_len 0 n)) (omega arith)) h) c.numbered.ensures.groups }
