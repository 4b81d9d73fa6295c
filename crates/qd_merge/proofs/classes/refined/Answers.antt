use Rattle.std.proofs.Common.{◌∙◌, ◌++◌, ◌∷◌, [], ℕ, List, ap, sym, map, get_or, arith}
use Rattle.std.specs.List.{range_with_len}
use Rattle.std.proofs.lemmas.List.FromFn.{map-range_with_len_more}
use Rattle.std.proofs.lemmas.Result.{IfOk-weaker}
use Rattle.qd_merge.proofs.ClassLemmas.{pairs_refine}
use Rattle.qd_merge.proofs.classes.refined.Goals as goal

pub loop-place-preserved : goal.loop-place-preserved
loop-place-preserved c =
    let make : ℕ → ℕ × ℕ = λ i. (get_or c.args.classes.now i 0, get_or c.args.numbers.now i 0) in
    c.in_ok-push.ensures.items ∙ ap (λ (l : List (ℕ × ℕ)). l ++ make c.loop-place.place ∷ []) c.loop-place.invariant ∙ sym (map-range_with_len_more make 0 c.loop-place.place c.loop-place.place (omega arith))

pub returns : goal.returns
returns c = record { refined = IfOk-weaker c.numbered.result _ _ (λ v h. pairs_refine c.args.classes.now c.args.numbers.now c.as_slice.result.now v.items (c.as_slice.ensures.value ∙ c.loop-place.invariant ∙ ap (λ n. map (λ i. (get_or c.args.classes.now i 0, get_or c.args.numbers.now i 0)) (range_with_len 0 n)) (omega arith)) h) c.numbered.ensures.numbers }
