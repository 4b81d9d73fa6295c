use Rattle.std.proofs.Common.{◌∙◌, ◌++◌, ◌∷◌, [], ℕ, List, ap, ap₂, sym, arith, map}
use Rattle.std.proofs.lemmas.List.{map_push}
use Rattle.std.proofs.lemmas.List.FromFn.{map-range_with_len_more}
use Rattle.qd_sample.proofs.groups.no_lists.Goals as goal

pub loop-preserved : goal.loop-preserved
loop-preserved c =
    ap (map (λ v. v.items)) c.in_ok-push.ensures.items
    ∙ map_push (λ v. v.items) c.loop.lists.items c.new.result
    ∙ ap₂ (λ (l : List (List ℕ)) (x : List ℕ). l ++ x ∷ []) c.loop.invariant c.new.ensures.items
    ∙ sym (map-range_with_len_more (λ _. []) 0 c.loop.counter c.loop.counter (omega arith))
