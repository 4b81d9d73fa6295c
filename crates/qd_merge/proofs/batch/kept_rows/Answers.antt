use Rattle.std.proofs.Common.{◌≡◌, ◌∙◌, ◌++◌, ◌∷◌, [], Bool, cond, ap, ap₂, sym, append-nil, get_or, take}
use Rattle.std.proofs.lemmas.List.{get_or_read}
use Rattle.qd_base.specs.Rows.{Row}
use Rattle.qd_merge.specs.Classes.{kept}
use Rattle.qd_merge.proofs.Kept.{kept_take}
use Rattle.qd_merge.proofs.batch.kept_rows.Goals as goal
use Rattle.qd_merge.proofs.batch.kept_rows.Goals.{then-not-gone-place+in_ok-copy+in_ok-push, else-not-gone-place}

pub loop-place-preserved : goal.loop-place-preserved
loop-place-preserved c =
    let gone = c.args.gone.now in
    let rows = c.args.rows.now in
    let i = c.loop-place.place in
    let so_far = kept (take i gone) (take i rows) in
    let next = kept_take gone rows i c.requires c.loop-place-test.true in
    elim c.if-not-gone-place.branch [
      | then-not-gone-place+in_ok-copy+in_ok-push w ↦
          let row : w.index-rows-place.result ≡ get_or rows i [] = get_or_read rows i w.index-rows-place.result c.loop-place-test.true w.index-rows-place.is [] in
          w.stay-is ∙ w.in_ok-push.ensures.ok ∙ ap₂ (λ l (r : Row). l ++ r ∷ []) c.loop-place.invariant (w.in_ok-copy.ensures.same ∙ row) ∙ sym (next ∙ ap (λ (b : Bool). so_far ++ cond b [] (get_or rows i [] ∷ [])) w.if-not-gone-place.true)
      | else-not-gone-place w ↦ w.stay-is ∙ c.loop-place.invariant ∙ sym (next ∙ ap (λ (b : Bool). so_far ++ cond b [] (get_or rows i [] ∷ [])) w.if-not-gone-place.false ∙ append-nil so_far)
    ]
