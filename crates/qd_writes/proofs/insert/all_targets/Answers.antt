use Rattle.std.proofs.Common.{◌∙◌, ◌++◌, ◌∷◌, [], List, ℕ, None, get_or, ap, arith}
use Rattle.qd_base.specs.declared.schema.Col.{Col}
use Rattle.qd_meaning.specs.Inserting.{Target, targets_of}
use Rattle.qd_writes.proofs.TableLemmas.{all_more, all_whole}
use Rattle.qd_writes.proofs.insert.all_targets.Goals as goal

pub loop-place-preserved : goal.loop-place-preserved
loop-place-preserved c =
    let cols : List Col = c.as_slice-cols.result.now in
    let i : ℕ = c.loop-place.place in
    let x : Col = c.index-cols-place.result in
    c.in_ok-push.ensures.items
    ∙ ap (λ (l : List Target). l ++ (i, (get_or cols i x).kind) ∷ []) c.loop-place.invariant
    ∙ all_more cols i x c.loop-place-test.true

pub returns : goal.returns
returns c = record {
  targets =
      c.loop-place.invariant
      ∙ all_whole c.as_slice-cols.result.now c.loop-place.place (let a = c.loop-place.auto.place-end in let b = c.loop-place-test.false in omega arith)
      ∙ ap (λ (cols : List Col). targets_of cols None) c.as_slice-cols.ensures.items;
}
