use Rattle.std.proofs.Common.{◌≡◌, ◌∙◌, ◌++◌, ◌∷◌, [], ℕ, List, Option, None, get_or, ap, refl, sym, subst, arith, All}
use Rattle.std.proofs.lemmas.List.Elements.{All-append, All-cons, All-nil}
use Rattle.qd_base.specs.declared.cell.Cell.{Cell}
use Rattle.qd_base.specs.declared.schema.Col.{Col}
use Rattle.qd_writes.specs.Literals.{IsFit}
use Rattle.qd_writes.specs.Placing.{cell_in, view_cell}
use Rattle.qd_writes.proofs.PlaceLemmas.{placed_more, placed_all, view-same}
use Rattle.qd_writes.proofs.rows.row_of.Goals as goal

pub loop-at-preserved : goal.loop-at-preserved
loop-at-preserved c =
    let cols : List Col = c.args.cols.now in
    let i : ℕ = c.loop-at.at in
    let col : Col = c.index-cols-at.result in
    let x : Cell = c.in_ok-owned.field-0 in
    let place : Option ℕ = get_or c.args.places.now i None in
    record {
      row = λ targets lits are views.
          let same : x ≡ cell_in (get_or cols i col) place targets lits =
          c.in_ok-owned.ensures.cell
          ∙ c.view_of-view.ensures.cell
          ∙ ap (view_cell col place) views
          ∙ view-same col place targets lits
          ∙ ap (λ (d : Col). cell_in d place targets lits) c.index-cols-at.is in
          c.in_ok-push.ensures.ok
          ∙ ap (λ (row : List Cell). row ++ x ∷ []) (c.loop-at.invariant.row targets lits are views)
          ∙ placed_more cols targets lits c.args.places.now i col x place c.loop-at-test.true are refl same;
      fit =
          subst (All IsFit) (sym c.in_ok-push.ensures.ok)
          (All-append IsFit c.loop-at.row (x ∷ []) c.loop-at.invariant.fit (All-cons IsFit x [] (subst IsFit (sym c.in_ok-owned.ensures.cell) c.view_of-view.ensures.fit) (All-nil IsFit)));
    }

pub returns-clause-row : goal.returns-clause-row
returns-clause-row c = λ targets lits are views.
    let low = c.loop-at-test.false in
    let high = c.loop-at.auto.at-end in
    c.loop-at.invariant.row targets lits are views ∙ placed_all c.args.cols.now targets lits c.loop-at.at (omega arith)
