use Rattle.std.proofs.Common.{◌≡◌, ◌<◌, ◌∙◌, ◌++◌, ◌∷◌, [], ℕ, List, length, get_or, map, take, ap, refl, sym, subst, arith, All}
use Rattle.std.specs.List.{flat_map, zip}
use Rattle.std.proofs.lemmas.List.{map-append}
use Rattle.std.proofs.lemmas.List.Elements.{All-append, All-cons, All-nil}
use Rattle.std.proofs.lemmas.Slice.Zip.{get_or-zip, length-zip}
use Rattle.qd_base.specs.declared.cell.Cell.{Cell}
use Rattle.qd_base.specs.declared.schema.ColType.TheVariants as kind
use Rattle.qd_sql_ast.specs.declared.tree.Lit.{Lit}
use Rattle.qd_meaning.specs.Refusals.{least}
use Rattle.qd_meaning.specs.Inserting.{Target, literal_faults}
use Rattle.qd_writes.specs.declared.literal.Lent.{Lent}
use Rattle.qd_writes.specs.Literals.{lent_cell, IsFit}
use Rattle.qd_writes.specs.Placing.{taken_cell, cells_of}
use Rattle.qd_writes.proofs.JudgeLemmas.{flat_more, flat_all}
use Rattle.qd_writes.proofs.PlaceLemmas.{cells_more, cells_all}
use Rattle.qd_writes.proofs.tuple.judged_literals.Goals as goal

pub loop-place-preserved : goal.loop-place-preserved
loop-place-preserved c =
    let ts : List Target = c.args.targets.now in
    let ls : List Lit = c.args.lits.now in
    let i : ℕ = c.loop-place.place in
    let l : Lit = c.index-lits-place.result in
    let t : Target = get_or ts i (0, kind.Long) in
    let size = length-zip ts ls in
    let end = c.min-count.ensures in
    let low = c.loop-place-test.true in
    let lt : i < length (zip ts ls) = omega arith in
    let first : i < length ts = omega arith in
    let second : i < length ls = omega arith in
    let before : List Lent = c.loop-place.views.items in
    let view : Lent = c.judged_literal-fault.result.0 in
    let more : map lent_cell c.push.new.self.items ≡ map lent_cell before ++ lent_cell view ∷ [] = ap (map lent_cell) c.in_ok-push.ensures.items ∙ map-append lent_cell before (view ∷ []) in
    let one : lent_cell view ≡ taken_cell (t, get_or ls i l) = c.judged_literal-fault.ensures.cell ∙ ap (λ (x : Lit). taken_cell (t, x)) c.index-lits-place.is in
    record {
      found =
          c.both-found.ensures.least (flat_map (literal_faults c.args.time_col) (take i (zip ts ls))) (literal_faults c.args.time_col (get_or (zip ts ls) i ((0, kind.Long), l))) c.loop-place.invariant.found
          (c.judged_literal-fault.ensures.least c.args.time_col t.0 refl
          ∙ ap (λ (x : Lit). least (literal_faults c.args.time_col (t, x))) c.index-lits-place.is
          ∙ ap (λ (x : Target × Lit). least (literal_faults c.args.time_col x)) (sym (get_or-zip ts ls i ((0, kind.Long), l) first second)))
          ∙ ap least (flat_more (literal_faults c.args.time_col) (zip ts ls) i ((0, kind.Long), l) lt);
      cells =
          more
          ∙ ap (λ (xs : List Cell). xs ++ lent_cell view ∷ []) c.loop-place.invariant.cells
          ∙ ap (λ (x : Cell). take i (cells_of ts ls) ++ x ∷ []) one
          ∙ cells_more ts ls i (0, kind.Long) l first second;
      fit =
          subst (All IsFit) (sym more)
          (All-append IsFit (map lent_cell before) (lent_cell view ∷ []) c.loop-place.invariant.fit (All-cons IsFit (lent_cell view) [] c.judged_literal-fault.ensures.fit (All-nil IsFit)));
    }

pub returns : goal.returns
returns c =
    let ts : List Target = c.args.targets.now in
    let ls : List Lit = c.args.lits.now in
    let size = length-zip ts ls in
    let end = c.min-count.ensures in
    let high = c.loop-place-test.false in
    let most = c.loop-place.auto.place-end in
    record {
      least = c.loop-place.invariant.found ∙ ap least (flat_all (literal_faults c.args.time_col) (zip ts ls) c.loop-place.place (omega arith));
      cells = c.loop-place.invariant.cells ∙ cells_all ts ls c.loop-place.place (omega arith);
      fit = c.loop-place.invariant.fit;
    }
