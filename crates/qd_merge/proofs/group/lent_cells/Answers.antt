use Rattle.std.proofs.Common.{◌≡◌, ◌∙◌, ◌++◌, ◌∷◌, ◌<◌, [], ℕ, List, ap, sym, refl, get_or, length, map, slice_range, arith, append-nil, append_assoc}
use Rattle.qd_base.specs.declared.cell.Cell.{Cell}
use Rattle.qd_base.specs.Rows.{Row, cell_at}
use Rattle.qd_column.proofs.ListLemmas.{part_more, part_none}
use Rattle.qd_column.proofs.RunLemmas.{map-append}
use Rattle.qd_merge.specs.Classes.{cell_of}
use Rattle.qd_merge.specs.Equals.{firsts}
use Rattle.qd_merge.specs.Merged.{with_missing}
use Rattle.qd_merge.proofs.Grown.{shown_next, images_more}
use Rattle.qd_merge.proofs.Wide.{map-map}
use Rattle.qd_merge.proofs.group.lent_cells.Goals as goal

pub loop-place-init : goal.loop-place-init
loop-place-init c = ap (map cell_of) c.new-cells.ensures.items ∙ sym (ap (λ (l : List Row). map (λ r. cell_at r c.args.col) (map (with_missing c.args.group.now.batch.now.kinds) l)) (part_none c.args.group.now.block.now.rows c.args.group.now.from))

pub loop-place-preserved : goal.loop-place-preserved
loop-place-preserved c =
    let g = c.args.group.now in
    let i = c.loop-place.place in
    let high : i < length g.block.now.rows = omega (arith, c.requires.within.block) in
    let row : Row = with_missing g.batch.now.kinds (get_or g.block.now.rows i []) in
    let rows : List Row = map (with_missing g.batch.now.kinds) (slice_range g.block.now.rows g.from i) in
    let f : Row → Cell = λ r. cell_at r c.args.col in
    let grown = ap (map f) (images_more (with_missing g.batch.now.kinds) g.block.now.rows g.from i [] (omega arith) high) ∙ map-append f rows (row ∷ []) in
    shown_next cell_of (map f rows) _ c.loop-place.cells.items _ c.lent_wide.result (f row) c.loop-place.invariant c.lent_wide.ensures.cell c.in_ok-push.ensures.items grown

pub loop-place-2-init : goal.loop-place-2-init
loop-place-2-init c =
    let g = c.args.group.now in
    let f : Row → Cell = λ r. cell_at r c.args.col in
    let done : c.loop-place.place ≡ g.to = omega (arith, c.requires.within.ordered) in
    c.loop-place.invariant ∙ ap (λ n. map f (map (with_missing g.batch.now.kinds) (slice_range g.block.now.rows g.from n))) done
    ∙ ap (map f) (sym (append-nil (firsts g)) ∙ ap (λ l. firsts g ++ l) (sym (part_none g.batch.now.rows g.start)))

pub loop-place-2-preserved : goal.loop-place-2-preserved
loop-place-2-preserved c =
    let g = c.args.group.now in
    let i = c.loop-place-2.place in
    let high : i < length g.batch.now.rows = omega (arith, c.requires.within.batch) in
    let row : Row = get_or g.batch.now.rows i [] in
    let rows : List Row = firsts g ++ slice_range g.batch.now.rows g.start i in
    let f : Row → Cell = λ r. cell_at r c.args.col in
    let grown = ap (map f) (ap (λ l. firsts g ++ l) (part_more g.batch.now.rows g.start i [] (omega arith) high) ∙ sym (append_assoc (firsts g) (slice_range g.batch.now.rows g.start i) (row ∷ []))) ∙ map-append f rows (row ∷ []) in
    shown_next cell_of (map f rows) _ c.loop-place-2.cells.items _ c.lent_in.result (f row) c.loop-place-2.invariant c.lent_in.ensures.cell c.in_ok-push-2.ensures.items grown

pub returns : goal.returns
returns c =
    let g = c.args.group.now in
    let done : c.loop-place-2.place ≡ g.end = omega (arith, c.requires.within.ascending) in
    record { cells = c.loop-place-2.invariant ∙ ap (λ n. map (λ r. cell_at r c.args.col) (firsts g ++ slice_range g.batch.now.rows g.start n)) done }

pub lent_wide-requires-clause-there : goal.lent_wide-requires-clause-there
lent_wide-requires-clause-there c = omega (arith, c.requires.within.block)

pub lent_wide-requires-clause-narrow : goal.lent_wide-requires-clause-narrow
lent_wide-requires-clause-narrow c = c.requires.within.narrow

pub lent_in-requires : goal.lent_in-requires
lent_in-requires c = record { there = omega (arith, c.requires.within.batch) }
