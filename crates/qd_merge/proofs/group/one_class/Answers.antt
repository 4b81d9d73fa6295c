use Rattle.std.proofs.Common.{◌≡◌, ◌∙◌, ◌∷◌, ◌++◌, [], ◌+◌, ◌-◌, ℕ, List, ap, length, length-append, length-drop, map, drop, replicate, slice_range, arith}
use Rattle.std.proofs.lemmas.List.{length-map, length-take-le, replicate_more}
use Rattle.qd_base.specs.Rows.{Row}
use Rattle.qd_merge.specs.Equals.{firsts, seconds, rows_in}
use Rattle.qd_merge.specs.Merged.{with_missing}
use Rattle.qd_merge.proofs.group.one_class.Goals as goal

pub loop-init : goal.loop-init
loop-init c = c.in_ok-classes.ensures.items_if_clones_equal (λ y e. e) ∙ ap (λ n. replicate n 0) (omega arith)

pub loop-preserved : goal.loop-preserved
loop-preserved c =
    let g = c.args.group.now in
    let next : ((g.to - g.from) + (c.loop.counter - g.start)) + 1 ≡ (g.to - g.from) + (c.loop.counter + 1 - g.start) = omega (arith, c.loop.auto.counter) in
    c.in_ok-push.ensures.items ∙ ap (λ (l : List ℕ). l ++ 0 ∷ []) c.loop.invariant ∙ replicate_more ((g.to - g.from) + (c.loop.counter - g.start)) 0 ∙ ap (λ n. replicate n 0) next

pub returns : goal.returns
returns c =
    let g = c.args.group.now in
    let part : List Row = slice_range g.block.now.rows g.from g.to in
    let size_first : length part ≡ g.to - g.from = length-take-le (g.to - g.from) (drop g.from g.block.now.rows) (omega (arith, length-drop g.from g.block.now.rows, c.requires.within.block)) in
    let size_second : length (seconds g) ≡ g.end - g.start = length-take-le (g.end - g.start) (drop g.start g.batch.now.rows) (omega (arith, length-drop g.start g.batch.now.rows, c.requires.within.batch)) in
    let size : (g.to - g.from) + (c.loop.counter - g.start) ≡ length (rows_in g) = omega (arith, length-append (firsts g) (seconds g), length-map part (with_missing g.batch.now.kinds), c.requires.within.ascending) in
    record { classes = c.loop.invariant ∙ ap (λ n. replicate n 0) size }
