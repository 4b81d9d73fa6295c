use Rattle.std.proofs.Common.{◌≡◌, ◌∙◌, ◌∷◌, ◌++◌, [], List, ℕ, ap, length, map, subst, sym, take, get_or, arith}
use Rattle.std.proofs.lemmas.List.{length-map, take_more, take_all}
use Rattle.qd_base.specs.Rows.{cell_at}
use Rattle.qd_merge.specs.Classes.{AreClasses, cell_of}
use Rattle.qd_merge.specs.Equals.{rows_in}
use Rattle.qd_merge.proofs.ClassLemmas.{no_classes}
use Rattle.qd_merge.proofs.group.classes_of_group.Goals as goal

pub loop-key-init : goal.loop-key-init
loop-key-init c = no_classes (rows_in c.args.group.now) c.in_ok-classes.classes.items c.in_ok-classes.ensures.classes

pub classes_apart-requires : goal.classes_apart-requires
classes_apart-requires c =
    let rows = rows_in c.args.group.now in
    let shown = ap length c.in_ok-cells.ensures.cells in
    omega (arith, ap length c.as_slice.ensures.value, ap length c.as_slice-in-loop-key.ensures.value, shown, length-map c.in_ok-cells.cells.items cell_of, length-map rows (λ r. cell_at r (get_or c.as_slice-key-items.result.now c.loop-key.key-index 0)), c.loop-key.invariant.count)

pub loop-key-preserved : goal.loop-key-preserved
loop-key-preserved c =
    let i = c.loop-key.key-index in
    let keys = c.as_slice-key-items.result.now in
    let rows = rows_in c.args.group.now in
    let before = subst (AreClasses (take i keys) rows) (sym c.as_slice.ensures.value) c.loop-key.invariant in
    let cells = ap (map cell_of) c.as_slice-in-loop-key.ensures.value ∙ c.in_ok-cells.ensures.cells in
    subst (λ (ks : List ℕ). AreClasses ks rows c.in_ok-classes-2.classes.items) (sym (take_more keys i 0 c.loop-key-test.true)) (c.in_ok-classes-2.ensures.apart (take i keys) (get_or keys i 0) rows before cells)

pub returns : goal.returns
returns c =
    let all = take_all c.loop-key.key-index c.as_slice-key-items.result.now c.loop-key-test.false in
    record { classes = subst (λ (ks : List ℕ). AreClasses ks (rows_in c.args.group.now) c.loop-key.classes.items) (all ∙ c.as_slice-key-items.ensures.items) c.loop-key.invariant }
