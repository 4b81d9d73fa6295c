use Rattle.std.proofs.Common.{◌≡◌, ◌<◌, ◌≤◌, ◌∙◌, get_or, length, sym, ap, not, refl, [], arith}
use Rattle.std.proofs.lemmas.Option.{get_or_from_slice_get}
use Rattle.qd_base.specs.declared.schema.Col.{Col}
use Rattle.qd_base.specs.declared.schema.ColType.TheVariants as kind
use Rattle.qd_ilp.specs.Transaction.{suits}
use Rattle.qd_ilp.specs.View.{item_of}
use Rattle.qd_lines.proofs.DraftLemmas.{clash_found, clash_behind, clash_nowhere, eqb_apart, eqb_same}
use Rattle.qd_lines.proofs.draft.clashes.Goals as goal

pub returns-then-place-columns : goal.returns-then-place-columns
returns-then-place-columns c =
    let cols = c.args.columns.cols.now in
    let place = c.in-Some.place in
    let d : Col = c.get.result.now in
    let at : get_or cols place d ≡ d = get_or_from_slice_get cols place d d c.get.ensures.item in
    let lt : place < length cols = omega (arith, c.if-place-len.true, c.len.ensures.count) in
    let found = clash_found cols c.args.columns.time c.requires.usable (item_of c.args.item) c.requires.place.0 place d (sym c.requires.place.1 ∙ c.in-Some.is) lt in
    record { clashes = ap not c.suits.ensures.suits ∙ ap (λ (x : Col). not (suits x.kind (item_of c.args.item).value)) (sym at) ∙ sym (found ∙ rw (eqb_apart place c.args.columns.time c.if-place-columns.true) refl) }

pub returns-else-place-columns : goal.returns-else-place-columns
returns-else-place-columns c =
    let cols = c.args.columns.cols.now in
    let place = c.in-Some.place in
    let lt : place < length cols = omega (arith, c.if-place-len.true, c.len.ensures.count) in
    let found = clash_found cols c.args.columns.time c.requires.usable (item_of c.args.item) c.requires.place.0 place (record { name = []; kind = kind.Long }) (sym c.requires.place.1 ∙ c.in-Some.is) lt in
    let same = eqb_same place c.args.columns.time c.if-place-columns.false in
    record { clashes = ap not same ∙ sym (found ∙ rw same refl) }

pub returns-in_default : goal.returns-in_default
returns-in_default c =
    let cols = c.args.columns.cols.now in
    let far : length cols ≤ c.in-Some.place = omega (arith, c.if-place-len.false, c.len.ensures.count) in
    record { clashes = sym (clash_behind cols c.args.columns.time c.requires.usable (item_of c.args.item) c.requires.place.0 c.in-Some.place (sym c.requires.place.1 ∙ c.in-Some.is) far) }

pub returns-in_default-2 : goal.returns-in_default-2
returns-in_default-2 c = record { clashes = sym (clash_nowhere c.args.columns.cols.now c.args.columns.time c.requires.usable (item_of c.args.item) c.requires.place.0 (sym c.requires.place.1 ∙ c.in_default.is)) }
