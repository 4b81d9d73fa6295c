use Rattle.std.proofs.Common.{◌≡◌, ◌<◌, get_or, length, sym, ap, ◌∙◌, arith}
use Rattle.std.proofs.lemmas.Option.{get_or_from_slice_get}
use Rattle.qd_base.specs.declared.schema.Col.{Col}
use Rattle.qd_base.specs.Schemas.{same_name}
use Rattle.qd_lines.proofs.MarkLemmas.{place_is}
use Rattle.qd_lines.proofs.draft.is_at.Goals as goal

pub returns-then-place-len : goal.returns-then-place-len
returns-then-place-len c =
    let cols = c.args.columns.cols.now in
    let name = c.args.name.now in
    let d : Col = c.get.result.now in
    let at : get_or cols c.args.place d ≡ d = get_or_from_slice_get cols c.args.place d d c.get.ensures.item in
    let lt : c.args.place < length cols = omega (arith, c.if-place-len.true, c.len.ensures.count) in
    record { found = λ e. place_is cols c.requires.usable.distinct c.args.place d name lt (ap (λ (x : Col). same_name x.name name) at ∙ ap (λ t. same_name t name) (sym c.bytes.ensures.same) ∙ sym c.is_name.ensures.same ∙ e) }
