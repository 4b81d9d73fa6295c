use Rattle.std.proofs.Common.{◌≡◌, ◌∙◌, ap, sym, length, arith}
use Rattle.qd_column.proofs.TextLemmas.{length-cells_from}
use Rattle.qd_column.proofs.texts.Texts.text.Goals as goal

pub text_in-requires-clause-row : goal.text_in-requires-clause-row
text_in-requires-clause-row c =
    let size : length c.args.self.now ≡ length c.self.inside.marks.items = ap length (sym c.self.view_is) ∙ length-cells_from c.self.inside.bytes.items 0 c.self.inside.marks.items in
    omega (arith, size, ap length c.as_slice-2.ensures.value, c.requires)
