use Rattle.std.proofs.Common.{◌≡◌, ◌∙◌, ap, sym, length, arith}
use Rattle.qd_column.proofs.TextLemmas.{length-cells_from}
use Rattle.qd_column.proofs.texts.Texts.len.Goals as goal

pub returns : goal.returns
returns c =
    let size : length c.args.self.now ≡ length c.self.inside.marks.items = ap length (sym c.self.view_is) ∙ length-cells_from c.self.inside.bytes.items 0 c.self.inside.marks.items in
    record { count = omega (arith, size, c.len.ensures, c.self.inside.marks.ok.0) }
