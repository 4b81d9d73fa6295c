use Rattle.std.proofs.Common.{◌≡◌, ◌∙◌, ◌++◌, ◌∷◌, [], ◌<◌, ◌≤◌, ap, sym, get_or, arith, length, append_assoc, slice_range}
use Rattle.qd_base.specs.declared.cell.Cell.TheVariants as cell
use Rattle.qd_column.proofs.ListLemmas.{part_more}
use Rattle.qd_column.proofs.texts.Texts.push_part.Goals as goal

pub loop-i-preserved : goal.loop-i-preserved
loop-i-preserved c =
    let pushed : c.push_row.new.self ≡ c.loop-i.self ++ get_or c.args.other.now c.loop-i.i cell.Null ∷ [] = c.in_ok-push_row.ensures.ok in
    pushed ∙ ap (λ l. l ++ get_or c.args.other.now c.loop-i.i cell.Null ∷ []) c.loop-i.invariant ∙ append_assoc c.args.self.now (slice_range c.args.other.now c.args.from c.loop-i.i) (get_or c.args.other.now c.loop-i.i cell.Null ∷ [])
    ∙ ap (λ l. c.args.self.now ++ l) (sym (part_more c.args.other.now c.args.from c.loop-i.i cell.Null (omega arith) (omega arith)))
