use Rattle.std.proofs.Common.{◌≡◌, ◌∙◌, ap, sym, subst, ◌++◌, ◌∷◌, [], ◌+◌, ◌*◌, List, ℕ, arith, length, length-append}
use Rattle.qd_base.specs.declared.cell.Cell.{Cell}
use Rattle.qd_base.specs.declared.cell.Cell.TheVariants as cell
use Rattle.qd_column.specs.Texts.{cells_from, Tile}
use Rattle.qd_column.proofs.TextLemmas.{text_pushed}
use Rattle.qd_column.proofs.texts.Texts.push_text.Goals as goal

marks : (c : goal.After-push_reserved) → c.push_reserved.new.self.items ≡ c.self.inside.marks.items ++ (2 * c.len-end.result) ∷ []
marks c = c.push_reserved.ensures.items ∙ ap (λ l. l ++ (2 * c.len-end.result) ∷ []) c.reserve.ensures.items

bytes : (c : goal.After-push_reserved) → c.extend_from_slice.new.self.items ≡ c.self.inside.bytes.items ++ c.args.text.now
bytes c = c.in_ok-extend_from_slice.ensures.items

end : (c : goal.After-push_reserved) → 2 * c.len-end.result ≡ 2 * (length c.self.inside.bytes.items + length c.args.text.now)
end c = omega (arith, c.len-end.ensures, c.extend_from_slice.new.self.ok.0, ap length (bytes c), length-append c.self.inside.bytes.items c.args.text.now)

pub invariant_of-self-2 : goal.invariant_of-self-2
invariant_of-self-2 c =
    let pushed = text_pushed c.self.inside.bytes.items c.args.text.now c.self.inside.marks.items (2 * c.len-end.result) c.self.invariant (end c) c.requires in
    subst (λ (ms : List ℕ). Tile 0 ms (length c.extend_from_slice.new.self.items)) (sym (marks c)) (subst (λ (bs : List ℕ). Tile 0 (c.self.inside.marks.items ++ (2 * c.len-end.result) ∷ []) (length bs)) (sym (bytes c)) pushed.1)

pub returns-clause-ok : goal.returns-clause-ok
returns-clause-ok c =
    let pushed = text_pushed c.self.inside.bytes.items c.args.text.now c.self.inside.marks.items (2 * c.len-end.result) c.self.invariant (end c) c.requires in
    ap (λ ms. cells_from c.extend_from_slice.new.self.items 0 ms) (marks c) ∙ ap (λ bs. cells_from bs 0 (c.self.inside.marks.items ++ (2 * c.len-end.result) ∷ [])) (bytes c) ∙ pushed.0 ∙ ap (λ l. l ++ cell.Text c.args.text.now ∷ []) c.self.view_is
