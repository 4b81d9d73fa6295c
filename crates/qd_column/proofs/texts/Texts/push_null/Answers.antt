use Rattle.std.proofs.Common.{◌≡◌, ◌∙◌, ap, sym, subst, ◌++◌, ◌∷◌, [], ◌+◌, ◌*◌, List, ℕ, arith, length}
use Rattle.qd_base.specs.declared.cell.Cell.{Cell}
use Rattle.qd_base.specs.declared.cell.Cell.TheVariants as cell
use Rattle.qd_column.specs.Texts.{cells_from, Tile}
use Rattle.qd_column.proofs.TextLemmas.{null_pushed}
use Rattle.qd_column.proofs.texts.Texts.push_null.Goals as goal

marks : (c : goal.In_ok-push) → c.push.new.self.items ≡ c.self.inside.marks.items ++ (2 * c.len-end.result + 1) ∷ []
marks c = c.in_ok-push.ensures.items

end : (c : goal.In_ok-push) → 2 * c.len-end.result + 1 ≡ 2 * length c.self.inside.bytes.items + 1
end c = omega (arith, c.len-end.ensures, c.self.inside.bytes.ok.0)

pub invariant_of-self-2 : goal.invariant_of-self-2
invariant_of-self-2 c = subst (λ (ms : List ℕ). Tile 0 ms (length c.self.inside.bytes.items)) (sym (marks c)) (null_pushed c.self.inside.bytes.items c.self.inside.marks.items (2 * c.len-end.result + 1) c.self.invariant (end c)).1

pub returns-clause-ok : goal.returns-clause-ok
returns-clause-ok c = ap (cells_from c.self.inside.bytes.items 0) (marks c) ∙ (null_pushed c.self.inside.bytes.items c.self.inside.marks.items (2 * c.len-end.result + 1) c.self.invariant (end c)).0 ∙ ap (λ l. l ++ cell.Null ∷ []) c.self.view_is
