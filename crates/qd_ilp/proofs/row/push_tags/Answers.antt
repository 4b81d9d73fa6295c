use Rattle.std.proofs.Common.{◌≡◌, ◌∙◌, [], List, Option, Some, drop, subst, sym, ℕ}
use Rattle.std.specs.Prelude.{IfOk, IfErr}
use Rattle.qd_ilp.specs.Cut.{Fails}
use Rattle.qd_ilp.specs.Line.{Item}
use Rattle.qd_ilp.specs.Kept.{PutsItems}
use Rattle.qd_ilp.proofs.Kepts.{puts_none}
use Rattle.qd_ilp.proofs.Rows.{tags_none, tags_behind}
use Rattle.qd_ilp.proofs.row.push_tags.Goals as goal

pub returns-then-is_at-clause-tags : goal.returns-then-is_at-clause-tags
returns-then-is_at-clause-tags c =
    let P : Option (List Item × List ℕ) → Type 0 = λ o. IfOk c.push_items.result (λ end. (tags : List Item) × (o ≡ Some (tags, drop end c.args.text.now)) × PutsItems c.args.bytes.now.items c.push_items.new.bytes.items c.args.pairs.now.items c.push_items.new.pairs.items tags) in
    subst P (sym (tags_behind c.args.text.now c.args.at (sym c.is_at.ensures.begins ∙ c.if-is_at.true))) c.push_items.ensures.items

pub returns-then-is_at-clause-fault : goal.returns-then-is_at-clause-fault
returns-then-is_at-clause-fault c =
    let P : Option (List Item × List ℕ) → Type 0 = λ o. IfErr c.push_items.result (λ e. Fails e o) in
    subst P (sym (tags_behind c.args.text.now c.args.at (sym c.is_at.ensures.begins ∙ c.if-is_at.true))) c.push_items.ensures.fault

pub returns-else-is_at-clause-tags : goal.returns-else-is_at-clause-tags
returns-else-is_at-clause-tags c = ([], tags_none (drop c.args.at c.args.text.now) (sym c.is_at.ensures.begins ∙ c.if-is_at.false), puts_none c.args.bytes.now.items c.args.pairs.now.items)
