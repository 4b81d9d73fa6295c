use Rattle.std.proofs.Common.{◌≡◌, ◌++◌, ◌∷◌, [], ap, sym, subst, get_or, OnOk, List, length, ◌≤◌}
use Rattle.qd_base.specs.declared.cell.Cell.{Cell}
use Rattle.qd_base.specs.declared.cell.Cell.TheVariants as cell
use Rattle.qd_column.proofs.ListLemmas.{got}
use Rattle.qd_column.proofs.texts.Texts.push_row.Goals as goal

pub push_text-requires : goal.push_text-requires
push_text-requires c = c.in-Some.ensures.short

pub returns-in-None-clause-ok : goal.returns-in-None-clause-ok
returns-in-None-clause-ok c =
    let e = got c.args.other.now c.args.i cell.Null cell.Null c.requires c.in-None.ensures.text in
    subst (λ (x : Cell). OnOk c.push_null.result (c.push_null.new.self ≡ c.args.self.now ++ x ∷ [])) (sym e) c.push_null.ensures.ok

pub returns-in-Some-clause-ok : goal.returns-in-Some-clause-ok
returns-in-Some-clause-ok c =
    let e = got c.args.other.now c.args.i cell.Null (cell.Text c.in-Some.text.now) c.requires c.in-Some.ensures.text in
    subst (λ (x : Cell). OnOk c.push_text.result (c.push_text.new.self ≡ c.args.self.now ++ x ∷ [])) (sym e) c.push_text.ensures.ok
