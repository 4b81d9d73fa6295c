use Rattle.std.proofs.Common.{◌≡◌, drop, [], List, Option, Some, subst, sym}
use Rattle.std.specs.Prelude.{IfOk, IfErr}
use Rattle.qd_ilp.specs.Cut.{Fails}
use Rattle.qd_ilp.specs.Line.{Item, Rest}
use Rattle.qd_ilp.specs.Kept.{PutsItems, moment_in}
use Rattle.qd_ilp.proofs.Kepts.{puts_none}
use Rattle.qd_ilp.proofs.Rows.{rest_tail, rest_fields, rest_of}
use Rattle.qd_ilp.proofs.row.push_rest.Goals as goal

pub returns-in-Some-clause-rest : goal.returns-in-Some-clause-rest
returns-in-Some-clause-rest c = ([], rest_tail (drop c.args.at c.args.text.now) _ _ c.in-Some.ensures.tail, puts_none c.args.bytes.now.items c.args.pairs.now.items)

pub returns-in-None-clause-rest : goal.returns-in-None-clause-rest
returns-in-None-clause-rest c =
    let P : Option Rest → Type 0 = λ o. IfOk c.push_fields.result (λ tail. (fields : List Item) × (o ≡ Some (rest_of fields (moment_in tail.when) (drop tail.next c.args.text.now))) × PutsItems c.args.bytes.now.items c.push_fields.new.bytes.items c.args.pairs.now.items c.push_fields.new.pairs.items fields) in
    subst P (sym (rest_fields (drop c.args.at c.args.text.now) (sym c.in-None.ensures.tail))) c.push_fields.ensures.fields

pub returns-in-None-clause-fault : goal.returns-in-None-clause-fault
returns-in-None-clause-fault c =
    let P : Option Rest → Type 0 = λ o. IfErr c.push_fields.result (λ e. Fails e o) in
    subst P (sym (rest_fields (drop c.args.at c.args.text.now) (sym c.in-None.ensures.tail))) c.push_fields.ensures.fault
