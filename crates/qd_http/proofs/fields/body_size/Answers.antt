use Rattle.std.proofs.Common.{option_copied, sym, ap, ◌∙◌, arith}
use Rattle.httparse.specs.Borrowed.{header_parts}
use Rattle.qd_http.specs.Fields.{size_in}
use Rattle.qd_http.proofs.FieldLemmas.{size_coded, size_many, size_one}
use Rattle.qd_http.proofs.fields.body_size.Goals as goal
use Rattle.qd_http.proofs.fields.body_size.Goals.{then-has-via-then-has, then-has-via-else-has+then-count-gt1}

pub returns-then-has : goal.returns-then-has
returns-then-has c =
    let fields = c.args.fields.now in
    elim c.then-has.branch [
      | then-has-via-then-has w ↦ sym (size_coded header_parts fields (sym c.has.ensures ∙ w.if-has.true))
      | then-has-via-else-has+then-count-gt1 w ↦ sym (size_many header_parts fields (sym c.has.ensures ∙ w.if-has.false) (omega (arith, w.count.ensures)))
    ]

pub returns-in-Some : goal.returns-in-Some
returns-in-Some c =
    let fields = c.args.fields.now in
    let one = size_one header_parts fields (sym c.has.ensures ∙ c.if-has.false) (omega (arith, c.count.ensures)) in
    c.size.ensures ∙ ap size_in (ap (λ o. option_copied o) (sym c.in-Some.is) ∙ c.first.ensures) ∙ sym one

pub returns-in-None : goal.returns-in-None
returns-in-None c =
    let fields = c.args.fields.now in
    let one = size_one header_parts fields (sym c.has.ensures ∙ c.if-has.false) (omega (arith, c.count.ensures)) in
    ap size_in (ap (λ o. option_copied o) (sym c.in-None.is) ∙ c.first.ensures) ∙ sym one
