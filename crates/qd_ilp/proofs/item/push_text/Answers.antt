use Rattle.std.proofs.Common.{◌-◌, ◌∙◌, sym, take, drop, refl}
use Rattle.qd_ilp.proofs.Places.{closed_place, span_here, text_from}
use Rattle.qd_ilp.proofs.item.push_text.Goals as goal

pub returns-then-is_at-clause-text : goal.returns-then-is_at-clause-text
returns-then-is_at-clause-text c =
    let t = take (c.unquoted_end-end.result - c.args.at) (drop c.args.at c.args.text.now) in (
      t,
      c.unquoted_end-end.ensures.closed ∙ closed_place c.args.text.now t c.unquoted_end-end.result (c.is_at.ensures.inside c.if-is_at.true) (sym c.is_at.ensures.begins ∙ c.if-is_at.true),
      span_here c.args.text.now c.args.bytes.now.items t c.args.at c.unquoted_end-end.result (record { start = c.args.at; end = c.unquoted_end-end.result }) c.requires.begins c.unquoted_end-end.ensures.onward c.unquoted_end-end.ensures.inside refl refl refl,
    )

pub returns-clause-text : goal.returns-clause-text
returns-clause-text c =
    let found = c.in_ok-quoted.ensures.text in
    (found.0, text_from c.args.text.now c.behind.result.now found.0 c.in_ok-quoted.rest.now c.args.at _ c.requires.within c.behind.ensures.rest found.1 refl, found.2)
