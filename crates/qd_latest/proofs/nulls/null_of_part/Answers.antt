use Rattle.std.proofs.Common.{◌≡◌, ◌+◌, ◌-◌, ◌∙◌, length, arith}
use Rattle.qd_column.specs.Symbols.{texts_in}
use Rattle.qd_latest.specs.Chains.{cells_of}
use Rattle.qd_latest.proofs.PartLemmas.{all_null, no_null, one_null}
use Rattle.qd_latest.proofs.nulls.null_of_part.Goals as goal

pub overflow_add-result : goal.overflow_add-result
overflow_add-result g c =
    let h = c.last_no_id.ensures.some c.in-Some-last_no_id.k c.in-Some-last_no_id.is in
    let size : c.args.part.before + length c.ids_of.result.now ≡ c.args.to = omega (arith, c.requires.ends, c.ids_of.ensures.count) in
    omega (arith, h.0, size, c.ranges.to.fits)

pub returns-in-Some-last_no_id : goal.returns-in-Some-last_no_id
returns-in-Some-last_no_id g c =
    let h = c.last_no_id.ensures.some c.in-Some-last_no_id.k c.in-Some-last_no_id.is in
    one_null (cells_of c.args.rows.now c.args.at) (texts_in c.in-Some.column.now.cells) c.ids_of.result.now c.args.part.before c.args.to (omega (arith, c.requires.ends, c.ids_of.ensures.count))
    (λ k low. c.in-Some.ensures.cells k (omega (arith, low, c.ids_of.ensures.count)) ∙ c.ids_of.ensures.cells k low) c.in-Some-last_no_id.k h.0 h.1 h.2

pub returns-in-None-last_no_id : goal.returns-in-None-last_no_id
returns-in-None-last_no_id g c =
    no_null (cells_of c.args.rows.now c.args.at) (texts_in c.in-Some.column.now.cells) c.ids_of.result.now c.args.part.before c.args.to (omega (arith, c.requires.ends, c.ids_of.ensures.count))
    (λ k low. c.in-Some.ensures.cells k (omega (arith, low, c.ids_of.ensures.count)) ∙ c.ids_of.ensures.cells k low) (c.last_no_id.ensures.none c.in-None-last_no_id.is)

pub returns-in-None : goal.returns-in-None
returns-in-None g c = all_null (cells_of c.args.rows.now c.args.at) c.args.part.before (c.args.part.to - c.args.part.from) c.args.to c.requires.ends (omega (arith, c.requires.part.run.some)) c.in-None.ensures.lacking
