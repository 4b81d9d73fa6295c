use Rattle.std.proofs.Common.{◌∙◌, ℤ, ap, sym, map, rules}
use Rattle.std.specs.Prelude.{fold}
use Rattle.qd_column.specs.Cells.{long_cell}
use Rattle.qd_group.specs.Tallied.{state_of}
use Rattle.qd_group.specs.declared.tallies.Tally.{Tally}
use Rattle.qd_group.specs.Tallies.{Leading, greater, greatest, leading, least, lesser, summed, next}
use Rattle.std.specs.Int.{w64}
use Rattle.std.proofs.lemmas.Int.{to_z-of_z}
use mir.Val.{SFits}
use Rattle.qd_group.proofs.ExtremeLemmas.{greatests_long, leasts_long}
use Rattle.qd_group.proofs.SumLemmas.{summed_longs}
use Rattle.qd_group.proofs.tallies.Tally.after_longs.Goals as goal

pub returns-in_ok-total_after_longs-in-Sum : goal.returns-in_ok-total_after_longs-in-Sum
returns-in_ok-total_after_longs-in-Sum c = record {
  next = ap (λ t. summed t) c.in_ok-total_after_longs-in-Sum.ensures
      ∙ summed_longs c.in-Sum.total c.args.numbers.now
      ∙ ap (λ t. fold next (state_of t) (map long_cell c.args.numbers.now)) (sym c.in-Sum.is);
}

pub returns-in-Some : goal.returns-in-Some
returns-in-Some c =
    let first : SFits w64 c.in-Some.first = search rules in
    let found : SFits w64 c.least_of.result = search rules in
    record {
      next = ap (λ (l : Leading). least l)
          (c.of_number.ensures ∙ ap leading (to_z-of_z w64 c.least_of.result found ∙ c.least_of.ensures ∙ ap (λ (z : ℤ). fold lesser z c.args.numbers.now) (to_z-of_z w64 c.in-Some.first first)))
          ∙ leasts_long c.in-Some.first c.args.numbers.now
          ∙ ap (λ (l : Leading). fold next (least l) (map long_cell c.args.numbers.now)) (sym c.in-Some.ensures)
          ∙ ap (λ (t : Tally). fold next (state_of t) (map long_cell c.args.numbers.now)) (sym c.in-Min.is);
    }

pub returns-in-Some-number : goal.returns-in-Some-number
returns-in-Some-number c =
    let first : SFits w64 c.in-Some-number.first = search rules in
    let found : SFits w64 c.greatest_of.result = search rules in
    record {
      next = ap (λ (l : Leading). greatest l)
          (c.of_number-in-Some-number.ensures ∙ ap leading (to_z-of_z w64 c.greatest_of.result found ∙ c.greatest_of.ensures ∙ ap (λ (z : ℤ). fold greater z c.args.numbers.now) (to_z-of_z w64 c.in-Some-number.first first)))
          ∙ greatests_long c.in-Some-number.first c.args.numbers.now
          ∙ ap (λ (l : Leading). fold next (greatest l) (map long_cell c.args.numbers.now)) (sym c.in-Some-number.ensures)
          ∙ ap (λ (t : Tally). fold next (state_of t) (map long_cell c.args.numbers.now)) (sym c.in-Max.is);
    }
