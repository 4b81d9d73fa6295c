use Rattle.std.proofs.Common.{◌≡◌, ◌∙◌, length, refl, ap, sym, arith, le_refl}
use Rattle.qd_shared.specs.Desks.{items_in}
use Rattle.qd_shared.specs.Passes.{view_of}
use Rattle.qd_shared.proofs.Applying.{answered_wide}
use Rattle.qd_shared.proofs.Passing.{looked_passes, passes_both}
use Rattle.qd_shared.proofs.shared.Shared.catch_up.Goals as goal

pub make_rounds-requires-clause-counted : goal.make_rounds-requires-clause-counted
make_rounds-requires-clause-counted g c = (looked_passes c.args.pass.now c.count-least.new.pass c.count-least.ensures.looks).count

pub returns : goal.returns
returns g c =
    let l = c.count-least.ensures.looks in
    let p = looked_passes c.args.pass.now c.count-least.new.pass l in
    let least : length (items_in l.desk) ≡ c.count-least.result = sym (ap length l.holds.seen) ∙ sym c.count-least.ensures.count in
    record {
      applies = record {
        found = l.desk;
        before = l.holds.seen_before;
        passes = passes_both c.args.pass.now c.count-least.new.pass c.make_rounds.new.pass p c.make_rounds.ensures.passes;
        answered = answered_wide (length (items_in l.desk)) c.count-least.result c.make_rounds.result c.args.pass.now c.count-least.new.pass c.make_rounds.new.pass (omega (arith, least)) p c.make_rounds.ensures.answered;
      };
      alone = λ sole idle. c.make_rounds.ensures.alone (p.mode ∙ sole) (p.phase ∙ idle);
    }
