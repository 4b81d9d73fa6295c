use Rattle.std.proofs.Common.{◌≡◌, ◌∙◌, Ok, subst, arith}
use Rattle.qd_shared.specs.declared.rounds.Begun.TheVariants as begun
use Rattle.qd_shared.specs.Rounds.{IsBegun}
use Rattle.qd_shared.proofs.Applying.{answered_wide}
use Rattle.qd_shared.proofs.Merging.{round_of}
use Rattle.qd_shared.proofs.Passing.{passes_both}
use Rattle.qd_shared.proofs.shared.Shared.make_round.Goals as goal

pub end_round-requires-clause-round : goal.end_round-requires-clause-round
end_round-requires-clause-round g c =
    let b = c.in-Ok-Drafted.ensures.begins in
    let is : c.in-Ok-Drafted.field-0 ≡ begun.Drafted c.in-Ok-Drafted.draft c.in-Ok-Drafted.next_block = search in
    let d = subst (λ x. IsBegun (Ok x) b.found b.left) is b.begun in
    round_of c.begin_round.new.pass b.found b.left c.in-Ok-Drafted.draft c.in-Ok.merged c.in-Ok-Drafted.next_block b.holds.noted b.holds.seen b.history b.calls d.0 d.1 c.in-Ok.ensures.merged b.passes.count

pub returns-in-Ok : goal.returns-in-Ok
returns-in-Ok g c =
    let b = c.in-Ok-Drafted.ensures.begins in
    record {
      passes = passes_both c.args.pass.now c.begin_round.new.pass c.end_round.new.pass b.passes c.end_round.ensures.passes;
      answered = answered_wide 0 0 c.end_round.result c.args.pass.now c.begin_round.new.pass c.end_round.new.pass (omega arith) b.passes c.end_round.ensures.answered;
      alone = λ sole idle. c.end_round.ensures.alone (b.passes.mode ∙ sole) (b.passes.phase ∙ idle);
    }
