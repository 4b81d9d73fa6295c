use Rattle.std.proofs.Common.{◌≡◌, ◌≤◌, length, arith}
use Rattle.std.proofs.lemmas.Bool.Decides.{nat_tests}
use Rattle.qd_args.specs.Parts.{said_by, said_of}
use Rattle.qd_args.proofs.Spelling.{no_length, none_where}
use Rattle.qd_args.proofs.Lines.{all_said, no_piece, not_twice, one_said}
use Rattle.qd_args.proofs.line.line_of.Goals as goal

pub returns-in_default-clause-asks : goal.returns-in_default-clause-asks
returns-in_default-clause-asks c = λ command asked.
    let some : 1 ≤ length c.loop-rest.rest.now = grind (arith, nat_tests, c.is_empty.ensures, c.loop-rest-test.true) in
    no_piece command (said_of c.loop-rest.line) c.loop-rest.rest.now some (none_where c.first_piece.result _ _ c.first_piece.ensures c.in_default.not-Some) ((c.loop-rest.invariant.asks command).0 asked)

pub returns-then-not-branch-clause-asks : goal.returns-then-not-branch-clause-asks
returns-then-not-branch-clause-asks c = λ command asked.
    not_twice command (said_of c.loop-rest.line) (said_by c.in-Some.piece) c.loop-rest.rest.now c.in-Some.behind.now (c.in_ok-say.ensures.twice c.if-not-branch.true) c.in-Some.ensures ((c.loop-rest.invariant.asks command).0 asked)

pub loop-rest-preserved : goal.loop-rest-preserved
loop-rest-preserved c = record {
  texts = c.in_ok-say.ensures.texts c.if-not-branch.false;
  asks = λ command.
      let before = c.loop-rest.invariant.asks command in
      let one = one_said command (said_of c.loop-rest.line) (said_of c.say.new.self) (said_by c.in-Some.piece) c.loop-rest.rest.now c.in-Some.behind.now (c.in_ok-say.ensures.said c.if-not-branch.false) c.in-Some.ensures in
      (λ asked. one.0 (before.0 asked), λ beside. before.1 (one.1 beside));
}

pub returns-clause-asks : goal.returns-clause-asks
returns-clause-asks c = λ command.
    let none : length c.loop-rest.rest.now ≡ 0 = grind (arith, nat_tests, c.is_empty.ensures, c.loop-rest-test.false) in
    let before = c.loop-rest.invariant.asks command in
    let all = all_said command (said_of c.loop-rest.line) c.loop-rest.rest.now (no_length c.loop-rest.rest.now none) in
    (λ asked. all.0 (before.0 asked), λ said. before.1 (all.1 said))
