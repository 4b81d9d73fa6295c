use Rattle.std.proofs.lemmas.Result.{IfOk-weaker}
use Rattle.qd_args.specs.Parts.{said_of}
use Rattle.qd_args.proofs.Lines.{found_by_line, found_without, match_none, match_some}
use Rattle.qd_args.proofs.reading.read_words.Goals as goal

pub returns-in-Some : goal.returns-in-Some
returns-in-Some c = record {
  exact = IfOk-weaker c.read_line.result _ _
      (λ found exact. found_by_line found c.args.words.now (said_of c.in-Some.line) exact
      (λ command. match_some c.in_ok-line.field-0 c.in-Some.line _ _ c.in-Some.is (c.in_ok-line.ensures.asks command))) c.read_line.ensures;
}

pub returns-in-None : goal.returns-in-None
returns-in-None c = record {
  exact = found_without c.args.words.now (λ command. match_none c.in_ok-line.field-0 _ _ c.in-None.is (c.in_ok-line.ensures.asks command));
}
