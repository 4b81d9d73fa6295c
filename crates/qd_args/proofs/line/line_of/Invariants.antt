use Rattle.std.proofs.Common.{◌↔◌, length}
use Rattle.qd_args.specs.declared.command.Command.{Command}
use Rattle.qd_args.specs.Parts.{AsksBeside, IsLine, said_of}
use Rattle.qd_args.specs.Words.{Asks}
use Rattle.qd_args.proofs.line.line_of.Given as goal

-- the words ask for what is asked for beside what was said
abbrev pub invariant-loop-rest : goal.invariant-loop-rest
invariant-loop-rest l = record {
  texts : IsLine l.line;
  asks : (command : Command) → Asks command l.words ↔ AsksBeside command (said_of l.line) l.rest;
}

abbrev pub decreases-loop-rest : goal.decreases-loop-rest
decreases-loop-rest l = length l.rest
