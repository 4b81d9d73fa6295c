use Rattle.std.proofs.Common.{sym, ap, ◌∙◌}
use Rattle.qd_pgwire.specs.Messages.{first}
use Rattle.qd_pgwire.proofs.FindLemmas.{whole_lies}
use Rattle.qd_pgwire.proofs.TurnLemmas.{refuses_step, waits_step}
use Rattle.qd_pgwire.proofs.reader.Reader.next_step.Goals as goal

pub returns-in-Short-clause-exact : goal.returns-in-Short-clause-exact
returns-in-Short-clause-exact c = waits_step c.args.self.now c.as_slice.result.now c.as_slice.ensures.bytes c.in-Short.ensures

pub returns-in-Wrong-clause-exact : goal.returns-in-Wrong-clause-exact
returns-in-Wrong-clause-exact c = refuses_step c.args.self.now c.as_slice.result.now c.as_slice.ensures.bytes c.in-Wrong.ensures

pub take_message-requires-clause-found : goal.take_message-requires-clause-found
take_message-requires-clause-found c = sym (c.in-Whole.ensures ∙ ap (first c.args.self.now.mode) c.as_slice.ensures.bytes)

pub take_message-requires-clause-within : goal.take_message-requires-clause-within
take_message-requires-clause-within c =
    let reader = c.args.self.now in
    let lies = whole_lies reader.mode reader.queue c.in-Whole.kind c.in-Whole.size (sym (c.in-Whole.ensures ∙ ap (first reader.mode) c.as_slice.ensures.bytes)) in
    lies.1
