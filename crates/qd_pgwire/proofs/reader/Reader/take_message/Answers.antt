use Rattle.std.proofs.Common.{◌∙◌, length, refl, ap, arith}
use Rattle.std.proofs.lemmas.List.{length-drop}
use Rattle.qd_pgwire.specs.Messages.{first}
use Rattle.qd_pgwire.proofs.FindLemmas.{whole_lies}
use Rattle.qd_pgwire.proofs.TurnLemmas.{takes_whole}
use Rattle.qd_pgwire.proofs.reader.Reader.take_message.Goals as goal

pub text_of-requires : goal.text_of-requires
text_of-requires c =
    let reader = c.args.self.now in
    whole_lies reader.mode c.as_slice-waiting.result.now c.args.kind c.args.size (ap (first reader.mode) c.as_slice-waiting.ensures.bytes ∙ c.requires.found)

pub returns-clause-sound : goal.returns-clause-sound
returns-clause-sound c =
    let reader = c.args.self.now in
    omega (arith, c.requires.sound, c.requires.within, ap length c.skip.ensures.rest, length-drop c.args.size reader.queue)

pub returns-clause-exact : goal.returns-clause-exact
returns-clause-exact c =
    let reader = c.args.self.now in
    takes_whole reader _ c.as_slice-waiting.result.now c.text_of.result.now c.args.kind c.args.size c.in_ok-step.step c.as_slice-waiting.ensures.bytes c.requires.found c.in_ok-step.ensures (c.text_of.ensures reader.mode)
    c.skip.ensures.rest refl c.after-self.ensures
