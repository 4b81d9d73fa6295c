use Rattle.std.proofs.Common.{subst}
use Rattle.qd_args.specs.Parts.{IsPlain, said_by}
use Rattle.qd_args.proofs.Lines.{texts_more}
use Rattle.qd_args.proofs.line.Line.say.Goals as goal

pub returns-in_ok-push-in-Word-clause-texts : goal.returns-in_ok-push-in-Word-clause-texts
returns-in_ok-push-in-Word-clause-texts c = λ fits.
    let plain = subst (λ p. IsPlain (said_by p)) c.in-Word.is c.requires.plain in
    let more = texts_more c.args.self.now.texts.items c.push.new.self.items c.in-Word.text c.in_ok-push-in-Word.ensures.items c.requires.line.0 c.requires.line.1 plain.0 in
    (more.1, more.2)
