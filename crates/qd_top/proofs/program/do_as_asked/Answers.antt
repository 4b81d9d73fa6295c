use Rattle.std.proofs.Common.{◌≡◌, ℕ, ap, ◌∙◌, refl, subst, Some}
use Rattle.qd_args.specs.Words.{Asks}
use Rattle.qd_args.specs.declared.command.Command.{Command}
use Rattle.qd_args.specs.declared.command.Command.TheVariants as command
use Rattle.qd_fronts.specs.declared.front.FrontKind.{FrontKind}
use Rattle.qd_top.specs.Run.{kind_of, Did, ServedPort, limit_of, outside, traffic}
use Rattle.qd_top.specs.Status.{number_of}
use Rattle.qd_top.proofs.CommandLemmas.{answered-command, answered-nothing, answered-other, asks_alone, asks_none, did-gen, did-run, did-serve, either-unread, gen_few, named-as, reads-of-gen, reads-of-serving, unserved-from}
use Rattle.qd_top.proofs.program.do_as_asked.Goals as goal

pub generate-requires-clause-few : goal.generate-requires-clause-few
generate-requires-clause-few g c =
    let i = c.in-Ok-Some-Gen in
    let asks = (i.ensures.exact (command.Gen i.number i.lines)).0 (i.field-0-is ∙ ap Some i.field-0-0-is) in
    λ κs lives. gen_few i.number i.lines c.args.words.now asks

pub returns-in-Ok-Some-Run-clause-answered : goal.returns-in-Ok-Some-Run-clause-answered
returns-in-Ok-Some-Run-clause-answered g c =
    let i = c.in-Ok-Some-Run in
    let found : i.field-0 ≡ Some (command.Run i.dir) = i.field-0-is ∙ ap Some i.field-0-0-is in
    let asks : Asks (command.Run i.dir) c.args.words.now = (i.ensures.exact (command.Run i.dir)).0 found in
    let old = outside (g.S.Ends.stream c.args.input.now) (g.K.Ends.stream c.args.output.now) (g.H.Host.supply c.args.host.now) in
    let new = outside (g.S.Ends.stream c.run.new.input) (g.K.Ends.stream c.run.new.output) (g.H.Host.supply c.run.new.host) in
    answered-command (command.Run i.dir) c.args.words.now c.args.told.now.history old new c.run.result asks
    (did-run i.dir c.args.told.now.history old new c.run.result c.requires.found c.run.ensures.ran c.run.ensures.reads c.run.ensures.writes (named-as old.host.folders new.host.folders c.as_ref.ensures.value c.run.ensures.named))
    (λ done. asks_alone (λ (other : Command). Did other c.args.told.now.history old new (number_of c.run.result)) i.field-0 c.args.words.now (command.Run i.dir) i.ensures.exact found done)
    c.run.ensures.reads c.run.ensures.writes (either-unread (i.dir, asks) (λ none. ap g.S.Ends.stream (c.run.ensures.unread (unserved-from c.run.result none))))

pub returns-in-Ok-Some-Run-clause-unread : goal.returns-in-Ok-Some-Run-clause-unread
returns-in-Ok-Some-Run-clause-unread g c =
    let i = c.in-Ok-Some-Run in
    let found : i.field-0 ≡ Some (command.Run i.dir) = i.field-0-is ∙ ap Some i.field-0-0-is in
    either-unread (i.dir, (i.ensures.exact (command.Run i.dir)).0 found) (λ none. c.run.ensures.unread (unserved-from c.run.result none))

pub returns-in-Ok-Some-Run-clause-unused : goal.returns-in-Ok-Some-Run-clause-unused
returns-in-Ok-Some-Run-clause-unused g c =
    let i = c.in-Ok-Some-Run in
    let one = command.Run i.dir in
    λ other. absurd {A = c.run.new.host ≡ c.args.host.now} (other (one, (i.ensures.exact one).0 (i.field-0-is ∙ ap Some i.field-0-0-is)))

pub returns-in-Ok-Some-Gen-clause-answered : goal.returns-in-Ok-Some-Gen-clause-answered
returns-in-Ok-Some-Gen-clause-answered g c =
    let i = c.in-Ok-Some-Gen in
    let found : i.field-0 ≡ Some (command.Gen i.number i.lines) = i.field-0-is ∙ ap Some i.field-0-0-is in
    let asks : Asks (command.Gen i.number i.lines) c.args.words.now = (i.ensures.exact (command.Gen i.number i.lines)).0 found in
    let input = g.S.Ends.stream c.args.input.now in
    let old = outside input (g.K.Ends.stream c.args.output.now) (g.H.Host.supply c.args.host.now) in
    let new = outside input (g.K.Ends.stream c.generate.new.output) (g.H.Host.supply c.generate.new.host) in
    answered-command (command.Gen i.number i.lines) c.args.words.now c.args.told.now.history old new c.generate.result asks
    (did-gen i.number i.lines c.args.told.now.history old new c.generate.result c.generate.ensures.ran.0 c.requires.found refl c.generate.ensures.ran.1 c.generate.ensures.ends c.generate.ensures.writes c.generate.ensures.named)
    (λ done. asks_alone (λ (other : Command). Did other c.args.told.now.history old new (number_of c.generate.result)) i.field-0 c.args.words.now (command.Gen i.number i.lines) i.ensures.exact found done)
    (reads-of-gen c.generate.result i.number i.lines input.reads_failed c.generate.ensures.ends) c.generate.ensures.writes (λ other. refl)

pub returns-in-Ok-Some-Gen-clause-unused : goal.returns-in-Ok-Some-Gen-clause-unused
returns-in-Ok-Some-Gen-clause-unused g c =
    let i = c.in-Ok-Some-Gen in
    let one = command.Gen i.number i.lines in
    λ other. absurd {A = c.generate.new.host ≡ c.args.host.now} (other (one, (i.ensures.exact one).0 (i.field-0-is ∙ ap Some i.field-0-0-is)))

pub returns-in-Ok-Some-Serve-clause-answered : goal.returns-in-Ok-Some-Serve-clause-answered
returns-in-Ok-Some-Serve-clause-answered g c =
    let i = c.in-Ok-Some-Serve in
    let one = command.Serve i.port i.dir i.connections i.front in
    let found : i.field-0 ≡ Some one = i.field-0-is ∙ ap Some i.field-0-0-is in
    let asks : Asks one c.args.words.now = (i.ensures.exact one).0 found in
    let input = g.S.Ends.stream c.args.input.now in
    let old = outside input (g.K.Ends.stream c.args.output.now) (g.H.Host.supply c.args.host.now) in
    let new = outside input (g.K.Ends.stream c.serve_port.new.output) (g.H.Host.supply c.serve_port.new.host) in
    let limit = c.most_of.ensures in
    let kind = c.front_of.ensures in
    let served = subst (λ (f : FrontKind). ServedPort f c.args.told.now.history old.host new.host i.port (limit_of i.connections) (traffic input input old.output new.output) c.serve_port.result) kind (subst (λ (n : ℕ). ServedPort c.front_of.result c.args.told.now.history old.host new.host i.port n (traffic input input old.output new.output) c.serve_port.result) limit (c.serve_port.ensures.served input)) in
    answered-command one c.args.words.now c.args.told.now.history old new c.serve_port.result asks
    (did-serve i.port i.dir i.connections i.front c.args.told.now.history old new c.serve_port.result c.requires.found served c.serve_port.ensures.writes (named-as old.host.folders new.host.folders (ap Some c.bytes.ensures.same) c.serve_port.ensures.named))
    (λ done. asks_alone (λ (other : Command). Did other c.args.told.now.history old new (number_of c.serve_port.result)) i.field-0 c.args.words.now one i.ensures.exact found done)
    (reads-of-serving (kind_of i.front) c.args.told.now.history old.host new.host i.port (limit_of i.connections) (traffic input input old.output new.output) c.serve_port.result input.reads_failed served) c.serve_port.ensures.writes (λ other. refl)

pub returns-in-Ok-Some-Serve-clause-unused : goal.returns-in-Ok-Some-Serve-clause-unused
returns-in-Ok-Some-Serve-clause-unused g c =
    let i = c.in-Ok-Some-Serve in
    let one = command.Serve i.port i.dir i.connections i.front in
    λ other. absurd {A = c.serve_port.new.host ≡ c.args.host.now} (other (one, (i.ensures.exact one).0 (i.field-0-is ∙ ap Some i.field-0-0-is)))

pub returns-in-Ok-None-clause-answered : goal.returns-in-Ok-None-clause-answered
returns-in-Ok-None-clause-answered g c =
    let i = c.in-Ok-None in
    let input = g.S.Ends.stream c.args.input.now in
    let host = g.H.Host.supply c.args.host.now in
    let e = c.refuse_words.ensures in
    answered-other c.args.words.now c.args.told.now.history (outside input (g.K.Ends.stream c.args.output.now) host) (outside input (g.K.Ends.stream c.refuse_words.new.output) host) c.refuse_words.result
    (λ known. asks_none i.field-0 c.args.words.now i.ensures.exact i.field-0-is known.0 known.1) e.statuses e.usage e.front e.writes refl refl

pub returns-in-Err-clause-answered : goal.returns-in-Err-clause-answered
returns-in-Err-clause-answered g c = answered-nothing c.args.words.now c.args.told.now.history (outside (g.S.Ends.stream c.args.input.now) (g.K.Ends.stream c.args.output.now) (g.H.Host.supply c.args.host.now))
