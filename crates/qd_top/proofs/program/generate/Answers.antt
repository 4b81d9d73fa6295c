use Rattle.std.proofs.Common.{◌≡◌, ◌≤◌, ℕ, List, length, Some, ◌∙◌, sym, subst, inr}
use Rattle.qd_base.specs.declared.limits.TheConstants.{LAST_OFFSET}
use Rattle.qd_gen.specs.Generated.{input as generated}
use Rattle.qd_print.specs.Printed.{reply_bytes}
use Rattle.qd_gen.specs.Quieted.{without_done}
use Rattle.qd_top.specs.Run.{IsWellFramed, Ran}
use Rattle.qd_top.proofs.CommandLemmas.{ends_well-from, generated-well, nothing-done}
use Rattle.qd_top.proofs.program.generate.Goals as goal

pub returns-in_default-clause-ran : goal.returns-in_default-clause-ran
returns-in_default-clause-ran g c = (Some (generated c.args.number c.args.lines), inr (nothing-done (g.H.Host.supply c.args.host.now) (Some (generated c.args.number c.args.lines)) (g.K.Ends.stream c.args.output.now).output))

pub returns-clause-ran : goal.returns-clause-ran
returns-clause-ran g c = (
  Some c.serve_quietly.new.input,
  subst (λ (text : List ℕ). Ran (without_done reply_bytes) c.args.told.now.history (g.H.Host.supply c.args.host.now) (g.H.Host.supply c.serve_quietly.new.host) (record { input = Some text; left = Some c.serve_quietly.new.input; output = (g.K.Ends.stream c.args.output.now).output; written = (g.K.Ends.stream c.serve_quietly.new.output).output }) c.serve_quietly.result)
      (c.new-source.ensures.left ∙ c.in-Ok.ensures.bytes) c.serve_quietly.ensures.ran,
)

pub returns-clause-ends : goal.returns-clause-ends
returns-clause-ends g c =
    let bytes : c.in-Ok.text ≡ generated c.args.number c.args.lines = c.in-Ok.ensures.bytes in
    let fed = c.new-source.ensures.left ∙ bytes in
    let short : length (generated c.args.number c.args.lines) ≤ LAST_OFFSET = subst (λ (text : List ℕ). length text ≤ LAST_OFFSET) bytes c.length_of.ensures.reached in
    let well = generated-well c.args.number c.args.lines c.input_is_read_as_asked.ensures.law c.requires.few short c.one_reading.ensures in
    ends_well-from (without_done reply_bytes) c.args.told.now.history (g.H.Host.supply c.args.host.now) (g.H.Host.supply c.serve_quietly.new.host)
    (record { input = Some c.new-source.result; left = Some c.serve_quietly.new.input; output = (g.K.Ends.stream c.args.output.now).output; written = (g.K.Ends.stream c.serve_quietly.new.output).output })
    c.serve_quietly.result c.args.number c.args.lines c.serve_quietly.ensures.ran c.serve_quietly.ensures.reads (subst (λ (text : List ℕ). IsWellFramed (Some text)) (sym fed) well)
