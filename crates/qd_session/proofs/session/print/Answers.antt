use Rattle.std.proofs.Common.{ℕ, List, ◌∙◌, subst}
use Rattle.qd_session.specs.Turns.{Wrote}
use Rattle.qd_session.proofs.WireLemmas.{writes-by}
use Rattle.qd_session.proofs.session.print.Goals as goal

pub returns-clause-wrote : goal.returns-clause-wrote
returns-clause-wrote g c =
    subst (λ (bytes : List ℕ). Wrote (g.W.Ends.stream c.args.wire.now) (g.W.Ends.stream c.write_all.new.sink) bytes c.write_all.result)
    (c.bytes.ensures.same ∙ c.in-Ok.ensures.bytes)
    (record {
      put = writes-by _ _ _ c.write_all.result c.write_all.ensures.told c.write_all.ensures.rest;
      counted = c.write_all.ensures.counted;
      rest = c.write_all.ensures.rest;
    })
