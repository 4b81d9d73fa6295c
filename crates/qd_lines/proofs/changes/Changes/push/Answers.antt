use Rattle.qd_lines.proofs.ChangesLemmas.{plain-closed, plain-view}
use Rattle.qd_lines.proofs.changes.Changes.push.Goals as goal

pub invariant_of-self : goal.invariant_of-self
invariant_of-self c = rw (c.in_ok-push.ensures.ok, c.in_ok-done.ensures.all) (plain-closed c.args.self.now c.args.change c.requires)

pub returns : goal.returns
returns c = record { ok = plain-view c.push.new.self c.in_ok-done.done c.args.self.now c.args.change c.requires c.in_ok-push.ensures.ok c.in_ok-done.ensures.all }
