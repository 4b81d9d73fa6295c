use Rattle.qd_store_backend.proofs.Leaving.{leaves_both}
use Rattle.qd_store_backend.proofs.parts.StoreParts.show_all.Goals as goal

pub returns-clause-left : goal.returns-clause-left
returns-clause-left g c = leaves_both c.args.self.now.owned c.show_new.new.self.owned c.sweep_all-swept.new.self.owned c.show_new.ensures.stays c.show_new.ensures.left c.sweep_all-swept.ensures.left
