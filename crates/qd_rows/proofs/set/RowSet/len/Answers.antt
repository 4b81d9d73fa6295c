use Rattle.std.proofs.Common.{◌∙◌, ap, sym, length}
use Rattle.qd_rows.specs.Sets.{ResultRows}
use Rattle.qd_rows.proofs.SetLemmas.{length-paired}
use Rattle.qd_rows.proofs.set.RowSet.len.Goals as goal

pub returns : goal.returns
returns g c = record { count = c.len.ensures.count ∙ sym (length-paired c.self.inside.lefts c.self.inside.rights.items) ∙ ap (λ (s : ResultRows). length s.places) c.self.view_is }
