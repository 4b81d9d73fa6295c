use Rattle.std.proofs.Common.{◌∙◌, ap, sym, length, nat_eq}
use Rattle.qd_rows.specs.Sets.{ResultRows}
use Rattle.qd_rows.proofs.SetLemmas.{length-paired}
use Rattle.qd_rows.proofs.set.RowSet.is_empty.Goals as goal

pub returns : goal.returns
returns g c = record { empty = ap (λ n. nat_eq n 0) (c.len.ensures.count ∙ sym (length-paired c.self.inside.lefts c.self.inside.rights.items) ∙ ap (λ (s : ResultRows). length s.places) c.self.view_is) }
