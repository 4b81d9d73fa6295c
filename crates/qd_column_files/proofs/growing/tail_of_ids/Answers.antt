use Rattle.std.proofs.Common.{List, ℕ, sym, subst}
use Rattle.qd_column_format.specs.Spelling.{SpellsColumn}
use Rattle.qd_column_files.proofs.StoredTails.{ids_told}
use Rattle.qd_column_files.proofs.growing.tail_of_ids.Goals as goal

pub returns-clause-told : goal.returns-clause-told
returns-clause-told g c =
    ids_told (g.V.Volume.storage c.args.volume.now).disk _ c.args.main c.args.aux c.args.rows c.saturating_mul.result c.in_ok-ids.ids c.in_ok-texts.texts c.in_ok-stored.field-0 c.saturating_mul.ensures c.in_ok-ids.ensures.stays c.in_ok-ids.ensures.told c.in_ok-texts.ensures.told
    (λ column is size spelled.
    c.in_ok-stored.ensures.tail column is size
    (subst (λ (l : List ℕ). SpellsColumn l c.as_slice-2.result.now column) (sym c.as_slice.ensures.value)
    (subst (λ (l : List ℕ). SpellsColumn c.in_ok-ids.ids.items l column) (sym c.as_slice-2.ensures.value) spelled)))
