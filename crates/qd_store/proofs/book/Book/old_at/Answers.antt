use Rattle.std.proofs.Common.{ℕ, ◌∙◌, ap, sym, subst}
use Rattle.std.proofs.lemmas.Result.{err_from_is_err_and}
use Rattle.qd_base.specs.declared.part.Part.{Part}
use Rattle.qd_manifest.specs.declared.shape.TableParts.{TableParts}
use Rattle.qd_versions.specs.Reading.{IsPartAt}
use Rattle.qd_versions.specs.Stores as versions
use Rattle.qd_apply.specs.Olds.{rows_staying}
use Rattle.qd_store.specs.Stores.{Book}
use Rattle.qd_store.proofs.OldReads.{files_as, part_at, read_as, rest_failed, skip_within, there_in, times_failed, times_kind, times_rise}
use Rattle.qd_store.proofs.book.Book.old_at.Goals as goal

abbrev IsAt : Book → (row table i : ℕ) → TableParts → Part → Type 0
IsAt s row table i t p = IsPartAt s.versions.versions row table i t p

pub times_at-requires : goal.times_at-requires
times_at-requires g c = record {
  there = (c.requires.there.2.table, c.requires.there.2.part, part_at c.args.self.now c.current-row.result (c.current-row.ensures.row ∙ ap (λ (s : Book). s.versions.versions.current) c.self.view_is) c.requires.there.0 c.requires.there.1 c.args.late c.requires.there.2);
}

pub returns-in_err-column-clause-files : goal.returns-in_err-column-clause-files
returns-in_err-column-clause-files g c x at =
    let p = err_from_is_err_and c.from_residual.result c.from_residual.ensures.1 in
    rw p.1 (rw p.2 (times_failed c.args.self.now c.current-row.result (c.current-row.ensures.row ∙ ap (λ (s : Book). s.versions.versions.current) c.self.view_is) x at c.args.late (there_in c.args.self.now c.requires.there.0 c.args.late c.requires.there.1 c.requires.there.2 x at) c.args.plan.now.split_rows c.in_err-column.field-0.0 _ c.in_err-column.ensures.files))

pub times-requires : goal.times-requires
times-requires g c = times_kind c.args.self.now c.current-row.result (c.current-row.ensures.row ∙ ap (λ (s : Book). s.versions.versions.current) c.self.view_is) c.requires.there.0 c.requires.there.1 c.args.late c.requires.there.2 (subst (λ (s : Book). versions.IsStore s.versions) c.self.view_is c.keeps_its_law.ensures.law) c.in_ok-column.column c.in_ok-column.ensures.fit

pub stay-stay-requires : goal.stay-stay-requires
stay-stay-requires g c = record { order = times_rise c.args.self.now c.current-row.result (c.current-row.ensures.row ∙ ap (λ (s : Book). s.versions.versions.current) c.self.view_is) c.requires.there.0 c.requires.there.1 c.args.late c.requires.there.2 (subst (λ (s : Book). versions.IsStore s.versions) c.self.view_is c.keeps_its_law.ensures.law) c.in_ok-column.column c.in_ok-column.ensures.fit c.times.result.now c.times.ensures.cells }

pub read_rest-requires-clause-there : goal.read_rest-requires-clause-there
read_rest-requires-clause-there g c =
    let there : (t : TableParts) × (p : Part) × IsAt c.args.self.now c.current-row.result c.args.late.table c.args.late.part t p = (c.requires.there.2.table, c.requires.there.2.part, part_at c.args.self.now c.current-row.result (c.current-row.ensures.row ∙ ap (λ (s : Book). s.versions.versions.current) c.self.view_is) c.requires.there.0 c.requires.there.1 c.args.late c.requires.there.2) in
    subst (λ (s : Book). (t : TableParts) × (p : Part) × IsAt s c.current-row.result c.args.late.table c.args.late.part t p) (sym c.self.view_is) there

pub read_rest-requires-clause-times : goal.read_rest-requires-clause-times
read_rest-requires-clause-times g c t p is = c.in_ok-column.ensures.fit t p (subst (λ (s : Book). IsAt s c.current-row.result c.args.late.table c.args.late.part t p) c.self.view_is is)

pub read_rest-requires-clause-skip : goal.read_rest-requires-clause-skip
read_rest-requires-clause-skip g c t p is = skip_within c.args.self.now c.current-row.result (c.current-row.ensures.row ∙ ap (λ (s : Book). s.versions.versions.current) c.self.view_is) c.requires.there.0 c.requires.there.1 c.args.late c.requires.there.2 (subst (λ (s : Book). versions.IsStore s.versions) c.self.view_is c.keeps_its_law.ensures.law) c.in_ok-column.column c.in_ok-column.ensures.fit c.times.result.now c.times.ensures.cells c.args.plan.now.split_rows c.stay-stay.result c.stay-stay.ensures.stay c.rows-skip.result (c.rows-skip.ensures.rows ∙ ap (rows_staying c.stay-stay.result) c.len.ensures.count) t p (subst (λ (s : Book). IsAt s c.current-row.result c.args.late.table c.args.late.part t p) c.self.view_is is)

pub returns-in_err-rest-clause-files : goal.returns-in_err-rest-clause-files
returns-in_err-rest-clause-files g c x at =
    let p = err_from_is_err_and c.from_residual-in_err-rest.result c.from_residual-in_err-rest.ensures.1 in
    rw p.1 (rw p.2 (rest_failed c.args.self.now c.current-row.result (c.current-row.ensures.row ∙ ap (λ (s : Book). s.versions.versions.current) c.self.view_is) x at c.args.late (there_in c.args.self.now c.requires.there.0 c.args.late c.requires.there.1 c.requires.there.2 x at) c.args.plan.now.split_rows c.in_ok-column.column c.rows-skip.result c.in_err-rest.field-0.0 _ _ c.times_at.ensures.stays (λ t p is. c.in_err-rest.ensures.told t p (subst (λ (s : Book). IsAt s c.current-row.result c.args.late.table c.args.late.part t p) (sym c.self.view_is) is))))

pub returns-clause-read : goal.returns-clause-read
returns-clause-read g c x at =
    read_as c.args.self.now c.current-row.result (c.current-row.ensures.row ∙ ap (λ (s : Book). s.versions.versions.current) c.self.view_is) x at c.args.late (there_in c.args.self.now c.requires.there.0 c.args.late c.requires.there.1 c.requires.there.2 x at) (subst (λ (s : Book). versions.IsStore s.versions) c.self.view_is c.keeps_its_law.ensures.law) c.in_ok-column.column c.in_ok-column.ensures.fit c.times.result.now c.times.ensures.cells c.args.plan.now.split_rows c.stay-stay.result c.stay-stay.ensures.stay c.rows-skip.result (c.rows-skip.ensures.rows ∙ ap (rows_staying c.stay-stay.result) c.len.ensures.count)
    c.in_ok-rest.rest (λ t p is. c.in_ok-rest.ensures.rest t p (subst (λ (s : Book). IsAt s c.current-row.result c.args.late.table c.args.late.part t p) (sym c.self.view_is) is))

pub returns-clause-files : goal.returns-clause-files
returns-clause-files g c x at =
    files_as c.args.self.now c.current-row.result (c.current-row.ensures.row ∙ ap (λ (s : Book). s.versions.versions.current) c.self.view_is) x at c.args.late (there_in c.args.self.now c.requires.there.0 c.args.late c.requires.there.1 c.requires.there.2 x at) (subst (λ (s : Book). versions.IsStore s.versions) c.self.view_is c.keeps_its_law.ensures.law) c.in_ok-column.column c.in_ok-column.ensures.fit c.times.result.now c.times.ensures.cells c.args.plan.now.split_rows c.stay-stay.result c.stay-stay.ensures.stay c.rows-skip.result (c.rows-skip.ensures.rows ∙ ap (rows_staying c.stay-stay.result) c.len.ensures.count)
    c.in_ok-rest.rest _ _ c.in_ok-column.ensures.stays c.in_ok-column.ensures.files (λ t p is. c.in_ok-rest.ensures.told t p (subst (λ (s : Book). IsAt s c.current-row.result c.args.late.table c.args.late.part t p) (sym c.self.view_is) is))
