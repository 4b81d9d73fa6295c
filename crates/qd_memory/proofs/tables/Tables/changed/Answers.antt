use Rattle.std.proofs.Common.{◌≡◌, ◌∙◌, List, ap, sym, subst}
use Rattle.qd_base.specs.Database.{Database, step}
use Rattle.qd_base.specs.declared.schema.Schema.{Schema}
use Rattle.qd_base.specs.Lawful.{IsSound}
use Rattle.qd_base.specs.Schemas.{Fits}
use Rattle.qd_memory.specs.Kept.{database_of, schemas_in, Kept}
use Rattle.qd_memory.proofs.ChangeLemmas.{are_changed}
use Rattle.qd_memory.proofs.tables.Tables.changed.Goals as goal

pub invariant_of-result : goal.invariant_of-result
invariant_of-result c =
    let i = c.self.inside in
    let o = c.args.op.now in
    let same : i.schemas ≡ schemas_in c.args.self = c.self.invariant.same ∙ ap schemas_in c.self.view_is in
    are_changed i.schemas c.apply.new.self i.tables.items c.in_ok-tables.tables.items c.args.op.now c.self.invariant
    (subst (λ (l : List Schema). Fits l c.args.op.now) (sym same) c.requires.fits) (subst (λ (l : List Schema). IsSound l c.args.op.now) (sym same) c.requires.sound)
    c.in_ok-apply.ensures.ok c.in_ok-tables.ensures.kept c.in_ok-tables.ensures.step

pub returns : goal.returns
returns c = record { step = c.in_ok-tables.ensures.step ∙ ap (λ (ts : List Kept). step (database_of ts) c.args.op.now) c.self.view_is }
