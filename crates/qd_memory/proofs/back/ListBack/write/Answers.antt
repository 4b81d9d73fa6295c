use Rattle.std.proofs.Common.{List, ap, inr, subst, sym, ◌∙◌}
use Rattle.qd_base.proofs.Lawful.{sound_schemas}
use Rattle.qd_base.specs.declared.schema.Schema.{Schema}
use Rattle.qd_base.specs.Database.{schemas_of}
use Rattle.qd_base.specs.Lawful.{AreLawful, AreSchemas}
use Rattle.qd_base.specs.Replay.{after}
use Rattle.qd_memory.specs.Listed.{Listed}
use Rattle.qd_memory.proofs.back.ListBack.write.Goals as goal

pub entry_of-requires : goal.entry_of-requires
entry_of-requires c = record { lawful = subst AreSchemas (sym c.self.invariant.schemas_are) (sound_schemas c.self.inside.history c.self.invariant.lawful) }

pub commit-requires-clause-lawful : goal.commit-requires-clause-lawful
commit-requires-clause-lawful c =
    let read = c.requires.read in
    let sound = subst AreSchemas (sym c.self.invariant.schemas_are) (sound_schemas c.self.inside.history c.self.invariant.lawful) in
    let kept = c.batches_are_lawful.ensures.law.text c.args.now c.self.inside.schemas 1 read.0 c.args.batch.now c.in-Ok.said sound read.1 read.2 c.in-Ok.ensures.entry in
    subst (λ (s : List Schema). AreLawful s c.in-Ok.said.ops) (c.self.invariant.schemas_are ∙ ap (λ (l : Listed). schemas_of (after l.history)) c.self.view_is) kept.0.lawful

pub commit-requires-clause-cells : goal.commit-requires-clause-cells
commit-requires-clause-cells c =
    let read = c.requires.read in
    let sound = subst AreSchemas (sym c.self.invariant.schemas_are) (sound_schemas c.self.inside.history c.self.invariant.lawful) in
    (c.batches_are_lawful.ensures.law.text c.args.now c.self.inside.schemas 1 read.0 c.args.batch.now c.in-Ok.said sound read.1 read.2 c.in-Ok.ensures.entry).1

pub commit-requires-clause-alone : goal.commit-requires-clause-alone
commit-requires-clause-alone c =
    let read = c.requires.read in
    let sound = subst AreSchemas (sym c.self.invariant.schemas_are) (sound_schemas c.self.inside.history c.self.invariant.lawful) in
    inr (c.batches_are_lawful.ensures.law.text c.args.now c.self.inside.schemas 1 read.0 c.args.batch.now c.in-Ok.said sound read.1 read.2 c.in-Ok.ensures.entry).0.keys
