use Rattle.std.proofs.Common.{List, fold, ap, inr, subst, sym, ◌∙◌}
use Rattle.qd_base.specs.declared.op.Op.{Op}
use Rattle.qd_base.specs.Lawful.{AreLawful}
use Rattle.qd_base.specs.Schemas.{schemas_step}
use Rattle.qd_prepare.proofs.LeftLemmas.{altered_lawful, altered_left, prepared}
use Rattle.qd_prepare.proofs.prepare.prepare_lines.Goals as goal

pub schemas_left-requires : goal.schemas_left-requires
schemas_left-requires c =
    let schemas = c.args.schemas.now in
    let t = c.in_ok-walk_batch.ensures.taken in
    let read = c.requires.read in
    let laws = c.in_ok-walk_batch.ensures.lawful t.0 t.1 read.0 read.1 read.2 in
    record { lawful = subst (AreLawful schemas) (sym (c.as_slice.ensures.items ∙ c.in_ok-bytes.ensures.changes t.0.ops t.2)) (altered_lawful schemas t.0.ops laws.0.lawful) }

pub returns : goal.returns
returns c =
    let schemas = c.args.schemas.now in
    let t = c.in_ok-walk_batch.ensures.taken in
    let read = c.requires.read in
    let laws = c.in_ok-walk_batch.ensures.lawful t.0 t.1 read.0 read.1 read.2 in
    record {
      prepared = (
        t.0,
        t.1,
        prepared schemas t.0 c.in_ok-bytes.field-0.bytes c.in_ok-schemas.schemas c.requires.lawful (c.in_ok-bytes.ensures.spelled t.0.ops t.2) laws.0.lawful laws.1 (inr laws.0.keys)
            (c.in_ok-schemas.ensures.left ∙ ap (λ (os : List Op). fold schemas_step schemas os) (c.as_slice.ensures.items ∙ c.in_ok-bytes.ensures.changes t.0.ops t.2) ∙ altered_left schemas t.0.ops),
      );
      refused = tt;
    }
