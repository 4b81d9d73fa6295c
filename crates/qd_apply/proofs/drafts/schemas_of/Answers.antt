use Rattle.std.proofs.Common.{◌≡◌, ◌∙◌, ◌<◌, ◌++◌, ◌∷◌, [], List, IsNone, length, get_or, take, ap, sym, subst, arith}
use Rattle.qd_base.specs.declared.schema.Schema.{Schema}
use Rattle.qd_base.specs.Schemas.{table_at}
use Rattle.qd_manifest.specs.declared.shape.TableParts.{TableParts}
use Rattle.qd_manifest.specs.Spelling.{schemas_in}
use Rattle.qd_apply.proofs.SchemaLemmas.{next_fits, schema_next, schemas_count, schemas_more}
use Rattle.qd_apply.proofs.drafts.schemas_of.Goals as goal

pub apply-requires : goal.apply-requires
apply-requires c =
    let shape : List TableParts = c.args.shape.now in
    let i = c.loop-table.table-index in
    let t : TableParts = c.table-item.result in
    let lt : i < length shape = omega (arith, c.loop-table-test.true, ap length c.as_slice-table-items.ensures.items) in
    let is : t ≡ get_or shape i t = c.table-item.is ∙ ap (λ (l : List TableParts). get_or l i t) c.as_slice-table-items.ensures.items in
    let ss : List Schema = schemas_in shape in
    subst (λ (l : List Schema). IsNone (table_at l c.in_ok-copy.field-0.name)) (sym c.loop-table.invariant)
    (subst (λ (x : Schema). IsNone (table_at (take i ss) x.name)) (sym c.in_ok-copy.ensures.same) (next_fits ss i t.schema c.requires.schemas (omega (arith, lt, schemas_count shape)) (schema_next shape i t lt is)))

pub loop-table-preserved : goal.loop-table-preserved
loop-table-preserved c =
    let shape : List TableParts = c.args.shape.now in
    let i = c.loop-table.table-index in
    let t : TableParts = c.table-item.result in
    let lt : i < length shape = omega (arith, c.loop-table-test.true, ap length c.as_slice-table-items.ensures.items) in
    let is : t ≡ get_or shape i t = c.table-item.is ∙ ap (λ (l : List TableParts). get_or l i t) c.as_slice-table-items.ensures.items in
    let ss : List Schema = schemas_in shape in
    c.in_ok-apply.ensures.ok
    ∙ ap (λ (l : List Schema). l ++ c.in_ok-copy.field-0 ∷ []) c.loop-table.invariant
    ∙ ap (λ (x : Schema). take i ss ++ x ∷ []) c.in_ok-copy.ensures.same
    ∙ schemas_more ss i t.schema (omega (arith, lt, schemas_count shape)) (schema_next shape i t lt is)
