use Rattle.std.proofs.Common.{◌≡◌, ◌∙◌, ◌+◌, ℕ, List, sym, ap, ap₂, subst, refl, length, map, arith}
use Rattle.std.specs.List.{fold}
use Rattle.std.specs.Option.{IsNone}
use Rattle.std.proofs.lemmas.Bool.Decides.{Decides-eqb}
use Rattle.std.proofs.lemmas.List.{nil_from_length}
use Rattle.std.proofs.lemmas.Result.{on_ok_weaker}
use Rattle.qd_base.specs.declared.op.Op.TheVariants as op
use Rattle.qd_base.specs.declared.schema.Col.{Col}
use Rattle.qd_base.specs.declared.schema.Schema.{Schema}
use Rattle.qd_base.specs.Schemas.{schema_of, schemas_step}
use Rattle.qd_ilp.specs.Transaction.{stamp_column}
use Rattle.qd_lines.specs.declared.walk.Walk.{Walk}
use Rattle.qd_lines.specs.Overlays.{Covers}
use Rattle.qd_lines.specs.Walks.{schema_made}
use Rattle.qd_lines.proofs.WalkLemmas.{is_nothing, only_one, walks_fresh, walks_same, walks_wider}
use Rattle.qd_lines.proofs.walk.Walk.change.Goals as goal

pub returns-then-fresh : goal.returns-then-fresh
returns-then-fresh c = record {
  walks = λ work now h none d.
      let row = c.args.row.now in
      let old : Walk = c.args.self.now in
      let new : Walk = record { alloc = old.alloc; overlay = c.create.new.self; cells = old.cells + c.len.result; draft = old.draft; stamp = old.stamp } in
      let size : c.len.result ≡ length old.draft.marks.items = omega (arith, c.len.ensures) in
      let schema : Schema = c.in_ok-schema.schema in
      let stamp : c.get.result.now ≡ stamp_column = only_one old.stamp c.get.result.now stamp_column h.stamp c.get.ensures.item in
      let made : schema ≡ schema_made row.table old.draft.added stamp_column =
      c.in_ok-schema.ensures.schema ∙ ap₂ (λ (t : List ℕ) (cs : List Col). schema_made t cs c.get.result.now) c.table.ensures.table c.as_slice-added.ensures.items ∙ ap (schema_made row.table old.draft.added) stamp in
      let new_name : IsNone (schema_of work.schemas schema.name) = subst (λ (t : List ℕ). IsNone (schema_of work.schemas t)) (ap (λ (s : Schema). s.name) (sym made)) (is_nothing (schema_of work.schemas row.table) (sym c.if-fresh.true ∙ d.fresh_is)) in
      on_ok_weaker c.create.result (walks_fresh work now row old new c.args.fresh h none d (ap (λ (n : ℕ). old.cells + n) size) refl schema c.if-fresh.true made) (c.create.ensures.ok work.schemas h.covers new_name);
}

pub returns-then-is_empty : goal.returns-then-is_empty
returns-then-is_empty c = record {
  walks = λ work now h none d.
      let row = c.args.row.now in
      let old : Walk = c.args.self.now in
      let new : Walk = record { alloc = old.alloc; overlay = old.overlay; cells = old.cells + c.len.result; draft = old.draft; stamp = old.stamp } in
      let size : c.len.result ≡ length old.draft.marks.items = omega (arith, c.len.ensures) in
      walks_same work now row old new c.args.fresh h none d (ap (λ (n : ℕ). old.cells + n) size) refl c.if-fresh.false (sym c.as_slice-added.ensures.items ∙ nil_from_length c.as_slice-added.result.now ((Decides-eqb (length c.as_slice-added.result.now) 0).0 (sym c.is_empty.ensures ∙ c.if-is_empty.true))) h.covers;
}

pub returns : goal.returns
returns c = record {
  walks = λ work now h none d.
      let row = c.args.row.now in
      let old : Walk = c.args.self.now in
      let new : Walk = record { alloc = old.alloc; overlay = c.widen.new.overlay; cells = old.cells + c.len.result; draft = old.draft; stamp = old.stamp } in
      let size : c.len.result ≡ length old.draft.marks.items = omega (arith, c.len.ensures) in
      let name : List ℕ = c.in_ok-name.name in
      on_ok_weaker c.widen.result
      (λ covers. walks_wider work now row old new c.args.fresh h none d (ap (λ (n : ℕ). old.cells + n) size) refl name c.if-fresh.false
      (λ s found. c.in_ok-name.ensures.name work.schemas s h.covers (ap (schema_of work.schemas) c.table-2.ensures.table ∙ found))
      (subst (Covers c.widen.new.overlay) (ap₂ (λ (t : List ℕ) (cs : List Col). fold schemas_step work.schemas (map (op.AddColumn t) cs)) c.bytes.ensures.same c.as_slice-added.ensures.items) covers))
      (c.widen.ensures.overlay work.schemas h.covers);
}
