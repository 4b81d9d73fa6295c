use Rattle.std.proofs.Common.{◌∙◌, List, ℕ, refl, ap, sym, arith}
use Rattle.qd_base.specs.Schemas.{same_name}
use Rattle.qd_sql_ast.specs.declared.tree.ColumnDef.{ColumnDef}
use Rattle.qd_writes.proofs.TableLemmas.{column_found, column_missing}
use Rattle.qd_writes.proofs.create.place_of.Goals as goal

pub returns-then-same_name : goal.returns-then-same_name
returns-then-same_name c = record {
  place = column_found c.args.columns.now c.args.name.now c.loop-place.place c.index-columns-place.result c.loop-place-test.true c.index-columns-place.is c.loop-place.invariant
      (ap (λ (d : ColumnDef). same_name d.name.text c.args.name.now) c.index-columns-place.is
      ∙ ap (λ (text : List ℕ). same_name text c.args.name.now) (sym c.bytes.ensures.same) ∙ sym c.same_name.ensures.same ∙ c.if-same_name.true);
}

pub returns : goal.returns
returns c = record { place = column_missing c.args.columns.now c.args.name.now (λ k d lt. c.loop-place.invariant k d (let e = c.loop-place-test.false in omega arith)) c.args.columns.now refl }
