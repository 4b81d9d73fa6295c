use Rattle.std.proofs.Common.{◌∙◌, ℕ, List, map, ap, ap₂}
use Rattle.qd_base.specs.declared.schema.Col.{Col}
use Rattle.qd_meaning.specs.Scopes.{scope_column}
use Rattle.qd_plan.proofs.TableLemmas.{cols_same}
use Rattle.qd_plan.proofs.tables.side.Goals as goal

pub returns : goal.returns
returns c = record {
  side =
      c.new.ensures.side
      ∙ ap₂ (λ (name : List ℕ) (cols : List Col). map (scope_column name) cols) (c.bytes.ensures.same ∙ ap (λ (n : _). n.text) c.called.ensures.called) (cols_same c.args.schema);
}
