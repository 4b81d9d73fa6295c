use Rattle.std.proofs.Common.{◌≡◌, ℕ, List, Option, Some, false, sym, ap, ◌∙◌}
use Rattle.qd_base.specs.declared.schema.Col.{Col}
use Rattle.qd_base.specs.Schemas.{same_name}
use Rattle.qd_sql_ast.specs.declared.tree.Name.{Name}
use Rattle.qd_meaning.specs.Scopes as scopes
use Rattle.qd_bind.specs.Scoped as spec
use Rattle.qd_bind.proofs.ScopeLemmas.{join_none, other_named}
use Rattle.qd_bind.proofs.side.Side.look.Goals as goal

pub returns-else-same_name : goal.returns-else-same_name
returns-else-same_name c =
    let name = c.args.name.now in
    let before = spec.hit c.args.before in
    let apart : same_name c.args.self.now.name.now name.first.text ≡ false = ap (same_name c.args.self.now.name.now) (sym c.bytes-in-Some.ensures.same) ∙ sym c.same_name.ensures.same ∙ c.if-same_name.false in
    record {
      hits =
          sym (join_none before)
          ∙ sym (ap (λ (xs : List (ℕ × Col)). spec.join before (spec.summary xs)) (other_named c.args.self.now.name.now name.first c.in-Some.second c.args.base (spec.columns c.args.self.now) apart))
          ∙ ap (λ (o : Option Name). spec.join before (spec.summary (scopes.found_from (scopes.is_named name.first o) c.args.base (spec.side c.args.self.now)))) (sym c.in-Some.is);
    }
