use Rattle.std.proofs.Common.{◌≡◌, ℕ, ◌++◌, length, Option, sym, ap, ap₂, ◌∙◌}
use Rattle.qd_meaning.specs.Scopes as scopes
use Rattle.qd_bind.specs.declared.side.Side.{Side}
use Rattle.qd_bind.specs.Scoped as spec
use Rattle.qd_bind.proofs.ScopeLemmas.{both_sides, length_side}
use Rattle.qd_bind.proofs.scope.Scope.look.Goals as goal

pub returns-in-Some : goal.returns-in-Some
returns-in-Some c =
    let name = c.args.name.now in
    let left = c.args.self.now.left in
    let right = c.in-Some.right in
    record {
      hits =
          c.look.ensures.hits
          ∙ ap₂ (λ (h : spec.Found) (k : ℕ). spec.join h (spec.summary (scopes.found_from (scopes.is_named name.first name.second) k (spec.side right)))) c.look-left.ensures.hits
          (ap length c.columns.ensures.columns ∙ sym (length_side left.name.now (spec.columns left)))
          ∙ both_sides name (spec.side left) (spec.side right)
          ∙ ap (λ (o : Option Side). spec.summary (scopes.found (spec.side left ++ spec.side_or_none o) name)) (sym c.in-Some.is);
    }
