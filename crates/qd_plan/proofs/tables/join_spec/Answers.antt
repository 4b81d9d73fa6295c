use Rattle.std.proofs.Common.{◌∙◌, ℕ, Bool, not, List, Option, map, ap, ap₂}
use Rattle.std.specs.List.{flat_map}
use Rattle.std.specs.Option.{option_copied}
use Rattle.qd_base.specs.declared.code.Code.TheVariants as code
use Rattle.qd_base.specs.declared.schema.Schema.{Schema}
use Rattle.qd_base.specs.Schemas.{same_name}
use Rattle.qd_sql_ast.specs.declared.tree.Join.{Join}
use Rattle.qd_sql_ast.specs.declared.tree.Name.{Name}
use Rattle.qd_meaning.specs.declared.parts.JoinSpec.{JoinSpec}
use Rattle.qd_meaning.specs.declared.refusal.Refusal.{Refusal}
use Rattle.qd_meaning.specs.Refusals.{least, sooner, unless}
use Rattle.qd_meaning.specs.Scopes.{called}
use Rattle.qd_meaning.specs.Planned as parts
use Rattle.qd_plan.specs.Joining.{key_faults}
use Rattle.qd_plan.proofs.FaultLemmas.{step}
use Rattle.qd_plan.proofs.tables.join_spec.Goals as goal

abbrev spec_of : List ℕ → List ℕ → Bool → JoinSpec
spec_of left right strict = record { left = left; right = right; strict = strict }

pub returns : goal.returns
returns c =
    let before : Option Refusal = c.args.faults.now.first in
    let l : Option Schema = option_copied c.args.left.schema in
    let r : Option Schema = option_copied c.args.right.schema in
    let j : Join = c.args.join.now in
    let one : List ℕ = (called c.args.source.now).text in
    let other : Name = called j.right in
    let name = c.called-name.ensures.called in
    let names = c.keys_on-names.ensures.names in
    let same =
    ap not (c.same_name-is_apart.ensures.same ∙ ap₂ same_name (c.bytes.ensures.same ∙ ap (λ (n : Name). n.text) c.called.ensures.called) (c.bytes-2.ensures.same ∙ ap (λ (n : Name). n.text) name)) in
    record {
      spec =
          ap₂ (λ (a b : List ℕ). spec_of a b c.is_strict.result)
          (c.in_ok-left.ensures.left ∙ ap (map (parts.column_in (parts.cols_in l))) names)
          (c.in_ok-left.ensures.right ∙ ap (map (parts.column_in (parts.cols_in r))) names)
          ∙ ap (spec_of (map (parts.column_in (parts.cols_in l)) (parts.keys_on j.on)) (map (parts.column_in (parts.cols_in r)) (parts.keys_on j.on))) c.is_strict.ensures.strict;
      faults =
          step before c.unless.new.self.first c.join_keys.new.faults.first (unless (not (same_name one other.text)) code.Ambiguous other.at) (flat_map (key_faults l r) (parts.keys_on j.on))
          (c.unless.ensures.added ∙ ap₂ (λ (b : Bool) (at : ℕ). sooner before (least (unless b code.Ambiguous at))) same (ap (λ (n : Name). n.at) name))
          (c.in_ok-left.ensures.faults ∙ ap (λ (ns : List Name). sooner c.unless.new.self.first (least (flat_map (key_faults l r) ns))) names);
    }
