use Rattle.std.proofs.Common.{◌≡◌, ◌∙◌, ◌==◌, ◌≤◌, ℕ, not, filter, length, List, All, sym, ap, subst, rules, arith}
use Rattle.std.proofs.lemmas.Fn.{filter_same}
use Rattle.std.proofs.lemmas.List.Elements.{All-filter}
use Rattle.qd_column_files.specs.Growing.{all_texts}
use Rattle.qd_versions.specs.declared.keeping.KeptTail.{KeptTail}
use Rattle.qd_versions.specs.declared.keeping.TheConstants.{MAX_KEPT_TEXTS}
use Rattle.qd_versions.specs.Stores.{AreFew}
use Rattle.qd_versions.proofs.keeping.Kept.forget_one.Goals as goal

-- fewer are few
few_left : (kept left : List KeptTail) (block : ℕ) → left ≡ filter (λ k. not (k.block == block)) kept → length left ≤ length kept → AreFew kept → AreFew left
few_left kept left block is shorter few = record {
  few = omega (arith, shorter, few.few);
  small = subst (λ (l : List KeptTail). All (λ k. all_texts k.tail.columns ≤ MAX_KEPT_TEXTS) l) (sym is) (All-filter (λ (k : KeptTail). not (k.block == block)) (λ (k : KeptTail). all_texts k.tail.columns ≤ MAX_KEPT_TEXTS) kept few.small);
}

pub invariant_of-self : goal.invariant_of-self
invariant_of-self c = few_left c.self.inside.tails.items c.retain.new.self.items c.args.block (filter_same _ _ _ (λ x b f' k. search rules) _ _ c.retain.ensures.filtered) (omega (arith, c.retain.ensures.bound)) c.self.invariant

pub returns : goal.returns
returns c = record { left = filter_same _ _ _ (λ x b f' k. search rules) _ _ c.retain.ensures.filtered ∙ ap (λ (l : List KeptTail). filter (λ (k : KeptTail). not (k.block == c.args.block)) l) c.self.view_is }
