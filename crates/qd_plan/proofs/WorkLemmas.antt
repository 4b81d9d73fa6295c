-- What is made of the rows, with a sample and without one.
use Rattle.std.proofs.Common.{◌≡◌, ℕ, ◌+◌, Bool, true, false, if◌then◌else◌, List, length, map, Option, Some, None, refl, ap, ap₂, ◌∙◌, subst}
use Rattle.std.specs.List.{flat_map, range_with_len}
use Rattle.qd_base.specs.declared.schema.ColType.{ColType}
use Rattle.qd_sql_ast.specs.declared.tree.Sampled.{Sampled}
use Rattle.qd_value.specs.declared.bound.Bound.{Bound}
use Rattle.qd_meaning.specs.declared.parts.Agg.{Agg}
use Rattle.qd_meaning.specs.declared.parts.Work.TheVariants as work
use Rattle.qd_meaning.specs.Items.{Shows, Role, bound_in, keys_among, picks_from, some_made}
use Rattle.qd_meaning.specs.Planned.{buckets_in, made_kinds, picks_of, roles_in, work_of}
use Rattle.qd_meaning.specs.Sampling.{sample_spec}
use Rattle.qd_plan.specs.declared.work.Parts.{Parts}
use Rattle.qd_plan.specs.Showing.{pick, plain_work, roles}
use Rattle.qd_plan.specs.Showing as spec
use Rattle.qd_plan.proofs.SeatLemmas.{none_before, one_behind, picks_all, picks_none, work_plain}

-- ---- with a sample, and without one

abbrev plain : List Shows → List Bound
plain shown = flat_map (λ (i : Shows). bound_in i.part) shown

module _ (o : Option Sampled) (s : Sampled) (is : Some s ≡ o) (shown : List Shows) (time_col : ℕ) (p : Parts) where
  pub work_sampled : spec.Makes (buckets_in time_col o) shown p → work.Sample (sample_spec s p.keys p.aggs) ≡ work_of o (some_made shown) (plain shown) (roles_in time_col o shown)
  work_sampled m =
      subst (λ (x : Option Sampled). spec.Makes (buckets_in time_col x) shown p → work.Sample (sample_spec s p.keys p.aggs) ≡ work_of x (some_made shown) (plain shown) (roles_in time_col x shown)) is
      (λ n. ap₂ (λ (es : List Bound) (gs : List Agg). work.Sample (sample_spec s es gs)) n.keys n.aggs) m

  pub picks_sampled : spec.Makes (buckets_in time_col o) shown p → map (pick 1 (1 + length p.keys)) p.seats ≡ picks_of o (some_made shown) (roles_in time_col o shown)
  picks_sampled m =
      subst (λ (x : Option Sampled). spec.Makes (buckets_in time_col x) shown p → map (pick 1 (1 + length p.keys)) p.seats ≡ picks_of x (some_made shown) (roles_in time_col x shown)) is
      (λ n. ap (map (pick 1 (1 + length p.keys))) n.seats
      ∙ picks_all 1 (1 + length p.keys) 1 (length (keys_among (roles (Some time_col) shown)) + 1) (roles (Some time_col) shown) refl
      (one_behind (length p.keys) (length (keys_among (roles (Some time_col) shown))) (ap length n.keys))) m

module _ (o : Option Sampled) (is : None ≡ o) (shown : List Shows) (time_col : ℕ) (p : Parts) where
  pub work_none : spec.Makes (buckets_in time_col o) shown p → plain_work p.kinds p.keys p.aggs ≡ work_of o (some_made shown) (plain shown) (roles_in time_col o shown)
  work_none m =
      subst (λ (x : Option Sampled). spec.Makes (buckets_in time_col x) shown p → plain_work p.kinds p.keys p.aggs ≡ work_of x (some_made shown) (plain shown) (roles_in time_col x shown)) is
      (λ n. ap (λ (ks : List ColType). plain_work ks p.keys p.aggs) n.kinds
      ∙ ap₂ (λ (es : List Bound) (gs : List Agg). plain_work (made_kinds shown) es gs) n.keys n.aggs
      ∙ work_plain shown) m

  pub picks_without : spec.Makes (buckets_in time_col o) shown p → map (pick 0 (0 + length p.keys)) p.seats ≡ picks_of o (some_made shown) (roles_in time_col o shown)
  picks_without m =
      subst (λ (x : Option Sampled). spec.Makes (buckets_in time_col x) shown p → map (pick 0 (0 + length p.keys)) p.seats ≡ picks_of x (some_made shown) (roles_in time_col x shown)) is
      (λ n. ap (map (pick 0 (0 + length p.keys))) n.seats
      ∙ picks_none shown 0 (0 + length p.keys) refl (none_before (length p.keys) (length (keys_among (roles None shown))) (ap length n.keys))
      ∙ chosen_picks (some_made shown) (roles None shown)) m
    where
      chosen_picks : (b : Bool) (rs : List Role) → (if b then picks_from 0 (length (keys_among rs)) rs else range_with_len 0 (length rs)) ≡ picks_of None b rs
      chosen_picks true rs = refl
      chosen_picks false rs = refl
