-- A main pass, and the pass of a worker.
use Rattle.std.proofs.Common.{◌≡◌, ◌∙◌, ℕ, List, [], ◌++◌, refl, sym, ap, subst, arith, append-nil, le_refl}
use Rattle.std.specs.List.Sorted.{IsPermutation}
use Rattle.std.proofs.lemmas.List.Sorted.{IsPermutation-refl, IsPermutation-sym, IsPermutation-trans}
use mathlib.Core.List.{IsPrefix}
use Rattle.qd_manifest.specs.declared.shape.TableParts.{TableParts}
use Rattle.qd_score_model.specs.declared.view.View.{View}
use Rattle.qd_score_model.specs.Machine.{lent, merged}
use Rattle.qd_score_model.proofs.Lists.{prefix_refl, prefix_trans}
use Rattle.qd_score_model.proofs.Merging.{merged_permutes}
use Rattle.qd_shared.specs.declared.item.Item.{Item}
use Rattle.qd_shared.specs.Passes.{IsJoined, IsPart, Pass, faults_of, view_of}
use Rattle.qd_shared.specs.Rounds.{Passes}
use Rattle.qd_worker.specs.Worker.{GoesBeside, StaysMain}

-- ---- the worker's pass

pub beside_itself : (p : Pass) → GoesBeside p p
beside_itself p = record { table = refl; origin = refl; mode = refl; phase = refl; own = refl; seen = prefix_refl (view_of p).seen; known = le_refl (view_of p).known; faults = le_refl (faults_of p) }

-- it goes on by a call
pub beside_on : (a b c : Pass) → GoesBeside a b → Passes b c → GoesBeside a c
beside_on a b c g h = record {
  table = h.table ∙ g.table;
  origin = h.origin ∙ g.origin;
  mode = h.mode ∙ g.mode;
  phase = h.phase ∙ g.phase;
  own = h.own ∙ g.own;
  seen = prefix_trans (view_of a).seen (view_of b).seen (view_of c).seen g.seen h.seen;
  known = (let x = g.known in let y = h.known in omega (arith, x, y));
  faults = (let x = g.faults in let y = h.faults in omega (arith, x, y));
}

-- ---- the main pass

pub stays_main : (p : Pass) → StaysMain p p
stays_main p = record { table = refl; origin = refl; mode = refl; phase = refl; own = IsPermutation-refl (view_of p).own; seen = prefix_refl (view_of p).seen; known = le_refl (view_of p).known }

pub stays_on : (a b c : Pass) → StaysMain a b → StaysMain b c → StaysMain a c
stays_on a b c g h = record {
  table = h.table ∙ g.table;
  origin = h.origin ∙ g.origin;
  mode = h.mode ∙ g.mode;
  phase = h.phase ∙ g.phase;
  own = IsPermutation-trans _ _ _ g.own h.own;
  seen = prefix_trans (view_of a).seen (view_of b).seen (view_of c).seen g.seen h.seen;
  known = (let x = g.known in let y = h.known in omega (arith, x, y));
}

-- a pass was split off it
pub lent_stays : (old new : Pass) → new.table ≡ old.table → new.knows.origin ≡ old.knows.origin → view_of new ≡ lent (view_of old) → StaysMain old new
lent_stays old new table origin view = record {
  table = table;
  origin = origin;
  mode = ap (λ (v : View Item (List TableParts)). v.mode) view;
  phase = ap (λ (v : View Item (List TableParts)). v.phase) view;
  own = subst (λ (ns : List ℕ). IsPermutation (view_of old).own ns) (sym (ap (λ (v : View Item (List TableParts)). v.own) view)) (IsPermutation-refl (view_of old).own);
  seen = subst (λ (xs : List Item). IsPrefix (view_of old).seen xs) (sym (ap (λ (v : View Item (List TableParts)). v.seen) view)) (prefix_refl (view_of old).seen);
  known = (let same : (view_of new).known ≡ (view_of old).known = ap (λ (v : View Item (List TableParts)). v.known) view in omega (arith, same));
}

-- a pass was joined to it that has added nothing
pub joined_stays : (main other now : Pass) → IsJoined main other now → (view_of other).own ≡ [] → StaysMain main now
joined_stays main other now j none = record {
  table = j.table;
  origin = j.origin;
  mode = ap (λ (v : View Item (List TableParts)). v.mode) j.view;
  phase = ap (λ (v : View Item (List TableParts)). v.phase) j.view;
  own =
      let both : IsPermutation ((view_of main).own ++ (view_of other).own) (view_of now).own = subst (IsPermutation ((view_of main).own ++ (view_of other).own)) (sym (ap (λ (v : View Item (List TableParts)). v.own) j.view))
      (IsPermutation-sym (merged (view_of main).own (view_of other).own) ((view_of main).own ++ (view_of other).own) (merged_permutes (view_of main).own (view_of other).own)) in
      subst (λ (ns : List ℕ). IsPermutation ns (view_of now).own) (ap (λ (ns : List ℕ). (view_of main).own ++ ns) none ∙ append-nil (view_of main).own) both;
  seen = j.seen;
  known = (let more : (view_of now).known ≡ _ = ap (λ (v : View Item (List TableParts)). v.known) j.view in omega (arith, more));
}
