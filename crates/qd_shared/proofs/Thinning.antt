-- Rows of versions are gone through, and each version is let go that nobody has pinned.
use Rattle.std.proofs.Common.{◌≡◌, ◌≢◌, ◌⊎◌, ◌∙◌, inl, inr, ℕ, ◌+◌, ◌<◌, ◌≤◌, true, false, List, ◌∷◌, Option, Some, None, Contains, replicate, map, get_or, refl, sym, ap, ap₂, subst, arith}
use mathlib.Core.List.{IsPrefix}
use Rattle.std.proofs.Math.Dec.{eqb}
use Rattle.std.proofs.lemmas.Bool.Decides.{eqb_tells}
use Rattle.std.proofs.lemmas.List.Elements.{Contains-append_left}
use Rattle.qd_base.specs.declared.limits.TheConstants.{MAX_TXNS}
use Rattle.qd_catalog.specs.declared.version.Version as catalog
use Rattle.qd_catalog.specs.Versions.{version_at}
use Rattle.qd_manifest.specs.declared.shape.TableParts.{TableParts}
use Rattle.qd_manifest.specs.Spelling.{blocks_of}
use Rattle.qd_score_model.specs.declared.view.Refusal.{Refusal}
use Rattle.qd_score_model.specs.declared.view.Version.{Version}
use Rattle.qd_score_model.specs.Machine.{MayOpen}
use Rattle.qd_store.specs.Opening.{HasFirstRow}
use Rattle.qd_store.specs.Stores.{IsBook}
use Rattle.qd_store_backend.specs.Backs.{current, n_in}
use Rattle.qd_shared.specs.Desks.{Desk, book_of, items_in, version_of}
use Rattle.qd_shared.specs.Holding.{IsLonely, MayEnd, Steps}
use Rattle.qd_shared.specs.Passes.{Knowing}
use Rattle.qd_shared.specs.Publishing.{HasRows}
use Rattle.qd_shared.specs.Rounds.{IsRefused, IsThin, current_row}
use Rattle.qd_shared.proofs.Items.{items_count}
use Rattle.qd_shared.proofs.Rows.{Row, present_all}
use Rattle.qd_shared.proofs.Turning.{grows_refl, steps_both, steps_none}

-- the first rows were gone through
pub record IsThinnedTo (first now : Knowing) (from to : Desk) (upto : ℕ) : Type 0 where
  pub may : MayEnd now to
  pub steps : Steps first now from to
  pub items : items_in to ≡ items_in from
  pub history : to.history ≡ from.history
  pub shown : current to.owned.store ≡ current from.owned.store
  pub removed : to.removed ≡ from.removed
  pub alone : IsLonely first now
  pub thin : (row : ℕ) → row < upto → IsThin to now.view.refused row

pub thinned_none : (k : Knowing) (d : Desk) → MayEnd k d → IsThinnedTo k k d d 0
thinned_none k d may = record { may = may; steps = steps_none k d d may (grows_refl d); items = refl; history = refl; shown = refl; removed = refl; alone = λ m i. refl; thin = λ row less. absurd (omega (arith, less)) }

pub refused_on : (xs ys : List Refusal) (row : ℕ) → IsPrefix xs ys → IsRefused xs row → IsRefused ys row
refused_on xs ys row (more, is) (word, inside, pins) = (word, subst (λ (l : List Refusal). Contains l (record { row = row; word = word })) is (Contains-append_left xs more (record { row = row; word = word }) inside), pins)

pub thin_on : (from to : Desk) (xs ys : List Refusal) (row : ℕ) → current_row to ≡ current_row from → version_at to.owned.store.versions.versions row ≡ version_at from.owned.store.versions.versions row → IsPrefix xs ys → IsThin from xs row → IsThin to ys row
thin_on from to xs ys row same at more thin other = by (thin (λ e. other (e ∙ sym same))) where
  by : (version_at from.owned.store.versions.versions row ≡ None) ⊎ IsRefused xs row → (version_at to.owned.store.versions.versions row ≡ None) ⊎ IsRefused ys row
  by (inl none) = inl (at ∙ none)
  by (inr refused) = inr (refused_on xs ys row more refused)

pub thinned_more : (first now then : Knowing) (from mid to : Desk) (upto : ℕ) → IsThinnedTo first now from mid upto → MayEnd then to → Steps now then mid to → items_in to ≡ items_in mid → to.history ≡ mid.history → current to.owned.store ≡ current mid.owned.store
    → current_row to ≡ current_row mid → to.removed ≡ mid.removed → IsLonely now then → IsThin to then.view.refused upto → ((other : ℕ) → other ≢ upto → version_at to.owned.store.versions.versions other ≡ version_at mid.owned.store.versions.versions other) → IsThinnedTo first then from to (upto + 1)
thinned_more first now then from mid to upto t may steps items history shown row removed alone thin others = record {
  may = may;
  steps = steps_both first now then from mid to t.steps steps;
  items = items ∙ t.items;
  history = history ∙ t.history;
  shown = shown ∙ t.shown;
  removed = removed ∙ t.removed;
  alone = λ m i. alone (t.steps.mode ∙ m) (t.steps.phase ∙ i) ∙ t.alone m i;
  thin = λ k less. by k less (eqb_tells k upto);
}
  where
    by : (k : ℕ) → k < upto + 1 → ((eqb k upto ≡ true) × (k ≡ upto)) ⊎ ((eqb k upto ≡ false) × (k ≢ upto)) → IsThin to then.view.refused k
    by k less (inl (t', same)) = subst (λ (i : ℕ). IsThin to then.view.refused i) (sym same) thin
    by k less (inr (f, apart)) = thin_on mid to now.view.refused then.view.refused k row (others k apart) steps.refused (t.thin k (omega (arith, less, apart)))

-- ---- a store that is shared

no_rows : map version_of (replicate 63 None) ≡ replicate 63 None
no_rows = refl

pub may_open : (d : Desk) → HasFirstRow d.owned.store.versions.versions → HasRows d → IsBook d.owned.store → (x : Version (List TableParts)) × MayOpen blocks_of (book_of d) x
may_open d f have book =
    let x : catalog.Version = record { n = f.n; shape = f.shape } in
    let here : version_at d.owned.store.versions.versions 0 ≡ Some x = ap (λ (l : List (Option catalog.Version)). get_or l 0 None) f.versions in
    let now : current d.owned.store ≡ Some x = ap (λ (r : ℕ). version_at d.owned.store.versions.versions r) f.current ∙ here in (
      record { n = f.n; shape = f.shape },
      record {
        versions = ap (map version_of) f.versions ∙ ap (λ (l : List Row). Some (record { n = f.n; shape = f.shape }) ∷ l) no_rows;
        current = ap₂ (λ (o : Option catalog.Version) (r : ℕ). record { n = n_in o; row = r }) now f.current;
        within = (let le = book.shown d.owned.store.versions.versions.current x now in let count = items_count d.owned.store.sequence.refs d.history in omega (arith, le, count));
        present = present_all d have;
      },
    )

pub small_open : (d : Desk) → HasFirstRow d.owned.store.versions.versions → IsBook d.owned.store → n_in (current d.owned.store) ≤ MAX_TXNS
small_open d f book =
    let x : catalog.Version = record { n = f.n; shape = f.shape } in
    let here : version_at d.owned.store.versions.versions 0 ≡ Some x = ap (λ (l : List (Option catalog.Version)). get_or l 0 None) f.versions in
    let now : current d.owned.store ≡ Some x = ap (λ (r : ℕ). version_at d.owned.store.versions.versions r) f.current ∙ here in
    let le = book.shown d.owned.store.versions.versions.current x now in
    let few = book.few in
    let number : n_in (current d.owned.store) ≡ f.n = ap n_in now in
    omega (arith, le, few, number)
