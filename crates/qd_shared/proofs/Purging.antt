-- A hold in which a pass removes what no version lists.
use Rattle.std.proofs.Common.{◌≡◌, ◌∙◌, ℕ, ◌<◌, List, length, Option, Result, sym, ap, ap₂, subst, arith, get_or, None}
use Rattle.atomic_table.specs.Seated.{TableId}
use Rattle.qd_catalog.specs.declared.version.Version as catalog
use Rattle.qd_io.specs.declared.fault.IoFault.{IoFault}
use Rattle.qd_score_model.specs.declared.view.Refusal.{Refusal}
use Rattle.qd_score_model.proofs.Lists.{prefix_refl}
use Rattle.qd_store_backend.specs.Backs.{current, n_in}
use Rattle.qd_shared.specs.Commits.{IsCounted}
use Rattle.qd_shared.specs.Desks.{Desk, items_in}
use Rattle.qd_shared.specs.Holding.{Along, Begins, Gives, MayEnd, Steps}
use Rattle.qd_shared.specs.Passes.{HasDesk, Knowing, Pass, view_of}
use Rattle.qd_shared.specs.Publishing.{IsRest}
use Rattle.qd_shared.specs.Rounds.{IsPurged, IsThin, Purges, Removes, current_row}
use Rattle.qd_shared.proofs.Applying.{ends, ends_told, refused_kept}
use Rattle.qd_shared.proofs.Held.{at_table}
use Rattle.qd_shared.proofs.Passing.{held_passes}
use Rattle.qd_shared.proofs.Seated.{counted_items}
use Rattle.qd_shared.proofs.Thinning.{thin_on}
use Rattle.qd_shared.proofs.Turning.{rest_items}

module _ (p : Pass) (table table' : TableId) (k now one then : Knowing) (is : at_table table k ≡ p) (has : HasDesk k) (found a left : Desk) (begins : Begins k found) (along : Along k now found) (same : table' ≡ table)
    (first : Steps now one found a) (second : Steps one one a left) (may : MayEnd one left) (gave : Gives one then left) (counted : IsCounted left) where
  pub purges : (r : Result ℕ IoFault) → items_in a ≡ items_in found → current a.owned.store ≡ current found.owned.store → a.removed ≡ found.removed → ((row : ℕ) → row < 64 → IsThin a one.view.refused row)
      → IsRest a left → left.owned.store.versions.versions.versions ≡ a.owned.store.versions.versions.versions → current_row left ≡ current_row a → Removes a left → IsPurged r a left → Purges r p (at_table table' then)
  purges r items shown before thin rest list row removes purged =
      let holds = ends p table table' k now one one then is has found a left begins along same first second may gave counted in
      let told = ends_told p table table' k now one one then is has found a left begins along same first second may gave counted in
      let stays : current left.owned.store ≡ current a.owned.store = ap₂ (λ (l : List (Option catalog.Version)) (i : ℕ). get_or l i None) list row in
      let all : items_in left ≡ items_in found = rest_items a left rest ∙ items in
      let now_shown : current left.owned.store ≡ current found.owned.store = stays ∙ shown in
      record {
        found = found;
        let_go = a;
        left = left;
        holds = holds;
        items = all;
        shown = now_shown;
        passes = held_passes p (at_table table' then) found left holds (let s = ap n_in now_shown in omega (arith, s)) all told (counted_items left counted);
        thin = λ i less. subst (λ (l : List Refusal). IsThin left l i) (sym (refused_kept one then left gave))
            (thin_on a left one.view.refused one.view.refused i row (ap (λ (l : List (Option catalog.Version)). get_or l i None) list) (prefix_refl one.view.refused) (thin i less));
        before = before;
        removes = removes;
        purged = purged;
      }
