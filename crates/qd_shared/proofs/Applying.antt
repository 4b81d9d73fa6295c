-- The last hold of an apply.
use Rattle.std.proofs.Common.{◌≢◌, ◌⊎◌, true, false, [], ◌≡◌, ◌∙◌, inl, inr, ℕ, ◌≤◌, List, length, Result, Ok, Err, refl, sym, ap, subst, arith}
use mathlib.Core.List.{IsPrefix}
use Rattle.std.proofs.Math.Dec.{eqb}
use Rattle.std.proofs.lemmas.Bool.Decides.{eqb_tells}
use Rattle.atomic_table.specs.Seated.{TableId}
use Rattle.qd_io.specs.Ends.{HasRisen}
use Rattle.qd_score_model.specs.declared.view.Refusal.{Refusal}
use Rattle.qd_store_backend.specs.Backs.{current, n_in}
use Rattle.qd_shared.specs.declared.rounds.RoundFault.{RoundFault}
use Rattle.qd_shared.specs.declared.rounds.RoundFault.TheVariants as fault
use Rattle.qd_shared.specs.Commits.{IsCounted}
use Rattle.qd_shared.specs.Desks.{Desk, items_in}
use Rattle.qd_shared.specs.Holding.{Along, Begins, Gives, MayEnd, Steps}
use Rattle.qd_shared.specs.Passes.{HasDesk, Holds, Knowing, Pass, faults_of, history_of, view_of}
use Rattle.qd_shared.specs.Publishing.{IsDraftFault}
use Rattle.qd_shared.specs.Rounds.{AllPinned, IsAnswered, IsApplied, IsRefused, Passes}
use Rattle.qd_shared.proofs.Held.{at_table}
use Rattle.qd_shared.proofs.Seated.{counted_items, held, told_left}
use Rattle.qd_shared.proofs.Passing.{held_passes}
use Rattle.qd_shared.proofs.Turning.{along_steps, steps_both}

risen_wide : (a b c d : ℕ) → a ≤ b → c ≤ d → HasRisen b c → HasRisen a d
risen_wide a b c d low high (inl less) = inl (omega (arith, low, high, less))
risen_wide a b c d low high (inr last) = inr (omega (arith, low, high, last))

-- what an apply answers, where rows were let go before it
pub applied_wide : (least : ℕ) (r : Result ℕ RoundFault) (a b c : Desk) (refused : List Refusal) → b.history ≡ a.history → a.owned.storage.faults ≤ b.owned.storage.faults → IsApplied least r b c refused → IsApplied least r a c refused
applied_wide least (Ok n) a b c refused history low is = is
applied_wide least (Err fault.Vol) a b c refused history low risen = risen_wide a.owned.storage.faults b.owned.storage.faults c.owned.storage.faults c.owned.storage.faults low (omega arith) risen
applied_wide least (Err (fault.Damaged file at)) a b c refused history low none = sym history ∙ none
applied_wide least (Err fault.NoRow) a b c refused history low all = all
applied_wide least (Err fault.Memory) a b c refused history low any = tt

-- or where it was to show fewer
pub applied_less : (least more : ℕ) (r : Result ℕ RoundFault) (a b : Desk) (refused : List Refusal) → least ≤ more → IsApplied more r a b refused → IsApplied least r a b refused
applied_less least more (Ok n) a b refused le (enough, shown, within) = (omega (arith, le, enough), shown, within)
applied_less least more (Err fault.Vol) a b refused le is = is
applied_less least more (Err (fault.Damaged file at)) a b refused le is = is
applied_less least more (Err fault.NoRow) a b refused le is = is
applied_less least more (Err fault.Memory) a b refused le is = is

-- what a pass answers, where it has gone on before
pub answered_wide : (least more : ℕ) (r : Result ℕ RoundFault) (p q new : Pass) → least ≤ more → Passes p q → IsAnswered more r q new → IsAnswered least r p new
answered_wide least more (Ok n) p q new le g (enough, shown, within) = (omega (arith, le, enough), shown, within)
answered_wide least more (Err fault.Vol) p q new le g risen = risen_wide (faults_of p) (faults_of q) (faults_of new) (faults_of new) g.faults (omega arith) risen
answered_wide least more (Err (fault.Damaged file at)) p q new le g is = is
answered_wide least more (Err fault.NoRow) p q new le g is = is
answered_wide least more (Err fault.Memory) p q new le g is = is

-- where enough are shown, or it has failed
pub answered_enough : (least : ℕ) (r : Result ℕ RoundFault) (p q new : Pass) → ((n : ℕ) → r ≡ Ok n → least ≤ n) → Passes p q → IsAnswered 0 r q new → IsAnswered least r p new
answered_enough least (Ok n) p q new enough g (any, shown, within) = (enough n refl, shown, within)
answered_enough least (Err fault.Vol) p q new enough g risen = risen_wide (faults_of p) (faults_of q) (faults_of new) (faults_of new) g.faults (omega arith) risen
answered_enough least (Err (fault.Damaged file at)) p q new enough g is = is
answered_enough least (Err fault.NoRow) p q new enough g is = is
answered_enough least (Err fault.Memory) p q new enough g is = is

-- a draft that failed, as the answer of an apply
pub answered_draft : (f : RoundFault) (least : ℕ) (p q : Pass) (found left : Desk) → Holds p q found left → history_of q ≡ found.history → IsDraftFault f found left → IsAnswered least (Err f) p q
answered_draft fault.Vol least p q found left h told risen = by risen
  where
    by : HasRisen found.owned.storage.faults left.owned.storage.faults → HasRisen (faults_of p) (faults_of q)
    by (inl less) = inl (let before = h.faults_before in let now = h.faults in omega (arith, before, now, less))
    by (inr last) = inr (let now = h.faults in omega (arith, now, last))
answered_draft (fault.Damaged file at) least p q found left h told none = told ∙ none
answered_draft fault.NoRow least p q found left h told is = absurd is
answered_draft fault.Memory least p q found left h told is = tt

-- a give keeps what was refused
pub refused_kept : (now then : Knowing) (d : Desk) → Gives now then d → then.view.refused ≡ now.view.refused
refused_kept now then d (h, held, is) = ap (λ (k : Knowing). k.view.refused) is

-- what a pass knows of it
pub answered : (least : ℕ) (r : Result ℕ RoundFault) (old new : Pass) (found left : Desk) → Holds old new found left → left.history ≡ found.history → history_of new ≡ left.history → IsApplied least r found left (view_of new).refused → IsAnswered least r old new
answered least (Ok n) old new found left h history told (enough, shown, within) = (enough, h.known ∙ shown, (let count : length (view_of new).seen ≡ length (items_in left) = ap length h.seen in omega (arith, count, within)))
answered least (Err fault.Vol) old new found left h history told risen = by risen
  where
    by : HasRisen found.owned.storage.faults left.owned.storage.faults → HasRisen (faults_of old) (faults_of new)
    by (inl less) = inl (let before = h.faults_before in let now = h.faults in omega (arith, before, now, less))
    by (inr last) = inr (let now = h.faults in omega (arith, now, last))
answered least (Err (fault.Damaged file at)) old new found left h history told none = told ∙ (history ∙ none)
answered least (Err fault.NoRow) old new found left h history told all = all
answered least (Err fault.Memory) old new found left h history told any = tt

-- the last hold of an apply: rows are let go, and a merge is shown
module _ (p : Pass) (table table' : TableId) (k now one two then : Knowing) (is : at_table table k ≡ p) (has : HasDesk k) (found a left : Desk) (begins : Begins k found) (along : Along k now found) (same : table' ≡ table)
    (first : Steps now one found a) (second : Steps one two a left) (may : MayEnd two left) (gave : Gives two then left) (counted : IsCounted left) where
  abbrev whole : Steps now two found left
  whole = steps_both now one two found a left first second

  abbrev goes : Along k two found
  goes = along_steps k now two found found left along whole

  pub ends : Holds p (at_table table' then) found left
  ends = held p table table' k two then is has found begins goes same left whole.grows may gave

  pub ends_told : history_of (at_table table' then) ≡ left.history
  ends_told = told_left p table table' k two then is has found begins goes same left whole.grows may gave counted

  pub applies : (least : ℕ) (r : Result ℕ RoundFault) → items_in a ≡ items_in found → items_in left ≡ items_in a → a.history ≡ found.history → left.history ≡ a.history
      → current a.owned.store ≡ current found.owned.store → n_in (current a.owned.store) ≤ n_in (current left.owned.store) → IsApplied least r a left two.view.refused → Passes p (at_table table' then) × IsAnswered least r p (at_table table' then)
  applies least r i j s t x y applied = (
    held_passes p (at_table table' then) found left ends (let m : n_in (current a.owned.store) ≡ n_in (current found.owned.store) = ap n_in x in omega (arith, m, y)) (j ∙ i) ends_told (counted_items left counted),
    answered least r p (at_table table' then) found left ends (t ∙ s) ends_told (subst (λ (l : List Refusal). IsApplied least r found left l) (sym (refused_kept two then left gave)) (applied_wide least r found a left two.view.refused s first.grows.rise applied)),
  )

-- not all rows are pinned where none was found pinned
none_refused : (row : ℕ) → IsRefused [] row → ⊥
none_refused row (word, (i, less, at), pins) = absurd (omega (arith, less))

none_pinned : (refused : List Refusal) → refused ≡ [] → AllPinned refused → ⊥
none_pinned refused none (row, all) = by (all 0 (omega arith)) (all 1 (omega arith)) (eqb_tells 0 row)
  where
    empty : (other : ℕ) → IsRefused refused other → ⊥
    empty other is = none_refused other (subst (λ (l : List Refusal). IsRefused l other) none is)

    by : (0 ≢ row → IsRefused refused 0) → (1 ≢ row → IsRefused refused 1) → ((eqb 0 row ≡ true) × (0 ≡ row)) ⊎ ((eqb 0 row ≡ false) × (0 ≢ row)) → ⊥
    by a b (inl (t, same)) = empty 1 (b (λ e. omega (arith, e, same)))
    by a b (inr (f, apart)) = empty 0 (a apart)

-- a Sole pass without a pin is never refused a row
pub never_crowded : (least : ℕ) (r : Result ℕ RoundFault) (old new : Pass) → IsAnswered least r old new → (view_of new).refused ≡ [] → r ≡ Err fault.NoRow → ⊥
never_crowded least (Ok n) old new is none same = absurd (cc)
never_crowded least (Err fault.Vol) old new is none same = absurd (cc)
never_crowded least (Err (fault.Damaged file at)) old new is none same = absurd (cc)
never_crowded least (Err fault.NoRow) old new is none same = none_pinned (view_of new).refused none is
never_crowded least (Err fault.Memory) old new is none same = absurd (cc)

pub never_drafted : (r f : RoundFault) (found left : Desk) → r ≡ f → IsDraftFault f found left → r ≡ fault.NoRow → ⊥
never_drafted r fault.Vol found left is f same = absurd (let e = is in let s = same in cc (e, s))
never_drafted r (fault.Damaged file at) found left is f same = absurd (let e = is in let s = same in cc (e, s))
never_drafted r fault.NoRow found left is f same = f
never_drafted r fault.Memory found left is f same = absurd (let e = is in let s = same in cc (e, s))
