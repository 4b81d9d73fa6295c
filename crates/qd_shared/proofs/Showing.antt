-- An apply that shows all transactions, or says why not.
use Rattle.std.proofs.Common.{◌≡◌, ◌≢◌, ◌⊎◌, inl, inr, ℕ, ◌<◌, ◌≤◌, true, List, length, Option, Some, None, is_some, Err, ap, subst, refl, arith}
use Rattle.qd_catalog.specs.declared.version.Version as catalog
use Rattle.qd_catalog.specs.Versions.{version_at}
use Rattle.qd_io.specs.Ends.{HasRisen}
use Rattle.qd_score_model.specs.declared.view.Refusal.{Refusal}
use Rattle.qd_store_backend.specs.Backs.{current, n_in}
use Rattle.qd_versions.specs.Publishing.{IsFull}
use Rattle.qd_shared.specs.declared.rounds.RoundFault.{RoundFault}
use Rattle.qd_shared.specs.declared.rounds.RoundFault.TheVariants as fault
use Rattle.qd_shared.specs.Desks.{Desk}
use Rattle.qd_shared.specs.Publishing.{IsDraftFault}
use Rattle.qd_shared.specs.Rounds.{AllPinned, IsApplied, IsRefused, IsThin, current_row}

-- fewer are shown than there are, where as many aren't
pub more_of : (a b : Desk) (n upto : ℕ) → a ≡ b → n ≡ n_in (current a.owned.store) → n ≤ length a.owned.store.sequence.refs → upto ≡ length b.owned.store.sequence.refs → n ≢ upto → n_in (current b.owned.store) < upto
more_of a b n upto same is within all apart =
    let shown : n_in (current a.owned.store) ≡ n_in (current b.owned.store) = ap (λ (d : Desk). n_in (current d.owned.store)) same in
    let count : length a.owned.store.sequence.refs ≡ length b.owned.store.sequence.refs = ap (λ (d : Desk). length d.owned.store.sequence.refs) same in
    omega (arith, is, within, all, apart, shown, count)

none_live : (o : Option catalog.Version) → o ≡ None → is_some o ≡ true → ⊥
none_live None none live = absurd (cc)
none_live (Some x) none live = absurd (cc)

-- where all rows are live and each but the current one is free or pinned, all are pinned
all_pinned : (d : Desk) (refused : List Refusal) → ((row : ℕ) → row < 64 → IsThin d refused row) → IsFull d.owned.store.versions.versions → length d.owned.store.versions.versions.versions ≡ 64 → AllPinned refused
all_pinned d refused thin full count = (current_row d, λ row less apart. by row less (thin row less apart))
  where
    by : (row : ℕ) → row < 64 → (version_at d.owned.store.versions.versions row ≡ None) ⊎ IsRefused refused row → IsRefused refused row
    by row less (inl none) = absurd (none_live (version_at d.owned.store.versions.versions row) none (full row None (omega (arith, less, count))))
    by row less (inr pinned) = pinned

-- a draft that failed, as the fault of an apply
pub drafted_fault : (f : RoundFault) (least : ℕ) (d from to : Desk) (refused : List Refusal) → from ≡ d → IsDraftFault f from to → IsApplied least (Err f) d to refused
drafted_fault fault.Vol least d from to refused is f = subst (λ (x : Desk). HasRisen x.owned.storage.faults to.owned.storage.faults) is f
drafted_fault (fault.Damaged file at) least d from to refused is f = subst (λ (x : Desk). x.history ≡ None) is f
drafted_fault fault.NoRow least d from to refused is f = absurd f
drafted_fault fault.Memory least d from to refused is f = tt

-- a publication that failed
pub shown_fault : (f : RoundFault) (least : ℕ) (d from to : Desk) (refused : List Refusal) → from ≡ d → ((row : ℕ) → row < 64 → IsThin d refused row) → (f ≡ fault.NoRow → IsFull from.owned.store.versions.versions)
    → ((file at : ℕ) → f ≡ fault.Damaged file at → from.history ≡ None) → (f ≡ fault.Vol → HasRisen from.owned.storage.faults to.owned.storage.faults) → length from.owned.store.versions.versions.versions ≡ 64 → IsApplied least (Err f) d to refused
shown_fault fault.Vol least d from to refused is thin full sound vol count = subst (λ (x : Desk). HasRisen x.owned.storage.faults to.owned.storage.faults) is (vol refl)
shown_fault (fault.Damaged file at) least d from to refused is thin full sound vol count = subst (λ (x : Desk). x.history ≡ None) is (sound file at refl)
shown_fault fault.NoRow least d from to refused is thin full sound vol count =
    all_pinned d refused thin (subst (λ (x : Desk). IsFull x.owned.store.versions.versions) is (full refl)) (subst (λ (x : Desk). length x.owned.store.versions.versions.versions ≡ 64) is count)
shown_fault fault.Memory least d from to refused is thin full sound vol count = tt
