-- What is opened, or made, of a volume.
use Rattle.std.proofs.Common.{◌≡◌, ◌∙◌, ℕ, inl, inr, List, [], ◌∷◌, Option, Result, Ok, Err, refl, sym, subst}
use Rattle.std.specs.Result.{IfErr, IfOk}
use Rattle.qd_base.specs.declared.op.Entry.{Entry}
use Rattle.qd_durable.specs.Moments.{LeavesEarlier, Told}
use Rattle.qd_durable.specs.Places.{StandsAt}
use Rattle.qd_durable.proofs.Writes.{told_both, told_map}
use Rattle.qd_store.specs.declared.fault.OpenFault.{OpenFault}
use Rattle.qd_store.specs.declared.fault.OpenFault.TheVariants as fault
use Rattle.qd_store.specs.Calls.{Creates}
use Rattle.qd_store.specs.Found.{Found, IsUnmade, version_of}
use Rattle.qd_store.specs.Opening.{Opens}
use Rattle.qd_store.specs.Owned.{IsOfVolume, Left, Store, storage_in, store_in}
use Rattle.qd_store.specs.Stores.{IsStore, Book}
use Rattle.qd_txnfile.specs.Versions.{Version}
use Rattle.qd_volume.specs.Disk.{Disk, reads_of}
use Rattle.qd_store_backend.specs.Volumes.{Holds, IsUnopened, Starts}
use Rattle.qd_store.proofs.OpenTold.{reads_now}

-- ---- a store is opened

stands_found : (s : Book) (f : Found) (h : List Entry) (after : Disk) → f.history ≡ h → IsStore s f.history (version_of f) after → IsStore s h (version_of f) after
stands_found s f h after is stands = subst (λ (l : List Entry). IsStore s l (version_of f) after) is stands

opened_ok : (s : Book) (before after : Disk) → Opens (Ok s) before after → Starts (Ok s) before after
opened_ok s before after o = record { whole = λ made. (o.found.2, o.reads); stands = by }
  where
    by : (h : List Entry) (n : ℕ) → Holds before h n → (s.versions.root.n ≡ n) × (next : Version) × IsStore s h next after
    by h n (inl (unmade, none, zero)) = absurd (unmade (reads_of before) (reads_now before) o.found.0)
    by h n (inr (whole, f, finds, is, number)) =
        let found = o.found.1 whole f finds in
        (found.shown ∙ number, version_of f, stands_found s f h after is (found.stands (version_of f)))

pub opened_starts : (before after : Disk) (r : Result Book OpenFault) → (r ≡ Err fault.NotMade → Starts r before after) → Opens r before after → Starts r before after
opened_starts before after (Ok s) not o = opened_ok s before after o
opened_starts before after (Err fault.NotMade) not o = not refl
opened_starts before after (Err (fault.Damaged file at)) not o = record { made = o.found.0; damaged = o.found.1; not_whole = o.found.2; reads = o.reads }
opened_starts before after (Err fault.Vol) not o = inl o.reads
opened_starts before after (Err fault.Memory) not o = inl o.reads

-- ---- it is made where there is none

-- a call that leaves only what might have been left before makes no mark
unmade_stays : (before mid : Disk) → LeavesEarlier before mid → IsUnmade before → IsUnmade mid
unmade_stays before mid leaves unmade image now made =
    let from = leaves.now image now in
    unmade from.0 from.1 (subst (λ (bytes : List ℕ). StandsAt bytes 0 (1 ∷ [])) (from.2 0 refl) made)

module _ (before mid after : Disk) (o : Opens (Err fault.NotMade) before mid) where
  made_ok : (s : Book) → Creates {E = OpenFault} (Ok s) mid after → s.versions.root.n ≡ 0 → Starts (Ok s) before after
  made_ok s c none = record { whole = λ made. absurd (o.found made); stands = by }
    where
      by : (h : List Entry) (n : ℕ) → Holds before h n → (s.versions.root.n ≡ n) × (next : Version) × IsStore s h next after
      by h n (inl (unmade, is, zero)) =
          let made = c.created (unmade_stays before mid o.images unmade) in
          let next : Version = record { n = 0; manifest = [] } in
          (none ∙ sym zero, next, subst (λ (l : List Entry). IsStore s l next after) (sym is) (made.1 next))
      by h n (inr (whole, f, finds, is, number)) = absurd (o.found finds.made)

  made_err : {E : Type 0} (e : E) → Creates {E = E} (Err e) mid after → IsUnopened before after
  made_err e c = inr (o.found, λ unmade. c.created (unmade_stays before mid o.images unmade))

  by_cause : (l : Left) (why : OpenFault) → l.why ≡ why → IsOfVolume l → Creates {E = OpenFault} (Err why) mid after → Starts (Err why) before after
  by_cause l fault.NotMade is cause c = absurd (subst (λ (w : OpenFault). IsOfVolume (record { storage = l.storage; why = w })) is cause)
  by_cause l (fault.Damaged file at) is cause c = absurd (subst (λ (w : OpenFault). IsOfVolume (record { storage = l.storage; why = w })) is cause)
  by_cause l fault.Vol is cause c = made_err fault.Vol c
  by_cause l fault.Memory is cause c = made_err fault.Memory c

  pub made_starts : (r : Result Store Left) → IfOk r (λ s. (s.store.sequence.refs ≡ []) × (s.store.versions.root.n ≡ 0)) → IfErr r IsOfVolume → Creates (store_in r) mid after → Starts (store_in r) before after
  made_starts (Ok s) empty cause c = made_ok s.store c empty.1
  made_starts (Err l) empty cause c = by_cause l l.why refl cause c

-- what was opened and is not made is made
pub started : (old mid : Option Disk) (r : Result Store Left) → Told old mid (Opens (Err fault.NotMade)) → IfOk r (λ s. (s.store.sequence.refs ≡ []) × (s.store.versions.root.n ≡ 0)) → IfErr r IsOfVolume
    → Told mid (storage_in r).disk (Creates (store_in r)) → Told old (storage_in r).disk (Starts (store_in r))
started old mid r opens empty cause creates =
    told_both (Opens (Err fault.NotMade)) (Creates (store_in r)) (Starts (store_in r)) old mid (storage_in r).disk (λ before between after o c. made_starts before between after o r empty cause c) opens creates

pub opened : (old new : Option Disk) (r : Result Book OpenFault) → (r ≡ Err fault.NotMade → ⊥) → Told old new (Opens r) → Told old new (Starts r)
opened old new r not told = told_map (Opens r) (Starts r) old new (λ before after o. opened_starts before after r (λ is. absurd (not is)) o) told
