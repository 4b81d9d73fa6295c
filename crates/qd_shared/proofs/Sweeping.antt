-- Blocks that no version lists any more are removed from the store of a desk.
use Rattle.std.proofs.Common.{◌≡◌, ◌∙◌, ◌⊎◌, inl, inr, ℕ, ◌+◌, ◌-◌, ◌^◌, ◌<◌, ◌≤◌, min, true, false, Bool, List, [], length, Result, Ok, Err, IfOk, OnErr, refl, sym, ap, subst, arith}
use Rattle.std.proofs.Math.Nat.{min-eq_left, min-eq_right, min-le_right}
use Rattle.std.proofs.lemmas.Bool.{cases_lt}
use Rattle.qd_catalog.specs.Versions as rows
use Rattle.qd_catalog.specs.Versions.{Versions}
use Rattle.qd_durable.specs.Moments.{Told}
use Rattle.qd_io.specs.Ends.{Counts}
use Rattle.qd_io.specs.declared.fault.IoFault.{IoFault}
use Rattle.qd_store.specs.Calls.{Stands}
use Rattle.qd_store.specs.Owned.{Store}
use Rattle.qd_store_backend.specs.Rounds.{StaysTold}
use Rattle.qd_store_backend.proofs.Turns.{sweep_keeps}

-- what sweeps leave of a store
pub record IsSweptTo (old new : Store) : Type 0 where
  pub list : new.store.versions.versions.versions ≡ old.store.versions.versions.versions
  pub current : new.store.versions.versions.current ≡ old.store.versions.versions.current
  pub sequence : new.store.sequence ≡ old.store.sequence
  pub limits : new.store.limits ≡ old.store.limits
  pub told : StaysTold old new
  pub faults : old.storage.faults ≤ new.storage.faults

pub swept_none : (o : Store) → IsSweptTo o o
swept_none o = record { list = refl; current = refl; sequence = refl; limits = refl; told = λ h is. is; faults = omega arith }

swept_both : (a b c : Store) → IsSweptTo a b → IsSweptTo b c → IsSweptTo a c
swept_both a b c s t = record {
  list = t.list ∙ s.list;
  current = t.current ∙ s.current;
  sequence = t.sequence ∙ s.sequence;
  limits = t.limits ∙ s.limits;
  told = λ h is. t.told h (s.told h is);
  faults = let x = s.faults in let y = t.faults in omega (arith, x, y);
}

module _ (first old new : Store) (before : IsSweptTo first old) (limits : new.store.limits ≡ old.store.limits) (sequence : new.store.sequence ≡ old.store.sequence) (told : Told old.storage.disk new.storage.disk (Stands old.store new.store)) where
  same_rows : (result : Result Bool IoFault)
      → IfOk result (λ swept. swept ≡ true → (block : ℕ) × rows.Sweeps old.store.versions.versions new.store.versions.versions block)
      → (result ≡ Ok false → (old.store.versions.versions.retired ≡ []) × (new ≡ old))
      → OnErr result (new.store.versions.versions ≡ old.store.versions.versions)
      → (new.store.versions.versions.versions ≡ old.store.versions.versions.versions) × (new.store.versions.versions.current ≡ old.store.versions.versions.current)
  same_rows (Ok true) swept idle same = let s = (swept refl).1 in (s.versions, s.current)
  same_rows (Ok false) swept idle same = let e = (idle refl).1 in (ap (λ (o : Store). o.store.versions.versions.versions) e, ap (λ (o : Store). o.store.versions.versions.current) e)
  same_rows (Err fault) swept idle same = (ap (λ (v : Versions). v.versions) same, ap (λ (v : Versions). v.current) same)

  pub swept_more : (result : Result Bool IoFault)
      → IfOk result (λ swept. swept ≡ true → (block : ℕ) × rows.Sweeps old.store.versions.versions new.store.versions.versions block)
      → (result ≡ Ok false → (old.store.versions.versions.retired ≡ []) × (new ≡ old))
      → OnErr result (new.store.versions.versions ≡ old.store.versions.versions)
      → Counts old.storage.faults new.storage.faults result → IsSweptTo first new
  swept_more result swept idle same counted =
      let k = sweep_keeps old new limits sequence told result swept idle same counted in
      let r = same_rows result swept idle same in
      swept_both first old new before (record { list = r.0; current = r.1; sequence = sequence; limits = limits; told = k.told; faults = k.faults })

-- ---- how many were removed

up_by : {n m : ℕ} → n ≤ m → min n m ≡ n
up_by = min-eq_left

one_counted : (a r : ℕ) → r ≡ min (a + 1) (2 ^ 64 - 1) → (r ≡ a + 1) ⊎ (r ≡ 2 ^ 64 - 1)
one_counted a r is = by (cases_lt (2 ^ 64 - 1) (a + 1))
  where
    by : (2 ^ 64 - 1 < a + 1) ⊎ (a + 1 ≤ 2 ^ 64 - 1) → (r ≡ a + 1) ⊎ (r ≡ 2 ^ 64 - 1)
    by (inl less) = inr (is ∙ min-eq_right (let l = less in omega (arith, l)))
    by (inr le) = inl (is ∙ up_by le)

-- some were removed, and counted
pub record AreRemoved (old new : Store) (before now : ℕ) : Type 0 where
  pub gone : ℕ
  pub queue : length old.store.versions.versions.retired ≡ gone + length new.store.versions.versions.retired
  pub counted : (now ≡ before + gone) ⊎ (now ≡ 2 ^ 64 - 1)
  pub rise : before ≤ now
  pub small : now ≤ 2 ^ 64 - 1

pub removed_none : (o : Store) (n : ℕ) → n ≤ 2 ^ 64 - 1 → AreRemoved o o n n
removed_none o n small = record { gone = 0; queue = omega arith; counted = inl (omega arith); rise = omega arith; small = small }

-- a call that leaves the queue as it is
pub removed_same : (first old new : Store) (before now : ℕ) → new.store.versions.versions.retired ≡ old.store.versions.versions.retired → AreRemoved first old before now → AreRemoved first new before now
removed_same first old new before now same r = record {
  gone = r.gone;
  queue = r.queue ∙ ap (λ (l : List ℕ). r.gone + length l) (sym same);
  counted = r.counted;
  rise = r.rise;
  small = r.small;
}

-- one more
pub removed_more : (first old new : Store) (before now then block : ℕ) → rows.Sweeps old.store.versions.versions new.store.versions.versions block → then ≡ min (now + 1) (2 ^ 64 - 1) → AreRemoved first old before now → AreRemoved first new before then
removed_more first old new before now then block swept is r = by (one_counted now then is)
  where
    count : length old.store.versions.versions.retired ≡ 1 + length new.store.versions.versions.retired
    count = omega (arith, ap length swept.retired)

    queue : length first.store.versions.versions.retired ≡ (r.gone + 1) + length new.store.versions.versions.retired
    queue = let c = count in let q = r.queue in omega (arith, c, q)

    more : (now ≡ before + r.gone) ⊎ (now ≡ 2 ^ 64 - 1) → then ≡ now + 1 → (then ≡ before + (r.gone + 1)) ⊎ (then ≡ 2 ^ 64 - 1)
    more (inl n) t = inl (omega (arith, n, t))
    more (inr n) t = inr (let le : then ≤ 2 ^ 64 - 1 = subst (λ (x : ℕ). x ≤ 2 ^ 64 - 1) (sym is) (min-le_right (now + 1) (2 ^ 64 - 1)) in absurd (omega (arith, n, t, le)))

    by : (then ≡ now + 1) ⊎ (then ≡ 2 ^ 64 - 1) → AreRemoved first new before then
    by (inl t) = record { gone = r.gone + 1; queue = queue; counted = more r.counted t; rise = (let up = r.rise in omega (arith, up, t)); small = subst (λ (x : ℕ). x ≤ 2 ^ 64 - 1) (sym is) (min-le_right (now + 1) (2 ^ 64 - 1)) }
    by (inr t) = record { gone = r.gone + 1; queue = queue; counted = inr t; rise = (let up = r.rise in let s = r.small in omega (arith, up, s, t)); small = omega (arith, t) }
