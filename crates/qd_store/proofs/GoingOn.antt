-- Writers that are kept go on.
use Rattle.std.proofs.Common.{◌≡◌, ℕ, suc, ◌==◌, Bool, true, false, cond, List, [], ◌∷◌, length, None, Some, find, is_some, unwrap_or, refl, sym, ap, subst, ◌∙◌}
use Rattle.std.proofs.lemmas.Bool.{eq-eqb, eqb-true}
use Rattle.qd_sequencer.specs.Sequences.{chosen, fresh, with_writer}
use Rattle.qd_wal.specs.declared.writer.WalWriter.{WalWriter}
use Rattle.qd_wal.specs.Segments.{behind, ref_for}
use Rattle.qd_store.specs.Arriving.{is_kept}
use Rattle.qd_store.specs.Laws.{WritersGoOn}

-- a writer that is put among others is there
put_there : (xs : List WalWriter) (w : WalWriter) → is_kept (with_writer xs w) w.wal ≡ true
put_there [] w = ap (λ (b : Bool). is_some (cond b (Some w) None)) (eq-eqb w.wal w.wal refl)
put_there (x ∷ xs) w = by (x.wal == w.wal) refl (put_there xs w)
  where
    by : (b : Bool) → (x.wal == w.wal) ≡ b → is_kept (with_writer xs w) w.wal ≡ true → is_kept (cond b (w ∷ xs) (x ∷ with_writer xs w)) w.wal ≡ true
    by true e rest = ap (λ (b : Bool). is_some (cond b (Some w) (find (λ (y : WalWriter). y.wal == w.wal) xs))) (eq-eqb w.wal w.wal refl)
    by false e rest = ap (λ (b : Bool). is_some (cond b (Some x) (find (λ (y : WalWriter). y.wal == w.wal) (with_writer xs w)))) e ∙ rest

-- where one of its log is there, it takes that one's place
as_many : (xs : List WalWriter) (w : WalWriter) → is_kept xs w.wal ≡ true → length (with_writer xs w) ≡ length xs
as_many [] w there = cc
as_many (x ∷ xs) w there = by (x.wal == w.wal) there (λ rest. as_many xs w rest)
  where
    by : (b : Bool) → is_some (cond b (Some x) (find (λ (y : WalWriter). y.wal == w.wal) xs)) ≡ true → (is_kept xs w.wal ≡ true → length (with_writer xs w) ≡ length xs)
        → length (cond b (w ∷ xs) (x ∷ with_writer xs w)) ≡ length (x ∷ xs)
    by true there more = refl
    by false there more = ap suc (more there)

-- the writer of a number has that number
found_wal : (xs : List WalWriter) (wal n : ℕ) → is_kept xs wal ≡ true → (unwrap_or (find (λ (w : WalWriter). w.wal == wal) xs) (fresh n)).wal ≡ wal
found_wal [] wal n there = cc
found_wal (x ∷ xs) wal n there = by (x.wal == wal) refl there (λ rest. found_wal xs wal n rest)
  where
    by : (b : Bool) → (x.wal == wal) ≡ b → is_some (cond b (Some x) (find (λ (y : WalWriter). y.wal == wal) xs)) ≡ true
        → (is_kept xs wal ≡ true → (unwrap_or (find (λ (w : WalWriter). w.wal == wal) xs) (fresh n)).wal ≡ wal)
        → (unwrap_or (cond b (Some x) (find (λ (w : WalWriter). w.wal == wal) xs)) (fresh n)).wal ≡ wal
    by true e there more = eqb-true x.wal wal e
    by false e there more = more there

pub writers_go_on : WritersGoOn
writers_go_on = record {
  same = λ limits old new wal kept placed.
      let is = found_wal old.writers wal (length old.refs) kept in (
        is,
        ap length placed.writers
            ∙ as_many old.writers (behind (ref_for (chosen old (Some wal)) limits.seg_bytes placed.size)) (subst (λ (n : ℕ). is_kept old.writers n ≡ true) (sym is) kept),
      );
  kept = λ limits old new writer placed.
      subst (λ (l : List WalWriter). is_kept l (chosen old writer).wal ≡ true) (sym placed.writers)
      (put_there old.writers (behind (ref_for (chosen old writer) limits.seg_bytes placed.size)));
}
