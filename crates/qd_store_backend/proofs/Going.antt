-- What a backend keeps behind its calls.
use Rattle.std.proofs.Common.{◌≡◌, ◌∙◌, ℕ, ◌+◌, ◌≤◌, true, List, length, Option, Some, None, IfOk, IfSome, Result, Ok, Err, OnErr, OnOk, refl, sym, ap, subst, arith}
use Rattle.qd_base.specs.declared.op.Entry.{Entry}
use Rattle.qd_catalog.specs.Versions.{IsLive}
use Rattle.qd_durable.specs.declared.fault.LogFault.{LogFault}
use Rattle.qd_sequencer.specs.declared.fault.CommitFault.{CommitFault}
use Rattle.qd_sequencer.specs.declared.fault.Committed.{Committed}
use Rattle.qd_sequencer.specs.Sequences.{IsAsBefore, Sequence, chosen}
use Rattle.qd_store.specs.Arriving.{IsPlaced, is_kept}
use Rattle.qd_store.specs.Laws.{WritersGoOn}
use Rattle.qd_store.specs.Owned.{Store}
use Rattle.qd_store.specs.Stores.{Book}
use Rattle.qd_versions.specs.Stores as versions
use Rattle.qd_wal.specs.declared.writer.WalWriter.{WalWriter}
use Rattle.qd_store_backend.specs.Backs.{AreUsual, Back, CommitsTo, GoesOn, IsAlone, IsBack, IsWriterKept, IsLeftOf, Parts, ShowsAll, current, kept_of, n_in, writer_behind}
use Rattle.qd_store_backend.proofs.Leaving.{left_same}

-- ---- a commit

-- what is known of the writers behind it
pub record Written (old new : Store) (writer : Option ℕ) (done : Result Committed CommitFault) : Type 0 where
  pub law : WritersGoOn
  pub number : IfOk done (λ d. d.writer ≡ (chosen old.store.sequence writer).wal)
  pub place : OnOk done (IsPlaced old.store.limits old.store.sequence new.store.sequence writer)
  pub stays : OnErr done (IsAsBefore old.store.sequence new.store.sequence)

kept_writer : (old new : Store) (writer : Option ℕ) (done : Result Committed CommitFault) → Written old new writer done → IsWriterKept old writer → IsWriterKept new (writer_behind writer done)
kept_writer old new writer (Ok d) w kept =
    subst (λ (n : ℕ). is_kept new.store.sequence.writers n ≡ true) (sym w.number) (w.law.kept old.store.limits old.store.sequence new.store.sequence writer w.place)
kept_writer old new writer (Err fault) w kept = subst (λ (l : List WalWriter). IfSome writer (λ n. is_kept l n ≡ true)) (sym w.stays.writers) kept

one_writer : (old new : Store) (writer : Option ℕ) (n : ℕ) (done : Result Committed CommitFault) → Written old new writer done → IsWriterKept old writer → writer ≡ Some n
    → (writer_behind writer done ≡ Some n) × (length new.store.sequence.writers ≡ length old.store.sequence.writers)
one_writer old new writer n (Ok d) w kept is =
    let there : is_kept old.store.sequence.writers n ≡ true = subst (λ (o : Option ℕ). IfSome o (λ m. is_kept old.store.sequence.writers m ≡ true)) is kept in
    let same = w.law.same old.store.limits old.store.sequence new.store.sequence n there (subst (IsPlaced old.store.limits old.store.sequence new.store.sequence) is w.place) in
    (ap (λ (m : ℕ). Some m) (w.number ∙ ap (λ (o : Option ℕ). (chosen old.store.sequence o).wal) is ∙ same.0), same.1)
one_writer old new writer n (Err fault) w kept is = (is, ap (λ (l : List WalWriter). length l) w.stays.writers)

count_behind : (done : Result Committed CommitFault) (old new : Parts) (Own : Entry → Type 0) → CommitsTo done old new Own → length old.owned.store.sequence.refs ≤ length new.owned.store.sequence.refs
count_behind (Ok d) old new Own c = let count = c.count in omega (arith, count)
count_behind (Err fault) old new Own c = let count = c.count in omega (arith, count)

shown_behind : (done : Result Committed CommitFault) (old new : Parts) (Own : Entry → Type 0) → CommitsTo done old new Own → n_in (current new.owned.store) ≡ n_in (current old.owned.store)
shown_behind done old new Own c = ap (λ (v : versions.Store). n_in (current (record { sequence = old.owned.store.sequence; versions = v; limits = old.owned.store.limits }))) c.versions

pub committed_back : (old : Back) (p : Parts) (left : Option Entry) (done : Result Committed CommitFault) (Own : Entry → Type 0) → IsBack old → CommitsTo done old.parts p Own → Written old.parts.owned p.owned old.writer done → IsLeftOf p.history p.owned left
    → (writer : Option ℕ) → writer ≡ writer_behind old.writer done → IsBack (record { parts = p; before = old.before; writer = writer; left = left })
committed_back old p left done Own kept commits w is writer same = record {
  since = let a = kept.since in let b = count_behind done old.parts p Own commits in omega (arith, a, b);
  within = let a = kept.within in let b = count_behind done old.parts p Own commits in let c = shown_behind done old.parts p Own commits in omega (arith, a, b, c);
  usual = subst AreUsual (sym commits.limits) kept.usual;
  alone = subst (λ (v : versions.Store). (row : ℕ) → IsLive v.versions row → row ≡ v.versions.current) (sym commits.versions) kept.alone;
  writer = subst (IsWriterKept p.owned) (sym same) (kept_writer old.parts.owned p.owned old.writer done w kept.writer);
  left = is;
}

pub committed_goes_on : (old : Back) (p : Parts) (left : Option Entry) (done : Result Committed CommitFault) → IsBack old → Written old.parts.owned p.owned old.writer done
    → (writer : Option ℕ) → writer ≡ writer_behind old.writer done → GoesOn old (record { parts = p; before = old.before; writer = writer; left = left })
committed_goes_on old p left done kept w writer same n is =
    let one = one_writer old.parts.owned p.owned old.writer n done w kept.writer is in
    (same ∙ one.0, one.1)

-- ---- an apply

applied_within : (r : Result ℕ LogFault) (old new : Parts) → ShowsAll r old new → n_in (current new.owned.store) ≤ length new.owned.store.sequence.refs
applied_within (Ok n) old new s =
    let all = s.shown.0 in
    let shown = s.shown.1 in
    let same : length new.owned.store.sequence.refs ≡ length old.owned.store.sequence.refs = ap (λ (q : Sequence). length q.refs) s.sequence in
    omega (arith, all, shown, same)
applied_within (Err fault) old new s =
    let within = s.shown.1 in
    let same : length new.owned.store.sequence.refs ≡ length old.owned.store.sequence.refs = ap (λ (q : Sequence). length q.refs) s.sequence in
    omega (arith, within, same)

pub applied_back : (old : Back) (p : Parts) (left : Option Entry) (r : Result ℕ LogFault) → IsBack old → ShowsAll r old.parts p → IsAlone p → IsLeftOf p.history p.owned left → IsBack (record { parts = p; before = old.before; writer = old.writer; left = left })
applied_back old p left r kept shows alone is = record {
  since = subst (λ (s : Sequence). old.before ≤ length s.refs) (sym shows.sequence) kept.since;
  within = applied_within r old.parts p shows;
  usual = subst AreUsual (sym shows.limits) kept.usual;
  alone = alone;
  writer = subst (λ (s : Sequence). IfSome old.writer (λ n. is_kept s.writers n ≡ true)) (sym shows.sequence) kept.writer;
  left = is;
}

pub applied_goes_on : (old : Back) (p : Parts) (left : Option Entry) (r : Result ℕ LogFault) → ShowsAll r old.parts p → GoesOn old (record { parts = p; before = old.before; writer = old.writer; left = left })
applied_goes_on old p left r shows n is = (is, ap (λ (s : Sequence). length s.writers) shows.sequence)

-- ---- a question

pub asked_back : (old : Back) (p : Parts) → IsBack old → kept_of p ≡ kept_of old.parts → IsBack (record { parts = p; before = old.before; writer = old.writer; left = old.left })
asked_back old p kept fixed =
    let store : p.owned.store ≡ old.parts.owned.store = ap (λ (q : Parts). q.owned.store) fixed in
    record {
      since = subst (λ (s : Book). old.before ≤ length s.sequence.refs) (sym store) kept.since;
      within = subst (λ (s : Book). n_in (current s) ≤ length s.sequence.refs) (sym store) kept.within;
      usual = subst (λ (s : Book). AreUsual s.limits) (sym store) kept.usual;
      alone = subst (λ (s : Book). (row : ℕ) → IsLive s.versions.versions row → row ≡ s.versions.versions.current) (sym store) kept.alone;
      writer = subst (λ (s : Book). IfSome old.writer (λ n. is_kept s.sequence.writers n ≡ true)) (sym store) kept.writer;
      left = subst (λ (h : Option (List Entry)). IsLeftOf h p.owned old.left) (sym (ap (λ (q : Parts). q.history) fixed)) (left_same old.parts.history old.parts.owned p.owned old.left store (ap (λ (q : Parts). q.owned.storage.disk) fixed) kept.left);
    }

pub asked_goes_on : (old : Back) (p : Parts) → kept_of p ≡ kept_of old.parts → GoesOn old (record { parts = p; before = old.before; writer = old.writer; left = old.left })
asked_goes_on old p fixed n is = (is, ap (λ (q : Parts). length q.owned.store.sequence.writers) fixed)
