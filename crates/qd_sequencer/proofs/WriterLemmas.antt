-- Writers that are kept, and what lies in front of them.
use Rattle.std.proofs.Common.{◌≡◌, ◌⊎◌, inl, inr, ℕ, zero, suc, ◌+◌, ◌<◌, ◌≤◌, ◌^◌, ◌*◌, ◌==◌, nat_eq, Bool, true, false, cond, List, [], ◌∷◌, ◌++◌, length, All, Option, None, Some, IfSome, unwrap_or, find, position, is_some, get_or, set, refl, sym, ap, subst, ◌∙◌, arith}
use Rattle.std.specs.List.{AllByRecursion, IsDistinct, remove}
use Rattle.std.proofs.lemmas.List.Quantifiers.{position-Some}
use Rattle.qd_base.proofs.Tables.{find-position, position-none}
use Rattle.std.proofs.lemmas.Bool.{cases_eq, eqb-true}
use Rattle.std.proofs.lemmas.Bool.Decides.{nat_tests}
use Rattle.std.proofs.lemmas.List.Elements.{All-from_recursion, All-nil, All-push, All-weaker, recursion_from_All}
use Rattle.qd_base.specs.declared.part.WalRef.{WalRef}
use Rattle.qd_base.proofs.Lists.{IsDistinct-cons, IsDistinct-nil}
use Rattle.std.proofs.lemmas.Map.Keys.{IsDistinct-head, IsDistinct-tail}
use Rattle.qd_seq.specs.Layout.{AreLawful}
use Rattle.qd_wal.specs.declared.writer.WalWriter.{WalWriter}
use Rattle.qd_wal.specs.Puts.{IsApart}
use Rattle.qd_wal.specs.Segments.{behind, file_in, is_full, ref_for}
use Rattle.qd_wal.proofs.StayLemmas.{own_files}
use Rattle.qd_sequencer.specs.Sequences.{AreKept, IsInFront, fresh, with_writer, without_writer, writer_of}

abbrev pub one_log : WalWriter → WalWriter → Bool
one_log a b = a.wal == b.wal

-- ---- one that is found, or a new one

module _ (P : WalWriter → Type 0) where
  found_has : (p : WalWriter → Bool) (writers : List WalWriter) → AllByRecursion P writers → IfSome (find p writers) P
  found_has p [] all = tt
  found_has p (w ∷ ws) all = by (p w) (found_has p ws all.1)
    where
      by : (b : Bool) → IfSome (find p ws) P → IfSome (cond b (Some w) (find p ws)) P
      by true rest = all.0
      by false rest = rest

  or_fresh : (o : Option WalWriter) (d : WalWriter) → IfSome o P → P d → P (unwrap_or o d)
  or_fresh None d h k = k
  or_fresh (Some w) d h k = h

  -- a fact of all writers that are kept and of a new one
  pub chosen_has : (writers : List WalWriter) (n : ℕ) (writer : Option ℕ) → All P writers → P (fresh n) → P (writer_of writers n writer)
  chosen_has writers n None all new = new
  chosen_has writers n (Some wal) all new = or_fresh (find (λ (w : WalWriter). w.wal == wal) writers) (fresh n) (found_has (λ (w : WalWriter). w.wal == wal) writers (recursion_from_All P writers all)) new

  -- and of one that takes the place of another or comes behind them
  kept_has : (writers : List WalWriter) (w : WalWriter) → P w → AllByRecursion P writers → AllByRecursion P (with_writer writers w)
  kept_has [] w p all = (p, tt)
  kept_has (x ∷ xs) w p all = by (one_log x w) (kept_has xs w p all.1)
    where
      by : (b : Bool) → AllByRecursion P (with_writer xs w) → AllByRecursion P (cond b (w ∷ xs) (x ∷ with_writer xs w))
      by true rest = (p, all.1)
      by false rest = (all.0, rest)

  pub with_has : (writers : List WalWriter) (w : WalWriter) → P w → All P writers → All P (with_writer writers w)
  with_has writers w p all = All-from_recursion P (with_writer writers w) (kept_has writers w p (recursion_from_All P writers all))

  other_log : (a b c : ℕ) → (a == c) ≡ true → (a == b) ≡ false → (b == c) ≡ false
  other_log a b c p q = grind (arith, nat_tests)

  behind_it : (x w : WalWriter) → one_log x w ≡ true → (ys : List WalWriter) → AllByRecursion (λ y. one_log x y ≡ false) ys → AllByRecursion (λ y. one_log y w ≡ false → P y) ys → AllByRecursion P ys
  behind_it x w e [] d h = tt
  behind_it x w e (y ∷ ys) d h = (h.0 (other_log x.wal y.wal w.wal e d.0), behind_it x w e ys d.1 h.1)

  -- the same where the fact is known of the writers of other logs alone
  others_have : (writers : List WalWriter) (w : WalWriter) → P w → IsDistinct one_log writers → AllByRecursion (λ x. one_log x w ≡ false → P x) writers → AllByRecursion P (with_writer writers w)
  others_have [] w p apart all = (p, tt)
  others_have (x ∷ xs) w p apart all = by (one_log x w) refl (others_have xs w p (IsDistinct-tail one_log x xs apart) all.1)
    where
      by : (b : Bool) → one_log x w ≡ b → AllByRecursion P (with_writer xs w) → AllByRecursion P (cond b (w ∷ xs) (x ∷ with_writer xs w))
      by true e rest = (p, behind_it x w e xs (IsDistinct-head one_log x xs apart) all.1)
      by false e rest = (all.0 e, rest)

  pub with_others : (writers : List WalWriter) (w : WalWriter) → P w → IsDistinct one_log writers → All (λ x. one_log x w ≡ false → P x) writers → All P (with_writer writers w)
  with_others writers w p apart all = All-from_recursion P (with_writer writers w) (others_have writers w p apart (recursion_from_All (λ x. one_log x w ≡ false → P x) writers all))

-- writers of distinct logs stay such
module _ (x w : WalWriter) where
  differ_kept : one_log x w ≡ false → (xs : List WalWriter) → AllByRecursion (λ y. one_log x y ≡ false) xs → AllByRecursion (λ y. one_log x y ≡ false) (with_writer xs w)
  differ_kept e xs d = kept_has (λ y. one_log x y ≡ false) xs w e d

same_log : (x w : WalWriter) → one_log x w ≡ true → (ys : List WalWriter) → AllByRecursion (λ y. one_log x y ≡ false) ys → AllByRecursion (λ y. one_log w y ≡ false) ys
same_log x w e [] d = tt
same_log x w e (y ∷ ys) d = (other x.wal y.wal w.wal e d.0, same_log x w e ys d.1)
  where
    other : (a b c : ℕ) → (a == c) ≡ true → (a == b) ≡ false → (c == b) ≡ false
    other a b c p q = grind (arith, nat_tests)

pub with_apart : (writers : List WalWriter) (w : WalWriter) → IsDistinct one_log writers → IsDistinct one_log (with_writer writers w)
with_apart [] w apart = IsDistinct-cons one_log w [] tt (IsDistinct-nil one_log)
with_apart (x ∷ xs) w apart = by (one_log x w) refl (with_apart xs w (IsDistinct-tail one_log x xs apart))
  where
    by : (b : Bool) → one_log x w ≡ b → IsDistinct one_log (with_writer xs w) → IsDistinct one_log (cond b (w ∷ xs) (x ∷ with_writer xs w))
    by true e rest = IsDistinct-cons one_log w xs (same_log x w e xs (IsDistinct-head one_log x xs apart)) (IsDistinct-tail one_log x xs apart)
    by false e rest = IsDistinct-cons one_log x (with_writer xs w) (differ_kept x w e xs (IsDistinct-head one_log x xs apart)) rest

-- ---- what is kept

pub chosen_low : (n : ℕ) (writers : List WalWriter) (writer : Option ℕ) → AreKept n writers → ((writer_of writers n writer).wal ≤ n) × ((writer_of writers n writer).segment ≤ n)
chosen_low n writers writer kept = (
  chosen_has (λ w. w.wal ≤ n) writers n writer (All-weaker (λ (w : WalWriter). w.wal < n) (λ (w : WalWriter). w.wal ≤ n) (λ w lt. omega arith) writers kept.numbered) (omega arith),
  chosen_has (λ w. w.segment ≤ n) writers n writer kept.short (omega arith),
)

pub none_kept : (n : ℕ) → AreKept n []
none_kept n = record { numbered = All-nil (λ (w : WalWriter). w.wal < n); short = All-nil (λ (w : WalWriter). w.segment ≤ n); apart = IsDistinct-nil one_log }

pub none_kept_at : (n : ℕ) (writers : List WalWriter) → writers ≡ [] → AreKept n writers
none_kept_at n writers e = subst (AreKept n) (sym e) (none_kept n)

pub kept_with : (n m : ℕ) (writers : List WalWriter) (w : WalWriter) → m ≡ n + 1 → w.wal ≤ n → w.segment ≤ n + 1 → AreKept n writers → AreKept m (with_writer writers w)
kept_with n m writers w e low short kept = record {
  numbered = with_has (λ w. w.wal < m) writers w (omega arith) (All-weaker (λ (w : WalWriter). w.wal < n) (λ (w : WalWriter). w.wal < m) (λ w lt. omega arith) writers kept.numbered);
  short = with_has (λ w. w.segment ≤ m) writers w (omega arith) (All-weaker (λ (w : WalWriter). w.segment ≤ n) (λ (w : WalWriter). w.segment ≤ m) (λ w le. omega arith) writers kept.short);
  apart = with_apart writers w kept.apart;
}

rest_has : (P : WalWriter → Type 0) (wal : ℕ) (writers : List WalWriter) → AllByRecursion P writers → AllByRecursion P (without_writer writers wal)
rest_has P wal [] all = tt
rest_has P wal (x ∷ xs) all = by (x.wal == wal) (rest_has P wal xs all.1)
  where
    by : (b : Bool) → AllByRecursion P (without_writer xs wal) → AllByRecursion P (cond b xs (x ∷ without_writer xs wal))
    by true rest = all.1
    by false rest = (all.0, rest)

pub without_has : (P : WalWriter → Type 0) (wal : ℕ) (writers : List WalWriter) → All P writers → All P (without_writer writers wal)
without_has P wal writers all = All-from_recursion P (without_writer writers wal) (rest_has P wal writers (recursion_from_All P writers all))

without_apart : (wal : ℕ) (writers : List WalWriter) → IsDistinct one_log writers → IsDistinct one_log (without_writer writers wal)
without_apart wal [] apart = IsDistinct-nil one_log
without_apart wal (x ∷ xs) apart = by (x.wal == wal) (without_apart wal xs (IsDistinct-tail one_log x xs apart))
  where
    by : (b : Bool) → IsDistinct one_log (without_writer xs wal) → IsDistinct one_log (cond b xs (x ∷ without_writer xs wal))
    by true rest = IsDistinct-tail one_log x xs apart
    by false rest = IsDistinct-cons one_log x (without_writer xs wal) (rest_has (λ y. one_log x y ≡ false) wal xs (IsDistinct-head one_log x xs apart)) rest

pub kept_without : (n : ℕ) (writers : List WalWriter) (wal : ℕ) → AreKept n writers → AreKept n (without_writer writers wal)
kept_without n writers wal kept = record {
  numbered = without_has (λ (w : WalWriter). w.wal < n) wal writers kept.numbered;
  short = without_has (λ (w : WalWriter). w.segment ≤ n) wal writers kept.short;
  apart = without_apart wal writers kept.apart;
}

-- ---- places

module _ (w : WalWriter) where
  -- a writer at the first place of its number
  with_first : (xs : List WalWriter) (i : ℕ) (d : WalWriter) → i < length xs → one_log (get_or xs i d) w ≡ true → ((k : ℕ) → k < i → one_log (get_or xs k d) w ≡ false) → set xs i w ≡ with_writer xs w
  with_first [] i d lt here before = absurd (omega arith)
  with_first (x ∷ xs) zero d lt here before = sym (ap (λ b. cond b (w ∷ xs) (x ∷ with_writer xs w)) here)
  with_first (x ∷ xs) (suc i) d lt here before =
      ap (λ l. x ∷ l) (with_first xs i d (omega arith) here (λ k below. before (suc k) (omega arith)))
      ∙ sym (ap (λ b. cond b (w ∷ xs) (x ∷ with_writer xs w)) (before 0 (omega arith)))

  with_none : (xs : List WalWriter) → AllByRecursion (λ (x : WalWriter). one_log x w ≡ false) xs → xs ++ w ∷ [] ≡ with_writer xs w
  with_none [] none = refl
  with_none (x ∷ xs) none = ap (λ l. x ∷ l) (with_none xs none.1) ∙ sym (ap (λ b. cond b (w ∷ xs) (x ∷ with_writer xs w)) none.0)

  pub kept_there : (xs : List WalWriter) (i : ℕ) → Some i ≡ position (λ (x : WalWriter). x.wal == w.wal) xs → set xs i w ≡ with_writer xs w
  kept_there xs i found = let at = position-Some (λ (x : WalWriter). x.wal == w.wal) xs i w (sym found) in with_first xs i w at.0 at.1 at.2

  pub kept_new : (xs : List WalWriter) → None ≡ position (λ (x : WalWriter). x.wal == w.wal) xs → xs ++ w ∷ [] ≡ with_writer xs w
  kept_new xs found = with_none xs (position-none (λ (x : WalWriter). x.wal == w.wal) xs (ap is_some (sym found)))

module _ (wal : ℕ) where
  without_first : (xs : List WalWriter) (i : ℕ) (d : WalWriter) → i < length xs → ((get_or xs i d).wal == wal) ≡ true → ((k : ℕ) → k < i → ((get_or xs k d).wal == wal) ≡ false) → remove xs i ≡ without_writer xs wal
  without_first [] i d lt here before = absurd (omega arith)
  without_first (x ∷ xs) zero d lt here before = sym (ap (λ b. cond b xs (x ∷ without_writer xs wal)) here)
  without_first (x ∷ xs) (suc i) d lt here before =
      ap (λ l. x ∷ l) (without_first xs i d (omega arith) here (λ k below. before (suc k) (omega arith)))
      ∙ sym (ap (λ b. cond b xs (x ∷ without_writer xs wal)) (before 0 (omega arith)))

  without_none : (xs : List WalWriter) → AllByRecursion (λ (x : WalWriter). (x.wal == wal) ≡ false) xs → xs ≡ without_writer xs wal
  without_none [] none = refl
  without_none (x ∷ xs) none = ap (λ l. x ∷ l) (without_none xs none.1) ∙ sym (ap (λ b. cond b xs (x ∷ without_writer xs wal)) none.0)

  pub forgotten_there : (xs : List WalWriter) (i : ℕ) → Some i ≡ position (λ (x : WalWriter). x.wal == wal) xs → remove xs i ≡ without_writer xs wal
  forgotten_there xs i found = let d : WalWriter = fresh 0 in let at = position-Some (λ (x : WalWriter). x.wal == wal) xs i d (sym found) in without_first xs i d at.0 at.1 at.2

  pub forgotten_none : (xs : List WalWriter) → None ≡ position (λ (x : WalWriter). x.wal == wal) xs → xs ≡ without_writer xs wal
  forgotten_none xs found = without_none xs (position-none (λ (x : WalWriter). x.wal == wal) xs (ap is_some (sym found)))

  pub found_there : (xs : List WalWriter) (i n : ℕ) (d : WalWriter) → Some i ≡ position (λ (x : WalWriter). x.wal == wal) xs → get_or xs i d ≡ writer_of xs n (Some wal)
  found_there xs i n d found = sym (ap (λ o. unwrap_or o (fresh n)) (find-position (λ (x : WalWriter). x.wal == wal) xs i d (sym found)))

  pub found_none : (xs : List WalWriter) (n : ℕ) → None ≡ position (λ (x : WalWriter). x.wal == wal) xs → fresh n ≡ writer_of xs n (Some wal)
  found_none xs n found = by xs (position-none (λ (x : WalWriter). x.wal == wal) xs (ap is_some (sym found)))
    where
      by : (ys : List WalWriter) → AllByRecursion (λ (x : WalWriter). (x.wal == wal) ≡ false) ys → fresh n ≡ unwrap_or (find (λ (x : WalWriter). x.wal == wal) ys) (fresh n)
      by [] none = refl
      by (y ∷ ys) none = by ys none.1 ∙ sym (ap (λ b. unwrap_or (cond b (Some y) (find (λ (x : WalWriter). x.wal == wal) ys)) (fresh n)) none.0)

-- ---- what lies in front

-- the references of a log have numbers of writers below theirs, and segments that are files of their own
pub record IsLow (n : ℕ) (ref : WalRef) : Type 0 where
  pub wal : ref.wal < n
  pub segment : ref.segment < 2 ^ 24

pub lawful_low : (k n : ℕ) (refs : List WalRef) → k + length refs ≤ n → AreLawful k refs → AllByRecursion (IsLow n) refs
lawful_low k n [] le lawful = tt
lawful_low k n (ref ∷ refs) le lawful = (
  record { wal = omega (arith, lawful.0.wal); segment = lawful.0.segment },
  lawful_low (suc k) n refs (omega arith) lawful.1,
)

-- all of them are in front of a new writer
pub fresh_front : (n : ℕ) (refs : List WalRef) → AllByRecursion (IsLow n) refs → AllByRecursion (IsInFront (fresh n)) refs
fresh_front n [] low = tt
fresh_front n (ref ∷ refs) low = ((λ e. absurd (omega (arith, low.0.wal))), fresh_front n refs low.1)

-- the place of the next entry of a writer lies apart from the entries in front of it
module _ (wal segment end : ℕ) (ref : WalRef) (low : ref.segment < 2 ^ 24) (front : ref.wal ≡ wal → (ref.segment < segment) ⊎ ((ref.segment ≡ segment) × (ref.start + ref.len ≤ end))) where
  other_segment : (next : ℕ) → next < 2 ^ 24 → (ref.wal ≡ wal → ref.segment ≡ next → ⊥) → nat_eq (2 ^ 63 + wal * 2 ^ 24 + next) (2 ^ 63 + ref.wal * 2 ^ 24 + ref.segment) ≡ false
  other_segment next short differs = by (nat_eq (2 ^ 63 + wal * 2 ^ 24 + next) (2 ^ 63 + ref.wal * 2 ^ 24 + ref.segment)) refl
    where
      by : (b : Bool) → nat_eq (2 ^ 63 + wal * 2 ^ 24 + next) (2 ^ 63 + ref.wal * 2 ^ 24 + ref.segment) ≡ b → b ≡ false
      by false e = refl
      by true e =
          let same = own_files wal next ref.wal ref.segment short low (eqb-true (2 ^ 63 + wal * 2 ^ 24 + next) (2 ^ 63 + ref.wal * 2 ^ 24 + ref.segment) e) in
          absurd (differs (sym same.0) (sym same.1))

  pub next_apart : segment + 1 < 2 ^ 24 → nat_eq (2 ^ 63 + wal * 2 ^ 24 + (segment + 1)) (2 ^ 63 + ref.wal * 2 ^ 24 + ref.segment) ≡ false
  next_apart short = other_segment (segment + 1) short (λ e f. by f (front e))
    where
      by : ref.segment ≡ segment + 1 → (ref.segment < segment) ⊎ ((ref.segment ≡ segment) × (ref.start + ref.len ≤ end)) → ⊥
      by f (inl lt) = omega arith
      by f (inr here) = let g : ref.segment ≡ segment = here.0 in omega arith

  pub here_apart : segment < 2 ^ 24 → (nat_eq (2 ^ 63 + wal * 2 ^ 24 + segment) (2 ^ 63 + ref.wal * 2 ^ 24 + ref.segment) ≡ false) ⊎ (ref.start + ref.len ≤ end)
  here_apart short = by (cases_eq ref.wal wal)
    where
      within : (ref.segment < segment) ⊎ ((ref.segment ≡ segment) × (ref.start + ref.len ≤ end)) → (nat_eq (2 ^ 63 + wal * 2 ^ 24 + segment) (2 ^ 63 + ref.wal * 2 ^ 24 + ref.segment) ≡ false) ⊎ (ref.start + ref.len ≤ end)
      within (inl lt) = inl (other_segment segment short (λ e f. omega arith))
      within (inr here) = inr here.1

      by : (ref.wal ≡ wal) ⊎ (ref.wal ≡ wal → ⊥) → (nat_eq (2 ^ 63 + wal * 2 ^ 24 + segment) (2 ^ 63 + ref.wal * 2 ^ 24 + ref.segment) ≡ false) ⊎ (ref.start + ref.len ≤ end)
      by (inl e) = within (front e)
      by (inr n) = inl (other_segment segment short (λ e f. n e))

pub one_apart : (w : WalWriter) (seg_bytes len : ℕ) (ref : WalRef) → w.segment + 1 < 2 ^ 24 → ref.segment < 2 ^ 24 → IsInFront w ref → IsApart (ref_for w seg_bytes len) ref
one_apart w seg_bytes len ref short low front = by (is_full w seg_bytes)
  where
    by : (full : Bool) → (nat_eq (2 ^ 63 + w.wal * 2 ^ 24 + cond full (w.segment + 1) w.segment) (file_in ref) ≡ false) ⊎ (ref.start + ref.len ≤ cond full 0 w.end)
    by true = inl (next_apart w.wal w.segment w.end ref low front short)
    by false = here_apart w.wal w.segment w.end ref low front (omega arith)

pub all_front_apart : (w : WalWriter) (seg_bytes len n : ℕ) → w.segment + 1 < 2 ^ 24 → (refs : List WalRef) → AllByRecursion (IsLow n) refs → AllByRecursion (IsInFront w) refs → AllByRecursion (IsApart (ref_for w seg_bytes len)) refs
all_front_apart w seg_bytes len n short [] low front = tt
all_front_apart w seg_bytes len n short (ref ∷ refs) low front = (one_apart w seg_bytes len ref short low.0.segment front.0, all_front_apart w seg_bytes len n short refs low.1 front.1)

-- ---- behind an entry

-- what is in front of a writer is in front of it behind its next entry
pub front_behind : (w : WalWriter) (seg_bytes len : ℕ) (ref : WalRef) → IsInFront w ref → IsInFront (behind (ref_for w seg_bytes len)) ref
front_behind w seg_bytes len ref front e = by (is_full w seg_bytes) (front e)
  where
    by : (full : Bool) → (ref.segment < w.segment) ⊎ ((ref.segment ≡ w.segment) × (ref.start + ref.len ≤ w.end)) → (ref.segment < cond full (w.segment + 1) w.segment) ⊎ ((ref.segment ≡ cond full (w.segment + 1) w.segment) × (ref.start + ref.len ≤ cond full 0 w.end + len))
    by true (inl lt) = inl (omega arith)
    by true (inr here) = inl (let g : ref.segment ≡ w.segment = here.0 in omega arith)
    by false (inl lt) = inl lt
    by false (inr here) = inr (here.0, let g : ref.start + ref.len ≤ w.end = here.1 in omega arith)

-- and so is that entry
pub itself_front : (at : WalRef) → IsInFront (behind at) at
itself_front at e = inr (refl, omega arith)

pub all_behind : (w : WalWriter) (seg_bytes len : ℕ) (refs : List WalRef) → All (IsInFront w) refs → All (IsInFront (behind (ref_for w seg_bytes len))) (refs ++ ref_for w seg_bytes len ∷ [])
all_behind w seg_bytes len refs front =
    All-push (IsInFront (behind (ref_for w seg_bytes len))) refs (ref_for w seg_bytes len)
    (All-weaker (IsInFront w) (IsInFront (behind (ref_for w seg_bytes len))) (λ ref f. front_behind w seg_bytes len ref f) refs front)
    (itself_front (ref_for w seg_bytes len))

-- an entry of another log is in front of a writer
other_front : (x : WalWriter) (at : WalRef) → one_log x (behind at) ≡ false → IsInFront x at
other_front x at differs e = absurd (grind (arith, nat_tests))

-- all writers, behind the entry of one
pub writers_behind : (writers : List WalWriter) (w : WalWriter) (seg_bytes len : ℕ) (refs : List WalRef) → IsDistinct one_log writers → All (λ (x : WalWriter). All (IsInFront x) refs) writers → All (IsInFront w) refs →
    All (λ (x : WalWriter). All (IsInFront x) (refs ++ ref_for w seg_bytes len ∷ [])) (with_writer writers (behind (ref_for w seg_bytes len)))
writers_behind writers w seg_bytes len refs apart front own =
    with_others (λ (x : WalWriter). All (IsInFront x) (refs ++ ref_for w seg_bytes len ∷ [])) writers (behind (ref_for w seg_bytes len)) (all_behind w seg_bytes len refs own) apart
    (All-weaker (λ (x : WalWriter). All (IsInFront x) refs) (λ (x : WalWriter). one_log x (behind (ref_for w seg_bytes len)) ≡ false → All (IsInFront x) (refs ++ ref_for w seg_bytes len ∷ []))
    (λ x f differs. All-push (IsInFront x) refs (ref_for w seg_bytes len) f (other_front x (ref_for w seg_bytes len) differs)) writers front)
