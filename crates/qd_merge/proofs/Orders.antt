-- The steps of a merge by times.
use Rattle.std.proofs.Common.{◌≡◌, ℕ, zero, suc, ◌+◌, ◌-◌, ◌<◌, ◌≤◌, Bool, true, false, cond, List, [], ◌∷◌, ◌++◌, length, map, take, drop, get_or, set, refl, sym, ap, ap₂, ◌∙◌, arith, append-nil, append_assoc, All, slice_range, subst, inl, inr, length-drop}
use Rattle.std.specs.List.{AllByRecursion, fold}
use Rattle.std.specs.List.Sorted.{IsNonDecreasing}
use Rattle.std.proofs.lemmas.Bool.{cases_lt}
use Rattle.std.proofs.lemmas.List.{get_or-map, length-map, take_more, take_all, get_or-take, length-take-le}
use Rattle.std.proofs.lemmas.List.Elements.{All-append}
use Rattle.std.proofs.lemmas.List.Sums.{fold-append}
use Rattle.qd_base.specs.Rows.{Row, time_of, put}
use Rattle.qd_column.specs.declared.runs.Run.{Run}
use Rattle.qd_column.specs.declared.runs.Side.{Side}
use Rattle.qd_column.specs.declared.runs.Side.TheVariants as side
use Rattle.qd_column.specs.Runs.{of_side, items_in, laid, IsRunOf}
use Rattle.qd_column.proofs.ListLemmas.{part_more, part_none}
use Rattle.qd_column.proofs.RunLemmas.{laid-push}
use Rattle.std.proofs.lemmas.List.Elements.{recursion_from_All}
use Rattle.qd_merge.specs.Classes.{kept}
use Rattle.qd_merge.specs.Order.{AreRunsOf, AddsRun, AddsKept, IsMergeOrder}
use Rattle.qd_merge.proofs.Puts.{put_last, fold_before, all-fold}
use Rattle.qd_merge.proofs.Kept.{kept-append, all-kept}
use Rattle.qd_merge.proofs.Parts.{part_joined, all-part, whole_part, one_part}

-- the time of a row
pub time_at : (col : ℕ) (rows : List Row) (times : List ℕ) (k : ℕ) (d : Row) → map (time_of col) rows ≡ times → k < length times → time_of col (get_or rows k d) ≡ get_or times k 0
time_at col rows times k d are h = sym (get_or-map (time_of col) rows k d 0 (omega (arith, ap length are, length-map rows (time_of col)))) ∙ ap (λ (ts : List ℕ). get_or ts k 0) are

-- The first rows of both lists are merged: those of the first up to one place, those of the second up to another.
pub record MergedSoFar (old : List ℕ) (skip : ℕ) (gone : List Bool) (new : List ℕ) (i j : ℕ) (runs : List Run) : Type 0 where
  pub from : skip ≤ i
  pub within : i ≤ length old
  -- each old row that is left is later than each new one that is laid
  pub ahead : (k m : ℕ) → i ≤ k → k < length old → m < j → get_or new m 0 < get_or old k 0
  -- each old row that is laid is no later than each new one that is left
  pub behind : (k m : ℕ) → skip ≤ k → k < i → j ≤ m → m < length new → get_or old k 0 ≤ get_or new m 0
  pub fit : AreRunsOf (length old) (length new) runs
  pub order : (col : ℕ) (rows batch : List Row) → map (time_of col) rows ≡ old → map (time_of col) batch ≡ new → laid rows batch runs ≡ fold (put col []) (kept (slice_range gone skip i) (slice_range rows skip i)) (take j batch)

module _ (old : List ℕ) (skip : ℕ) (gone : List Bool) (new : List ℕ) (size : length gone ≡ length old) where
  pub merge_begun : skip ≤ length old → MergedSoFar old skip gone new skip 0 []
  merge_begun high =
      record {
        from = omega arith;
        within = high;
        ahead = λ k m a b c. absurd (omega arith);
        behind = λ k m a b c d. absurd (omega arith);
        fit = λ k d lt. absurd (omega arith);
        order = λ col rows batch are come. sym (ap₂ (λ f xs. kept f xs) (part_none gone skip) (part_none rows skip));
      }

  -- old rows up to a place are laid behind all others
  pub old_laid : (i j i' : ℕ) (runs mid : List Run) → MergedSoFar old skip gone new i j runs → j ≤ length new → i ≤ i' → i' ≤ length old → AddsKept runs gone i i' mid → (col : ℕ) (rows batch : List Row) → map (time_of col) rows ≡ old → map (time_of col) batch ≡ new → laid rows batch mid ≡ fold (put col []) (kept (slice_range gone skip i') (slice_range rows skip i')) (take j batch)
  old_laid i j i' runs mid so_far few low high adds col rows batch are come =
      let rows_size : length rows ≡ length old = sym (length-map rows (time_of col)) ∙ ap length are in
      let batch_size : length batch ≡ length new = sym (length-map batch (time_of col)) ∙ ap length come in
      let here : List Row = kept (slice_range gone skip i) (slice_range rows skip i) in
      let more : List Row = kept (slice_range gone i i') (slice_range rows i i') in
      let past : AllByRecursion (λ b. AllByRecursion (λ x. time_of col b < time_of col x) more) (take j batch) =
      recursion_from_All (λ b. AllByRecursion (λ x. time_of col b < time_of col x) more) (take j batch) (λ m d lt.
      let m_low : m < j = omega (arith, length-take-le j batch (omega arith), lt) in
      let b_time : time_of col (get_or (take j batch) m d) ≡ get_or new m 0 = ap (time_of col) (get_or-take j batch m d m_low) ∙ time_at col batch new m d come (omega arith) in
      recursion_from_All (λ x. time_of col (get_or (take j batch) m d) < time_of col x) more
      (all-kept (λ x. time_of col (get_or (take j batch) m d) < time_of col x) (slice_range gone i i') (slice_range rows i i') (all-part (λ x. time_of col (get_or (take j batch) m d) < time_of col x) rows i i' (omega arith) (λ k e a b. let x_time = time_at col rows old k e are (omega arith) in let less = so_far.ahead k m a (omega arith) m_low in omega arith)))) in
      let flags : length (slice_range gone skip i) ≡ length (slice_range rows skip i) =
      let f = length-take-le (i - skip) (drop skip gone) (let n = length-drop skip gone in let w = so_far.within in omega arith) in
      let r = length-take-le (i - skip) (drop skip rows) (let n = length-drop skip rows in let w = so_far.within in omega arith) in f ∙ sym r in
      let joined : here ++ more ≡ kept (slice_range gone skip i') (slice_range rows skip i') =
      sym (kept-append (slice_range gone skip i) (slice_range gone i i') (slice_range rows skip i) (slice_range rows i i') flags) ∙ ap₂ (λ f xs. kept f xs) (sym (part_joined gone skip i i' so_far.from low)) (sym (part_joined rows skip i i' so_far.from low)) in
      adds.rows rows batch (rows_size ∙ sym size) ∙ ap (λ l. l ++ more) (so_far.order col rows batch are come) ∙ sym (fold_before col here more (take j batch) past) ∙ ap (λ l. fold (put col []) l (take j batch)) joined

  -- old rows that are no later, and then a new row
  pub merge_more : (i j i' : ℕ) (runs mid done : List Run) → MergedSoFar old skip gone new i j runs → IsNonDecreasing old → IsNonDecreasing new → j < length new → i ≤ i' → i' ≤ length old
      → ((k : ℕ) → i ≤ k → k < i' → get_or old k 0 ≤ get_or new j 0) → (i' < length old → get_or new j 0 < get_or old i' 0)
      → AddsKept runs gone i i' mid → AddsRun mid (record { side = side.Second; from = j; to = j + 1 }) done → MergedSoFar old skip gone new i' (j + 1) done
  merge_more i j i' runs mid done so_far rising coming there low high upto later adds adds_row =
      let mid_runs : AreRunsOf (length old) (length new) mid = subst (λ (n : ℕ). AreRunsOf n (length new) mid) size (adds.runs (length new) (subst (λ (n : ℕ). AreRunsOf n (length new) runs) (sym size) so_far.fit)) in
      record {
        from = let f = so_far.from in omega arith;
        within = high;
        ahead = λ k m a b c. let first = later (omega arith) in let sorted = rising i' k 0 a b in let among = coming m j 0 (omega arith) there in omega arith;
        behind = λ k m a b c d.
            let next = coming j m 0 (omega arith) d in
            elim (cases_lt k i) [ inl before ↦ so_far.behind k m a before (omega arith) d | inr here ↦ (let le = upto k here b in omega arith) ];
        fit = adds_row.runs (length old) (length new) mid_runs (record { ordered = omega arith; within = omega arith });
        order = λ col rows batch are come.
            let batch_size : length batch ≡ length new = sym (length-map batch (time_of col)) ∙ ap length come in
            let rows_size : length rows ≡ length old = sym (length-map rows (time_of col)) ∙ ap length are in
            let base : List Row = kept (slice_range gone skip i') (slice_range rows skip i') in
            let row : Row = get_or batch j [] in
            let row_time : time_of col row ≡ get_or new j 0 = time_at col batch new j [] come there in
            let so : laid rows batch mid ≡ fold (put col []) base (take j batch) = old_laid i j i' runs mid so_far (omega arith) low high adds col rows batch are come in
            let old_upto : All (λ x. time_of col x ≤ time_of col row) base = all-kept (λ x. time_of col x ≤ time_of col row) (slice_range gone skip i') (slice_range rows skip i') (all-part (λ x. time_of col x ≤ time_of col row) rows skip i' (omega arith) (λ k d a b.
            let x_time = time_at col rows old k d are (omega arith) in
            elim (cases_lt k i) [ inl before ↦ (let le = so_far.behind k j a before (omega arith) there in omega arith) | inr here ↦ (let le = upto k here b in omega arith) ])) in
            let new_upto : All (λ x. time_of col x ≤ time_of col row) (take j batch) = λ m d lt.
            let m_low : m < j = omega (arith, length-take-le j batch (omega arith), lt) in
            let b_time : time_of col (get_or (take j batch) m d) ≡ get_or new m 0 = ap (time_of col) (get_or-take j batch m d m_low) ∙ time_at col batch new m d come (omega arith) in
            let le = coming m j 0 (omega arith) there in omega arith in
            let upto_all : AllByRecursion (λ x. time_of col x ≤ time_of col row) (fold (put col []) base (take j batch)) = recursion_from_All (λ x. time_of col x ≤ time_of col row) (fold (put col []) base (take j batch)) (all-fold col (λ x. time_of col x ≤ time_of col row) base (take j batch) (All-append (λ x. time_of col x ≤ time_of col row) base (take j batch) old_upto new_upto)) in
            adds_row.rows rows batch ∙ ap₂ (λ u v. u ++ v) so (one_part batch j [] (omega arith)) ∙ sym (put_last col (fold (put col []) base (take j batch)) row upto_all) ∙ sym (fold-append (put col []) base (take j batch) (row ∷ [])) ∙ ap (fold (put col []) base) (sym (take_more batch j [] (omega arith)));
      }

  -- all old rows that are left
  pub merge_done : (i : ℕ) (runs done : List Run) → MergedSoFar old skip gone new i (length new) runs → AddsKept runs gone i (length old) done → IsMergeOrder old skip gone new done
  merge_done i runs done so_far adds =
      record {
        within = subst (λ (n : ℕ). AreRunsOf n (length new) done) size (adds.runs (length new) (subst (λ (n : ℕ). AreRunsOf n (length new) runs) (sym size) so_far.fit));
        order = λ col rows batch are come.
            let batch_size : length batch ≡ length new = sym (length-map batch (time_of col)) ∙ ap length come in
            let rows_size : length rows ≡ length old = sym (length-map rows (time_of col)) ∙ ap length are in
            old_laid i (length new) (length old) runs done so_far (omega arith) so_far.within (omega arith) adds col rows batch are come ∙ ap₂ (λ z b. fold (put col []) z b) (ap₂ (λ f xs. kept f xs) (whole_part gone skip (length old) (sym size)) (whole_part rows skip (length old) (sym rows_size))) (take_all (length new) batch (omega arith));
      }

-- no row is added yet
pub kept_none : (runs : List Run) (gone : List Bool) (from : ℕ) → AddsKept runs gone from from runs
kept_none runs gone from =
    record {
      rows = λ first second e. sym (append-nil (laid first second runs)) ∙ ap (λ l. laid first second runs ++ l) (sym (ap₂ (λ f xs. kept f xs) (part_none gone from) (part_none first from)));
      runs = λ second h. h;
    }

-- a row that is gone, and one that is kept
slice_sizes : (gone : List Bool) (first : List Row) (from to : ℕ) → length first ≡ length gone → from ≤ to → to ≤ length gone → length (slice_range gone from to) ≡ length (slice_range first from to)
slice_sizes gone first from to e low high = length-take-le (to - from) (drop from gone) (let n = length-drop from gone in omega arith) ∙ sym (length-take-le (to - from) (drop from first) (let n = length-drop from first in omega arith))

kept_next : (gone : List Bool) (first : List Row) (from i : ℕ) → length first ≡ length gone → from ≤ i → i < length gone → kept (slice_range gone from (i + 1)) (slice_range first from (i + 1)) ≡ kept (slice_range gone from i) (slice_range first from i) ++ cond (get_or gone i false) [] (get_or first i [] ∷ [])
kept_next gone first from i e low high =
    ap₂ (λ f xs. kept f xs) (part_more gone from i false low high) (part_more first from i [] low (omega arith)) ∙ kept-append (slice_range gone from i) (get_or gone i false ∷ []) (slice_range first from i) (get_or first i [] ∷ []) (slice_sizes gone first from i e low (omega arith))

pub kept_gone : (runs now : List Run) (gone : List Bool) (from i : ℕ) → AddsKept runs gone from i now → from ≤ i → i < length gone → get_or gone i false ≡ true → AddsKept runs gone from (i + 1) now
kept_gone runs now gone from i adds low high is =
    record {
      rows = λ first second e. adds.rows first second e ∙ ap (λ l. laid first second runs ++ l) (sym (append-nil (kept (slice_range gone from i) (slice_range first from i))) ∙ sym (kept_next gone first from i e low high ∙ ap (λ b. kept (slice_range gone from i) (slice_range first from i) ++ cond b [] (get_or first i [] ∷ [])) is));
      runs = adds.runs;
    }

pub kept_more : (runs now more : List Run) (gone : List Bool) (from i : ℕ) → AddsKept runs gone from i now → from ≤ i → i < length gone → get_or gone i false ≡ false → AddsRun now (record { side = side.First; from = i; to = i + 1 }) more → AddsKept runs gone from (i + 1) more
kept_more runs now more gone from i adds low high is one =
    record {
      rows = λ first second e.
          one.rows first second ∙ ap₂ (λ u v. u ++ v) (adds.rows first second e) (one_part first i [] (omega arith)) ∙ append_assoc (laid first second runs) (kept (slice_range gone from i) (slice_range first from i)) (get_or first i [] ∷ [])
          ∙ ap (λ l. laid first second runs ++ l) (sym (kept_next gone first from i e low high ∙ ap (λ b. kept (slice_range gone from i) (slice_range first from i) ++ cond b [] (get_or first i [] ∷ [])) is));
      runs = λ second h. one.runs (length gone) second (adds.runs second h) (record { ordered = omega arith; within = omega arith });
    }

-- a run behind the others, and one that makes the last longer
pub run_pushed : (runs : List Run) (run : Run) → AddsRun runs run (runs ++ run ∷ [])
run_pushed runs run = record { rows = λ first second. laid-push first second runs run; runs = λ first second h one. All-append (IsRunOf first second) runs (run ∷ []) h (λ k d lt. go first second one k d lt) }
  where
    go : (first second : ℕ) → IsRunOf first second run → (k : ℕ) (d : Run) → k < 1 → IsRunOf first second (get_or (run ∷ []) k d)
    go first second one zero d lt = one
    go first second one (suc k) d lt = absurd (omega arith)

-- the last of some runs made longer by a run that goes on where it ends
longer : (last run : Run) → last.side ≡ run.side → last.to ≡ run.from → last.from ≤ last.to → run.from ≤ run.to → (first second : List Row) → items_in first second (record last { to = run.to }) ≡ items_in first second last ++ items_in first second run
longer last run same meets low high first second =
    part_joined (of_side first second last.side) last.from last.to run.to low (omega arith) ∙ ap₂ (λ s n. slice_range (of_side first second last.side) last.from last.to ++ slice_range (of_side first second s) n run.to) same meets

set_last : {T : Type 0} (xs : List T) (i : ℕ) (v : T) → i + 1 ≡ length xs → set xs i v ≡ take i xs ++ v ∷ []
set_last [] i v e = absurd (omega arith)
set_last (x ∷ []) zero v e = refl
set_last (x ∷ y ∷ ys) zero v e = absurd (omega arith)
set_last (x ∷ xs) (suc i) v e = ap (λ l. x ∷ l) (set_last xs i v (omega arith))

last_apart : {T : Type 0} (xs : List T) (i : ℕ) (d : T) → i + 1 ≡ length xs → xs ≡ take i xs ++ get_or xs i d ∷ []
last_apart xs i d e = sym (take_all (i + 1) xs (omega arith)) ∙ take_more xs i d (omega arith)

pub run_longer : (runs : List Run) (i : ℕ) (d run : Run) → i + 1 ≡ length runs → (get_or runs i d).side ≡ run.side → (get_or runs i d).to ≡ run.from → (get_or runs i d).from ≤ (get_or runs i d).to → run.from ≤ run.to → AddsRun runs run (set runs i (record (get_or runs i d) { to = run.to }))
run_longer runs i d run last same meets low high =
    let before : Run = get_or runs i d in
    let after : Run = record before { to = run.to } in
    let front : List Run = take i runs in
    let now : set runs i after ≡ front ++ after ∷ [] = set_last runs i after last in
    let then : runs ≡ front ++ before ∷ [] = last_apart runs i d last in
    record {
      rows = λ first second.
          ap (laid first second) now ∙ laid-push first second front after ∙ ap (λ l. laid first second front ++ l) (longer before run same meets low high first second) ∙ sym (append_assoc (laid first second front) (items_in first second before) (items_in first second run))
          ∙ ap (λ l. l ++ items_in first second run) (sym (ap (laid first second) then ∙ laid-push first second front before));
      runs = λ first second h one.
          let was : IsRunOf first second before = h i d (omega arith) in
          let ordered = was.ordered in
          let within : run.to ≤ of_side first second before.side = subst (λ (s : Side). run.to ≤ of_side first second s) (sym same) one.within in
          let fits : IsRunOf first second after = record { ordered = omega arith; within = within } in
          subst (AreRunsOf first second) (sym now) (All-append (IsRunOf first second) front (after ∷ []) (λ k e lt. let low_k : k < i = omega (arith, length-take-le i runs (omega arith)) in subst (IsRunOf first second) (sym (get_or-take i runs k e low_k)) (h k e (omega arith))) (λ k e lt. only fits k e lt));
    }
  where
    only : {first second : ℕ} {x : Run} → IsRunOf first second x → (k : ℕ) (e : Run) → k < 1 → IsRunOf first second (get_or (x ∷ []) k e)
    only fits zero e lt = fits
    only fits (suc k) e lt = absurd (omega arith)
