-- Runs, and the places that they stand for.
use Rattle.std.proofs.Common.{◌≡◌, ℕ, zero, suc, ◌+◌, ◌-◌, ◌<◌, ◌≤◌, inl, inr, List, [], ◌∷◌, ◌++◌, length, map, get_or, set, refl, sym, ap, ◌∙◌, arith, append_assoc, length-append}
use Rattle.std.specs.List.{range_with_len}
use Rattle.std.specs.List.Sorted.{IsNonDecreasingBy}
use Rattle.std.proofs.lemmas.Bool.{cases_lt}
use Rattle.std.proofs.lemmas.List.{append-nil, map-append, get_or_append_left, get_or-append_right}
use Rattle.std.proofs.lemmas.List.Concat.{flat_map-append}
use Rattle.std.proofs.lemmas.List.FromFn.{length-map-range_with_len, get_or-map-range_with_len}
use Rattle.std.proofs.lemmas.List.Sorted.{IsNonDecreasingBy-from_default}
use Rattle.qd_rows.specs.declared.runs.Run.{Run}
use Rattle.qd_rows.specs.Runs.{Spot, places_of_run, places_of_runs, no_run, run_at, AreRuns}

pub length-run : (r : Run) → length (places_of_run r) ≡ r.to - r.from
length-run r = length-map-range_with_len (λ i. (r.block, i)) r.from (r.to - r.from)

-- how many places runs stand for
pub length-runs : (before end : ℕ) (runs : List Run) → AreRuns before runs end → before + length (places_of_runs runs) ≡ end
length-runs before end [] are = omega arith
length-runs before end (r ∷ rs) are =
    let rest : before + (r.to - r.from) + length (places_of_runs rs) ≡ end = length-runs (before + (r.to - r.from)) end rs are.2 in
    omega (arith, length-append (places_of_run r) (places_of_runs rs), length-run r)

-- a run begins behind all rows before the first
run_from : (before end k : ℕ) (runs : List Run) → AreRuns before runs end → k < length runs → before ≤ (run_at runs k).before
run_from before end k [] are h = absurd (omega arith)
run_from before end zero (r ∷ rs) are h = let at : r.before ≡ before = are.0 in omega arith
run_from before end (suc k) (r ∷ rs) are h =
    let rest : before + (r.to - r.from) ≤ (run_at rs k).before = run_from (before + (r.to - r.from)) end k rs are.2 (omega arith) in
    omega arith

pub run_some : (before end k : ℕ) (runs : List Run) → AreRuns before runs end → k < length runs → (run_at runs k).from < (run_at runs k).to
run_some before end k [] are h = absurd (omega arith)
run_some before end zero (r ∷ rs) are h = are.1
run_some before end (suc k) (r ∷ rs) are h = run_some (before + (r.to - r.from)) end k rs are.2 (omega arith)

run_first : (before end : ℕ) (runs : List Run) → AreRuns before runs end → 0 < length runs → (run_at runs 0).before ≡ before
run_first before end [] are h = absurd (omega arith)
run_first before end (r ∷ rs) are h = are.0

some_runs : (before end : ℕ) (runs : List Run) → AreRuns before runs end → before < end → 0 < length runs
some_runs before end [] are h = let none : before ≡ end = are in absurd (omega arith)
some_runs before end (r ∷ rs) are h = omega arith

-- the next run begins where one ends
run_next : (before end k : ℕ) (runs : List Run) → AreRuns before runs end → suc k < length runs → (run_at runs (suc k)).before ≡ (run_at runs k).before + ((run_at runs k).to - (run_at runs k).from)
run_next before end k [] are h = absurd (omega arith)
run_next before end k (r ∷ []) are h = absurd (omega arith)
run_next before end zero (r ∷ s ∷ rs) are h =
    let at : r.before ≡ before = are.0 in
    let next : s.before ≡ before + (r.to - r.from) = are.2.0 in
    omega arith
run_next before end (suc k) (r ∷ s ∷ rs) are h = run_next (before + (r.to - r.from)) end k (s ∷ rs) are.2 (omega arith)

-- the last one ends with all rows
pub run_last : (before end k : ℕ) (runs : List Run) → AreRuns before runs end → suc k ≡ length runs → end ≡ (run_at runs k).before + ((run_at runs k).to - (run_at runs k).from)
run_last before end k [] are h = absurd (omega arith)
run_last before end zero (r ∷ []) are h =
    let at : r.before ≡ before = are.0 in
    let all : before + (r.to - r.from) ≡ end = are.2 in
    omega arith
run_last before end (suc k) (r ∷ []) are h = absurd (omega arith)
run_last before end zero (r ∷ s ∷ rs) are h = absurd (omega arith)
run_last before end (suc k) (r ∷ s ∷ rs) are h = run_last (before + (r.to - r.from)) end k (s ∷ rs) are.2 (omega arith)

-- no run ends behind all rows
pub run_within : (before end k : ℕ) (runs : List Run) → AreRuns before runs end → k < length runs → (run_at runs k).before + ((run_at runs k).to - (run_at runs k).from) ≤ end
run_within before end k [] are h = absurd (omega arith)
run_within before end zero (r ∷ rs) are h =
    let at : r.before ≡ before = are.0 in
    let rest : before + (r.to - r.from) + length (places_of_runs rs) ≡ end = length-runs (before + (r.to - r.from)) end rs are.2 in
    omega arith
run_within before end (suc k) (r ∷ rs) are h = run_within (before + (r.to - r.from)) end k rs are.2 (omega arith)

-- what runs stand before rises
pub runs_rise : (before end : ℕ) (runs : List Run) → AreRuns before runs end → IsNonDecreasingBy (λ (r : Run). r.before) runs
runs_rise before end runs are = IsNonDecreasingBy-from_default (λ (r : Run). r.before) runs no_run (λ i j low high. rise before end i j runs are low high)
  where
    rise : (before end i j : ℕ) (runs : List Run) → AreRuns before runs end → i ≤ j → j < length runs → (run_at runs i).before ≤ (run_at runs j).before
    rise before end i j [] are low high = absurd (omega arith)
    rise before end zero zero (r ∷ rs) are low high = omega arith
    rise before end zero (suc j) (r ∷ rs) are low high =
        let at : r.before ≡ before = are.0 in
        let rest : before + (r.to - r.from) ≤ (run_at rs j).before = run_from (before + (r.to - r.from)) end j rs are.2 (omega arith) in
        omega arith
    rise before end (suc i) zero (r ∷ rs) are low high = absurd (omega arith)
    rise before end (suc i) (suc j) (r ∷ rs) are low high = rise (before + (r.to - r.from)) end i j rs are.2 (omega arith) (omega arith)

-- a run that has a place
pub record HasPlace (runs : List Run) (k i : ℕ) : Type 0 where
  pub there : k < length runs
  pub first : (run_at runs k).before ≤ i
  pub last : i < (run_at runs k).before + ((run_at runs k).to - (run_at runs k).from)

-- the run before the first one that begins later has the place
pub run_found : (end i r : ℕ) (runs : List Run) → AreRuns 0 runs end → i < end → r ≤ length runs → ((k : ℕ) → k < r → (run_at runs k).before ≤ i) → ((k : ℕ) → r ≤ k → k < length runs → i < (run_at runs k).before) → (1 ≤ r) × HasPlace runs (r - 1) i
run_found end i r runs are within bound early late =
    let some : 0 < length runs = some_runs 0 end runs are (omega arith) in
    let one : 1 ≤ r = elim (cases_lt 0 r) [ inl more ↦ omega arith | inr none ↦ (let first : (run_at runs 0).before ≡ 0 = run_first 0 end runs are some in let after : i < (run_at runs 0).before = late 0 none some in absurd (omega arith)) ] in
    let next : suc (r - 1) ≡ r = omega arith in (
      one,
      record {
        there = omega arith;
        first = early (r - 1) (omega arith);
        last = elim (cases_lt r (length runs)) [
          | inl more ↦ (let step = run_next 0 end (r - 1) runs are (omega arith) in let after : i < (run_at runs r).before = late r (omega arith) more in omega (arith, ap (λ k. (run_at runs k).before) next))
          | inr none ↦ (let step : end ≡ (run_at runs (r - 1)).before + ((run_at runs (r - 1)).to - (run_at runs (r - 1)).from) = run_last 0 end (r - 1) runs are (omega arith) in omega arith)
        ];
      },
    )

-- the place that a run has
pub place_in : (before end k i : ℕ) (runs : List Run) (d : Spot) → AreRuns before runs end → HasPlace runs k i → get_or (places_of_runs runs) (i - before) d ≡ ((run_at runs k).block, (run_at runs k).from + (i - (run_at runs k).before))
place_in before end k i [] d are has = absurd (omega (arith, has.there))
place_in before end zero i (r ∷ rs) d are has =
    let at : r.before ≡ before = are.0 in
    let low : r.before ≤ i = has.first in
    let high : i < r.before + (r.to - r.from) = has.last in
    get_or_append_left (places_of_run r) (places_of_runs rs) d (i - before) (omega (arith, length-run r))
    ∙ get_or-map-range_with_len (λ j. (r.block, j)) r.from (r.to - r.from) (i - before) (r.from + (i - r.before)) d (omega arith) (omega arith)
place_in before end (suc k) i (r ∷ rs) d are has =
    let next : ℕ = before + (r.to - r.from) in
    let there : k < length rs = omega (arith, has.there) in
    let begin : before + (r.to - r.from) ≤ (run_at rs k).before = run_from (before + (r.to - r.from)) end k rs are.2 there in
    let low : (run_at rs k).before ≤ i = has.first in
    let rest : HasPlace rs k i = record { there = there; first = has.first; last = has.last } in
    get_or-append_right (places_of_run r) (places_of_runs rs) (r.to - r.from) (i - before) d (length-run r) (omega arith)
    ∙ ap (λ n. get_or (places_of_runs rs) n d) (let e : i - before - (r.to - r.from) ≡ i - (before + (r.to - r.from)) = omega arith in e)
    ∙ place_in (before + (r.to - r.from)) end k i rs d are.2 rest

range_split : (a m n k : ℕ) → k ≡ m + n → range_with_len a k ≡ range_with_len a m ++ range_with_len (a + m) n
range_split a zero n k e = let same : k ≡ n = omega arith in let at : a ≡ a + 0 = omega arith in ap (range_with_len a) same ∙ ap (λ b. range_with_len b n) at
range_split a (suc m) n zero e = absurd (omega arith)
range_split a (suc m) n (suc k) e =
    let rest = range_split (a + 1) m n k (omega arith) in
    let at : a + 1 + m ≡ a + suc m = omega arith in
    ap (λ l. a ∷ l) (rest ∙ ap (λ b. range_with_len (a + 1) m ++ range_with_len b n) at)

-- a run made longer by its next one
abbrev pub extended : Run → Run → Run
extended last next = record last { to = next.to }

places_extended : (last next : Run) → last.block ≡ next.block → last.to ≡ next.from → last.from < last.to → next.from < next.to → places_of_run (extended last next) ≡ places_of_run last ++ places_of_run next
places_extended last next same goes some more =
    let m = last.to - last.from in
    let n = next.to - next.from in
    let split = range_split last.from (last.to - last.from) (next.to - next.from) (next.to - last.from) (omega arith) in
    let at : last.from + (last.to - last.from) ≡ next.from = omega arith in
    ap (map (λ i. (last.block, i))) (split ∙ ap (λ b. range_with_len last.from (last.to - last.from) ++ range_with_len b (next.to - next.from)) at)
    ∙ map-append (λ i. (last.block, i)) (range_with_len last.from (last.to - last.from)) (range_with_len next.from (next.to - next.from))
    ∙ ap (λ b. places_of_run last ++ map (λ i. (b, i)) (range_with_len next.from (next.to - next.from))) same

-- what runs are with one more
pub record AddsRun (before : ℕ) (old new : List Run) (run : Run) : Type 0 where
  pub places : places_of_runs new ≡ places_of_runs old ++ places_of_run run
  pub runs : AreRuns before new (run.before + (run.to - run.from))

pub run_extended : (before k : ℕ) (runs : List Run) (last next : Run) → suc k ≡ length runs → last ≡ run_at runs k → last.block ≡ next.block → last.to ≡ next.from → next.from < next.to → AreRuns before runs next.before → AddsRun before runs (set runs k (extended last next)) next
run_extended before k [] last next e is same goes more are = absurd (omega arith)
run_extended before zero (r ∷ []) last next e is same goes more are =
    let start : last.before ≡ before = ap (λ (x : Run). x.before) is ∙ are.0 in
    let from : last.from ≡ r.from = ap (λ (x : Run). x.from) is in
    let to : last.to ≡ r.to = ap (λ (x : Run). x.to) is in
    let low : r.from < r.to = are.1 in
    let all : before + (r.to - r.from) ≡ next.before = are.2 in
    let last_some : last.from < last.to = omega arith in
    record {
      places = append-nil (places_of_run (extended last next)) ∙ places_extended last next same goes last_some more ∙ ap (λ (x : Run). places_of_run x ++ places_of_run next) is ∙ ap (λ l. l ++ places_of_run next) (sym (append-nil (places_of_run r)));
      runs = (start, omega arith, omega arith);
    }
run_extended before (suc k) (r ∷ []) last next e is same goes more are = absurd (omega arith)
run_extended before zero (r ∷ s ∷ rs) last next e is same goes more are = absurd (omega arith)
run_extended before (suc k) (r ∷ s ∷ rs) last next e is same goes more are =
    let rest = run_extended (before + (r.to - r.from)) k (s ∷ rs) last next (omega arith) is same goes more are.2 in
    record {
      places = ap (λ l. places_of_run r ++ l) rest.places ∙ sym (append_assoc (places_of_run r) (places_of_runs (s ∷ rs)) (places_of_run next));
      runs = (are.0, are.1, rest.runs);
    }

pub run_added : (before : ℕ) (runs : List Run) (next : Run) → next.from < next.to → AreRuns before runs next.before → AddsRun before runs (runs ++ next ∷ []) next
run_added before runs next more are = record {
  places = flat_map-append places_of_run runs (next ∷ []) ∙ ap (λ l. places_of_runs runs ++ l) (append-nil (places_of_run next));
  runs = go before runs are;
}
  where
    go : (before : ℕ) (runs : List Run) → AreRuns before runs next.before → AreRuns before (runs ++ next ∷ []) (next.before + (next.to - next.from))
    go before [] are = (sym are, more, ap (λ b. b + (next.to - next.from)) are)
    go before (r ∷ rs) are = (are.0, are.1, go (before + (r.to - r.from)) rs are.2)

-- one place alone
pub place_alone : (block from to : ℕ) → to ≡ from + 1 → places_of_run (record { block = block; from = from; to = to; before = 0 }) ≡ (block, from) ∷ []
place_alone block from to e = let one : to - from ≡ 1 = omega arith in ap (λ n. map (λ i. (block, i)) (range_with_len from n)) one
