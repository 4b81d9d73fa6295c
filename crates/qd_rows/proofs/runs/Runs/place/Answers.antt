use Rattle.std.proofs.Common.{◌≡◌, ◌+◌, ◌-◌, ◌<◌, ◌∙◌, List, Some, length, get_or, slice_get, ap, sym, subst, arith}
use Rattle.std.proofs.lemmas.List.{get_or_default}
use Rattle.std.proofs.lemmas.Option.{slice_get-get_or}
use Rattle.qd_rows.specs.declared.runs.Run.{Run}
use Rattle.qd_rows.specs.Runs.{Spot, no_run, run_at, places_of_runs, AreRuns}
use Rattle.qd_rows.proofs.RunLemmas.{HasPlace, place_in, length-runs}
use Rattle.qd_rows.proofs.runs.Runs.place.Goals as goal

pub run_of-k-requires-clause-runs : goal.run_of-k-requires-clause-runs
run_of-k-requires-clause-runs c =
    let items = c.self.inside.runs.items in
    let count : c.self.inside.count ≡ length (places_of_runs items) = omega (arith, length-runs 0 c.self.inside.count items c.self.invariant) in
    subst (λ (rs : List Run). AreRuns 0 rs (length (places_of_runs rs))) (sym c.as_slice.ensures.value) (subst (AreRuns 0 items) count c.self.invariant)

pub returns : goal.returns
returns c =
    let items = c.self.inside.runs.items in
    let i = c.args.i in
    let k = c.run_of-k.result in
    let e : c.as_slice.result.now ≡ items = c.as_slice.ensures.value in
    let seen : HasPlace c.as_slice.result.now k i = record { there = c.run_of-k.ensures.there; first = c.run_of-k.ensures.first; last = c.run_of-k.ensures.last } in
    let has : HasPlace items k i = subst (λ (rs : List Run). HasPlace rs k i) e seen in
    let run : c.index-run.result.now ≡ run_at items k = c.index-run.ensures ∙ get_or_default items k c.index-run.result.now no_run has.there in
    let low : i < length (places_of_runs items) = omega (arith, c.requires, ap length c.self.view_is) in
    let whole : i - 0 ≡ i = omega arith in
    let at : get_or (places_of_runs items) i (0, 0) ≡ ((run_at items k).block, (run_at items k).from + (i - (run_at items k).before)) = ap (λ n. get_or (places_of_runs items) n (0, 0)) (sym whole) ∙ place_in 0 c.self.inside.count k i items (0, 0) c.self.invariant has in
    record { place = ap (λ (ps : List Spot). slice_get ps i) (sym c.self.view_is) ∙ slice_get-get_or (places_of_runs items) i (0, 0) low ∙ ap Some at ∙ ap (λ (r : Run). Some (r.block, r.from + (i - r.before))) (sym run) }
