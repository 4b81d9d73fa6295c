-- The frames of the generated input, as they are read.
use Rattle.std.proofs.Common.{◌≡◌, inl, inr, ℕ, zero, suc, ◌+◌, ◌-◌, ◌<◌, ◌≤◌, List, [], ◌∷◌, ◌++◌, length, flat_map, map, refl, ap, ◌∙◌, arith}
use Rattle.std.specs.List.{range_with_len}
use Rattle.std.proofs.lemmas.List.{length-append}
use Rattle.std.proofs.lemmas.Bool.{cases_lt}
use Rattle.std.proofs.lemmas.Grind.{flat_map-append}
use Rattle.qd_base.specs.declared.request.Request.TheVariants as request
use Rattle.qd_base.specs.Script.{Ended}
use Rattle.qd_frames.specs.Frames.{Steps, frame}
use Rattle.qd_gen.specs.declared.stretch.Share.TheVariants as share
use Rattle.qd_gen.specs.Generated.{batch_text, kept, late_before, line, questions, writes}
use Rattle.qd_gen.specs.Framed.{IsReadAsAsked}
use Rattle.qd_gen.proofs.Batches.{cut, cut_in_order, cut_step, cut_within, kept_all, kept_in_time, late_first, late_is}
use Rattle.qd_gen.proofs.Lines.{taken_short}

late_short : (number lines batch : ℕ) → lines ≤ 1000000 → batch < 100 → length (flat_map (line number) (late_before lines batch)) ≤ 420042
late_short number lines zero few small = omega (arith, ap (λ ls. length (flat_map (line number) ls)) (late_first lines 0 0 0 refl refl))
late_short number lines (suc before) few small =
    let next : suc before ≡ before + 1 = omega arith in
    let is = ap (λ ls. length (flat_map (line number) ls)) (late_is lines (suc before) before next small) in
    let step : cut lines (suc before) - cut lines before ≤ 10001 = cut_step lines before (suc before) next few in
    let in_order : cut lines before ≤ cut lines (suc before) = cut_in_order lines before (suc before) (omega arith) in
    let within : cut lines (suc before) ≤ lines = cut_within lines (suc before) (omega arith) in
    omega (arith, is, taken_short share.Late number (cut lines before) (cut lines (suc before) - cut lines before) (omega arith))

kept_short : (number lines batch : ℕ) → lines ≤ 1000000 → batch < 100 → length (flat_map (line number) (kept lines batch)) ≤ 420042
kept_short number lines batch few small =
    let step : cut lines (batch + 1) - cut lines batch ≤ 10001 = cut_step lines batch (batch + 1) refl few in
    let in_order : cut lines batch ≤ cut lines (batch + 1) = cut_in_order lines batch (batch + 1) (omega arith) in
    let within : cut lines (batch + 1) ≤ lines = cut_within lines (batch + 1) (omega arith) in
    elim (cases_lt batch 99) [
      | inl before ↦ omega (arith, ap (λ ls. length (flat_map (line number) ls)) (kept_in_time lines batch before), taken_short share.InTime number (cut lines batch) (cut lines (batch + 1) - cut lines batch) (omega arith))
      | inr last ↦ omega (arith, ap (λ ls. length (flat_map (line number) ls)) (kept_all lines batch (omega arith)), taken_short share.All number (cut lines batch) (cut lines (batch + 1) - cut lines batch) (omega arith))
    ]

-- each batch is short enough for a frame
batch_short : (number lines batch : ℕ) → lines ≤ 1000000 → batch < 100 → length (batch_text number lines batch) ≤ 16777216
batch_short number lines batch few small =
    let parts = ap length (flat_map-append (line number) (late_before lines batch) (kept lines batch)) ∙ length-append (flat_map (line number) (late_before lines batch)) (flat_map (line number) (kept lines batch)) in
    omega (arith, parts, late_short number lines batch few small, kept_short number lines batch few small)

steps_of_questions : (at : ℕ) → Steps at (flat_map frame questions) questions Ended
steps_of_questions at = (_, tt, refl, (_, omega arith, refl, (_, omega arith, refl, (_, omega arith, refl, ([], refl, refl, refl)))))

-- the texts of these batches are short enough for frames
abbrev Short : (ℕ → List ℕ) → List ℕ → Type 0
Short f [] = Unit {0}
Short f (b ∷ bs) = (length (f b) ≤ 16777216) × Short f bs

steps_of_writes : (f : ℕ → List ℕ) (bs : List ℕ) (at : ℕ) → Short f bs → Steps at (flat_map frame (map (λ b. request.Write (f b)) bs ++ questions)) (map (λ b. request.Write (f b)) bs ++ questions) Ended
steps_of_writes f [] at short = steps_of_questions at
steps_of_writes f (b ∷ bs) at short =
    (flat_map frame (map (λ c. request.Write (f c)) bs ++ questions), short.0, refl, steps_of_writes f bs (at + length (frame (request.Write (f b)))) short.1)

batches_short : (number lines n first : ℕ) → lines ≤ 1000000 → first + n ≤ 100 → Short (batch_text number lines) (range_with_len first n)
batches_short number lines zero first few small = tt
batches_short number lines (suc n) first few small =
    (batch_short number lines first few (omega arith), batches_short number lines n (first + 1) few (omega arith))

steps_of_batches : (number lines n : ℕ) → lines ≤ 1000000 → n ≤ 100 → Steps 0 (flat_map frame (writes number lines n ++ questions)) (writes number lines n ++ questions) Ended
unfolding writes
steps_of_batches number lines n few small =
    steps_of_writes (batch_text number lines) (range_with_len 0 n) 0 (batches_short number lines n 0 few (omega arith))

pub read_as_asked : IsReadAsAsked
read_as_asked number lines few = steps_of_batches number lines 100 few (omega arith)
