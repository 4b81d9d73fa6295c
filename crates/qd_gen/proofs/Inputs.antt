-- Frames behind one another.
use Rattle.std.proofs.Common.{◌≡◌, ℕ, ◌+◌, List, [], ◌∷◌, ◌++◌, length, codes, decimal, flat_map, map, refl, ap, ap₂, sym, ◌∙◌, append_assoc}
use Rattle.std.specs.List.{range_with_len}
use Rattle.std.specs.Fmt.{digits}
use Rattle.std.proofs.Math.Nat.{zero-add}
use Rattle.std.proofs.lemmas.List.{append-nil, length-append}
use Rattle.std.proofs.lemmas.List.FromFn.{map-range_with_len_more}
use Rattle.std.proofs.lemmas.Grind.{flat_map-append}
use Rattle.qd_frames.specs.Frames.{frame}
use Rattle.qd_gen.specs.Generated.{batch_text, kept, late_before, line, questions, requests, write, writes}

-- the frame of a batch, from its parts
pub frame_parts : (out text late kept : List ℕ) (len : ℕ) → text ≡ late ++ kept → len ≡ length late + length kept → ((((out ++ codes "W ") ++ decimal len) ++ 10 ∷ []) ++ late) ++ kept ≡ out ++ ((codes "W " ++ decimal (length text)) ++ 10 ∷ text)
frame_parts out text late kept len parts counted =
    let count : length text ≡ len = ap length parts ∙ length-append late kept ∙ sym counted in
    rw (count, parts) (simp append_assoc)

pub no_frames : (number lines : ℕ) → flat_map frame (writes number lines 0) ≡ []
unfolding writes
no_frames number lines = refl

-- a batch, appended part by part
pub batch_written : (o o₁ o₂ o₃ o₄ o₅ late_text kept_text : List ℕ) (number lines batch late_len kept_len : ℕ) → late_text ≡ flat_map (line number) (late_before lines batch) → kept_text ≡ flat_map (line number) (kept lines batch) → late_len ≡ length late_text → kept_len ≡ length kept_text → o₁ ≡ o ++ codes "W " → o₂ ≡ o₁ ++ decimal (late_len + kept_len) → o₃ ≡ o₂ ++ 10 ∷ [] → o₄ ≡ o₃ ++ late_text → o₅ ≡ o₄ ++ kept_text → o₅ ≡ o ++ frame (write number lines batch)
batch_written o o₁ o₂ o₃ o₄ o₅ late_text kept_text number lines batch late_len kept_len late_is kept_is late_counted kept_counted e₁ e₂ e₃ e₄ e₅ =
    let parts : batch_text number lines batch ≡ late_text ++ kept_text =
    flat_map-append (line number) (late_before lines batch) (kept lines batch) ∙ ap₂ (λ xs ys. xs ++ ys) (sym late_is) (sym kept_is) in
    let counted : late_len + kept_len ≡ length late_text + length kept_text = ap₂ (λ a b. a + b) late_counted kept_counted in
    rw (e₅, e₄, e₃, e₂, e₁) (frame_parts o (batch_text number lines batch) late_text kept_text (late_len + kept_len) parts counted)

-- one batch more
pub frames_more : (number lines n : ℕ) → flat_map frame (writes number lines (n + 1)) ≡ flat_map frame (writes number lines n) ++ frame (write number lines n)
unfolding writes
frames_more number lines n =
    ap (flat_map frame) (map-range_with_len_more (write number lines) 0 n n (zero-add n))
    ∙ flat_map-append frame (map (write number lines) (range_with_len 0 n)) (write number lines n ∷ [])
    ∙ ap (λ xs. flat_map frame (map (write number lines) (range_with_len 0 n)) ++ xs) (append-nil (frame (write number lines n)))

-- what is asked behind the batches
pub questions_text : flat_map frame questions ≡ codes "A\nQ 47\nSELECT count(), sum(v), min(v), max(v) FROM genQ 43\ngen LATEST ON timestamp PARTITION BY sensorQ 56\nSELECT timestamp, count(), last(v) FROM gen SAMPLE BY 6hX\n"
unfolding digits
questions_text = refl

pub input_written : (o o₁ o₂ : List ℕ) (number lines : ℕ) → o ≡ [] → o₁ ≡ o ++ flat_map frame (writes number lines 100) → o₂ ≡ o₁ ++ codes "A\nQ 47\nSELECT count(), sum(v), min(v), max(v) FROM genQ 43\ngen LATEST ON timestamp PARTITION BY sensorQ 56\nSELECT timestamp, count(), last(v) FROM gen SAMPLE BY 6hX\n" → o₂ ≡ flat_map frame (requests number lines)
input_written o o₁ o₂ number lines e e₁ e₂ =
    rw (e₂, e₁, e) (ap (λ xs. flat_map frame (writes number lines 100) ++ xs) (sym questions_text) ∙ sym (flat_map-append frame (writes number lines 100) questions))
