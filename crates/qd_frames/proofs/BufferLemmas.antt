-- What waits in a front while a text is gathered, and when it is whole.
use Rattle.std.proofs.Common.{◌≡◌, ℕ, ◌+◌, ◌<◌, ◌≤◌, List, [], ◌++◌, length, drop, sym, ap, ◌∙◌, subst, arith, append_assoc, length-append, Some, None, Option}
use Rattle.std.proofs.lemmas.List.{append-nil, drop_at}
use Rattle.qd_base.specs.declared.request.Request.{Request}
use Rattle.qd_frames.specs.declared.head.Text.{Text}
use Rattle.qd_frames.specs.Frames.{frame, IsFramed, IsUnfinished}
use Rattle.qd_frames.specs.Heads.{header, limit, request_of}
use Rattle.qd_frames.specs.Buffer.{bytes_of}
use Rattle.qd_frames.proofs.HeadLemmas.{short_payload, frame_of_text, IsFramed-text}

-- bytes that go from the rest to the payload still wait
pub same_waiting : (current : Option Text) (p r p' r' : List ℕ) → p' ++ r' ≡ p ++ r → bytes_of current p' ++ r' ≡ bytes_of current p ++ r
same_waiting None p r p' r' e = e
same_waiting (Some t) p r p' r' e =
    let h = header t.kind t.size in
    append_assoc h p' r' ∙ (ap (λ xs. h ++ xs) e ∙ sym (append_assoc h p r))

-- where nothing is left and the text isn't whole, a prefix of a request waits
pub more_wanted : (t : Text) (p r p' r' : List ℕ) → t.size ≤ limit t.kind → length p' < t.size → r' ≡ [] → p' ++ r' ≡ p ++ r → IsUnfinished (bytes_of (Some t) p ++ r)
more_wanted t p r p' r' fits less none e =
    let h = header t.kind t.size in
    let all : p' ≡ p ++ r = sym (append-nil p') ∙ (ap (λ xs. p' ++ xs) (sym none) ∙ e) in
    subst IsUnfinished (ap (λ xs. h ++ xs) all ∙ sym (append_assoc h p r)) (short_payload t.kind t.size p' fits less)

-- a text that is whole is a request, whose frame what waited began with
pub whole_taken : (t : Text) (p r p' r' d : List ℕ) (asked : Request) (start : ℕ) → t.size ≤ limit t.kind → t.head ≡ length (header t.kind t.size) → length p' ≡ t.size → asked ≡ request_of t.kind p' → d ≡ [] → p' ++ r' ≡ p ++ r
    → IsFramed asked × (bytes_of (Some t) p ++ r ≡ frame asked ++ (d ++ r')) × (start + (t.head + t.size) ≡ start + length (frame asked))
whole_taken t p r p' r' d asked start fits head size is none e =
    let h = header t.kind t.size in
    let f : frame asked ≡ h ++ p' = ap frame is ∙ (frame_of_text t.kind p' ∙ ap (λ n. header t.kind n ++ p') size) in (
      subst IsFramed (sym is) (IsFramed-text t.kind p' (omega arith)),
      append_assoc h p r ∙ (ap (λ xs. h ++ xs) (sym e) ∙ (sym (append_assoc h p' r') ∙ (ap (λ xs. xs ++ r') (sym f) ∙ ap (λ xs. frame asked ++ (xs ++ r')) (sym none)))),
      ap (λ n. start + n) (ap (λ n. t.head + n) (sym size) ∙ (ap (λ n. n + length p') head ∙ (sym (length-append h p') ∙ ap length (sym f)))),
    )

-- a header that goes from the rest still waits
pub header_waits : (t : Text) (p rest tail skipped : List ℕ) (head : ℕ) → p ≡ [] → rest ≡ header t.kind t.size ++ tail → head ≡ length (header t.kind t.size) → skipped ≡ drop head rest → bytes_of (Some t) p ++ skipped ≡ bytes_of None p ++ rest
header_waits t p rest tail skipped head empty whole len skip =
    let h = header t.kind t.size in
    let left : skipped ≡ tail = skip ∙ (ap (λ xs. drop head xs) whole ∙ drop_at h tail head (sym len)) in
    ap (λ xs. (h ++ xs) ++ skipped) empty ∙ (ap (λ xs. xs ++ skipped) (append-nil h) ∙ (ap (λ xs. h ++ xs) left ∙ (sym whole ∙ ap (λ xs. xs ++ rest) (sym empty))))
