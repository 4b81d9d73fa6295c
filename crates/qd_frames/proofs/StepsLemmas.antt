-- Every text has steps.
use Rattle.std.proofs.Common.{◌≡◌, ◌≢◌, ℕ, zero, suc, ◌+◌, ◌*◌, ◌^◌, ◌<◌, ◌≤◌, ◌⊎◌, inl, inr, List, [], ◌∷◌, ◌++◌, length, refl, sym, ap, ◌∙◌, subst, arith, append_assoc, length-append}
use Rattle.std.specs.Fmt.{decimal}
use Rattle.std.proofs.lemmas.Fmt.{decimal_nonempty}
use Rattle.std.proofs.lemmas.List.{append-nil}
use Rattle.std.proofs.lemmas.Bool.{cases_eq, cases_lt}
use Rattle.qd_base.specs.declared.request.Request.{Request}
use Rattle.qd_base.specs.declared.request.Request.TheVariants as request
use Rattle.qd_base.specs.Script.{Ending, Waiting, Ended, Malformed}
use Rattle.qd_frames.specs.declared.head.Kind.{Kind}
use Rattle.qd_frames.specs.declared.head.Kind.TheVariants as kind
use Rattle.qd_frames.specs.declared.head.Number.TheVariants as number
use Rattle.qd_frames.specs.Frames.{frame, IsFramed, IsUnfinished, BeginsFrame, BeginsNone, Steps}
use Rattle.qd_frames.specs.Heads.{ReadsNumber, letter, limit, header, request_of}
use Rattle.qd_print.specs.Printed.{reply_bytes}
use Rattle.qd_frames.proofs.DecimalLemmas.{IsDigit, digit_or_none, not_zero}
use Rattle.qd_frames.proofs.NumberLemmas.{Spelled, Spelled-push, Digits-spelled, no_digit, after_zero, no_less}
use Rattle.qd_frames.proofs.HeadLemmas.{short_nothing, short_letter, short_number, short_payload, short_apply, short_end, wrong_letter, wrong_space, wrong_number, wrong_apply, wrong_end, whole_header, frame_of_text, IsFramed-text}
use Rattle.qd_frames.proofs.StepLemmas.{frame_some}

-- what a number with which bytes begin may be
abbrev Found : ℕ → List ℕ → Type 0
Found most bytes = ReadsNumber most bytes number.Short ⊎ ReadsNumber most bytes number.Wrong ⊎ ((n : ℕ) × (rest : List ℕ) × (n ≤ most) × (bytes ≡ decimal n ++ 10 ∷ rest))

short : (most value : ℕ) (ds : List ℕ) → value ≤ most → Spelled ds value → ReadsNumber most ds number.Short
short most value [] small s = (0, decimal 0, omega arith, refl)
short most value (d ∷ ds) small s = (value, [], small, sym (s.some (omega arith)) ∙ sym (append-nil (d ∷ ds)))

wrong_byte : (most value b : ℕ) (ds rest : List ℕ) → most < 2 ^ 32 → value ≤ most → Spelled ds value → (IsDigit b → ⊥) → (b ≡ 10 → 0 < length ds → ⊥) → ReadsNumber most (ds ++ b ∷ rest) number.Wrong
wrong_byte most value b ds rest low small s other no_end n more tail fits e =
    let h = no_digit ds (rest ++ more) tail b n (omega arith) (Digits-spelled ds value (omega arith) s) other (sym (append_assoc ds (b ∷ rest) more) ∙ e) in
    let some = decimal_nonempty n (omega arith) in
    let same : length (decimal n) ≡ length ds = ap length h.1 in
    no_end h.0 (omega arith)

wrong_zero : (most value b : ℕ) (ds rest : List ℕ) → most < 2 ^ 32 → 0 < length ds → value ≡ 0 → Spelled ds value → IsDigit b → ReadsNumber most (ds ++ b ∷ rest) number.Wrong
wrong_zero most value b ds rest low some none s digit n more tail fits e =
    after_zero ds (rest ++ more) tail b n (omega arith) digit (s.some some ∙ ap decimal none) (sym (append_assoc ds (b ∷ rest) more) ∙ e)

too_great : (most value : ℕ) (ds rest : List ℕ) → most < 2 ^ 32 → value < 2 ^ 64 → most < value → 0 < length ds → Spelled ds value → ReadsNumber most (ds ++ rest) number.Wrong
too_great most value ds rest low small great some s n more tail fits e =
    let least : value ≤ n = no_less ds (rest ++ more) tail value n (omega arith) small some s (sym (append_assoc ds rest more) ∙ e) in
    omega arith

-- a digit comes behind these
scan_digit : (most value d : ℕ) (ds bytes : List ℕ) → most < 2 ^ 32 → value ≤ most → Spelled ds value → d < 10
    → ((value' : ℕ) → value' ≤ most → Spelled (ds ++ (48 + d) ∷ []) value' → Found most ((ds ++ (48 + d) ∷ []) ++ bytes)) → Found most (ds ++ (48 + d) ∷ bytes)
scan_digit most value d ds bytes low small s digit next =
    elim (cases_eq (length ds) 0) [
      | inl none ↦ pushed (λ some. absurd (omega arith))
      | inr some ↦ elim (cases_eq value 0) [
        | inl zero_value ↦ inr (inl (wrong_zero most value (48 + d) ds bytes low (not_zero (length ds) some) zero_value s (omega arith, omega arith)))
        | inr more ↦ pushed (λ _. not_zero value more)
      ]
    ]
  where
    same : (ds ++ (48 + d) ∷ []) ++ bytes ≡ ds ++ (48 + d) ∷ bytes
    same = append_assoc ds ((48 + d) ∷ []) bytes

    judged : Spelled (ds ++ (48 + d) ∷ []) (10 * value + d) → (most < 10 * value + d) ⊎ (10 * value + d ≤ most) → Found most (ds ++ (48 + d) ∷ bytes)
    judged s' (inr fits) = subst (Found most) same (next (10 * value + d) fits s')
    judged s' (inl great) = subst (Found most) same (inr (inl (too_great most (10 * value + d) (ds ++ (48 + d) ∷ []) bytes low (omega arith) great (omega (arith, length-append ds ((48 + d) ∷ []))) s')))

    pushed : (0 < length ds → 0 < value) → Found most (ds ++ (48 + d) ∷ bytes)
    pushed some = judged (Spelled-push ds value d (omega arith) digit some s) (cases_lt most (10 * value + d))

-- no digit comes behind these
scan_other : (most value b : ℕ) (ds bytes : List ℕ) → most < 2 ^ 32 → value ≤ most → Spelled ds value → (IsDigit b → ⊥) → (b ≡ 10) ⊎ (b ≡ 10 → ⊥) → (length ds ≡ 0) ⊎ (length ds ≡ 0 → ⊥) → Found most (ds ++ b ∷ bytes)
scan_other most value b ds bytes low small s other (inl lf) (inl none) = inr (inl (wrong_byte most value b ds bytes low small s other (λ e some. omega arith)))
scan_other most value b ds bytes low small s other (inl lf) (inr some) =
    inr (inr (value, bytes, small, ap (λ x. ds ++ x ∷ bytes) lf ∙ ap (λ xs. xs ++ 10 ∷ bytes) (s.some (not_zero (length ds) some))))
scan_other most value b ds bytes low small s other (inr no_lf) either = inr (inl (wrong_byte most value b ds bytes low small s other (λ e some. no_lf e)))

-- bytes of which these digits were read
scan : (most value : ℕ) (ds bytes : List ℕ) → most < 2 ^ 32 → value ≤ most → Spelled ds value → Found most (ds ++ bytes)
scan most value ds [] low small s = subst (Found most) (sym (append-nil ds)) (inl (short most value ds small s))
scan most value ds (b ∷ bytes) low small s =
    elim (digit_or_none b) [
      | inl d ↦ subst (λ x. Found most (ds ++ x ∷ bytes)) (sym d.2) (scan_digit most value d.0 ds bytes low small s d.1 (λ v fits s'. scan most v (ds ++ (48 + d.0) ∷ []) bytes low fits s'))
      | inr other ↦ scan_other most value b ds bytes low small s other (cases_eq b 10) (cases_eq (length ds) 0)
    ]

-- what a number with which bytes begin is
found : (most : ℕ) (bytes : List ℕ) → most < 2 ^ 32 → Found most bytes
found most bytes low = scan most 0 [] bytes low (omega arith) (record { none = λ e. refl; some = λ h. absurd (omega arith) })

-- bytes are a prefix of a frame, or begin none, or begin with one
abbrev pub Sort : List ℕ → Type 0
Sort bytes = IsUnfinished bytes ⊎ BeginsNone bytes ⊎ BeginsFrame bytes

-- of a text at least n bytes came, or fewer
payload_of : (n : ℕ) (rest : List ℕ) → ((text : List ℕ) × (more : List ℕ) × (length text ≡ n) × (rest ≡ text ++ more)) ⊎ (length rest < n)
payload_of zero rest = inl ([], rest, refl, refl)
payload_of (suc n) [] = inr (omega arith)
payload_of (suc n) (x ∷ rest) =
    elim (payload_of n rest) [
      | inl p ↦ inl (x ∷ p.0, p.1, ap suc p.2, ap (λ xs. x ∷ xs) p.3)
      | inr less ↦ inr (omega arith)
    ]

sort_payload : (k : Kind) (n : ℕ) (bytes rest : List ℕ) → n ≤ limit k → bytes ≡ header k n ++ rest → Sort bytes
sort_payload k n bytes rest fits e =
    elim (payload_of n rest) [
      | inl p ↦
          let f : bytes ≡ frame (request_of k p.0) ++ p.1 = e ∙ (ap (λ xs. header k n ++ xs) p.3 ∙ (sym (append_assoc (header k n) p.0 p.1) ∙ ap (λ xs. xs ++ p.1) (ap (λ m. header k m ++ p.0) (sym p.2) ∙ sym (frame_of_text k p.0)))) in
          inr (inr (request_of k p.0, p.1, IsFramed-text k p.0 (omega arith), f))
      | inr less ↦ inl (subst IsUnfinished (sym e) (short_payload k n rest fits less))
    ]

sort_number : (k : Kind) (bytes : List ℕ) → Found (limit k) bytes → Sort (letter k ∷ 32 ∷ bytes)
sort_number k bytes (inl h) = inl (short_number k bytes h)
sort_number k bytes (inr (inl h)) = inr (inl (wrong_number k bytes h))
sort_number k bytes (inr (inr h)) = sort_payload k h.0 (letter k ∷ 32 ∷ bytes) h.1 h.2 (whole_header k h.0 bytes h.1 h.3)

limit_low : (k : Kind) → limit k < 2 ^ 32
limit_low kind.Write = omega arith
limit_low kind.Sql = omega arith

sort_text : (k : Kind) (bytes : List ℕ) → Sort (letter k ∷ bytes)
sort_text k [] = inl (short_letter k)
sort_text k (b ∷ bytes) =
    elim (cases_eq b 32) [
      | inl space ↦ subst (λ x. Sort (letter k ∷ x ∷ bytes)) (sym space) (sort_number k bytes (found (limit k) bytes (limit_low k)))
      | inr other ↦ inr (inl (wrong_space k b bytes other))
    ]

-- behind the letter of a request without a text
sort_bare : (first : ℕ) → IsUnfinished (first ∷ []) → ((bytes : List ℕ) → BeginsFrame (first ∷ 10 ∷ bytes))
    → ((b : ℕ) (bytes : List ℕ) → b ≢ 10 → BeginsNone (first ∷ b ∷ bytes)) → (bytes : List ℕ) → Sort (first ∷ bytes)
sort_bare first short lf wrong [] = inl short
sort_bare first short lf wrong (b ∷ bytes) =
    elim (cases_eq b 10) [
      | inl is ↦ inr (inr (subst (λ x. BeginsFrame (first ∷ x ∷ bytes)) (sym is) (lf bytes)))
      | inr other ↦ inr (inl (wrong b bytes other))
    ]

sort_apply : (bytes : List ℕ) → Sort (65 ∷ bytes)
sort_apply bytes = sort_bare 65 short_apply (λ rest. (request.Apply, rest, tt, refl)) wrong_apply bytes

sort_end : (bytes : List ℕ) → Sort (88 ∷ bytes)
sort_end bytes = sort_bare 88 short_end (λ rest. (request.End, rest, tt, refl)) wrong_end bytes

-- each text is of one sort
pub sort_of : (bytes : List ℕ) → Sort bytes
sort_of [] = inl short_nothing
sort_of (b ∷ bytes) =
    elim (cases_eq b 87) [
      | inl w ↦ subst (λ x. Sort (x ∷ bytes)) (sym w) (sort_text kind.Write bytes)
      | inr no_w ↦ elim (cases_eq b 81) [
        | inl q ↦ subst (λ x. Sort (x ∷ bytes)) (sym q) (sort_text kind.Sql bytes)
        | inr no_q ↦ elim (cases_eq b 65) [
          | inl a ↦ subst (λ x. Sort (x ∷ bytes)) (sym a) (sort_apply bytes)
          | inr no_a ↦ elim (cases_eq b 88) [
            | inl x ↦ subst (λ y. Sort (y ∷ bytes)) (sym x) (sort_end bytes)
            | inr no_x ↦ inr (inl (wrong_letter b bytes no_w no_q no_a no_x))
          ]
        ]
      ]
    ]

-- the steps of a text
abbrev pub HasSteps : ℕ → List ℕ → Type 0
HasSteps at bytes = (rs : List Request) × (e : Ending) × Steps at bytes rs e

-- the steps of a text that begins with a frame
steps_behind : (at : ℕ) (bytes rest : List ℕ) (r : Request) → IsFramed r → bytes ≡ frame r ++ rest → HasSteps (at + length (frame r)) rest → HasSteps at bytes
steps_behind at bytes rest (request.Write text) fits e h = (request.Write text ∷ h.0, h.1, (rest, fits, e, h.2))
steps_behind at bytes rest (request.Sql text) fits e h = (request.Sql text ∷ h.0, h.1, (rest, fits, e, h.2))
steps_behind at bytes rest request.Apply fits e h = (request.Apply ∷ h.0, h.1, (rest, fits, e, h.2))
steps_behind at bytes rest request.End fits e h = (request.End ∷ [], Ended, (rest, e, refl, refl))

steps_sorted : (at : ℕ) (bytes : List ℕ) → Sort bytes → ((at' : ℕ) (rest : List ℕ) → length rest < length bytes → HasSteps at' rest) → HasSteps at bytes
steps_sorted at bytes (inl u) next = ([], Waiting bytes at reply_bytes, (refl, refl, refl, u))
steps_sorted at bytes (inr (inl none)) next = ([], Malformed at reply_bytes, (refl, refl, none))
steps_sorted at bytes (inr (inr h)) next =
    let len : length bytes ≡ length (frame h.0) + length h.1 = ap length h.3 ∙ length-append (frame h.0) h.1 in
    let some = frame_some h.0 in
    steps_behind at bytes h.1 h.0 h.2 h.3 (next (at + length (frame h.0)) h.1 (omega arith))

steps_within : (n at : ℕ) (bytes : List ℕ) → length bytes ≤ n → HasSteps at bytes
steps_within zero at bytes within = steps_sorted at bytes (sort_of bytes) (λ at' rest less. absurd (omega arith))
steps_within (suc n) at bytes within = steps_sorted at bytes (sort_of bytes) (λ at' rest less. steps_within n at' rest (omega arith))

-- every text has steps
pub has_steps : (at : ℕ) (bytes : List ℕ) → HasSteps at bytes
has_steps at bytes = steps_within (length bytes) at bytes (omega arith)
