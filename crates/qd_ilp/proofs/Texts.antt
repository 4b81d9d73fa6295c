-- The test for UTF-8.
use Rattle.std.proofs.Common.{◌≡◌, ◌∙◌, ◌-◌, ◌≤◌, ℕ, Bool, true, false, List, length, take, drop, sym, refl, ap}
use Rattle.std.specs.Str.{IsUtf8, is_utf8, IsCharBoundary}
use Rattle.std.proofs.lemmas.Str.{IsUtf8-from_is_utf8, is_utf8-from_IsUtf8, IsUtf8-between}
use Rattle.qd_ilp.proofs.Places.{part_is}

pub utf8_ok : (bytes : List ℕ) → IsUtf8 bytes → true ≡ is_utf8 bytes
utf8_ok bytes ok = sym (is_utf8-from_IsUtf8 bytes ok)

not_so : (bytes : List ℕ) → ¬ (IsUtf8 bytes) → (b : Bool) → is_utf8 bytes ≡ b → b ≡ false
not_so bytes bad true is = absurd (bad (IsUtf8-from_is_utf8 bytes is))
not_so bytes bad false is = refl

pub utf8_bad : (bytes : List ℕ) → ¬ (IsUtf8 bytes) → false ≡ is_utf8 bytes
utf8_bad bytes bad = sym (not_so bytes bad (is_utf8 bytes) refl)

-- a part of a text, from the beginning of a character to that of another
pub sound_part : (text : List ℕ) (at end : ℕ) (sound : Bool) → sound ≡ is_utf8 text → sound ≡ true → at ≤ end → end ≤ length text → IsCharBoundary text at → IsCharBoundary text end
    → true ≡ is_utf8 (take (length (drop at text) - length (drop end text)) (drop at text))
sound_part text at end sound known holds order within from to =
    let all : IsUtf8 text = IsUtf8-from_is_utf8 text (sym known ∙ holds) in
    let one : is_utf8 (take (end - at) (drop at text)) ≡ true = is_utf8-from_IsUtf8 (take (end - at) (drop at text)) (IsUtf8-between text at end all order from to) in
    sym one ∙ ap is_utf8 (part_is text at end order within)
