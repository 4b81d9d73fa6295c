use Rattle.std.proofs.Common.{◌≡◌, ℕ, ◌+◌, ◌-◌, ◌*◌, ◌^◌, ◌<◌, ◌≤◌, ◌⊎◌, inl, inr, true, List, length, get_or, take, sym, ◌∙◌, arith}
use Rattle.std.specs.Char.{is_ascii_digit}
use Rattle.qd_frames.proofs.DecimalLemmas.{IsDigit, IsDigit-tested, IsDigit-not, not_zero}
use Rattle.qd_frames.proofs.NumberLemmas.{Spelled, whole_at, wrong_byte_at, wrong_zero_at, too_great_at, Spelled-at, short_at}
use Rattle.qd_frames.proofs.head.read_number.Goals as goal
use Rattle.qd_frames.proofs.head.read_number.Goals.{else-byte-eq10-via-then-byte-eq10+else-i-gt0, else-byte-eq10-via-else-byte-eq10, else-i-gt0-2-via-then-i-gt0-2+else-value-eq0, else-i-gt0-2-via-else-i-gt0-2}

pub returns-then-i-gt0 : goal.returns-then-i-gt0
returns-then-i-gt0 c = whole_at c.args.most c.args.bytes.now c.loop-i.i c.loop-i.value (omega arith) (omega arith) c.loop-i.invariant.small c.loop-i.invariant.spelled c.if-byte-eq10.true

pub returns-else-byte-eq10 : goal.returns-else-byte-eq10
returns-else-byte-eq10 c =
    wrong_byte_at c.args.most c.args.bytes.now c.loop-i.i c.loop-i.value (omega arith) (omega arith) c.loop-i.invariant.small c.loop-i.invariant.spelled
    (IsDigit-not (get_or c.args.bytes.now c.loop-i.i 0) (sym c.is_ascii_digit.ensures.value ∙ c.if-not-is_ascii_digit.true))
    (elim c.else-byte-eq10.branch [ else-byte-eq10-via-then-byte-eq10+else-i-gt0 w ↦ λ e some. omega arith | else-byte-eq10-via-else-byte-eq10 w ↦ λ e some. omega arith ])

pub returns-then-value-eq0 : goal.returns-then-value-eq0
returns-then-value-eq0 c =
    wrong_zero_at c.args.most c.args.bytes.now c.loop-i.i c.loop-i.value (omega arith) (omega arith) (omega arith) c.if-value-eq0.true c.loop-i.invariant.spelled (IsDigit-tested (get_or c.args.bytes.now c.loop-i.i 0) (sym c.is_ascii_digit.ensures.value ∙ c.if-not-is_ascii_digit.false))

pub returns : goal.returns
returns c = short_at c.args.most c.args.bytes.now c.loop-i.i c.loop-i.value (omega arith) c.loop-i.invariant.small c.loop-i.invariant.spelled

-- what the digits spell with this one
pushed : (bytes : List ℕ) (most i value r : ℕ) → most < 2 ^ 32 → i < length bytes → value ≤ most → Spelled (take i bytes) value → is_ascii_digit (get_or bytes i 0) ≡ true → r ≡ get_or bytes i 0 - 48
    → (0 < i × (value ≡ 0 → ⊥)) ⊎ (i ≤ 0) → Spelled (take (i + 1) bytes) (10 * value + r)
pushed bytes most i value r low within small s digit rest either =
    let d : IsDigit (get_or bytes i 0) = IsDigit-tested (get_or bytes i 0) digit in
    Spelled-at bytes i value r within (omega arith) (omega arith) (omega arith) (elim either [ inl some ↦ λ h. not_zero value some.1 | inr none ↦ λ h. absurd (omega arith) ]) s

pub returns-then-value-most : goal.returns-then-value-most
returns-then-value-most c =
    too_great_at c.args.most c.args.bytes.now (c.loop-i.i + 1) (10 * c.loop-i.value + c.from.result) (omega arith) (omega arith) (omega arith) (omega arith) (omega arith)
    (pushed c.args.bytes.now c.args.most c.loop-i.i c.loop-i.value c.from.result (omega arith) (omega arith) c.loop-i.invariant.small c.loop-i.invariant.spelled (sym c.is_ascii_digit.ensures.value ∙ c.if-not-is_ascii_digit.false) c.from.ensures c.else-i-gt0-2.either)

pub loop-i-preserved : goal.loop-i-preserved
loop-i-preserved c = record {
  small = omega arith;
  spelled = pushed c.args.bytes.now c.args.most c.loop-i.i c.loop-i.value c.from.result (omega arith) (omega arith) c.loop-i.invariant.small c.loop-i.invariant.spelled (sym c.is_ascii_digit.ensures.value ∙ c.if-not-is_ascii_digit.false) c.from.ensures c.else-i-gt0-2.either;
}
