-- Where batches begin and end.
use Rattle.std.proofs.Common.{◌≡◌, ◌==◌, ℕ, suc, ◌+◌, ◌-◌, ◌*◌, ◌/◌, ◌<◌, ◌≤◌, true, false, filter, refl, ap, ◌∙◌, arith}
use Rattle.std.specs.List.{range_with_len}
use Rattle.std.proofs.Math.Nat.{mul-le-mul_right, suc-mul}
use Rattle.std.proofs.lemmas.Nat.{div_below, le-div}
use Rattle.std.proofs.lemmas.Bool.Decides.{nat_tests}
use Rattle.qd_gen.specs.declared.stretch.Share.TheVariants as share
use Rattle.qd_gen.specs.Generated.{kept, late_before, own}
use Rattle.qd_gen.specs.Stretches.{taken, takes}
use Rattle.qd_gen.proofs.Ranges.{filter_all, filter_middle}

-- the first line of a batch
abbrev pub cut : (lines batch : ℕ) → ℕ
cut lines batch = (batch * lines + 99) / 100

equal : (m n : ℕ) → m ≡ n → (m == n) ≡ true
equal m n e = grind (arith, nat_tests)

unequal : (m n : ℕ) → (m ≡ n → ⊥) → (m == n) ≡ false
unequal m n other = grind (arith, nat_tests)

times_next : (lines batch : ℕ) → (batch + 1) * lines ≡ batch * lines + lines
times_next lines batch =
    let next : batch + 1 ≡ suc batch = omega arith in
    ap (λ b. b * lines) next ∙ suc-mul batch lines

pub cut_in_order : (lines batch next : ℕ) → batch ≤ next → cut lines batch ≤ cut lines next
cut_in_order lines batch next before =
    let times : batch * lines ≤ next * lines = mul-le-mul_right lines before in
    omega arith

pub cut_within : (lines batch : ℕ) → batch ≤ 100 → cut lines batch ≤ lines
cut_within lines batch small =
    let times : batch * lines ≤ 100 * lines = mul-le-mul_right lines small in
    omega arith

-- of a million lines no batch has more than 10,001
pub cut_step : (lines batch next : ℕ) → next ≡ batch + 1 → lines ≤ 1000000 → cut lines next - cut lines batch ≤ 10001
cut_step lines batch next is few =
    let times : next * lines ≡ batch * lines + lines = ap (λ b. b * lines) is ∙ times_next lines batch in
    omega arith

-- which batch a line belongs to
quotient_before : (lines batch i x : ℕ) → x ≡ batch * lines → 0 < lines → i < (x + 99) / 100 → (100 * i / lines == batch) ≡ false
quotient_before lines batch i x product some before =
    let less : 100 * i < x = omega arith in
    let below : 100 * i / lines < batch = div_below (100 * i) lines batch some (rw (← product) less) in
    unequal (100 * i / lines) batch (λ e. omega arith)

quotient_within : (lines batch i x : ℕ) → x ≡ batch * lines → 0 < lines → (x + 99) / 100 ≤ i → i < (x + lines + 99) / 100 → (100 * i / lines == batch) ≡ true
quotient_within lines batch i x product some low high =
    let least : x ≤ 100 * i = omega arith in
    let less : 100 * i < x + lines = omega arith in
    let at_least : batch ≤ 100 * i / lines = le-div batch (100 * i) lines some (rw (← product) least) in
    let below : 100 * i / lines < batch + 1 = div_below (100 * i) lines (batch + 1) some (rw (times_next lines batch, ← product) less) in
    equal (100 * i / lines) batch (omega arith)

quotient_behind : (lines batch i x : ℕ) → x ≡ batch * lines → 0 < lines → (x + lines + 99) / 100 ≤ i → (100 * i / lines == batch) ≡ false
quotient_behind lines batch i x product some low =
    let least : x + lines ≤ 100 * i = omega arith in
    let above : batch + 1 ≤ 100 * i / lines = le-div (batch + 1) (100 * i) lines some (rw (times_next lines batch, ← product) least) in
    unequal (100 * i / lines) batch (λ e. omega arith)

-- the lines of a batch follow each other
pub own_is : (lines batch : ℕ) → batch < 100 → own lines batch ≡ range_with_len (cut lines batch) (cut lines (batch + 1) - cut lines batch)
own_is lines batch small =
    let next = times_next lines batch in
    let a = cut lines batch in
    let b = cut lines (batch + 1) in
    let b_is : b ≡ (batch * lines + lines + 99) / 100 = ap (λ x. (x + 99) / 100) next in
    let in_order : a ≤ b = cut_in_order lines batch (batch + 1) (omega arith) in
    let within : b ≤ lines = cut_within lines (batch + 1) (omega arith) in
    let all : lines ≡ a + ((b - a) + (lines - b)) = omega arith in
    ap (λ n. filter (λ i. 100 * i / lines == batch) (range_with_len 0 n)) all
    ∙ filter_middle (λ i. 100 * i / lines == batch) a (b - a) (lines - b)
    (λ i before. quotient_before lines batch i (batch * lines) refl (omega arith) before)
    (λ i low high. quotient_within lines batch i (batch * lines) refl (omega arith) low (omega arith))
    (λ i low high. quotient_behind lines batch i (batch * lines) refl (omega arith) (omega arith))

-- there are none before the first batch
pub late_first : (lines batch a b : ℕ) → batch ≡ 0 → a ≡ b → taken share.Late a (b - a) ≡ late_before lines batch
late_first lines batch a b first same =
    let is : (batch == 0) ≡ true = equal batch 0 first in
    let none : b - a ≡ 0 = omega arith in
    rw (is, none) refl

pub late_is : (lines batch before : ℕ) → batch ≡ before + 1 → batch < 100 → taken share.Late (cut lines before) (cut lines batch - cut lines before) ≡ late_before lines batch
late_is lines batch before next small =
    let some : (batch == 0) ≡ false = unequal batch 0 (λ e. omega arith) in
    let back : batch - 1 ≡ before = omega arith in
    rw (some, back, own_is lines before (omega arith), next) refl

pub kept_in_time : (lines batch : ℕ) → batch < 99 → taken share.InTime (cut lines batch) (cut lines (batch + 1) - cut lines batch) ≡ kept lines batch
kept_in_time lines batch small =
    let other : (batch == 99) ≡ false = unequal batch 99 (λ e. omega arith) in
    rw (other, own_is lines batch (omega arith)) refl

pub kept_all : (lines batch : ℕ) → batch ≡ 99 → taken share.All (cut lines batch) (cut lines (batch + 1) - cut lines batch) ≡ kept lines batch
kept_all lines batch last =
    let is : (batch == 99) ≡ true = equal batch 99 last in
    let lines_are = own_is lines batch (omega arith) in
    rw (is, lines_are) (filter_all (takes share.All) (cut lines batch) (cut lines (batch + 1) - cut lines batch) (λ i low high. refl))
