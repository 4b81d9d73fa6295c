use Rattle.std.proofs.Common.{◌≡◌, ◌+◌, ◌*◌, ◌^◌, ◌≤◌, Bool, true, get_or, sym, ◌∙◌, arith, rules, tests, add-one, ◌&&◌, refl}
use Rattle.std.specs.Char.{is_ascii_digit, digit_value}
use Rattle.std.proofs.Math.Nat.{pow-succ'}
use Rattle.std.proofs.lemmas.Int.Digits.{digits_value_more}
use Rattle.std.proofs.lemmas.List.Folds.{list_all_more}
use Rattle.std.proofs.lemmas.Str.{digit_value_digit}
use Rattle.qd_http.proofs.fields.size.Goals as goal

both : (a b : Bool) → a ≡ true → b ≡ true → (a && b) ≡ true
both a b p q = rw (p, q) refl

pub loop-byte-preserved : goal.loop-byte-preserved
loop-byte-preserved c =
    let v = c.args.value.now in
    let i = c.loop-byte.byte-index in
    let b = get_or v i 0 in
    let low : 48 ≤ b = search (rules, tests) in
    let high : b ≤ 57 = search (rules, tests) in
    let digit : digit_value b + 48 ≡ b = digit_value_digit b (low, high) in
    let more = digits_value_more 10 v i (omega arith) in
    let power : 10 ^ (i + 1) ≡ 10 * 10 ^ i = rw add-one (pow-succ' 10 i) in
    record {
      value = omega (arith, digit, more);
      digits = list_all_more is_ascii_digit v i 0 (omega arith) ∙ both _ _ c.loop-byte.invariant.digits (sym c.is_ascii_digit.ensures.value ∙ c.if-not-is_ascii_digit.false);
      small = rw power (omega (arith, low, high));
    }
