-- Each piece takes a byte or more.
use Rattle.std.proofs.Common.{◌≡◌, ℕ, ◌≤◌, true, false, List, ◌∷◌, Option, Some, None, arith}
use Rattle.std.proofs.lemmas.Grind.{common_steps}
use Rattle.qd_sql_lexer.specs.declared.cut.Class.TheVariants as class
use Rattle.qd_sql_lexer.specs.declared.token.Kind.{Kind}
use Rattle.qd_sql_lexer.specs.Tokens.{is_in, word, digits, quoted, quote, quote_to, closing, sign, short_token, short_sign, mark, cut_at}

word_len : (b : ℕ) (rest : List ℕ) → is_in class.Word b ≡ true → 1 ≤ (word (b ∷ rest)).len
unfolding word
word_len b rest is = grind (arith, common_steps)

digits_len : (b : ℕ) (rest : List ℕ) → is_in class.Digit b ≡ true → 1 ≤ (digits (b ∷ rest)).len
unfolding digits
digits_len b rest is = grind (arith, common_steps)

quoted_len : (b : ℕ) (text rest : List ℕ) → 1 ≤ (quoted (b ∷ text) rest).len
unfolding quoted
quoted_len b text rest = grind (arith, common_steps)

quote_to_len : (b : ℕ) (text rest : List ℕ) (end : Option ℕ) → 1 ≤ (quote_to (b ∷ text) rest end).len
quote_to_len b text rest None = omega arith
quote_to_len b text rest (Some n) = grind (arith, common_steps)

quote_len : (b : ℕ) (text rest : List ℕ) → 1 ≤ (quote (b ∷ text) rest).len
unfolding quote
quote_len b text rest = quote_to_len b text rest (closing false 0 rest)

short_len : (b : ℕ) (text : List ℕ) (k : Option Kind) → 1 ≤ (short_token (b ∷ text) k).len
short_len b text None = omega arith
short_len b text (Some k) = omega arith

sign_len : (b : ℕ) (text : List ℕ) → 1 ≤ (sign (b ∷ text)).len
unfolding sign
sign_len b text = let h = short_len b text (short_sign b) in grind (arith, common_steps)

mark_len : (b : ℕ) (text : List ℕ) → 1 ≤ (mark (b ∷ text)).len
unfolding mark
mark_len b text =
    let q = quoted_len b text text in
    let t = quote_len b text text in
    let s = sign_len b text in
    grind (arith, common_steps)

pub cut_len : (b : ℕ) (text : List ℕ) → 1 ≤ (cut_at (b ∷ text)).len
unfolding cut_at
cut_len b text =
    let w = word_len b text in
    let d = digits_len b text in
    let m = mark_len b text in
    grind (arith, common_steps, w, d)
