use Rattle.std.proofs.Common.{◌≡◌, ℕ, ◌<◌, Fits, w8, length, subst, arith, false, rules}
use Rattle.std.proofs.lemmas.List.{get_or_default}
use Rattle.qd_column_files.proofs.TakeLemmas.{AreBytes, rest_takes}
use Rattle.qd_column_files.proofs.TimeLemmas.{timely_low}
use Rattle.qd_column_files.proofs.rests.judge_rest.Goals as goal

byte_low : (n : ℕ) → Fits w8 n → n < 256
byte_low n f = first_of (omega arith, grind arith, search rules)

pub returns-in-None-late_row-clause-takes : goal.returns-in-None-late_row-clause-takes
returns-in-None-late_row-clause-takes c =
    let aux = c.args.aux.now in
    let column = c.in-Some.column in
    let known : AreBytes aux = λ k d lt. subst (λ (b : ℕ). b < 256) (get_or_default aux k 0 d lt) (byte_low _ (c.type_inv.aux k)) in
    let size : length column.cells ≡ c.args.rows = rw c.in-Some.is at c.in_ok-column.ensures.rows in
    rest_takes c.args.kind c.args.start c.args.main.now aux column (rw c.in-Some.is at c.in_ok-column.ensures.kind) known
    (λ some. let rows : 0 < c.args.rows = omega (arith, some, size) in rw c.in-Some.is at (c.in_ok-column.ensures.held rows))
    (λ time i lt. timely_low false column.cells (c.in-None-late_row.ensures.none time) i lt)
