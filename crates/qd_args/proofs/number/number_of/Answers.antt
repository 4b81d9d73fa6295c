use Rattle.std.proofs.Common.{◌≡◌, true, Ok, decimal, nat_eq, ap, sym, ◌∙◌, arith}
use Rattle.std.specs.Cmp.Lexicographic.{pointwise}
use Rattle.std.proofs.lemmas.Fmt.{parse-decimal}
use Rattle.std.proofs.lemmas.Slice.Eq.{bytes_eq-Decides}
use Rattle.qd_args.proofs.number.number_of.Goals as goal

pub returns-then-eq-clause-some : goal.returns-then-eq-clause-some
returns-then-eq-clause-some c n small spelled =
    let parsed : c.parse.result ≡ Ok n = parse-decimal 32 n c.args.text.now c.parse.result small (omega arith) spelled c.parse.ensures.value.0 in
    cc (parsed, c.in-Ok.is)

pub returns-else-eq-clause-some : goal.returns-else-eq-clause-some
returns-else-eq-clause-some c n small spelled =
    let parsed : c.parse.result ≡ Ok n = parse-decimal 32 n c.args.text.now c.parse.result small (omega arith) spelled c.parse.ensures.value.0 in
    let number : c.in-Ok.number ≡ n = cc (parsed, c.in-Ok.is) in
    let same : c.format.result.now ≡ c.args.text.now = c.format.ensures.text ∙ ap decimal number ∙ sym spelled in
    let equal : pointwise nat_eq c.format.result.now c.args.text.now ≡ true = (bytes_eq-Decides c.format.result.now c.args.text.now).1 same in
    cc (equal, c.eq.ensures, c.if-eq.false)

pub returns-in-Err-clause-some : goal.returns-in-Err-clause-some
returns-in-Err-clause-some c n small spelled =
    let parsed : c.parse.result ≡ Ok n = parse-decimal 32 n c.args.text.now c.parse.result small (omega arith) spelled c.parse.ensures.value.0 in
    cc (parsed, c.in-Err.is)
