use Rattle.std.proofs.Common.{length, sym, arith}
use Rattle.std.proofs.lemmas.Bool.{eq-eqb, ne_eqb}
use Rattle.std.proofs.lemmas.Str.{utf8_valid_len-IsUtf8}
use Rattle.std.specs.Str.Lossy.{utf8_valid_len}
use Rattle.qd_sql_lexer.proofs.cut.is_text.Goals as goal

pub returns-in-Ok : goal.returns-in-Ok
returns-in-Ok c = sym (eq-eqb (utf8_valid_len c.args.bytes.now) (length c.args.bytes.now) (utf8_valid_len-IsUtf8 c.args.bytes.now c.in-Ok.ensures.cases.1))

pub returns-in-Err : goal.returns-in-Err
returns-in-Err c = sym (ne_eqb (utf8_valid_len c.args.bytes.now) (length c.args.bytes.now) (omega (arith, c.in-Err.ensures.cases.1.short, c.in-Err.ensures.valid_len)))
