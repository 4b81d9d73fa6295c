use Rattle.std.proofs.lemmas.List.{take_at}
use Rattle.std.proofs.Common.{◌≡◌, ◌*◌, sym, length, take, drop, arith, All, subst, ◌++◌, FitsSigned}
use Rattle.std.specs.Int.{w64, cast_signed, cast_unsigned}
use Rattle.byteorder.specs.Endian.{little_bytes, little_number}
use Rattle.qd_column_format.proofs.WordLemmas.{longs_fit, bytes-take, long_again, words_read}
use Rattle.qd_column_format.proofs.words.longs_in.Goals as goal

pub returns-clause-bytes : goal.returns-clause-bytes
returns-clause-bytes c =
    let dst = c.read_i64_into.new.dst in
    words_read (λ ys. cast_signed w64 (little_number 8 ys)) (λ z. little_bytes 8 (cast_unsigned w64 z)) long_again c.args.bytes.now dst (drop (length dst) c.in_ok-numbers.numbers.items) c.args.count c.in_ok-numbers.numbers.len (λ i. omega (arith, c.type_inv.bytes i)) c.requires.there (omega (arith, c.read_i64_into.auto.dst, c.in_ok-numbers.ensures.len, c.as_mut_slice.ensures.len)) (omega (arith, c.in_ok-numbers.ensures.len)) c.read_i64_into.ensures

pub returns-clause-fit : goal.returns-clause-fit
returns-clause-fit c =
    let dst = c.read_i64_into.new.dst in
    let size : length dst ≡ c.in_ok-numbers.numbers.len = omega (arith, c.read_i64_into.auto.dst, c.in_ok-numbers.ensures.len, c.as_mut_slice.ensures.len) in
    let whole : take c.in_ok-numbers.numbers.len (dst ++ drop (length dst) c.in_ok-numbers.numbers.items) ≡ dst = take_at dst (drop (length dst) c.in_ok-numbers.numbers.items) c.in_ok-numbers.numbers.len size in
    subst (All (FitsSigned w64)) (sym whole) (longs_fit (take (8 * c.args.count) c.args.bytes.now) dst (bytes-take (8 * c.args.count) c.args.bytes.now (λ i. omega (arith, c.type_inv.bytes i))) c.read_i64_into.ensures)
