use Rattle.std.proofs.Common.{◌∙◌, ap, arith}
use Rattle.std.proofs.lemmas.List.{take_rest}
use Rattle.byteorder.specs.Endian.{little_number}
use Rattle.qd_seq.proofs.PieceLemmas.{AreBytes, four_stand, number_stands, small_stands}
use Rattle.qd_seq.proofs.reading.ref_in.Goals as goal

pub returns-clause-stands : goal.returns-clause-stands
returns-clause-stands c =
    let bytes = c.args.bytes.now in
    let known : AreBytes bytes = λ i. omega (arith, c.type_inv.bytes i) in
    four_stand bytes c.read_u32.result c.read_u32-2.result c.read_u64.result c.read_u64-2.result
    (small_stands bytes 1 c.read_u32.result known (omega (arith, c.requires.whole)) (c.read_u32.ensures ∙ ap (little_number 4) (take_rest bytes 1)))
    (small_stands bytes 5 c.read_u32-2.result known (omega (arith, c.requires.whole)) (c.read_u32-2.ensures ∙ ap (little_number 4) (take_rest bytes 5)))
    (number_stands bytes 9 c.read_u64.result known (omega (arith, c.requires.whole)) (c.read_u64.ensures ∙ ap (little_number 8) (take_rest bytes 9)))
    (number_stands bytes 17 c.read_u64-2.result known (omega (arith, c.requires.whole)) (c.read_u64-2.ensures ∙ ap (little_number 8) (take_rest bytes 17)))
