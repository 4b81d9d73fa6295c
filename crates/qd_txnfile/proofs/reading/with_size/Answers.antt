use Rattle.std.proofs.Common.{◌≡◌, ◌-◌, ◌∙◌, ap, length, take, drop, arith, length-drop}
use Rattle.std.specs.Int.{to_le_bytes, w64}
use Rattle.std.proofs.lemmas.List.{take_rest}
use Rattle.byteorder.specs.Endian.{little_number}
use Rattle.qd_txnfile.specs.Versions.{file_of}
use Rattle.qd_txnfile.proofs.Heads.{head_cut, lifted, number_stands}
use Rattle.qd_txnfile.proofs.reading.with_size.Goals as goal

pub returns-then-head-lt-HEAD-clause-newest : goal.returns-then-head-lt-HEAD-clause-newest
returns-then-head-lt-HEAD-clause-newest c image is chosen =
    head_cut c.args.choice.half c.args.choice.n c.args.choice.other image c.args.head.now is chosen c.if-head-lt-HEAD.true

pub returns-clause-newest : goal.returns-clause-newest
returns-clause-newest c image is chosen =
    let head = c.args.head.now in
    let whole : take (length head - 9) (drop 9 head) ≡ drop 9 head = take_rest head 9 in
    let stands = number_stands head 9 c.read_u64-size.result (λ i. omega (arith, c.type_inv.head i)) (omega (arith, c.if-head-lt-HEAD.false, length-drop 9 head)) (c.read_u64-size.ensures ∙ ap (little_number 8) whole) in
    record {
      chosen = chosen;
      small = omega arith;
      size = lifted head (image (file_of c.args.choice.half)) 9 (to_le_bytes w64 c.read_u64-size.result) is stands;
    }
