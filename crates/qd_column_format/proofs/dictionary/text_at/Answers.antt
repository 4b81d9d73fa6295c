use Rattle.std.proofs.Common.{◌≡◌, ◌∙◌, ◌+◌, ◌-◌, ap, length, take, drop, arith, length-drop}
use Rattle.std.proofs.lemmas.List.{take_rest}
use Rattle.byteorder.specs.Endian.{little_number}
use Rattle.qd_column_format.proofs.DictionaryLemmas.{text_at_is}
use Rattle.qd_column_format.proofs.dictionary.text_at.Goals as goal

pub returns-clause-text : goal.returns-clause-text
returns-clause-text c =
    let bytes = c.args.bytes.now in
    let at = c.args.at in
    let size = c.read_u16-size.result in
    let whole : take (length bytes - at) (drop at bytes) ≡ drop at bytes = take_rest bytes at in
    let is : size ≡ little_number 2 (drop at bytes) = c.read_u16-size.ensures ∙ ap (little_number 2) whole in
    let count : 2 + size - 2 ≡ size = omega arith in
    text_at_is bytes (take (2 + size - 2) (drop 2 (take (length bytes - at) (drop at bytes)))) at size (λ i. omega (arith, c.type_inv.bytes i)) (omega (arith, c.if-rest-lt2.false, c.if-rest-size.false, length-drop at bytes, ap length whole)) is (ap (λ n. take n (drop 2 (take (length bytes - at) (drop at bytes)))) count ∙ ap (λ l. take size (drop 2 l)) whole)
