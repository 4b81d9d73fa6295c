use Rattle.std.proofs.Common.{◌≡◌, ◌∷◌, ◌++◌, length, ap, sym, ◌∙◌, arith}
use Rattle.std.proofs.lemmas.List.{append-nil}
use Rattle.std.proofs.lemmas.Bool.Decides.{nat_tests}
use Rattle.qd_args.proofs.Spelling.{filled, in_one_word, in_two_words, no_length, none_of, other_tail, other_word}
use Rattle.qd_args.proofs.piece.value_of.Goals as goal

pub returns-in_err-tail : goal.returns-in_err-tail
returns-in_err-tail c =
    none_of c.from_residual-in_err-tail.result _ _ c.from_residual-in_err-tail.ensures
    (other_word c.args.name.now c.args.words.now c.in_ok-word.rest.now c.in_ok-word.word.now c.in_ok-word.ensures.cases.0 (λ tail is. c.in_err-tail.ensures tail (c.bytes.ensures.same ∙ is)))

pub returns-then-is_empty : goal.returns-then-is_empty
returns-then-is_empty c =
    let none : length c.in_ok-tail.tail.now ≡ 0 = grind (arith, nat_tests) in
    let word : c.in_ok-word.word.now ≡ c.args.name.now = sym c.bytes.ensures.same ∙ c.in_ok-tail.ensures ∙ ap (λ t. c.args.name.now ++ t) (no_length c.in_ok-tail.tail.now none) ∙ append-nil c.args.name.now in
    in_two_words c.args.name.now c.args.words.now c.in_ok-word.rest.now c.in_ok-word.word.now c.bytes-then-is_empty.result.now c.in_ok-value.rest.now c.in_ok-word.ensures.cases.0
    (c.in_ok-value.ensures.cases.0 ∙ ap (λ x. x ∷ c.in_ok-value.rest.now) (sym c.bytes-then-is_empty.ensures.same)) word

pub returns-in_err-behind : goal.returns-in_err-behind
returns-in_err-behind c =
    none_of c.from_residual-in_err-behind.result _ _ c.from_residual-in_err-behind.ensures
    (other_tail c.args.name.now c.args.words.now c.in_ok-word.rest.now c.in_ok-word.word.now c.in_ok-tail.tail.now c.in_ok-word.ensures.cases.0 (sym c.bytes.ensures.same ∙ c.in_ok-tail.ensures)
    (filled c.in_ok-tail.tail.now c.is_empty.result c.is_empty.ensures c.if-is_empty.false) (λ value is. c.in_err-behind.ensures value is))

pub returns : goal.returns
returns c =
    in_one_word c.args.name.now c.args.words.now c.in_ok-word.rest.now c.in_ok-word.word.now c.in_ok-behind.field-0.now c.in_ok-word.ensures.cases.0
    (sym c.bytes.ensures.same ∙ c.in_ok-tail.ensures ∙ ap (λ t. c.args.name.now ++ t) c.in_ok-behind.ensures)
