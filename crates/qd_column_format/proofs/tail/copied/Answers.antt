use Rattle.std.proofs.Common.{◌∙◌, ℕ, ◌<◌, ◌≤◌, List, [], ap, length, subst, arith}
use Rattle.std.proofs.lemmas.List.{take_all}
use Rattle.std.proofs.lemmas.Option.{get_or_from_slice_get}
use Rattle.qd_base.specs.Dictionary.{with_text}
use Rattle.qd_column_format.proofs.TailLemmas.{copied_more}
use Rattle.qd_column_format.proofs.tail.copied.Goals as goal

pub loop-id-init : goal.loop-id-init
loop-id-init g c = c.in_ok-texts.ensures.empty

pub intern-requires : goal.intern-requires
intern-requires g c =
    let texts = g.D.Dictionary.texts c.args.dictionary.now in
    let low : c.loop-id.id < length texts = omega (arith, c.loop-id-test.true, c.len-id-end.ensures.count) in
    subst (λ (t : List ℕ). length t ≤ 65535) (get_or_from_slice_get texts c.loop-id.id c.text_of.result.now [] c.text_of.ensures.text) (c.requires.short c.loop-id.id [] low)

pub loop-id-preserved : goal.loop-id-preserved
loop-id-preserved g c =
    let texts = g.D.Dictionary.texts c.args.dictionary.now in
    let t = c.text_of.result.now in
    let low : c.loop-id.id < length texts = omega (arith, c.loop-id-test.true, c.len-id-end.ensures.count) in
    c.in_ok-_id.ensures.texts ∙ ap (λ (l : List (List ℕ)). with_text l t) c.loop-id.invariant ∙ copied_more texts c.loop-id.id t c.len-id-end.ensures.distinct low (get_or_from_slice_get texts c.loop-id.id t [] c.text_of.ensures.text)

pub returns : goal.returns
returns g c =
    let texts = g.D.Dictionary.texts c.args.dictionary.now in
    record { same = c.loop-id.invariant ∙ take_all c.loop-id.id texts (omega (arith, c.loop-id-test.false, c.len-id-end.ensures.count)) }
