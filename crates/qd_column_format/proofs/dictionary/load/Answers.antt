use Rattle.std.proofs.Common.{◌∙◌, refl, sym, length, arith}
use Rattle.qd_base.proofs.Texts.{position_within, none_distinct}
use Rattle.qd_base.specs.Dictionary.{same_text}
use Rattle.qd_column_format.proofs.DictionaryLemmas.{loaded_more, load_cut, load_repeated}
use Rattle.qd_column_format.proofs.DamageLemmas.{text_unspelled}
use Rattle.qd_column_format.proofs.dictionary.load.Goals as goal

pub loop-id-init : goal.loop-id-init
loop-id-init g c = rw c.in_ok-dictionary.ensures.empty (record { size = refl; distinct = none_distinct; short = λ k d lt. absurd (omega arith); place = refl; within = omega arith; there = refl })

pub loop-id-preserved : goal.loop-id-preserved
loop-id-preserved g c =
    let texts = g.D.Dictionary.texts c.loop-id.dictionary in
    loaded_more texts (g.D.Dictionary.texts c.intern.new.self) c.args.bytes.now c.in-Some.text.now c.loop-id.id c.loop-id.at c.loop-id.invariant c.in_ok-intern-in-Some.ensures.texts (sym c.in_ok-intern-in-Some.ensures.id ∙ c.if-branch-id.false) c.in-Some.ensures.short c.in-Some.ensures.text

pub returns-then-branch-id-clause-damaged : goal.returns-then-branch-id-clause-damaged
returns-then-branch-id-clause-damaged g c =
    let texts = g.D.Dictionary.texts c.loop-id.dictionary in
    let t = c.in-Some.text.now in
    let most = position_within (same_text t) texts in
    load_repeated texts c.args.bytes.now t c.loop-id.id c.loop-id.at c.args.count c.loop-id.invariant (omega arith) (omega (arith, most, c.loop-id.invariant.size, c.in_ok-intern-in-Some.ensures.id, c.if-branch-id.true)) c.in-Some.ensures.short c.in-Some.ensures.text

pub returns-in-None-clause-unspelled : goal.returns-in-None-clause-unspelled
returns-in-None-clause-unspelled g c =
    let texts = g.D.Dictionary.texts c.loop-id.dictionary in
    let bytes = c.args.bytes.now in
    text_unspelled c.args.count bytes (length bytes) (load_cut texts bytes c.loop-id.id c.loop-id.at c.args.count c.loop-id.invariant (omega arith) c.in-None.ensures.none)

pub returns-then-branch-id-clause-unspelled : goal.returns-then-branch-id-clause-unspelled
returns-then-branch-id-clause-unspelled g c =
    let texts = g.D.Dictionary.texts c.loop-id.dictionary in
    let t = c.in-Some.text.now in
    let most = position_within (same_text t) texts in
    text_unspelled c.args.count c.args.bytes.now c.loop-id.at (load_repeated texts c.args.bytes.now t c.loop-id.id c.loop-id.at c.args.count c.loop-id.invariant (omega arith) (omega (arith, most, c.loop-id.invariant.size, c.in_ok-intern-in-Some.ensures.id, c.if-branch-id.true)) c.in-Some.ensures.short c.in-Some.ensures.text)
