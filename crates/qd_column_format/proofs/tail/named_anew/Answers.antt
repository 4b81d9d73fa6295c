use Rattle.std.proofs.Common.{◌≡◌, ◌∙◌, ◌++◌, ◌∷◌, [], ℕ, ◌+◌, ◌<◌, ◌≤◌, List, All, ap, ap₂, sym, refl, length, map, take, get_or, subst, arith}
use Rattle.std.proofs.lemmas.Option.{get_or_from_slice_get}
use Rattle.qd_base.specs.Dictionary.{id_for, with_text}
use Rattle.qd_column_format.specs.Tails.{with_texts}
use Rattle.qd_column_format.proofs.TailLemmas.{named_more, names_next, short_more}
use Rattle.qd_column_format.proofs.tail.named_anew.Goals as goal

pub loop-id-init : goal.loop-id-init
loop-id-init g c = (refl, c.new-names.ensures.items, c.requires.short)

pub intern-requires : goal.intern-requires
intern-requires g c =
    let D = g.D.Dictionary.texts c.args.dictionary.now in
    let low : c.loop-id.id < length D = omega (arith, c.loop-id-test.true, c.len-id-end.ensures.count) in
    subst (λ (t : List ℕ). length t ≤ 65535) (get_or_from_slice_get D c.loop-id.id c.text_of.result.now [] c.text_of.ensures.text) (c.requires.all_short c.loop-id.id [] low)

pub loop-id-preserved : goal.loop-id-preserved
loop-id-preserved g c =
    let D = g.D.Dictionary.texts c.args.dictionary.now in
    let T = g.D.Dictionary.texts c.args.texts.now in
    let k = c.loop-id.id in
    let t = c.text_of.result.now in
    let low : k < length D = omega (arith, c.loop-id-test.true, c.len-id-end.ensures.count) in
    let at : get_or D k [] ≡ t = get_or_from_slice_get D k t [] c.text_of.ensures.text in
    let fits : length t ≤ 65535 = subst (λ (x : List ℕ). length x ≤ 65535) at (c.requires.all_short k [] low) in
    let i = c.loop-id.invariant in
    let named : g.D.Dictionary.texts c.intern.new.self ≡ with_texts T (take (k + 1) D) = c.in_ok-intern.ensures.texts ∙ ap (λ (l : List (List ℕ)). with_text l t) i.0 ∙ named_more T D k t low at in (
      named,
      c.in_ok-push.ensures.items ∙ ap₂ (λ a b. a ++ b ∷ []) (i.1 ∙ ap (λ (l : List (List ℕ)). map (id_for l) (take k D)) i.0) (c.in_ok-intern.ensures.id ∙ ap (λ (l : List (List ℕ)). id_for l t) i.0) ∙ names_next T D k t low at ∙ ap (λ (l : List (List ℕ)). map (id_for l) (take (k + 1) D)) (sym named),
      subst (All (λ x. length x ≤ 65535)) (sym c.in_ok-intern.ensures.texts) (short_more (g.D.Dictionary.texts c.loop-id.texts) t i.2 fits),
    )
