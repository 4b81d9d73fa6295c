use Rattle.std.proofs.Common.{◌≡◌, ◌+◌, ◌-◌, ◌^◌, ℕ, min, length, take, get_or, sym, ap, ◌∙◌, arith}
use Rattle.std.proofs.lemmas.List.Sums.{sum_by_more}
use Rattle.qd_column_format.specs.Tails.{Behind}
use Rattle.qd_column_files.specs.Growing.{all_texts}
use Rattle.qd_column_files.proofs.growing.BlockTail.texts.Goals as goal

-- a sum that is cut, and one more
cut_more : (most sum more next now : ℕ) → now ≡ min sum most → next ≡ sum + more → min (now + more) most ≡ min next most
cut_more most sum more next now e f = omega (arith, e, f)

pub loop-tail-preserved : goal.loop-tail-preserved
loop-tail-preserved c =
    let xs = c.as_slice-tail-items.result.now in
    let i = c.loop-tail.tail-index in
    let x = c.tail-item.result in
    let next : all_texts (take (i + 1) xs) ≡ all_texts (take i xs) + length x.texts =
    sum_by_more (λ (b : Behind). length b.texts) xs i x c.loop-tail-test.true ∙ ap (λ (b : Behind). all_texts (take i xs) + length b.texts) (sym c.tail-item.is) in
    c.saturating_add-texts.ensures
    ∙ ap (λ n. min (c.loop-tail.texts + n) (2 ^ 64 - 1)) c.texts.ensures.count
    ∙ cut_more (2 ^ 64 - 1) (all_texts (take i xs)) (length x.texts) (all_texts (take (i + 1) xs)) c.loop-tail.texts c.loop-tail.invariant next
