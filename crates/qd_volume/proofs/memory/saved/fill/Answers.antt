use Rattle.std.proofs.Common.{◌≡◌, ℕ, ◌+◌, ◌-◌, take, drop, replicate, length, arith, length-drop, ap, ◌∙◌}
use Rattle.std.proofs.lemmas.List.{length-take}
use Rattle.qd_volume.proofs.Filled.{fills_part}
use Rattle.qd_volume.proofs.memory.saved.fill.Goals as goal

pub returns : goal.returns
returns c =
    let old = c.args.bytes.now in
    let start = c.min-start.result in
    let n = c.min.result in
    let size : start + n - start ≡ n = omega arith in
    let long : length (take (start + n - start) (drop start old)) ≡ n = omega (arith, length-take (start + n - start) (drop start old), length-drop start old, c.min.ensures, c.min-start.ensures) in
    let new : c.fill.new.self ≡ replicate n 255 = c.fill.ensures.after (λ y e. e) ∙ ap (λ (k : ℕ). replicate k 255) long in
    rw size (rw new (fills_part old c.args.at c.args.size start n c.min-start.ensures c.min.ensures))
