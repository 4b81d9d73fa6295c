use Rattle.std.proofs.Common.{rules, ◌≡◌, [], ◌∙◌}
use Rattle.std.proofs.lemmas.List.{nil_from_length}
use Rattle.qd_server.proofs.Serving.{goes_further, still_out}
use Rattle.qd_server.proofs.accept.settle_all.Goals as goal

pub loop-maker-preserved : goal.loop-maker-preserved
loop-maker-preserved g c = (
  (λ failed. goes_further g.M.Maker.works c.args.maker.now c.loop-maker.maker c.settle.new.maker c.args.outs.now.items c.loop-maker.outs.items c.settle.new.outs.items [] [] failed failed failed (c.loop-maker.invariant.0 failed) (c.settle.ensures.goes_on failed)),
  still_out g.M.Maker.works c.loop-maker.maker c.settle.new.maker c.loop-maker.outs.items c.settle.new.outs.items [] 0 0 c.loop-maker.invariant.1 (c.settle.ensures.goes_on 0),
  c.settle.ensures.fixed ∙ c.loop-maker.invariant.2,
)

pub returns : goal.returns
returns g c =
    let none_left : c.loop-maker.outs.items ≡ [] = nil_from_length c.loop-maker.outs.items (grind rules) in
    record { goes_on = λ failed s here. (let on = c.loop-maker.invariant.0 failed s here in (on.0, (on.1.0, on.1.1 ∙ none_left), on.2)); fixed = c.loop-maker.invariant.2 }
