use Rattle.std.proofs.Common.{◌∙◌, ◌++◌, List, ap, arith, replicate, get_or}
use Rattle.qd_meaning.specs.declared.parts.Fill.{Fill}
use Rattle.qd_meaning.specs.declared.parts.Fill.TheVariants as fill
use Rattle.qd_sample.proofs.Steps.{one_fill, own_fills}
use Rattle.qd_sample.proofs.filling.each_fill.Goals.{then-fills-eq1+else-loop-test, else-fills-eq1+in_ok-extend_from_slice}
use Rattle.qd_sample.proofs.filling.each_fill.Goals as goal

pub returns : goal.returns
returns c = elim c.if-fills-eq1.branch [
  | then-fills-eq1+else-loop-test w ↦ record {
    each = λ aggs size. ap (λ v. v.items) w.each-is ∙ w.loop.invariant ∙ ap (λ n. replicate n (get_or c.args.fills.now 0 fill.Skip)) (omega arith) ∙ one_fill c.args.fills.now aggs c.args.count (omega arith) size;
  }
  | else-fills-eq1+in_ok-extend_from_slice w ↦ record {
    each = λ aggs size. ap (λ v. v.items) w.each-is ∙ w.in_ok-extend_from_slice.ensures.items ∙ ap (λ (l : List Fill). l ++ c.args.fills.now) c.new-each.ensures.items ∙ own_fills c.args.fills.now aggs (λ e. omega (arith, e));
  }
]
