use Rattle.std.proofs.Common.{◌≡◌, ◌∙◌, ◌+◌, ◌<◌, ◌≤◌, ◌++◌, ◌∷◌, [], max, ap, ap₂, sym, length, map, get_or, drop, arith}
use Rattle.std.proofs.lemmas.List.{drop_all}
use Rattle.qd_base.specs.declared.part.Part.{Part}
use Rattle.qd_time.specs.Units.{unit_of, start_of}
use Rattle.qd_merge.specs.declared.plan.Act.{Act}
use Rattle.qd_merge.specs.Acts.{before, between, partitions, new_part, on_part, part_end, acts_from}
use Rattle.qd_merge.proofs.Parts.{got_any}
use Rattle.qd_merge.proofs.Plans.{acts_next, last_between, plan_step, no_part}
use Rattle.qd_merge.proofs.plan.plan_times.Goals as goal

pub loop-number-preserved : goal.loop-number-preserved
loop-number-preserved c =
    let u = unit_of c.args.unit in
    let times = c.args.times.now in
    let parts = c.args.parts.now in
    let n = c.loop-number.number in
    let done = c.loop-number.done in
    let low : n < length parts = c.loop-number-test.true in
    let p : Part = get_or parts n no_part in
    let first = max done (start_of u p.lo) in
    let end = part_end u p (drop (n + 1) parts) in
    let start : c.floor_unit.result ≡ start_of u p.lo = c.floor_unit.ensures.start ∙ ap (λ (q : Part). start_of u q.lo) (got_any parts n _ no_part low) in
    let from : c.max-from.result ≡ first = c.max-from.ensures ∙ ap (max done) start in
    let to : c.end_of_part-to.result ≡ end = c.end_of_part-to.ensures.end in
    let act : c.act_on.result ≡ on_part n (before first times) (before end times) = c.act_on.ensures.act ∙ ap₂ (on_part n) (c.count_before.ensures.count ∙ ap (λ m. before m times) from) (c.count_before-in-loop-number.ensures.count ∙ ap (λ m. before m times) to) in
    let gap = map (new_part u times) (partitions u (between done first times)) in
    let added : c.push_new_parts.new.acts ≡ c.loop-number.acts ++ gap = c.in_ok-push_new_parts.ensures.added ∙ ap (λ f. c.loop-number.acts ++ map (new_part u times) (partitions u (between done f times))) from in
    ap₂ (λ a r. a ++ r) (c.in_ok-push.ensures.ok ∙ ap₂ (λ a (b : Act). a ++ b ∷ []) added act) (ap (λ t. acts_from u times t (n + 1) (drop (n + 1) parts)) to)
    ∙ plan_step c.loop-number.acts gap (on_part n (before first times) (before end times)) (acts_from u times end (n + 1) (drop (n + 1) parts)) ∙ ap (λ l. c.loop-number.acts ++ l) (sym (acts_next u times done n parts no_part low)) ∙ c.loop-number.invariant

pub returns : goal.returns
returns c =
    let u = unit_of c.args.unit in
    let times = c.args.times.now in
    let done = c.loop-number.done in
    let none : drop c.loop-number.number c.args.parts.now ≡ [] = drop_all c.loop-number.number c.args.parts.now c.loop-number-test.false in
    record {
      acts = c.in_ok-push_new_parts-2.ensures.added ∙ ap (λ l. c.loop-number.acts ++ map (new_part u times) (partitions u l)) (last_between done times c.requires.times) ∙ ap (λ ps. c.loop-number.acts ++ acts_from u times done c.loop-number.number ps) (sym none) ∙ c.loop-number.invariant;
    }
