use Rattle.std.proofs.Common.{◌≡◌, ◌∙◌, ℕ, ◌+◌, ◌<◌, ◌≤◌, ◌++◌, ◌∷◌, [], List, max, ap, ap₂, sym, length, map, get_or, drop, arith, append_assoc}
use Rattle.std.proofs.lemmas.List.{drop_all}
use Rattle.qd_base.specs.declared.part.Part.{Part}
use Rattle.qd_time.specs.Units.{unit_of, start_of}
use Rattle.qd_merge.specs.declared.shares.Share.{Share}
use Rattle.qd_merge.specs.Acts.{before, between, partitions, part_end}
use Rattle.qd_merge.specs.Owners.{no_part}
use Rattle.qd_merge.specs.Shares.{new_share, share_on}
use Rattle.qd_merge.proofs.Parts.{got_any}
use Rattle.qd_merge.proofs.Plans.{last_between}
use Rattle.qd_merge.proofs.Walks.{shares_walked, walk, walk_next, walk_step}
use Rattle.qd_merge.proofs.shares.share_batch.Goals as goal

pub loop-number-preserved : goal.loop-number-preserved
loop-number-preserved c =
    let r = c.args.rules.now in
    let u = unit_of r.unit in
    let times = c.args.times.now in
    let parts = c.args.parts.now in
    let written = c.args.written.now in
    let n = c.loop-number.number in
    let done = c.loop-number.done in
    let low : n < length parts = c.loop-number-test.true in
    let p : Part = get_or parts n no_part in
    let w : ℕ = get_or written n 0 in
    let first = max done (start_of u p.lo) in
    let end = part_end u p (drop (n + 1) parts) in
    let start : c.floor_unit.result ≡ start_of u p.lo = c.floor_unit.ensures.start ∙ ap (λ (q : Part). start_of u q.lo) (got_any parts n _ no_part low) in
    let from : c.max-from.result ≡ first = c.max-from.ensures ∙ ap (max done) start in
    let to : c.end_of_part-to.result ≡ end = c.end_of_part-to.ensures.end in
    let a : c.count_before-first.result ≡ before first times = c.count_before-first.ensures.count ∙ ap (λ m. before m times) from in
    let b : c.count_before-last.result ≡ before end times = c.count_before-last.ensures.count ∙ ap (λ m. before m times) to in
    let share : c.share_on.result ≡ share_on r n p w times (before first times) (before end times) = c.share_on.ensures.share ∙ ap₂ (λ (q : Part) v. share_on r n q v times c.count_before-first.result c.count_before-last.result) (got_any parts n _ no_part low) (got_any written n _ 0 (omega (arith, low, c.requires.written))) ∙ ap₂ (share_on r n p w times) a b in
    let gap = map (new_share u times) (partitions u (between done first times)) in
    let added : c.push_new_shares.new.list.items ≡ c.loop-number.list.items ++ gap = c.in_ok-push_new_shares.ensures.added ∙ ap (λ f. c.loop-number.list.items ++ map (new_share u times) (partitions u (between done f times))) from in
    ap₂ (λ x y. x ++ y) (c.in_ok-push.ensures.items ∙ ap₂ (λ x (y : Share). x ++ y ∷ []) added share) (ap (λ t. walk r written times t (n + 1) (drop (n + 1) parts)) to)
    ∙ walk_step c.loop-number.list.items gap (share_on r n p w times (before first times) (before end times)) (walk r written times end (n + 1) (drop (n + 1) parts)) ∙ ap (λ l. c.loop-number.list.items ++ l) (sym (walk_next r written times done n parts no_part low)) ∙ c.loop-number.invariant

pub returns : goal.returns
returns c =
    let r = c.args.rules.now in
    let u = unit_of r.unit in
    let times = c.args.times.now in
    let parts = c.args.parts.now in
    let written = c.args.written.now in
    let done = c.loop-number.done in
    let none : drop c.loop-number.number parts ≡ [] = drop_all c.loop-number.number parts c.loop-number-test.false in
    record {
      shares = c.in_ok-push_new_shares-2.ensures.added ∙ ap (λ l. c.loop-number.list.items ++ map (new_share u times) (partitions u l)) (last_between done times c.requires.times) ∙ ap (λ ps. c.loop-number.list.items ++ walk r written times done c.loop-number.number ps) (sym none) ∙ c.loop-number.invariant ∙ sym (shares_walked r parts written times c.requires.parts_in_order c.requires.parts c.requires.in_order c.requires.times);
    }
