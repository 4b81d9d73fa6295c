use Rattle.std.proofs.Common.{◌≡◌, ◌∙◌, ◌+◌, ◌++◌, ◌∷◌, [], ℕ, List, length, take, sym, ap, subst, append-nil, append_assoc, arith}
use Rattle.std.proofs.Math.Seq.{take-length}
use Rattle.qd_base.specs.declared.schema.Col.{Col}
use Rattle.qd_meaning.specs.Items.{Shows, value_shown}
use Rattle.qd_meaning.specs.Typing.{plain_column}
use Rattle.qd_plan.specs.Listing.{plain_from}
use Rattle.qd_plan.specs.Showing.{Makes}
use Rattle.qd_plan.proofs.TableLemmas.{plain_more}
use Rattle.qd_plan.proofs.items.columns_from.Goals as goal

pub loop-i-preserved : goal.loop-i-preserved
loop-i-preserved c = λ before m.
    let base : ℕ = c.args.base in
    let cols : List Col = c.args.cols.now in
    let i : ℕ = c.loop-i.i in
    let x : Col = c.index-cols-i.result in
    let one : Shows = value_shown (plain_column (base + i, x)) in
    subst (λ (items : List Shows). Makes c.args.buckets items c.add.new.self)
    (append_assoc before (plain_from base (take i cols)) (one ∷ []) ∙ ap (λ (items : List Shows). before ++ items) (plain_more base cols i x c.loop-i-test.true c.index-cols-i.is))
    (c.in_ok-add.ensures.added (before ++ plain_from base (take i cols)) one (c.loop-i.invariant before m) c.in_ok-item.ensures.item)

pub loop-i-init : goal.loop-i-init
loop-i-init c = λ before m. subst (λ (items : List Shows). Makes c.args.buckets items c.args.made.now) (sym (append-nil before)) m

pub returns : goal.returns
returns c =
    let cols : List Col = c.args.cols.now in
    let high = c.loop-i-test.false in
    let most = c.loop-i.auto.i-end in
    let end : c.loop-i.i ≡ length cols = omega arith in
    record {
      added = λ before m.
          subst (λ (items : List Shows). Makes c.args.buckets items c.loop-i.made)
          (ap (λ (cs : List Col). before ++ plain_from c.args.base cs) (ap (λ (n : ℕ). take n cols) end ∙ take-length cols)) (c.loop-i.invariant before m);
    }
