use Rattle.std.proofs.Common.{All, map, sym, subst}
use Rattle.std.specs.Arc.{arc_value}
use Rattle.qd_apply.specs.Laws.{IsGrowth}
use Rattle.qd_apply.specs.Plans.{AreOldsFor, growth_of}
use Rattle.qd_store.specs.Drafts.{Drafted, IsDraft, Merging}
use Rattle.qd_store.specs.Grown.{growth_of as grown_as}
use Rattle.qd_store.proofs.MergedNext.{Makes, is_merged, makes, some_behind, some_merged}
use Rattle.qd_store.proofs.Served.{draft_serves}
use Rattle.qd_store.proofs.drafting.Draft.merge.Goals as goal

pub merge-requires : goal.merge-requires
merge-requires c =
    let plan = c.self.inside.plan in
    let both = draft_serves c.merging_stands.ensures.law _ c.self.invariant in
    record {
      olds = subst (AreOldsFor plan.written plan.split_rows plan.shape plan.tables) (sym c.as_slice.ensures.value) both.0;
      room = both.1;
    }

pub invariant_of-result : goal.invariant_of-result
invariant_of-result c =
    let i = c.self.inside in
    let d : Drafted = record { plan = i.plan; olds = i.olds.items } in
    let made = c.in_ok-merged.merged in
    let is = c.in_ok-merged.ensures in
    let m : Merging = record { base = made.base; upto = made.upto; shape = made.shape; blocks = c.in_ok-blocks.blocks.items; grown = c.in_ok-grown.grown.items } in
    some_merged d m made.first_block c.self.invariant
    (makes arc_value growth_of i.plan i.olds.items c.as_slice.result.now made.blocks.items c.as_slice-2.result.now made.grown.items c.as_slice-3.result.now m made.first_block c.as_slice.ensures.value c.as_slice-2.ensures.value c.as_slice-3.ensures.value
    is.base is.upto is.first is.shape is.blocks is.grown c.in_ok-blocks.ensures.numbered c.in_ok-blocks.ensures.blocks c.in_ok-grown.ensures.rows)

pub returns : goal.returns
returns c =
    let i = c.self.inside in
    let d : Drafted = record { plan = i.plan; olds = i.olds.items } in
    let made = c.in_ok-merged.merged in
    let is = c.in_ok-merged.ensures in
    let m : Merging = record { base = made.base; upto = made.upto; shape = made.shape; blocks = c.in_ok-blocks.blocks.items; grown = c.in_ok-grown.grown.items } in
    let all : Makes d m made.first_block =
    makes arc_value growth_of i.plan i.olds.items c.as_slice.result.now made.blocks.items c.as_slice-2.result.now made.grown.items c.as_slice-3.result.now m made.first_block c.as_slice.ensures.value c.as_slice-2.ensures.value c.as_slice-3.ensures.value
    is.base is.upto is.first is.shape is.blocks is.grown c.in_ok-blocks.ensures.numbered c.in_ok-blocks.ensures.blocks c.in_ok-grown.ensures.rows in
    record {
      grows = subst (λ (e : Drafted). All (IsGrowth e.plan.shape e.plan.written) (map grown_as m.grown)) c.self.view_is (some_behind c.merging_stands.ensures.law d m made.first_block c.self.invariant all);
      merged = λ next x es contents db of. is_merged next x es contents db d (subst (λ (e : Drafted). IsDraft next x es contents db e) (sym c.self.view_is) of) m made.first_block all;
    }
