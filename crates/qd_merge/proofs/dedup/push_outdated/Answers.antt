use Rattle.std.proofs.Common.{◌≡◌, ◌∙◌, ◌++◌, ◌<◌, ℕ, List, Bool, ap, map, sym, subst, All, get_or, length, slice_range, arith}
use Rattle.std.proofs.lemmas.Result.{on_ok_weaker}
use Rattle.qd_base.specs.Rows.{Row}
use Rattle.qd_column.proofs.ListLemmas.{part_none}
use Rattle.qd_merge.specs.Merged.{with_missing}
use Rattle.qd_merge.specs.Classes.{AreClasses, repeats}
use Rattle.qd_merge.specs.Outdated.{outdated}
use Rattle.qd_merge.proofs.Outdating.{classes_outdated}
use Rattle.qd_merge.proofs.dedup.push_outdated.Goals as goal

pub repeated-requires : goal.repeated-requires
repeated-requires c =
    let are = c.in_ok-classes.ensures.classes in
    subst (λ (cs : List ℕ). All (λ x. x < length cs) cs) (sym c.as_slice.ensures.value) (λ k d lt. subst (λ (n : ℕ). get_or c.in_ok-classes.classes.items k d < n) (sym are.count) (are.below k d lt))

pub returns : goal.returns
returns c =
    let block = c.args.block.now in
    let keys = c.args.keys.now in
    let part : List Row = slice_range block.rows c.args.from c.args.to in
    let rows : map (with_missing block.kinds) (slice_range block.rows c.args.from c.args.from) ++ part ≡ part = ap (λ (l : List Row). map (with_missing block.kinds) l ++ part) (part_none block.rows c.args.from) in
    let are : AreClasses keys part c.in_ok-classes.classes.items = subst (λ (rs : List Row). AreClasses keys rs c.in_ok-classes.classes.items) rows c.in_ok-classes.ensures.classes in
    let flags : c.as_slice-2.result.now ≡ outdated keys part = c.as_slice-2.ensures.value ∙ c.in_ok-flags.ensures.flags ∙ ap repeats c.as_slice.ensures.value ∙ classes_outdated keys part c.in_ok-classes.classes.items are in
    record { added = on_ok_weaker c.push_flags.result (λ h. h ∙ ap (λ (l : List Bool). c.args.gone.now.items ++ l) flags) c.push_flags.ensures.added }

pub classes_of_group-requires : goal.classes_of_group-requires
classes_of_group-requires c =
    record {
      within = record {
        ordered = omega arith;
        block = omega (arith, c.requires.ordered, c.requires.within);
        ascending = c.requires.ordered;
        batch = c.requires.within;
        narrow = omega arith;
      };
    }
