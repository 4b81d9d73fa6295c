use Rattle.std.proofs.Common.{◌≡◌, ◌∙◌, ◌+◌, ◌<◌, ◌++◌, ℕ, List, length, map, drop, get_or, ap, subst, arith}
use Rattle.std.specs.Arc.{arc_value}
use Rattle.std.proofs.lemmas.List.{get_or_default}
use Rattle.qd_merge.specs.declared.shares.Share.{Share}
use Rattle.qd_merge.specs.declared.shares.Share.TheVariants as share
use Rattle.qd_apply.specs.declared.olds.OldPart.{OldPart}
use Rattle.qd_apply.specs.Given.{all_grown_by, all_made_by, grown_by, made_by, parts_by, parts_left, written_by, IsOld}
use Rattle.qd_apply.specs.Next.{in_table}
use Rattle.qd_apply.specs.Plans.{growth_of}
use Rattle.qd_apply.proofs.GivenLemmas.{given_left, made_more, next_grown, next_made, next_parts, reads_next, rest_all, writes_next}
use Rattle.qd_apply.proofs.merging.carried_out.Goals as goal

pub carry_out-requires-clause-given : goal.carry_out-requires-clause-given
carry_out-requires-clause-given c = given_left (IsOld c.args.plan.now.schema) c.loop-share.read c.args.given.now c.requires.given

pub loop-share-preserved : goal.loop-share-preserved
loop-share-preserved c =
    let p = c.args.plan.now in
    let s = c.args.plan.now.schema in
    let parts = c.args.parts.now in
    let rows = c.args.plan.now.batch.rows in
    let shares : List Share = c.args.plan.now.shares.items in
    let i = c.loop-share.share-index in
    let read = c.loop-share.read in
    let lent : List Share = c.as_slice-share-items.result.now in
    let a : Share = get_or lent i (share.Keep 0) in
    let given : List OldPart = c.args.given.now in
    let v = c.loop-share.invariant in
    let lt : c.loop-share.share-index < length c.args.plan.now.shares.items = subst (λ (l : List Share). c.loop-share.share-index < length l) c.as_slice-share-items.ensures.value c.loop-share-test.true in
    let is : a ≡ get_or shares i a = get_or_default lent i (share.Keep 0) a c.loop-share-test.true ∙ ap (λ (l : List Share). get_or l i a) c.as_slice-share-items.ensures.value in
    let old = c.loop-share.made.blocks.items in
    let new = c.carry_out.new.made.blocks.items in
    let left = rest_all read c.args.given.now in
    let made : map arc_value new ≡ map arc_value old ++ made_by s rows a (drop read given) = c.in_ok-carry_out.ensures.blocks ∙ ap (λ (g : List OldPart). map arc_value old ++ made_by s rows a g) left in
    let kept : c.carry_out.new.kept ≡ c.loop-share.kept ++ parts_left s parts rows (c.args.first + length old) a (drop read given) = c.in_ok-carry_out.ensures.parts ∙ ap (λ (g : List OldPart). c.loop-share.kept ++ parts_left s parts rows (c.args.first + length old) a g) left in
    let grown : map growth_of c.carry_out.new.made.grown.items ≡ map growth_of c.loop-share.made.grown.items ++ map (in_table c.args.table) (grown_by s rows a) = c.in_ok-carry_out.ensures.grown in
    let more : length new ≡ length old + written_by a = made_more s parts rows arc_value a (drop read given) old new made in
    let step = c.reads_of-read.ensures.reads in
    record {
      read = omega (arith, v.read, reads_next i shares a lt is, step);
      written = omega (arith, v.written, writes_next i shares a lt is, more);
      parts = ap (λ (n : ℕ). c.carry_out.new.kept ++ parts_by s parts rows (c.args.first + length new) (drop (i + 1) shares) (drop (read + n) given)) step
          ∙ next_parts s parts rows c.args.first (length old) (length new) i read shares a given c.loop-share.kept c.carry_out.new.kept (parts_by s parts rows (c.args.first + length c.args.made.now.blocks.items) shares given) lt is v.parts kept more;
      blocks = ap (λ (n : ℕ). map arc_value new ++ all_made_by s rows (drop (i + 1) shares) (drop (read + n) given)) step
          ∙ next_made s parts rows i read shares a given (map arc_value old) (map arc_value new) (map arc_value c.args.made.now.blocks.items ++ all_made_by s rows shares given) lt is v.blocks made;
      grown = next_grown s parts rows (in_table c.args.table) i shares a (map growth_of c.loop-share.made.grown.items) (map growth_of c.carry_out.new.made.grown.items) (map growth_of c.args.made.now.grown.items ++ map (in_table c.args.table) (all_grown_by s rows shares)) lt is v.grown grown;
    }
