use Rattle.std.proofs.Common.{◌≡◌, ◌∙◌, ◌+◌, ◌<◌, ◌++◌, ℕ, List, length, map, take, drop, ap, ap₂, sym, subst, arith}
use Rattle.std.specs.Arc.{arc_value}
use Rattle.std.specs.List.{AllByRecursion}
use Rattle.qd_base.specs.declared.part.Part.{Part}
use Rattle.qd_manifest.specs.declared.shape.TableParts.{TableParts}
use Rattle.qd_apply.specs.declared.olds.OldPart.{OldPart}
use Rattle.qd_apply.specs.declared.plans.Planned.{Planned}
use Rattle.qd_apply.specs.Given.{all_made_by, parts_by, reads, writes, IsOld}
use Rattle.qd_apply.specs.Next.{first_parts}
use Rattle.qd_apply.specs.Plans.{all_by, grown_by_all, growth_of, shape_by, AreEarlier, IsPlanned}
use Rattle.qd_apply.proofs.PlanLemmas.{all_made_more, all_next, all_reads_next, all_writes_next, given_some, grown_next, plan_next, shape_next}
use Rattle.qd_apply.proofs.plans.merged_tables.Goals as goal

pub carried_out-requires-clause-plan : goal.carried_out-requires-clause-plan
carried_out-requires-clause-plan c =
    let v = c.loop-i.invariant in
    let p : Planned = c.index-tables-i.result in
    let given : List OldPart = c.args.given.now in
    let next = plan_next c.args.shape.now c.args.tables.now given c.loop-i.i c.loop-i.read p c.loop-i-test.true c.index-tables-i.is v.planned v.given in
    subst (λ (l : List Part). IsPlanned l p) (sym c.parts_of.ensures.parts) next.0

pub carried_out-requires-clause-given : goal.carried_out-requires-clause-given
carried_out-requires-clause-given c =
    let v = c.loop-i.invariant in
    let p : Planned = c.index-tables-i.result in
    let read = c.loop-i.read in
    let given : List OldPart = c.args.given.now in
    let next = plan_next c.args.shape.now c.args.tables.now given c.loop-i.i read p c.loop-i-test.true c.index-tables-i.is v.planned v.given in
    let count : c.reads_in.result ≡ reads p.shares.items = c.reads_in.ensures.reads ∙ ap reads c.as_slice.ensures.value in
    subst (AllByRecursion (IsOld p.schema)) (sym (given_some read (read + c.reads_in.result) (reads p.shares.items) c.args.given.now (ap (λ (n : ℕ). read + n) count))) next.1

pub loop-i-preserved : goal.loop-i-preserved
loop-i-preserved c =
    let shape : List TableParts = c.args.shape.now in
    let ps : List Planned = c.args.tables.now in
    let i = c.loop-i.i in
    let read = c.loop-i.read in
    let first = c.args.first in
    let v = c.loop-i.invariant in
    let p : Planned = c.index-tables-i.result in
    let lt : c.loop-i.i < length c.args.tables.now = c.loop-i-test.true in
    let is = c.index-tables-i.is in
    let given : List OldPart = c.args.given.now in
    let next = plan_next shape ps given i read p lt is v.planned v.given in
    let count : c.reads_in.result ≡ reads p.shares.items = c.reads_in.ensures.reads ∙ ap reads c.as_slice.ensures.value in
    let some = given_some read (read + c.reads_in.result) (reads p.shares.items) c.args.given.now (ap (λ (n : ℕ). read + n) count) in
    let here : List OldPart = take (reads p.shares.items) (drop read given) in
    let mine : List Part = first_parts (drop i shape) in
    let old = c.loop-i.made.blocks.items in
    let new = c.carried_out.new.made.blocks.items in
    let made : map arc_value new ≡ map arc_value old ++ all_made_by p.schema p.batch.rows p.shares.items here =
    c.in_ok-parts.ensures.blocks ∙ ap (λ (g : List OldPart). map arc_value old ++ all_made_by p.schema p.batch.rows p.shares.items g) some in
    let parts : c.in_ok-parts.parts ≡ parts_by p.schema mine p.batch.rows (first + length old) p.shares.items here =
    c.in_ok-parts.ensures.parts
    ∙ ap₂ (λ (l : List Part) (g : List OldPart). parts_by p.schema l p.batch.rows (first + length old) p.shares.items g) c.parts_of.ensures.parts some in
    let more : length new ≡ length old + writes p.shares.items = all_made_more arc_value p.schema p.batch.rows p.shares.items here old new made in
    record {
      read = omega (arith, v.read, all_reads_next ps i p lt is, count);
      written = omega (arith, v.written, all_writes_next ps i p lt is, more);
      planned = next.2;
      given = subst (λ (n : ℕ). AreEarlier (drop (i + 1) ps) (drop (read + n) given)) (sym count) next.3;
      shape = ap₂ (λ (l : List TableParts) (n : ℕ). l ++ shape_by (drop (i + 1) shape) (drop (i + 1) ps) (first + length new) (drop (read + n) given)) c.in_ok-push.ensures.ok count
          ∙ shape_next shape ps given i read first (length old) (length new) p c.loop-i.after c.in_ok-schema.schema c.in_ok-parts.parts (shape_by shape ps (first + length c.args.made.now.blocks.items) given) lt is v.shape c.in_ok-schema.ensures.same parts more;
      blocks = ap (λ (n : ℕ). map arc_value new ++ all_by (drop (i + 1) ps) (drop (read + n) given)) count
          ∙ all_next ps given i read p (map arc_value old) (map arc_value new) (map arc_value c.args.made.now.blocks.items ++ all_by ps given) lt is v.blocks made;
      grown = grown_next ps i p (map growth_of c.loop-i.made.grown.items) (map growth_of c.carried_out.new.made.grown.items) (map growth_of c.args.made.now.grown.items ++ grown_by_all 0 ps) lt is v.grown c.in_ok-parts.ensures.grown;
    }
