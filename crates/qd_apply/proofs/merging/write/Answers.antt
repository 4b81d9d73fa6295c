use Rattle.std.proofs.Common.{◌≡◌, ◌∙◌, ◌+◌, ℕ, length, ap, sym, subst, arith}
use Rattle.qd_merge.specs.Laws.{IsBatch}
use Rattle.qd_apply.specs.Next.{new_piece}
use Rattle.qd_apply.proofs.GivenLemmas.{batch_within, block_timed, write_parts}
use Rattle.qd_apply.proofs.merging.write.Goals as goal

pub merge_blocks-requires-clause-batch : goal.merge_blocks-requires-clause-batch
merge_blocks-requires-clause-batch c =
    let s = c.args.plan.now.schema in
    let r = c.in_ok-rows.rows in
    let is = batch_within s c.args.plan.now.batch r c.args.from c.args.to c.requires.batch c.in_ok-rows.ensures.rows c.is_whole.ensures.whole.order in
    subst (λ (n : ℕ). IsBatch n s.keys r.rows) (sym is.time_col) is.batch

pub returns-clause-parts : goal.returns-clause-parts
returns-clause-parts c =
    let p = c.args.plan.now in
    let r = c.in_ok-rows.rows in
    let b = c.in_ok-block.block in
    let timed = block_timed p.schema p.batch r c.args.old.now b c.args.from c.args.to c.requires.batch c.in_ok-rows.ensures.rows c.in_ok-block.ensures.merged in
    let count : c.len.result ≡ length c.args.made.now.blocks.items = omega (arith, c.len.ensures, c.args.made.now.blocks.ok.0) in
    write_parts p.schema p.batch r c.args.old.now b c.args.from c.args.to c.requires.batch c.in_ok-rows.ensures.rows c.in_ok-block.ensures.merged
    (c.args.first + length c.args.made.now.blocks.items) c.part_of.result c.args.kept.now c.push.new.self
    (c.part_of.ensures.part p.schema timed ∙ ap (λ (n : ℕ). (new_piece p.schema (c.args.first + n) b).part) count) c.in_ok-push.ensures.ok
