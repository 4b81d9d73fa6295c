use Rattle.std.proofs.Common.{◌-◌, ◌∙◌, ℕ, [], length, get_or, ap, refl, arith}
use Rattle.std.proofs.lemmas.Option.{slice_get-get_or}
use Rattle.qd_base.specs.Rows.{time_of}
use Rattle.qd_memory.proofs.SlotLemmas.{slot_full}
use Rattle.qd_memory.proofs.TableLemmas.{timed}
use Rattle.qd_memory.proofs.slots.slot_of.Goals as goal

pub returns : goal.returns
returns c =
    let b = c.args.block in
    let some = c.requires.full.some in
    let count = c.rows-rows.ensures.count in
    record {
      slot =
          slot_full c.args.schema.now c.args.start b _ c.requires.schema (timed c.args.schema.now c.requires.schema) c.requires.full refl c.in_ok-block.ensures.block count (omega arith) c.cols-cols.ensures.count
          (c.time-lo.ensures.time (get_or b.rows 0 []) (slice_get-get_or b.rows 0 [] some))
          (c.time-hi.ensures.time (get_or b.rows (c.rows-rows.result - 1) []) (slice_get-get_or b.rows (c.rows-rows.result - 1) [] (omega (arith, count, some))) ∙ ap (λ (n : ℕ). time_of b.time_col (get_or b.rows (n - 1) [])) count);
      start = refl;
      block = c.in_ok-block.ensures.block;
    }
