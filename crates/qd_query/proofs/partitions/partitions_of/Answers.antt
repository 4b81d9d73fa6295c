use Rattle.std.proofs.Common.{◌≤◌, [], List, subst, arith}
use Rattle.std.proofs.lemmas.List.{length-map, take_all}
use Rattle.std.proofs.lemmas.List.Elements.{All-from_recursion, recursion_from_All}
use Rattle.qd_base.specs.declared.limits.TheConstants.{MAX_TIME}
use Rattle.qd_base.specs.Rows.{Row, time_of}
use Rattle.qd_query.specs.declared.partitions.Partition.{Partition}
use Rattle.qd_rows.specs.Sets.{row_of_place, rows_in}
use Rattle.qd_query.proofs.Splits.{Splits, split_next, split_parts, split_timely}
use Rattle.qd_query.proofs.partitions.partitions_of.Goals as goal

pub floor_unit-requires : goal.floor_unit-requires
floor_unit-requires g c =
    let size = length-map c.args.rows.now.places (row_of_place c.args.rows.now) in
    let low = c.requires.timely c.loop-i.i [] (omega (arith, size)) in
    omega (arith, low, c.time_at-time.ensures.time)

pub loop-i-preserved : goal.loop-i-preserved
loop-i-preserved g c =
    let size = length-map c.args.rows.now.places (row_of_place c.args.rows.now) in
    split_next c.args.schema.now.unit c.args.schema.now.time_col c.loop-i.found.items c.with_row.new.found.items (rows_in c.args.rows.now) c.loop-i.i c.floor_unit.result c.time_at-time.result
    c.requires.order (omega (arith, size)) c.time_at-time.ensures.time c.floor_unit.ensures.start c.in_ok-with_row.ensures.ok c.loop-i.invariant

pub returns : goal.returns
returns g c =
    let unit = c.args.schema.now.unit in
    let col = c.args.schema.now.time_col in
    let rows : List Row = rows_in c.args.rows.now in
    let size = length-map c.args.rows.now.places (row_of_place c.args.rows.now) in
    let split : Splits unit col c.loop-i.found.items rows = subst (Splits unit col c.loop-i.found.items) (take_all c.loop-i.i rows (omega (arith, size))) c.loop-i.invariant in
    record {
      rows = split_parts unit col c.loop-i.found.items rows split;
      timely = All-from_recursion (λ (p : Partition). p.first ≤ MAX_TIME) c.loop-i.found.items
          (split_timely unit col c.loop-i.found.items rows split (recursion_from_All (λ (r : Row). time_of col r ≤ MAX_TIME) rows c.requires.timely));
    }
