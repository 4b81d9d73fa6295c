use Rattle.std.proofs.Common.{◌∙◌, ap, sym, map, set}
use Rattle.std.specs.Prelude.{pos}
use Rattle.std.specs.Int.{w64}
use Rattle.std.proofs.lemmas.Int.{to_z-of_z}
use Rattle.std.proofs.lemmas.List.{get_or-map, length-set, map-set}
use Rattle.qd_column.specs.Cells.{long_cell}
use Rattle.qd_group.specs.Tallies.{counted, next}
use Rattle.qd_group.proofs.by_groups.add_long.Goals as goal

pub returns : goal.returns
returns g c =
    let items = c.args.tallies.now.items in
    let n = c.args.number in
    let new = c.in_ok-tallies.field-0 in
    record {
      next = map-set g.K.Keeping.state items n new
          ∙ ap (set (map g.K.Keeping.state items) n)
          (c.in_ok-tallies.ensures.next ∙ ap (λ z. next (g.K.Keeping.state c.index.result.now) (long_cell z)) (to_z-of_z w64 c.args.long c.ranges.long) ∙ ap (λ s. next s (long_cell c.args.long)) (ap g.K.Keeping.state c.index.ensures ∙ sym (get_or-map g.K.Keeping.state items n c.index.result.now (counted (pos 0)) c.requires)));
      size = length-set items n new;
    }
