use Rattle.std.proofs.Common.{◌∙◌, ap, sym, map, set}
use Rattle.std.specs.Prelude.{pos}
use Rattle.std.proofs.lemmas.List.{get_or-map, length-set, map-set}
use Rattle.qd_value.specs.Scalars.{cell_of}
use Rattle.qd_group.specs.Tallies.{counted, next}
use Rattle.qd_group.proofs.by_groups.add_value.Goals as goal

pub returns : goal.returns
returns g c =
    let items = c.args.tallies.now.items in
    let n = c.args.number in
    let new = c.in_ok-tallies.field-0 in
    record {
      next = map-set g.K.Keeping.state items n new
          ∙ ap (set (map g.K.Keeping.state items) n)
          (c.in_ok-tallies.ensures.next ∙ ap (λ s. next s (cell_of c.args.value)) (ap g.K.Keeping.state c.index.ensures ∙ sym (get_or-map g.K.Keeping.state items n c.index.result.now (counted (pos 0)) c.requires)));
      size = length-set items n new;
    }
