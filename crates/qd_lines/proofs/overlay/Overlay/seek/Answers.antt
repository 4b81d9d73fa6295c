use Rattle.std.proofs.Common.{None, get_or, sym, ◌∙◌}
use Rattle.std.proofs.lemmas.List.Elements.{All-set}
use Rattle.qd_base.specs.Schemas.{schema_of}
use Rattle.qd_lines.specs.Overlays.{IsSpot, spotted}
use Rattle.qd_lines.proofs.OverlayLemmas.{all_or, recalls, one-value}
use Rattle.qd_lines.proofs.overlay.Overlay.seek.Goals as goal

pub returns-then-is_none : goal.returns-then-is_none
returns-then-is_none c =
    let own = c.args.self.now.own in
    let base = c.args.self.now.base.now in
    let name = c.args.name.now in
    record {
      all = λ all covers.
          let found : IsSpot own base all c.spot-self.result = recalls all name (spotted own base c.spot-self.result) (covers.shown.named name ∙ sym c.spot-self.ensures.schema) in
          record {
            shown = covers.shown;
            recent = found;
            spots = All-set (IsSpot own base all) c.args.self.now.spots c.slot_of-slot.result c.spot-self.result found covers.spots;
          };
      recent = λ all covers. c.spot-self.ensures.schema ∙ sym (covers.shown.named name);
    }

pub returns-else-is_none : goal.returns-else-is_none
returns-else-is_none c =
    let own = c.args.self.now.own in
    let base = c.args.self.now.base.now in
    let spot = get_or c.args.self.now.spots c.slot_of-slot.result None in
    record {
      all = λ all covers. record { shown = covers.shown; recent = all_or (IsSpot own base all) c.args.self.now.spots c.slot_of-slot.result None tt covers.spots; spots = covers.spots };
      recent = λ all covers. one-value c.recalled.result (λ s. s.now) (spotted own base spot) (schema_of all c.args.name.now) c.if-is_none.ensures c.recalled.ensures.recent (c.recalled.ensures.schema all covers);
    }
