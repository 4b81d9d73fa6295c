use Rattle.std.proofs.Common.{List, ◌∙◌, ap}
use Rattle.qd_base.specs.declared.schema.Schema.{Schema}
use Rattle.qd_base.specs.Schemas.{table_at}
use Rattle.qd_lines.proofs.OverlayLemmas.{found-by-name}
use Rattle.qd_lines.proofs.own.Own.find.Goals as goal

pub returns : goal.returns
returns c =
    record {
      position =
          c.find.ensures.position ∙ found-by-name c.self.inside.names c.self.inside.schemas.items c.args.name.now c.self.invariant
          ∙ ap (λ (ss : List Schema). table_at ss c.args.name.now) c.self.view_is;
    }
