use Rattle.std.proofs.Common.{[], ◌∷◌, ◌++◌}
use Rattle.qd_lines.proofs.OverlayLemmas.{created, none_recalled}
use Rattle.qd_lines.proofs.overlay.Overlay.create.Goals as goal

pub returns : goal.returns
returns c =
    record {
      ok = λ all covers new. record {
        shown = rw (c.in_ok-push.ensures.ok, c.in_ok-copy.ensures.same) (created c.args.self.now.base.now c.args.self.now.own all c.args.self.now.tables covers.shown c.args.schema.now new);
        recent = tt;
        spots = none_recalled 256 c.push.new.self c.args.self.now.base.now (all ++ c.args.schema.now ∷ []);
      };
    }
