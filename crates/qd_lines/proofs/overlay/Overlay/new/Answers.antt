use Rattle.qd_lines.proofs.OverlayLemmas.{begun, none_recalled}
use Rattle.qd_lines.proofs.overlay.Overlay.new.Goals as goal

pub returns : goal.returns
returns c =
    record {
      all = record {
        shown = begun c.args.base.now c.new.result c.len.result c.new.ensures.empty c.len.ensures.count;
        recent = tt;
        spots = none_recalled 256 c.new.result c.args.base.now c.args.base.now;
      };
    }
