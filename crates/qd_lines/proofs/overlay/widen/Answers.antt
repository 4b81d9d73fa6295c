use Rattle.std.proofs.Common.{sym, ap, ◌∙◌}
use Rattle.std.specs.Option.{option_map}
use Rattle.qd_lines.proofs.OverlayLemmas.{copy-widened, none-given, not-found, widened-copy, widened-none}
use Rattle.qd_lines.proofs.overlay.widen.Goals as goal

pub returns-in_ok-push-2 : goal.returns-in_ok-push-2
returns-in_ok-push-2 c =
    record {
      ok = λ all tables shown.
          rw (c.in_ok-push-2.ensures.ok, copy-widened c.in_ok-schema.schema c.in-Some.schema.now c.push.new.self c.args.col c.in_ok-schema.ensures.same c.in_ok-push.ensures.ok)
          (widened-copy c.args.table.now c.args.col c.args.base.now c.args.own.now all tables shown c.in-Some.schema.now (not-found c.args.own.now c.args.table.now c.requires) (sym c.in-Some.ensures.schema));
    }

pub returns-in_default : goal.returns-in_default
returns-in_default c =
    record {
      ok = λ all tables shown.
          widened-none c.args.table.now c.args.col c.args.base.now c.args.own.now all tables shown (not-found c.args.own.now c.args.table.now c.requires)
          (sym c.table_of.ensures.schema ∙ ap (option_map (λ s. s.now)) (none-given c.table_of.result c.in_default.not-Some));
    }
