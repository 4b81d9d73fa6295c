use Rattle.std.proofs.Common.{sym}
use Rattle.std.proofs.lemmas.Option.{get_or_from_slice_get}
use Rattle.qd_lines.proofs.OverlayLemmas.{found-at, not-found}
use Rattle.qd_lines.proofs.overlay.table_of.Goals as goal

pub returns-in-Some : goal.returns-in-Some
returns-in-Some c = record { schema = sym (found-at c.args.schemas.now c.args.name.now c.in-Some.i c.get.result.now c.in-Some.ensures.position (sym (get_or_from_slice_get c.args.schemas.now c.in-Some.i c.get.result.now c.get.result.now c.get.ensures.item))) }

pub returns-in-None : goal.returns-in-None
returns-in-None c = record { schema = sym (not-found c.args.schemas.now c.args.name.now (sym c.in-None.ensures.position)) }
