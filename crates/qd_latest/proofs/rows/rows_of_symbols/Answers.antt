use Rattle.std.proofs.Common.{◌≡◌, length, sym, subst}
use Rattle.std.specs.Option.{IfSome}
use Rattle.qd_latest.specs.Chains.{cells_of}
use Rattle.qd_latest.specs.Walks.{KeepsAll, KeepsTexts}
use Rattle.qd_latest.proofs.NullLemmas.{null_added, null_lacking}
use Rattle.qd_latest.proofs.PartLemmas.{length-cells}
use Rattle.qd_latest.proofs.WalkLemmas.{keeps_in_order}
use Rattle.qd_latest.proofs.rows.rows_of_symbols.Goals as goal
use Rattle.qd_latest.proofs.rows.rows_of_symbols.Goals.{in-Some-last_null+in_ok-push-in-Some, in_default}

pub returns-after-last_null-clause-kept : goal.returns-after-last_null-clause-kept
returns-after-last_null-clause-kept g c =
    let cells = cells_of c.args.rows.now c.args.col in
    let size : length (cells_of c.args.rows.now c.args.col) ≡ length c.args.rows.now.places = length-cells c.args.rows.now c.args.col in
    let texts : KeepsTexts cells c.in-Some.places.items = subst (λ o. IfSome o (λ kept. KeepsTexts cells kept.items)) c.in-Some.is c.in_ok-places.ensures in
    keeps_in_order cells c.match-last_null.places.items c.sort_unstable.new.self.items c.sort_unstable.ensures.permutation
    (elim c.match-last_null.branch [
      | in-Some-last_null+in_ok-push-in-Some w ↦
          subst (λ p. KeepsAll cells p.items) (sym w.places-is)
          (subst (KeepsAll cells) (sym w.in_ok-push-in-Some.ensures.items) (null_added cells c.in-Some.places.items (length c.args.rows.now.places) size texts c.last_null.result w.in-Some-last_null.i c.last_null.ensures w.in-Some-last_null.is))
      | in_default w ↦ subst (λ p. KeepsAll cells p.items) (sym w.places-is) (null_lacking cells c.in-Some.places.items (length c.args.rows.now.places) size texts c.last_null.result c.last_null.ensures w.in_default.not-Some)
    ])
