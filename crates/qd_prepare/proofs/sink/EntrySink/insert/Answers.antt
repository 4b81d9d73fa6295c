use Rattle.std.proofs.Common.{◌≡◌, List, [], ◌∷◌, ◌++◌, ap, subst, sym, true, false, ◌∙◌}
use Rattle.std.proofs.lemmas.Result.{on_ok_weaker}
use Rattle.qd_base.specs.declared.op.Op.{Op}
use Rattle.qd_base.specs.Schemas.{same_name}
use Rattle.qd_lines.specs.Sinks.{with_row}
use Rattle.qd_prepare.specs.declared.sink.Place.{Place}
use Rattle.qd_prepare.specs.declared.sink.Place.TheVariants as place
use Rattle.qd_prepare.specs.Sunk.{HasTaken, Sunk}
use Rattle.qd_prepare.proofs.SinkLemmas.{apart_from_open, apart_from_shut, row_taken, seen, sunk}
use Rattle.qd_prepare.proofs.sink.EntrySink.insert.Goals as goal
use Rattle.qd_prepare.proofs.sink.EntrySink.insert.Goals.{in_default-via-in-Open+else-is_name, in_default-via-in_default}

pub returns-in-Open : goal.returns-in-Open
returns-in-Open c =
    let i = c.self.inside in
    let same : same_name i.table c.args.table.now ≡ true = ap (λ t. same_name t c.args.table.now) (sym c.bytes.ensures.same) ∙ sym c.is_name.ensures.same ∙ c.if-is_name.true in
    record {
      ok = λ ops h. on_ok_weaker c.end_row.result
          (λ goes. subst (λ (p : Place). HasTaken (sunk c.end_row.new.writer p i.table i.changes) (with_row c.args.table.now [] ops)) (sym c.in-Open.is)
          (row_taken i.writer c.end_row.new.writer i.table c.args.table.now i.changes ops same goes
          (seen c.args.self.now i.writer i.place place.Open i.table i.changes ops c.self.view_is c.in-Open.is h.taken)))
          c.end_row.ensures.ended;
    }

pub returns-in_default : goal.returns-in_default
returns-in_default c =
    let i = c.self.inside in
    elim c.in_default.branch [
      | in_default-via-in-Open+else-is_name w ↦ record {
        ok = λ ops h.
            let other : same_name i.table c.args.table.now ≡ false = ap (λ t. same_name t c.args.table.now) (sym w.bytes.ensures.same) ∙ sym w.is_name.ensures.same ∙ w.if-is_name.false in
            on_ok_weaker c.begin.result
            (λ k. subst (λ (os : List Op). HasTaken c.begin.new.self os)
            (apart_from_open i.writer i.table c.args.table.now i.changes ops other (seen c.args.self.now i.writer i.place place.Open i.table i.changes ops c.self.view_is w.in-Open.is h.taken)) k)
            (c.begin.ensures.ok ops h.taken);
      }
      | in_default-via-in_default w ↦ record {
        ok = λ ops h.
            on_ok_weaker c.begin.result
            (λ k. subst (λ (os : List Op). HasTaken c.begin.new.self os)
            (apart_from_shut i.place c.args.self.now c.args.table.now ops (sym (ap (λ (s : Sunk). s.place) c.self.view_is)) w.in_default.not-Open h) k)
            (c.begin.ensures.ok ops h.taken);
      }
    ]
