use Rattle.std.proofs.Common.{◌∙◌, ap, arith, map}
use Rattle.std.proofs.lemmas.List.{take_all}
use Rattle.qd_rows.specs.Sets.{rows_in}
use Rattle.qd_value.specs.Value.{value}
use Rattle.qd_group.proofs.Assembly.{keys_more, length_rows}
use Rattle.qd_group.proofs.keys.keys_of.Goals as goal

pub loop-i-preserved : goal.loop-i-preserved
loop-i-preserved g c =
    keys_more c.args.expr.now c.args.rows.now c.loop-i.i c.loop-i.keys.items c.push.new.self.items c.key_of.result c.places.result (omega arith) c.places.ensures.places c.loop-i.invariant (c.key_of.ensures.same ∙ c.scalar.ensures.value) c.in_ok-push.ensures.items

pub returns : goal.returns
returns g c =
    record {
      keys = c.loop-i.invariant ∙ ap (map (value c.args.expr.now)) (take_all c.loop-i.i (rows_in c.args.rows.now) (omega (arith, length_rows c.args.rows.now)));
    }
