use Rattle.std.proofs.Common.{List, arith, subst, length}
use Rattle.std.proofs.lemmas.List.{take_all}
use Rattle.qd_value.specs.declared.bound.Bound.{Bound}
use Rattle.qd_group.specs.Grouping.{same_rows, AreGroups}
use Rattle.qd_group.proofs.Assembly.{first_key, next_key}
use Rattle.qd_group.proofs.classes.grouped_rows.Goals as goal

pub loop-k-init : goal.loop-k-init
loop-k-init g c = first_key c.args.keys.now c.index-keys-0.result c.args.rows.now (length c.args.rows.now.places) c.in_ok-groups.groups.numbers.items c.in_ok-groups.groups.firsts.items c.requires c.index-keys-0.is c.in_ok-groups.ensures.groups

pub loop-k-preserved : goal.loop-k-preserved
loop-k-preserved g c = next_key c.args.keys.now c.loop-k.k c.index-keys-k.result c.args.rows.now (length c.args.rows.now.places) c.loop-k.groups.numbers.items c.loop-k.groups.firsts.items c.in_ok-further.further.numbers.items c.in_ok-further.further.firsts.items c.as_slice.result.now c.as_slice-in-loop-k.result.now c.in_ok-groups-2.groups.numbers.items c.in_ok-groups-2.groups.firsts.items c.loop-k-test.true c.index-keys-k.is c.loop-k.invariant c.in_ok-further.ensures.groups c.as_slice.ensures.value c.as_slice-in-loop-k.ensures.value c.in_ok-groups-2.ensures.groups

pub returns : goal.returns
returns g c = record { groups = subst (λ (ks : List Bound). AreGroups (same_rows ks c.args.rows.now) (length c.args.rows.now.places) c.loop-k.groups.numbers.items c.loop-k.groups.firsts.items) (take_all c.loop-k.k c.args.keys.now (omega arith)) c.loop-k.invariant }
