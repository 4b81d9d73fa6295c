use Rattle.std.proofs.Common.{◌∙◌}
use Rattle.qd_shared.proofs.Passing.{passes_both, passes_none}
use Rattle.qd_shared.proofs.shared.Shared.make_rounds.Goals as goal

pub rounds-init : goal.rounds-init
rounds-init g c = passes_none c.args.pass.now c.requires.counted

pub make_round-requires : goal.make_round-requires
make_round-requires g c = record { pass = c.rounds.invariant.table ∙ c.requires.pass }

pub rounds-preserved : goal.rounds-preserved
rounds-preserved g c = passes_both c.args.pass.now c.rounds.pass c.make_round.new.pass c.rounds.invariant c.make_round.ensures.passes
