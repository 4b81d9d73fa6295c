use Rattle.qd_group.proofs.GroupLaws.{groups-split-rows}
use Rattle.qd_group.proofs.laws.groups_split_rows.Goals as goal

pub returns : goal.returns
returns c = record { law = groups-split-rows }
