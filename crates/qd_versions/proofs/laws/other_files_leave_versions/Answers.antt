use Rattle.qd_versions.specs.Stores.{current_version}
use Rattle.qd_versions.proofs.Kept.{given_kept, knows_kept}
use Rattle.qd_versions.proofs.laws.other_files_leave_versions.Goals as goal

pub returns : goal.returns
returns c touched before after s next second third moves rooted = (
  given_kept touched second third before after moves s.root (current_version s.versions) next rooted.root,
  record { root = knows_kept touched second third before after moves s.root (current_version s.versions) next rooted.root },
)
