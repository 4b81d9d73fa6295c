use Rattle.qd_store.proofs.Whole.{one_is_found}
use Rattle.qd_store.proofs.laws.one_is_found.Goals as goal

pub returns : goal.returns
returns c = record { law = one_is_found c.one_list_is_given.ensures c.one_version_is_given.ensures c.one_manifest_is_spelled.ensures c.one_entry_is_read.ensures }
