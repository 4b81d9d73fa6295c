use Rattle.qd_store.proofs.Whole.{stores_are_whole}
use Rattle.qd_store.proofs.laws.stores_are_whole.Goals as goal

pub returns : goal.returns
returns c = record { law = stores_are_whole c.one_list_is_given.ensures c.one_version_is_given.ensures c.one_manifest_is_spelled.ensures c.one_spelling.ensures c.one_block_is_held.ensures c.what_a_sequence_holds.ensures c.what_is_known_is_given.ensures }
