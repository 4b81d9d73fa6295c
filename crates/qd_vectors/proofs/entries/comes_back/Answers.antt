use Rattle.qd_vectors.proofs.entries.comes_back.Goals as goal

pub encode_entry-requires : goal.encode_entry-requires
encode_entry-requires c = record { spelled = c.in-Ok.ensures.spelled.sound }
