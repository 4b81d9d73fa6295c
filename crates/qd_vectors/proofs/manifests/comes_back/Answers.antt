use Rattle.qd_vectors.proofs.manifests.comes_back.Goals as goal

pub manifest_of-requires : goal.manifest_of-requires
manifest_of-requires c = (1, c.in-Ok.ensures.spelled.sound)
