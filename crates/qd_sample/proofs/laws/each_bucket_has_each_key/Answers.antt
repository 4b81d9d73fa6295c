use Rattle.qd_sample.proofs.LawLemmas.{each-bucket-has-each-key}
use Rattle.qd_sample.proofs.laws.each_bucket_has_each_key.Goals as goal

pub returns : goal.returns
returns c = record { law = each-bucket-has-each-key }
