use Rattle.qd_sql_laws.proofs.Decided.{stops, refused_at, bad_token}
use Rattle.qd_sql_laws.proofs.laws.places_are_exact.Goals as goal

pub returns : goal.returns
returns c = record { law = record { stops = stops; refused = refused_at; bad_token = bad_token } }
