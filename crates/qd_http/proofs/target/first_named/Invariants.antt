use Rattle.std.proofs.Common.{◌≡◌}
use Rattle.form_urlencoded.specs.Form.{raw_pairs}
use Rattle.form_urlencoded.specs.Parse.{raw_pairs_left}
use Rattle.qd_http.specs.Targets.{first_in}
use Rattle.qd_http.proofs.target.first_named.Given as goal

-- what is sought is not among the pairs so far
abbrev pub invariant-loop-key : goal.invariant-loop-key
invariant-loop-key l = record {
  can : (goal.iterator-loop-key).can_next l.key-iterator;
  finite : (goal.iterator-loop-key).is_finite l.key-iterator;
  rest : first_in l.name (raw_pairs_left l.key-iterator) ≡ first_in l.name (raw_pairs l.query);
}
