use Rattle.std.proofs.Common.{◌≡◌, length, map}
use Rattle.qd_sql_ast.specs.Steps.{is_among}
use Rattle.qd_sql_ast.proofs.step.is_among.Given as goal

abbrev pub invariant-loop-words : goal.invariant-loop-words
invariant-loop-words l = is_among (map (λ w. w.0.now) l.words) l.content ≡ is_among (map (λ w. w.0.now) l.initial.words) l.content

abbrev pub decreases-loop-words : goal.decreases-loop-words
decreases-loop-words l = length l.words
