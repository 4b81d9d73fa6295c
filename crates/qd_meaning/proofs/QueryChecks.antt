-- The worked examples of queries: what their trees become, and then by computation.
use Rattle.std.proofs.Common.{refl}
use Rattle.qd_time.specs.Reading as reading
use Rattle.qd_meaning.specs.QueryExamples.{QueriesAreRefused}
use Rattle.qd_meaning.proofs.TreeLemmas.{column-alone, of-two, prime-column, prime-number, prime-text}

pub queries-are-refused : QueriesAreRefused
unfolding reading.year_at reading.month_at reading.four_at reading.two_at reading.digit_at
queries-are-refused =
    record {
      table = simp column-alone refl;
      nothing = simp column-alone refl;
      column = simp column-alone refl;
      qualifier = simp column-alone refl;
      both = simp column-alone refl;
      sides = simp column-alone refl;
      sum = simp column-alone refl;
      test = simp column-alone refl;
      equal = simp (of-two, prime-column, prime-number) refl;
      less = simp (of-two, prime-column, prime-text) refl;
      month = simp (of-two, prime-column, prime-text) refl;
      time = simp (of-two, prime-column, prime-text) refl;
      late = simp (of-two, prime-column, prime-number) refl;
    }
