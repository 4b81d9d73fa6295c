-- The worked examples of types and clauses: what their trees become, and then by computation.
use Rattle.std.proofs.Common.{refl}
use Rattle.qd_time.specs.Reading as reading
use Rattle.qd_meaning.specs.TypeExamples.{TypesAreRefused, ClausesAreRefused}
use Rattle.qd_meaning.proofs.TreeLemmas.{column-alone, of-sum, of-minus, of-list, of-interval, of-both, of-not, prime-column, prime-number}

pub types-are-refused : TypesAreRefused
unfolding reading.year_at reading.month_at reading.four_at reading.two_at reading.digit_at reading.count_at
types-are-refused =
    record {
      plus = simp (of-sum, prime-column) refl;
      signed = simp (of-minus, prime-column, prime-number) refl;
      twice_signed = simp (of-minus, prime-column, prime-number) refl;
      among = simp (of-list, prime-column) refl;
      among_null = simp (of-list, prime-column) refl;
      within = simp (of-interval, prime-column) refl;
      interval = simp (of-interval, prime-column) refl;
      interval_later = simp (of-interval, prime-column) refl;
      conjunction = simp (of-both, prime-column) refl;
      negation = simp (of-not, prime-column) refl;
      names_first = simp (of-sum, column-alone, prime-column) refl;
    }

pub clauses-are-refused : ClausesAreRefused
clauses-are-refused =
    record {
      latest = simp column-alone refl;
      no_aggregate = simp column-alone refl;
      two_fills = simp column-alone refl;
      number_for_text = simp column-alone refl;
      number_for_sum = simp column-alone refl;
      offset = simp column-alone refl;
      offset_back = simp column-alone refl;
      join_key = simp column-alone refl;
      one_name = simp column-alone refl;
      order = simp column-alone refl;
    }
