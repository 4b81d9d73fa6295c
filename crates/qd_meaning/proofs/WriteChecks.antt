-- The worked examples of writes, by computation.
use Rattle.std.proofs.Common.{refl}
use Rattle.std.specs.Str.{is_utf8, chars}
use Rattle.qd_time.specs.Reading as reading
use Rattle.qd_meaning.specs.WriteExamples.{WritesAreMade, CreatesAreRefused, InsertsAreRefused, AltersAreRefused}

pub writes-are-made : WritesAreMade
unfolding is_utf8 chars lib.Utf8.encode
writes-are-made =
    record {
      created = refl;
      inserted = refl;
      listed = refl;
      null_truth = refl;
      added = refl;
      enabled = refl;
      enabled_two = refl;
      disabled = refl;
    }

pub alters-are-refused : AltersAreRefused
unfolding is_utf8 chars lib.Utf8.encode
alters-are-refused =
    record {
      without_time = refl;
      key_again = refl;
      no_column = refl;
      column_again = refl;
      bad_name = refl;
      no_table = refl;
      none_to_disable = refl;
      names_first = refl;
    }

pub creates-are-refused : CreatesAreRefused
unfolding is_utf8 chars lib.Utf8.encode
creates-are-refused =
    record {
      without_time = refl;
      key_again = refl;
      exists = refl;
      bad_name = refl;
      bad_table = refl;
      column_again = refl;
      no_column = refl;
      wrong_type = refl;
    }

pub inserts-are-refused : InsertsAreRefused
unfolding is_utf8 chars lib.Utf8.encode reading.year_at reading.four_at reading.two_at reading.digit_at
inserts-are-refused =
    record {
      no_table = refl;
      too_short = refl;
      wrong_literal = refl;
      missing_time = refl;
      null_for_time = refl;
      too_early = refl;
      names_first = refl;
      types_first = refl;
    }
