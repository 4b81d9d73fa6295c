use Rattle.qd_time.specs.Reading.{seen}
use Rattle.qd_time.proofs.ReadingLemmas.{found_year}
use Rattle.qd_time.proofs.parse.read_interval.Goals as goal

pub timestamp-requires-clause-year_high : goal.timestamp-requires-clause-year_high
timestamp-requires-clause-year_high c =
    (found_year c.args.text.now (seen c.in-Some.field-0) c.in-Some.ensures).year_high

pub timestamp-requires-clause-micro_high : goal.timestamp-requires-clause-micro_high
timestamp-requires-clause-micro_high c =
    (found_year c.args.text.now (seen c.in-Some.field-0) c.in-Some.ensures).micro_high
