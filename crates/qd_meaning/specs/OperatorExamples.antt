-- Worked examples: what the operators give.
use Rattle.std.specs.Prelude.{◌≡◌, ℕ, ◌++◌, false, true, List, [], ◌∷◌, map, codes, pos, Some, None}
use Rattle.qd_base.specs.declared.cell.Cell.{Cell}
use Rattle.qd_base.specs.declared.cell.Cell.TheVariants as cell
use Rattle.qd_base.specs.declared.unit.TimeUnit.{TimeUnit}
use Rattle.qd_base.specs.declared.unit.TimeUnit.TheVariants as unit
use Rattle.qd_base.specs.Rows.{Row}
use Rattle.qd_meaning.specs.declared.parts.Agg.TheVariants as agg
use Rattle.qd_meaning.specs.declared.parts.Cut.TheVariants as cut
use Rattle.qd_meaning.specs.declared.parts.Fill.{Fill}
use Rattle.qd_meaning.specs.declared.parts.Fill.TheVariants as fill
use Rattle.qd_meaning.specs.declared.parts.JoinSpec.{JoinSpec}
use Rattle.qd_meaning.specs.declared.parts.SampleSpec.{SampleSpec}
use Rattle.qd_meaning.specs.Joined.{joined}
use Rattle.qd_meaning.specs.Latest.{latest}
use Rattle.qd_meaning.specs.Sampled.{sampled}
use Rattle.qd_meaning.specs.Ordered.{ordered, limited}
use Rattle.qd_meaning.specs.Partitions.{partitions}
use Rattle.qd_meaning.specs.Outputs.{output_names}
use Rattle.qd_meaning.specs.ExampleTables.{long, second, text, readings, bids, trades}

-- a trade's symbol, price and time, and the bid behind it
abbrev pub with_bid : Row → Row → Row
with_bid trade bid = trade ++ bid

abbrev pub on_symbol : JoinSpec
on_symbol = record { left = 0 ∷ []; right = 0 ∷ []; strict = false }

abbrev pub on_symbol_before : JoinSpec
on_symbol_before = record { left = 0 ∷ []; right = 0 ∷ []; strict = true }

abbrev pub no_bid : Row
no_bid = cell.Null ∷ cell.Null ∷ cell.Null ∷ []

abbrev pub trade : List ℕ → ℕ → ℕ → Row
trade sym px at = text sym ∷ long px ∷ second at ∷ []

-- counts by a stride, on the calendar at an offset in minutes, or from the first row
abbrev pub counts : ℕ → TimeUnit → List Fill → SampleSpec
counts n u fills = record { group = record { keys = []; aggs = agg.Count ∷ [] }; stride = record { n = n; unit = u }; offset = Some (pos 0); fills = fills }

abbrev pub quarter_past : SampleSpec
quarter_past = record (counts 1 unit.Hour (fill.Skip ∷ [])) { offset = Some (pos 15) }

abbrev pub from_first : SampleSpec
from_first = record (counts 1 unit.Month (fill.Number (pos 0) ∷ [])) { offset = None }

-- rows of nothing but their times, in seconds
abbrev pub at_seconds : List ℕ → List Row
at_seconds times = map (λ t. second t ∷ []) times

-- a bucket's start in seconds, and its count
abbrev pub counted : ℕ → Cell → Row
counted start count = second start ∷ count ∷ []

pub record OperatorsGive : Type 0 where
  -- ASOF takes the last bid at the trade's time or before it, LT one strictly before it
  pub asof : joined on_symbol 2 2 no_bid trades.rows bids.rows ≡ with_bid (trade (codes "a") 2 4) no_bid ∷ with_bid (trade (codes "a") 1 10) (trade (codes "a") 100 10) ∷ with_bid (trade (codes "z") 3 11) no_bid ∷ []
  pub lt : joined on_symbol_before 2 2 no_bid trades.rows bids.rows ≡ with_bid (trade (codes "a") 2 4) no_bid ∷ with_bid (trade (codes "a") 1 10) (trade (codes "a") 50 5) ∷ with_bid (trade (codes "z") 3 11) no_bid ∷ []
  -- the last row of each device, in the table's order
  pub latest : latest (0 ∷ []) readings.rows ≡ (text (codes "b") ∷ long 3 ∷ cell.Time 500000 ∷ []) ∷ (text (codes "a") ∷ long 2 ∷ second 1 ∷ []) ∷ []
  -- NULL is least; ties keep their order
  pub order : ordered ((0, false) ∷ []) ((long 2 ∷ long 1 ∷ []) ∷ (cell.Null ∷ long 2 ∷ []) ∷ (long 1 ∷ long 3 ∷ []) ∷ (long 2 ∷ long 4 ∷ []) ∷ []) ≡ (cell.Null ∷ long 2 ∷ []) ∷ (long 1 ∷ long 3 ∷ []) ∷ (long 2 ∷ long 1 ∷ []) ∷ (long 2 ∷ long 4 ∷ []) ∷ []
  pub descending : ordered ((0, true) ∷ []) ((long 2 ∷ long 1 ∷ []) ∷ (cell.Null ∷ long 2 ∷ []) ∷ (long 2 ∷ long 4 ∷ []) ∷ []) ≡ (long 2 ∷ long 1 ∷ []) ∷ (long 2 ∷ long 4 ∷ []) ∷ (cell.Null ∷ long 2 ∷ []) ∷ []
  pub last_two : limited (Some (cut.Last 2)) (at_seconds (1 ∷ 2 ∷ 3 ∷ [])) ≡ at_seconds (2 ∷ 3 ∷ [])
  pub between : limited (Some (cut.Between 1 3)) (at_seconds (1 ∷ 2 ∷ 3 ∷ 4 ∷ [])) ≡ at_seconds (2 ∷ 3 ∷ [])
  pub none_between : limited (Some (cut.Between 3 1)) (at_seconds (1 ∷ 2 ∷ 3 ∷ 4 ∷ [])) ≡ []
  -- names that are taken get a number, without regard to case
  pub names : output_names (codes "v" ∷ codes "V" ∷ codes "column" ∷ codes "v1" ∷ codes "v" ∷ []) ≡ codes "v" ∷ codes "V1" ∷ codes "column" ∷ codes "v11" ∷ codes "v2" ∷ []
  pub partition : (partitions bids).rows ≡ (text (codes "1970-01-01") ∷ long 2 ∷ second 5 ∷ second 10 ∷ []) ∷ []

-- rows at ten minutes past midnight and at twenty past two, on the second day
pub record SamplesGive : Type 0 where
  pub unfilled : sampled (counts 1 unit.Hour (fill.Skip ∷ [])) 0 (at_seconds (87000 ∷ 94800 ∷ [])) ≡ counted 86400 (long 1) ∷ counted 93600 (long 1) ∷ []
  pub null : sampled (counts 1 unit.Hour (fill.Null ∷ [])) 0 (at_seconds (87000 ∷ 94800 ∷ [])) ≡ counted 86400 (long 1) ∷ counted 90000 cell.Null ∷ counted 93600 (long 1) ∷ []
  pub before : sampled (counts 1 unit.Hour (fill.Prev ∷ [])) 0 (at_seconds (87000 ∷ 94800 ∷ [])) ≡ counted 86400 (long 1) ∷ counted 90000 (long 1) ∷ counted 93600 (long 1) ∷ []
  pub number : sampled (counts 1 unit.Hour (fill.Number (pos 0) ∷ [])) 0 (at_seconds (87000 ∷ 94800 ∷ [])) ≡ counted 86400 (long 1) ∷ counted 90000 (long 0) ∷ counted 93600 (long 1) ∷ []
  -- buckets from a quarter past each hour
  pub offset : sampled quarter_past 0 (at_seconds (87000 ∷ 94800 ∷ [])) ≡ counted 83700 (long 1) ∷ counted 94500 (long 1) ∷ []
  -- the last hour of January, and the first moment of March
  pub months : sampled (counts 1 unit.Month (fill.Number (pos 0) ∷ [])) 0 (at_seconds (2674800 ∷ 5097600 ∷ [])) ≡ counted 0 (long 1) ∷ counted 2678400 (long 0) ∷ counted 5097600 (long 1) ∷ []
  -- a month from the last hour of January is the last hour of February
  pub observation : sampled from_first 0 (at_seconds (2674800 ∷ 5097600 ∷ [])) ≡ counted 2674800 (long 1) ∷ counted 5094000 (long 1) ∷ []
  pub no_rows : sampled (counts 1 unit.Hour (fill.Null ∷ [])) 0 [] ≡ []
