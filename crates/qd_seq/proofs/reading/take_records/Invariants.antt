use Rattle.std.proofs.Common.{◌≡◌, ℕ, ◌+◌, ◌-◌, ◌≤◌, List, length}
use Rattle.qd_durable.specs.Places.{StandsAt}
use Rattle.qd_seq.specs.Layout.{AreInSegments, HasRecords, place_of}
use Rattle.qd_seq.proofs.reading.take_records.Given as goal
use Rattle.qd_base.specs.declared.limits.TheConstants.{MAX_TXNS}

-- so many bytes of the piece are records, and these stand in the log
abbrev pub invariant-records : goal.invariant-records
invariant-records l = record {
  within : l.at ≤ length l.piece;
  placed : place_of (length l.refs.items) ≡ place_of (length l.initial.refs.items) + l.at;
  few : length l.refs.items ≤ MAX_TXNS;
  segments : AreInSegments l.refs.items;
  taken : (bytes : List ℕ) → HasRecords l.initial.refs.items bytes → StandsAt bytes (place_of (length l.initial.refs.items)) l.piece → HasRecords l.refs.items bytes;
}

abbrev pub decreases-records : goal.decreases-records
decreases-records l = length l.piece - l.at
