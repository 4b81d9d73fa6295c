-- What an image gives by what is known of its log, and what a write to the log leaves of that.
use Rattle.std.proofs.Common.{◌≡◌, ◌⊎◌, inl, inr, ℕ, ◌+◌, ◌<◌, ◌≤◌, List, [], ◌∷◌, ◌++◌, length, Option, None, Some, subst, arith, length-append}
use Rattle.qd_base.specs.declared.part.WalRef.{WalRef}
use Rattle.qd_volume.specs.Disk.{Image}
use Rattle.qd_durable.specs.Places.{StandsAt}
use Rattle.qd_durable.specs.Moments.{SameOutside}
use Rattle.qd_durable.proofs.Standing.{stands_back, stands_front, stands_kept, stands_room}
use Rattle.qd_seq.specs.Layout.{HasRecords, IsClosed, IsLawful, IsOpen, SpellsLog, body, mark, place_of, spelled}
use Rattle.qd_seq.specs.States.{GivesKnown, IsKnown}
use Rattle.qd_seq.proofs.Records.{body_long, count_more, has_more, judged, record_stands, spelled_long, zero_closed}
use Rattle.qd_base.specs.declared.limits.TheConstants.{MAX_TXNS}

-- a pending reference, by the facts of its place
module _ (refs : List WalRef) (ref : WalRef) (bytes : List ℕ) (has : HasRecords refs bytes) (lawful : IsLawful (length refs) ref) (few : length refs < MAX_TXNS) (stands : StandsAt bytes (place_of (length refs) + 1) (body ref ++ 0 ∷ [])) where
  pending_long : place_of (length refs) + 26 ≤ length bytes
  pending_long = omega (arith, stands_room bytes (place_of (length refs) + 1) (body ref ++ 0 ∷ []) stands (omega (arith, length-append (body ref) (0 ∷ []))), length-append (body ref) (0 ∷ []), body_long ref)

  -- where its gate is open it is in the list
  pub with_pending : IsOpen bytes (place_of (length refs)) → SpellsLog (refs ++ ref ∷ []) bytes
  with_pending opened = record {
    records = has_more refs ref bytes has few lawful (record_stands bytes (place_of (length refs)) ref opened (stands_front bytes (place_of (length refs) + 1) (body ref) (0 ∷ []) stands));
    closed = zero_closed bytes (place_of (length (refs ++ ref ∷ []))) (subst (λ n. StandsAt bytes n (0 ∷ [])) next (stands_back bytes (place_of (length refs) + 1) (body ref) (0 ∷ []) stands));
  }
    where
      next : place_of (length refs) + 1 + length (body ref) ≡ place_of (length (refs ++ ref ∷ []))
      next = omega (arith, body_long ref, count_more refs ref)

  pub pending_gives : SpellsLog refs bytes ⊎ SpellsLog (refs ++ ref ∷ []) bytes
  pending_gives = by (judged bytes (place_of (length refs)) (omega (arith, pending_long)))
    where
      by : IsClosed bytes (place_of (length refs)) ⊎ IsOpen bytes (place_of (length refs)) → SpellsLog refs bytes ⊎ SpellsLog (refs ++ ref ∷ []) bytes
      by (inl closed) = inl (record { records = has; closed = closed })
      by (inr opened) = inr (with_pending opened)

-- what is known is given
pub gives_known : (refs : List WalRef) (pending : Option WalRef) (image : Image) → IsKnown refs pending (image 1) → GivesKnown refs pending image
gives_known refs None image known = record { records = known.records; closed = known.behind }
gives_known refs (Some ref) image known = pending_gives refs ref (image 1) known.records known.behind.0 known.behind.1 known.behind.2

-- the records stay where what is behind them is written
records_kept : (refs : List WalRef) (from size : ℕ) (earlier image : Image) → place_of (length refs) ≤ from → SameOutside 1 from size earlier image → HasRecords refs (earlier 1) → HasRecords refs (image 1)
records_kept refs from size earlier image behind same has = record {
  stand = stands_kept (earlier 1) (image 1) 0 (spelled refs) from size same.longer same.same (inl (omega (arith, spelled_long refs, behind))) has.stand;
  lawful = has.lawful;
  few = has.few;
}

-- a body is written behind a closed gate
pub body_step : (refs : List WalRef) (earlier image : Image) → IsKnown refs None (earlier 1) → SameOutside 1 (place_of (length refs) + 1) 25 earlier image → IsKnown refs None (image 1)
body_step refs earlier image known same = record {
  records = records_kept refs (place_of (length refs) + 1) 25 earlier image (omega arith) same known.records;
  behind = record {
    gate = known.behind.gate;
    there = stands_kept (earlier 1) (image 1) (place_of (length refs)) (known.behind.gate ∷ []) (place_of (length refs) + 1) 25 same.longer same.same (inl (omega arith)) known.behind.there;
    not_open = known.behind.not_open;
  };
}

-- a gate is written in front of a body
pub gate_step : (refs : List WalRef) (ref : WalRef) (earlier image : Image) → IsKnown refs (Some ref) (earlier 1) → SameOutside 1 (place_of (length refs)) 1 earlier image → IsKnown refs (Some ref) (image 1)
gate_step refs ref earlier image known same = record {
  records = records_kept refs (place_of (length refs)) 1 earlier image (omega arith) same known.records;
  behind = (
    known.behind.0,
    known.behind.1,
    stands_kept (earlier 1) (image 1) (place_of (length refs) + 1) (body ref ++ 0 ∷ []) (place_of (length refs)) 1 same.longer same.same (inr (omega arith)) known.behind.2,
  );
}

-- a body that is written, and a gate that is opened or closed
pub body_known : (refs : List WalRef) (ref : WalRef) (bytes : List ℕ) → IsLawful (length refs) ref → length refs < MAX_TXNS → IsKnown refs None bytes → StandsAt bytes (place_of (length refs) + 1) (body ref ++ 0 ∷ []) → IsKnown refs (Some ref) bytes
body_known refs ref bytes lawful few known stands = record { records = known.records; behind = (lawful, few, stands) }

pub opened_known : (refs : List WalRef) (ref : WalRef) (bytes : List ℕ) → IsKnown refs (Some ref) bytes → IsOpen bytes (place_of (length refs)) → IsKnown (refs ++ ref ∷ []) None bytes
opened_known refs ref bytes known opened =
    let spells = with_pending refs ref bytes known.records known.behind.0 known.behind.1 known.behind.2 opened in
    record { records = spells.records; behind = spells.closed }

pub closed_known : (refs : List WalRef) (pending : Option WalRef) (bytes : List ℕ) → IsKnown refs pending bytes → StandsAt bytes (place_of (length refs)) (0 ∷ []) → IsKnown refs None bytes
closed_known refs pending bytes known stands = record { records = known.records; behind = zero_closed bytes (place_of (length refs)) stands }

-- the log without a record
pub empty_known : (bytes : List ℕ) → StandsAt bytes 0 (mark ++ 0 ∷ []) → IsKnown [] None bytes
empty_known bytes stands = record {
  records = record { stand = stands_front bytes 0 mark (0 ∷ []) stands; lawful = tt; few = omega arith };
  behind = zero_closed bytes 8 (stands_back bytes 0 mark (0 ∷ []) stands);
}
