-- The laws of the sequencer log.
use Rattle.std.proofs.Common.{◌≡◌, ◌⊎◌, inl, inr, ℕ, zero, suc, ◌+◌, ◌^◌, ◌<◌, ◌≤◌, List, [], ◌∷◌, ◌++◌, length, take, drop, refl, sym, ◌∙◌, ap, subst, arith}
use Rattle.std.specs.Int.{to_le_bytes, from_le_bytes, w32, w64}
use Rattle.std.proofs.lemmas.Bool.{cases_order}
use Rattle.std.proofs.lemmas.List.{take_all}
use Rattle.std.proofs.lemmas.Nat.{from_le_bytes-to_le_bytes_4, from_le_bytes-to_le_bytes_8}
use Rattle.qd_base.specs.declared.part.WalRef.{WalRef}
use Rattle.qd_durable.specs.Places.{StandsAt}
use Rattle.qd_durable.proofs.Standing.{stands_back, stands_front, stands_room}
use Rattle.qd_seq.specs.Layout.{AreLawful, Fits, HasRecords, IsClosed, IsLawful, IsOpen, SpellsLog, body, mark, place_of, records}
use Rattle.qd_seq.specs.Damage.{AtRecord, BadRecord, CutMark, CutRecord, IsBreak, IsDamaged, IsUnlawfulAt, NoGate, OtherMark, Segment, TooMany, Writer}
use Rattle.qd_seq.proofs.Records.{body_long, closed_or_open, closed_there, open_there, record_body, record_long, record_open, start_long, wal_long}
use Rattle.qd_base.specs.declared.limits.TheConstants.{MAX_TXNS}

-- a piece of a length at a place is one
one_piece : (bytes : List ℕ) (at : ℕ) (a b : List ℕ) → length a ≡ length b → StandsAt bytes at a → StandsAt bytes at b → a ≡ b
one_piece bytes at a b same first second = sym first ∙ ap (λ n. take n (drop at bytes)) same ∙ second

-- 4 or 8 bytes at a place are those of one number
one_small : (bytes : List ℕ) (at n m : ℕ) → n < 2 ^ 32 → m < 2 ^ 32 → StandsAt bytes at (to_le_bytes w32 n) → StandsAt bytes at (to_le_bytes w32 m) → n ≡ m
one_small bytes at n m small less first second =
    let same : to_le_bytes w32 n ≡ to_le_bytes w32 m = one_piece bytes at (to_le_bytes w32 n) (to_le_bytes w32 m) (wal_long n ∙ sym (wal_long m)) first second in
    sym (from_le_bytes-to_le_bytes_4 n small) ∙ ap (λ (l : List ℕ). from_le_bytes w32 l) same ∙ from_le_bytes-to_le_bytes_4 m less

one_number : (bytes : List ℕ) (at n m : ℕ) → n < 2 ^ 64 → m < 2 ^ 64 → StandsAt bytes at (to_le_bytes w64 n) → StandsAt bytes at (to_le_bytes w64 m) → n ≡ m
one_number bytes at n m small less first second =
    let same : to_le_bytes w64 n ≡ to_le_bytes w64 m = one_piece bytes at (to_le_bytes w64 n) (to_le_bytes w64 m) (start_long n ∙ sym (start_long m)) first second in
    sym (from_le_bytes-to_le_bytes_8 n small) ∙ ap (λ (l : List ℕ). from_le_bytes w64 l) same ∙ from_le_bytes-to_le_bytes_8 m less

abbrev made : ℕ → ℕ → ℕ → ℕ → WalRef
made wal segment start len = record { wal = wal; segment = segment; start = start; len = len }

same_ref : (a b : WalRef) → a.wal ≡ b.wal → a.segment ≡ b.segment → a.start ≡ b.start → a.len ≡ b.len → a ≡ b
same_ref a b wal segment start len =
    ap (λ n. made n a.segment a.start a.len) wal
    ∙ ap (λ n. made b.wal n a.start a.len) segment
    ∙ ap (λ n. made b.wal b.segment n a.len) start
    ∙ ap (λ n. made b.wal b.segment b.start n) len

-- the numbers of a body that stands
module _ (bytes : List ℕ) (at : ℕ) (ref : WalRef) (stands : StandsAt bytes at (body ref)) where
  wal_stands : StandsAt bytes at (to_le_bytes w32 ref.wal)
  wal_stands = stands_front bytes at (to_le_bytes w32 ref.wal) (to_le_bytes w32 ref.segment ++ (to_le_bytes w64 ref.start ++ to_le_bytes w64 ref.len)) stands

  behind_wal : StandsAt bytes (at + 4) (to_le_bytes w32 ref.segment ++ (to_le_bytes w64 ref.start ++ to_le_bytes w64 ref.len))
  behind_wal = stands_back bytes at (to_le_bytes w32 ref.wal) (to_le_bytes w32 ref.segment ++ (to_le_bytes w64 ref.start ++ to_le_bytes w64 ref.len)) stands

  segment_stands : StandsAt bytes (at + 4) (to_le_bytes w32 ref.segment)
  segment_stands = stands_front bytes (at + 4) (to_le_bytes w32 ref.segment) (to_le_bytes w64 ref.start ++ to_le_bytes w64 ref.len) behind_wal

  behind_segment : StandsAt bytes (at + 4 + 4) (to_le_bytes w64 ref.start ++ to_le_bytes w64 ref.len)
  behind_segment = stands_back bytes (at + 4) (to_le_bytes w32 ref.segment) (to_le_bytes w64 ref.start ++ to_le_bytes w64 ref.len) behind_wal

  start_stands : StandsAt bytes (at + 4 + 4) (to_le_bytes w64 ref.start)
  start_stands = stands_front bytes (at + 4 + 4) (to_le_bytes w64 ref.start) (to_le_bytes w64 ref.len) behind_segment

  len_stands : StandsAt bytes (at + 4 + 4 + 8) (to_le_bytes w64 ref.len)
  len_stands = stands_back bytes (at + 4 + 4) (to_le_bytes w64 ref.start) (to_le_bytes w64 ref.len) behind_segment

-- a body at a place is one
one_body : (bytes : List ℕ) (at : ℕ) (a b : WalRef) → Fits a → Fits b → StandsAt bytes at (body a) → StandsAt bytes at (body b) → a ≡ b
one_body bytes at a b small less first second =
    same_ref a b
    (one_small bytes at a.wal b.wal small.wal less.wal (wal_stands bytes at a first) (wal_stands bytes at b second))
    (one_small bytes (at + 4) a.segment b.segment small.segment less.segment (segment_stands bytes at a first) (segment_stands bytes at b second))
    (one_number bytes (at + 4 + 4) a.start b.start small.start less.start (start_stands bytes at a first) (start_stands bytes at b second))
    (one_number bytes (at + 4 + 4 + 8) a.len b.len small.size less.size (len_stands bytes at a first) (len_stands bytes at b second))

lawful_fits : (n : ℕ) (ref : WalRef) → n < MAX_TXNS → IsLawful n ref → Fits ref
lawful_fits n ref few lawful = record { wal = omega (arith, lawful.wal, few); segment = omega (arith, lawful.segment); start = lawful.start; size = lawful.size }

-- a record that stands, and may be there
record Stands (bytes : List ℕ) (n : ℕ) : Type 0 where
  ref : WalRef
  lawful : IsLawful n ref
  stands : StandsAt bytes (place_of n) (1 ∷ body ref)

-- each record of a list that a log has
run_at : (bytes : List ℕ) (m : ℕ) (refs : List WalRef) → StandsAt bytes (place_of m) (records refs) → AreLawful m refs → (k : ℕ) → k < length refs → Stands bytes (m + k)
run_at bytes m [] stands lawful k within = absurd (omega arith)
run_at bytes m (ref ∷ more) stands lawful k within = by (λ j less. run_at bytes (suc m) more rest lawful.1 j less) k within
  where
    rest : StandsAt bytes (place_of (suc m)) (records more)
    rest = subst (λ n. StandsAt bytes n (records more)) next (stands_back bytes (place_of m) (1 ∷ body ref) (records more) stands)
      where
        next : place_of m + length (1 ∷ body ref) ≡ place_of (suc m)
        next = omega (arith, body_long ref)

    by : ((j : ℕ) → j < length more → Stands bytes (suc m + j)) → (k : ℕ) → k < length (ref ∷ more) → Stands bytes (m + k)
    by others zero within = let e : m ≡ m + zero = omega arith in subst (λ n. Stands bytes n) e first
      where
        first : Stands bytes m
        first = record { ref = ref; lawful = lawful.0; stands = stands_front bytes (place_of m) (1 ∷ body ref) (records more) stands }
    by others (suc k) within = let e : suc m + k ≡ m + suc k = omega arith in subst (λ n. Stands bytes n) e (others k (omega (arith, within)))

module _ (bytes : List ℕ) (refs : List WalRef) (has : HasRecords refs bytes) where
  mark_stands : StandsAt bytes 0 mark
  mark_stands = stands_front bytes 0 mark (records refs) has.stand

  records_stand : StandsAt bytes (place_of 0) (records refs)
  records_stand = stands_back bytes 0 mark (records refs) has.stand

  record_at : (n : ℕ) → n < length refs → Stands bytes n
  record_at n within = let e : 0 + n ≡ n = omega arith in subst (λ k. Stands bytes k) e (run_at bytes 0 refs records_stand has.lawful n within)

-- a list of a length is one
same_records : (bytes : List ℕ) (m : ℕ) (a b : List WalRef) → m + length a ≤ MAX_TXNS → length a ≡ length b → StandsAt bytes (place_of m) (records a) → StandsAt bytes (place_of m) (records b) → AreLawful m a → AreLawful m b → a ≡ b
same_records bytes m [] [] few long first second lawful also = refl
same_records bytes m [] (ref ∷ more) few long first second lawful also = absurd (omega (arith, long))
same_records bytes m (ref ∷ more) [] few long first second lawful also = absurd (omega (arith, long))
same_records bytes m (a ∷ more) (b ∷ others) few long first second lawful also =
    ap (λ (r : WalRef). r ∷ more) one
    ∙ ap (λ (l : List WalRef). b ∷ l) (same_records bytes (suc m) more others (omega (arith, few)) (omega (arith, long)) (tails a more first) (tails b others second) lawful.1 also.1)
  where
    below : m < MAX_TXNS
    below = omega (arith, few)

    heads : (ref : WalRef) (more : List WalRef) → StandsAt bytes (place_of m) (records (ref ∷ more)) → StandsAt bytes (place_of m + 1) (body ref)
    heads ref more stands = record_body bytes (place_of m) ref (stands_front bytes (place_of m) (1 ∷ body ref) (records more) stands)

    tails : (ref : WalRef) (more : List WalRef) → StandsAt bytes (place_of m) (records (ref ∷ more)) → StandsAt bytes (place_of (suc m)) (records more)
    tails ref more stands = subst (λ n. StandsAt bytes n (records more)) next (stands_back bytes (place_of m) (1 ∷ body ref) (records more) stands)
      where
        next : place_of m + length (1 ∷ body ref) ≡ place_of (suc m)
        next = omega (arith, body_long ref)

    one : a ≡ b
    one = one_body bytes (place_of m + 1) a b (lawful_fits m a below lawful.0) (lawful_fits m b below also.0) (heads a more first) (heads b others second)

pub one_list : (bytes : List ℕ) (refs others : List WalRef) → SpellsLog refs bytes → SpellsLog others bytes → refs ≡ others
one_list bytes refs others a b = by (cases_order (length refs) (length others))
  where
    apart : (one two : List WalRef) → SpellsLog one bytes → SpellsLog two bytes → length one < length two → ⊥
    apart one two x y less =
        let is = record_at bytes two y.records (length one) less in
        closed_or_open bytes (place_of (length one)) x.closed (record_open bytes (place_of (length one)) is.ref is.stands)

    by : (length refs ≡ length others) ⊎ ((length refs < length others) ⊎ (length others < length refs)) → refs ≡ others
    by (inl same) = same_records bytes 0 refs others (omega (arith, a.records.few)) same (records_stand bytes refs a.records) (records_stand bytes others b.records) a.records.lawful b.records.lawful
    by (inr (inl less)) = absurd (apart refs others a b less)
    by (inr (inr more)) = absurd (apart others refs b a more)

-- where a log breaks off there is no record
break_or_record : (bytes : List ℕ) (n at : ℕ) → n < MAX_TXNS → IsBreak bytes n at → Stands bytes n → ⊥
break_or_record bytes n at few (NoGate ends) is = omega (arith, ends, record_long bytes (place_of n) is.ref is.stands)
break_or_record bytes n at few (TooMany opened full) is = omega (arith, full, few)
break_or_record bytes n at few (CutRecord opened less short) is = omega (arith, short, record_long bytes (place_of n) is.ref is.stands)
break_or_record bytes n at few (BadRecord byte less bad) is = by byte bad.unlawful
  where
    same : is.ref ≡ bad.ref
    same = one_body bytes (place_of n + 1) is.ref bad.ref (lawful_fits n is.ref few is.lawful) bad.fits (record_body bytes (place_of n) is.ref is.stands) (record_body bytes (place_of n) bad.ref bad.stands)

    lawful : IsLawful n bad.ref
    lawful = subst (λ (r : WalRef). IsLawful n r) same is.lawful

    by : (k : ℕ) → IsUnlawfulAt n bad.ref k → ⊥
    by k (Writer wal) = omega (arith, wal, lawful.wal)
    by k (Segment wal segment) = omega (arith, segment, lawful.segment)

-- and no gate that isn't open
break_or_closed : (bytes : List ℕ) (n at : ℕ) → IsBreak bytes n at → IsClosed bytes (place_of n) → ⊥
break_or_closed bytes n at (NoGate ends) closed = omega (arith, ends, closed_there bytes (place_of n) closed)
break_or_closed bytes n at (TooMany opened full) closed = closed_or_open bytes (place_of n) closed opened
break_or_closed bytes n at (CutRecord opened less short) closed = closed_or_open bytes (place_of n) closed opened
break_or_closed bytes n at (BadRecord byte less bad) closed = closed_or_open bytes (place_of n) closed (record_open bytes (place_of n) bad.ref bad.stands)

-- the mark stands, or the log is damaged there
mark_whole : (bytes : List ℕ) → StandsAt bytes 0 mark → 8 ≤ length bytes
mark_whole bytes stands = omega (arith, stands_room bytes 0 mark stands (omega arith))

mark_same : (bytes : List ℕ) → StandsAt bytes 0 mark → take 8 bytes ≡ take (length bytes) mark
mark_same bytes stands = stands ∙ sym (take_all (length bytes) mark (mark_whole bytes stands))

pub damaged_none : (bytes : List ℕ) (refs : List WalRef) (at : ℕ) → IsDamaged bytes at → SpellsLog refs bytes → ⊥
damaged_none bytes refs at (OtherMark other) spells = other (mark_same bytes (mark_stands bytes refs spells.records))
damaged_none bytes refs at (CutMark same short) spells = omega (arith, short, mark_whole bytes (mark_stands bytes refs spells.records))
damaged_none bytes refs at (AtRecord before place has broken) spells = by (cases_order (length before) (length refs))
  where
    by : (length before ≡ length refs) ⊎ ((length before < length refs) ⊎ (length refs < length before)) → ⊥
    by (inl same) = break_or_closed bytes (length before) place broken (subst (λ n. IsClosed bytes (place_of n)) (sym same) spells.closed)
    by (inr (inl less)) = break_or_record bytes (length before) place (omega (arith, less, spells.records.few)) broken (record_at bytes refs spells.records (length before) less)
    by (inr (inr more)) =
        let is = record_at bytes before has (length refs) more in
        closed_or_open bytes (place_of (length refs)) spells.closed (record_open bytes (place_of (length refs)) is.ref is.stands)

-- a log breaks off at one place
no_gate : (bytes : List ℕ) (n : ℕ) → length bytes ≡ place_of n → IsOpen bytes (place_of n) → ⊥
no_gate bytes n ends opened = omega (arith, ends, open_there bytes (place_of n) opened)

one_field : (n : ℕ) (a b : WalRef) (byte other : ℕ) → a ≡ b → IsUnlawfulAt n a byte → IsUnlawfulAt n b other → byte ≡ other
one_field n a b byte other same (Writer wal) (Writer also) = refl
one_field n a b byte other same (Writer wal) (Segment lawful also) = absurd (omega (arith, wal, lawful, ap (λ (r : WalRef). r.wal) same))
one_field n a b byte other same (Segment lawful segment) (Writer also) = absurd (omega (arith, lawful, also, ap (λ (r : WalRef). r.wal) same))
one_field n a b byte other same (Segment lawful segment) (Segment _ also) = refl

one_break : (bytes : List ℕ) (n at other : ℕ) → IsBreak bytes n at → IsBreak bytes n other → at ≡ other
one_break bytes n at other (NoGate a) (NoGate b) = refl
one_break bytes n at other (NoGate a) (TooMany b _) = absurd (no_gate bytes n a b)
one_break bytes n at other (NoGate a) (CutRecord b _ _) = absurd (no_gate bytes n a b)
one_break bytes n at other (NoGate a) (BadRecord _ _ b) = absurd (no_gate bytes n a (record_open bytes (place_of n) b.ref b.stands))
one_break bytes n at other (TooMany a _) (NoGate b) = absurd (no_gate bytes n b a)
one_break bytes n at other (TooMany a full) (TooMany b also) = refl
one_break bytes n at other (TooMany a full) (CutRecord b less _) = absurd (omega (arith, full, less))
one_break bytes n at other (TooMany a full) (BadRecord _ less b) = absurd (omega (arith, full, less))
one_break bytes n at other (CutRecord a _ _) (NoGate b) = absurd (no_gate bytes n b a)
one_break bytes n at other (CutRecord a less _) (TooMany b full) = absurd (omega (arith, full, less))
one_break bytes n at other (CutRecord a less short) (CutRecord b also cut) = refl
one_break bytes n at other (CutRecord a less short) (BadRecord _ also b) = absurd (omega (arith, short, record_long bytes (place_of n) b.ref b.stands))
one_break bytes n at other (BadRecord _ _ a) (NoGate b) = absurd (no_gate bytes n b (record_open bytes (place_of n) a.ref a.stands))
one_break bytes n at other (BadRecord _ less a) (TooMany b full) = absurd (omega (arith, full, less))
one_break bytes n at other (BadRecord _ less a) (CutRecord b also short) = absurd (omega (arith, short, record_long bytes (place_of n) a.ref a.stands))
one_break bytes n at other (BadRecord byte less a) (BadRecord k also b) = ap (λ j. place_of n + j) (one_field n a.ref b.ref byte k same a.unlawful b.unlawful)
  where
    same : a.ref ≡ b.ref
    same = one_body bytes (place_of n + 1) a.ref b.ref a.fits b.fits (record_body bytes (place_of n) a.ref a.stands) (record_body bytes (place_of n) b.ref b.stands)

-- and at one record
two_breaks : (bytes : List ℕ) (refs others : List WalRef) (at other : ℕ) → HasRecords refs bytes → HasRecords others bytes → IsBreak bytes (length refs) at → IsBreak bytes (length others) other → at ≡ other
two_breaks bytes refs others at other has also first second = by (cases_order (length refs) (length others))
  where
    apart : (one two : List WalRef) (place : ℕ) → HasRecords two bytes → IsBreak bytes (length one) place → length one < length two → ⊥
    apart one two place more broken less = break_or_record bytes (length one) place (omega (arith, less, more.few)) broken (record_at bytes two more (length one) less)

    by : (length refs ≡ length others) ⊎ ((length refs < length others) ⊎ (length others < length refs)) → at ≡ other
    by (inl same) = one_break bytes (length others) at other (subst (λ n. IsBreak bytes n at) same first) second
    by (inr (inl less)) = absurd (apart refs others at also first less)
    by (inr (inr more)) = absurd (apart others refs other has second more)

-- a mark that is cut agrees with the mark
cut_same : (bytes : List ℕ) → bytes ≡ take (length bytes) mark → length bytes < 8 → take 8 bytes ≡ take (length bytes) mark
cut_same bytes same short = take_all 8 bytes (omega (arith, short)) ∙ same

pub one_damage : (bytes : List ℕ) (at other : ℕ) → IsDamaged bytes at → IsDamaged bytes other → at ≡ other
one_damage bytes at other (OtherMark a) (OtherMark b) = refl
one_damage bytes at other (OtherMark a) (CutMark same short) = absurd (a (cut_same bytes same short))
one_damage bytes at other (OtherMark a) (AtRecord refs place has broken) = absurd (a (mark_same bytes (mark_stands bytes refs has)))
one_damage bytes at other (CutMark same short) (OtherMark b) = absurd (b (cut_same bytes same short))
one_damage bytes at other (CutMark same short) (CutMark also cut) = refl
one_damage bytes at other (CutMark same short) (AtRecord refs place has broken) = absurd (omega (arith, short, mark_whole bytes (mark_stands bytes refs has)))
one_damage bytes at other (AtRecord refs place has broken) (OtherMark b) = absurd (b (mark_same bytes (mark_stands bytes refs has)))
one_damage bytes at other (AtRecord refs place has broken) (CutMark same short) = absurd (omega (arith, short, mark_whole bytes (mark_stands bytes refs has)))
one_damage bytes at other (AtRecord refs place has broken) (AtRecord others last also second) = two_breaks bytes refs others place last has also broken second
