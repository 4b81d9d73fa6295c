-- The bytes of records, and the gates in front of them.
use Rattle.std.proofs.Common.{◌≡◌, ◌⊎◌, inl, inr, ℕ, suc, ◌+◌, ◌*◌, ◌^◌, ◌<◌, ◌≤◌, nat_eq, Bool, true, false, List, [], ◌∷◌, ◌++◌, length, slice_index, refl, sym, ◌∙◌, ap, subst, arith, eq-eqb, length-append}
use Rattle.std.specs.Int.{to_le_bytes, w32, w64}
use Rattle.std.proofs.lemmas.Bool.{eqb-true}
use Rattle.std.proofs.lemmas.List.{append_assoc}
use Rattle.std.proofs.lemmas.List.Elements.{All-push}
use Rattle.qd_base.specs.declared.part.WalRef.{WalRef}
use Rattle.qd_durable.specs.Places.{StandsAt}
use Rattle.qd_durable.proofs.Standing.{stands_back, stands_by, stands_each, stands_front, stands_join, stands_room}
use Rattle.qd_seq.specs.Layout.{AreInSegments, AreLawful, HasRecords, IsClosed, IsLawful, IsOpen, body, mark, place_of, records, spelled}
use Rattle.qd_base.specs.declared.limits.TheConstants.{MAX_TXNS}

-- how long the parts are
pub wal_long : (n : ℕ) → length (to_le_bytes w32 n) ≡ 4
wal_long n = refl

pub start_long : (n : ℕ) → length (to_le_bytes w64 n) ≡ 8
start_long n = refl

pub body_long : (ref : WalRef) → length (body ref) ≡ 24
body_long ref =
    omega (arith, length-append (to_le_bytes w32 ref.wal) (to_le_bytes w32 ref.segment ++ (to_le_bytes w64 ref.start ++ to_le_bytes w64 ref.len)), length-append (to_le_bytes w32 ref.segment) (to_le_bytes w64 ref.start ++ to_le_bytes w64 ref.len), length-append (to_le_bytes w64 ref.start) (to_le_bytes w64 ref.len), wal_long ref.wal, wal_long ref.segment, start_long ref.start, start_long ref.len)

pub records_long : (refs : List WalRef) → length (records refs) ≡ 25 * length refs
records_long [] = refl
records_long (ref ∷ more) = omega (arith, length-append (1 ∷ body ref) (records more), body_long ref, records_long more)

pub spelled_long : (refs : List WalRef) → length (spelled refs) ≡ place_of (length refs)
spelled_long refs = omega (arith, length-append mark (records refs), records_long refs)

-- one more record
records_more : (refs : List WalRef) (ref : WalRef) → records (refs ++ ref ∷ []) ≡ records refs ++ (1 ∷ body ref)
records_more [] ref = append_nil (1 ∷ body ref)
  where
    append_nil : (l : List ℕ) → l ++ [] ≡ l
    append_nil [] = refl
    append_nil (x ∷ l) = ap (λ (m : List ℕ). x ∷ m) (append_nil l)
records_more (first ∷ more) ref =
    ap (λ (l : List ℕ). (1 ∷ body first) ++ l) (records_more more ref)
    ∙ sym (append_assoc (1 ∷ body first) (records more) (1 ∷ body ref))

pub spelled_more : (refs : List WalRef) (ref : WalRef) → spelled (refs ++ ref ∷ []) ≡ spelled refs ++ (1 ∷ body ref)
spelled_more refs ref = ap (λ (l : List ℕ). mark ++ l) (records_more refs ref) ∙ sym (append_assoc mark (records refs) (1 ∷ body ref))

pub count_more : (refs : List WalRef) (ref : WalRef) → length (refs ++ ref ∷ []) ≡ length refs + 1
count_more refs ref = length-append refs (ref ∷ [])

pub lawful_more : (n : ℕ) (refs : List WalRef) (ref : WalRef) → AreLawful n refs → IsLawful (n + length refs) ref → AreLawful n (refs ++ ref ∷ [])
lawful_more n [] ref are is = let e : n + 0 ≡ n = omega arith in (subst (λ k. IsLawful k ref) e is, tt)
lawful_more n (first ∷ more) ref are is =
    let e : n + suc (length more) ≡ suc n + length more = omega arith in
    (are.0, lawful_more (suc n) more ref are.1 (subst (λ k. IsLawful k ref) e is))

pub in_segments : (refs : List WalRef) (ref : WalRef) → AreInSegments refs → ref.segment < 2 ^ 24 → AreInSegments (refs ++ ref ∷ [])
in_segments refs ref are is = All-push (λ (r : WalRef). r.segment < 2 ^ 24) refs ref are is

-- a record stands behind the others
pub has_more : (refs : List WalRef) (ref : WalRef) (bytes : List ℕ) → HasRecords refs bytes → length refs < MAX_TXNS → IsLawful (length refs) ref → StandsAt bytes (place_of (length refs)) (1 ∷ body ref) → HasRecords (refs ++ ref ∷ []) bytes
has_more refs ref bytes has few lawful stands =
    let e : length refs ≡ 0 + length refs = omega arith in
    let behind : place_of (length refs) ≡ 0 + length (spelled refs) = omega (arith, spelled_long refs) in record {
      stand = subst (λ (l : List ℕ). StandsAt bytes 0 l) (sym (spelled_more refs ref))
          (stands_join bytes 0 (spelled refs) (1 ∷ body ref) has.stand (subst (λ n. StandsAt bytes n (1 ∷ body ref)) behind stands));
      lawful = lawful_more 0 refs ref has.lawful (subst (λ k. IsLawful k ref) e lawful);
      few = omega (arith, count_more refs ref, few);
    }

-- one byte
byte_stands : (bytes : List ℕ) (at gate : ℕ) → at < length bytes → slice_index bytes at ≡ gate → StandsAt bytes at (gate ∷ [])
byte_stands bytes at gate within is = stands_by bytes at (gate ∷ []) (λ some. omega (arith, within)) each
  where
    each : (i : ℕ) → i < 1 → slice_index bytes (at + i) ≡ slice_index (gate ∷ []) i
    each i below =
        let none : i ≡ 0 = omega arith in
        ap (λ k. slice_index bytes (at + k)) none ∙ ap (λ k. slice_index bytes k) (zero at) ∙ is ∙ ap (λ k. slice_index (gate ∷ []) k) (sym none)
      where
        zero : (n : ℕ) → n + 0 ≡ n
        zero n = omega arith

byte_is : (bytes : List ℕ) (at gate : ℕ) → StandsAt bytes at (gate ∷ []) → slice_index bytes at ≡ gate
byte_is bytes at gate stands = ap (λ k. slice_index bytes k) (zero at) ∙ stands_each bytes at (gate ∷ []) stands 0 (omega arith)
  where
    zero : (n : ℕ) → n ≡ n + 0
    zero n = omega arith

-- a gate is there
pub gate_there : (bytes : List ℕ) (at gate : ℕ) → StandsAt bytes at (gate ∷ []) → at < length bytes
gate_there bytes at gate stands = omega (arith, stands_room bytes at (gate ∷ []) stands (omega arith))

pub open_there : (bytes : List ℕ) (at : ℕ) → IsOpen bytes at → at < length bytes
open_there bytes at opened = gate_there bytes at 1 opened

pub closed_there : (bytes : List ℕ) (at : ℕ) → IsClosed bytes at → at < length bytes
closed_there bytes at closed = gate_there bytes at closed.gate closed.there

-- a closed gate isn't open
pub closed_or_open : (bytes : List ℕ) (at : ℕ) → IsClosed bytes at → IsOpen bytes at → ⊥
closed_or_open bytes at closed opened = closed.not_open (sym (byte_is bytes at closed.gate closed.there) ∙ byte_is bytes at 1 opened)

-- a gate is open or not
pub judged : (bytes : List ℕ) (at : ℕ) → at < length bytes → IsClosed bytes at ⊎ IsOpen bytes at
judged bytes at within = by (nat_eq (slice_index bytes at) 1) refl
  where
    by : (opened : Bool) → nat_eq (slice_index bytes at) 1 ≡ opened → IsClosed bytes at ⊎ IsOpen bytes at
    by true e = inr (byte_stands bytes at 1 within (eqb-true (slice_index bytes at) 1 e))
    by false e = inl (record {
      gate = slice_index bytes at;
      there = byte_stands bytes at (slice_index bytes at) within refl;
      not_open = λ same. let h : nat_eq (slice_index bytes at) 1 ≡ true = eq-eqb (slice_index bytes at) 1 same in cc;
    })

pub first_open : (bytes : List ℕ) (at : ℕ) → at < length bytes → slice_index bytes at ≡ 1 → IsOpen bytes at
first_open bytes at within is = byte_stands bytes at 1 within is

pub first_closed : (bytes : List ℕ) (at : ℕ) → at < length bytes → (slice_index bytes at ≡ 1 → ⊥) → IsClosed bytes at
first_closed bytes at within not = record { gate = slice_index bytes at; there = byte_stands bytes at (slice_index bytes at) within refl; not_open = not }

-- an open gate, and what is behind it
pub record_open : (bytes : List ℕ) (at : ℕ) (ref : WalRef) → StandsAt bytes at (1 ∷ body ref) → IsOpen bytes at
record_open bytes at ref stands = stands_front bytes at (1 ∷ []) (body ref) stands

pub record_body : (bytes : List ℕ) (at : ℕ) (ref : WalRef) → StandsAt bytes at (1 ∷ body ref) → StandsAt bytes (at + 1) (body ref)
record_body bytes at ref stands = stands_back bytes at (1 ∷ []) (body ref) stands

pub record_stands : (bytes : List ℕ) (at : ℕ) (ref : WalRef) → IsOpen bytes at → StandsAt bytes (at + 1) (body ref) → StandsAt bytes at (1 ∷ body ref)
record_stands bytes at ref opened stands = stands_join bytes at (1 ∷ []) (body ref) opened stands

pub record_long : (bytes : List ℕ) (at : ℕ) (ref : WalRef) → StandsAt bytes at (1 ∷ body ref) → at + 25 ≤ length bytes
record_long bytes at ref stands = omega (arith, stands_room bytes at (1 ∷ body ref) stands (omega arith), body_long ref)

-- a gate of 0 is closed
pub zero_closed : (bytes : List ℕ) (at : ℕ) → StandsAt bytes at (0 ∷ []) → IsClosed bytes at
zero_closed bytes at stands = record { gate = 0; there = stands; not_open = λ e. omega arith }
