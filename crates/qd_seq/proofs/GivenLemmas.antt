-- What reads gave of a log, piece by piece.
use Rattle.std.proofs.Common.{◌≡◌, ◌⊎◌, inl, inr, ℕ, ◌+◌, ◌-◌, ◌<◌, ◌≤◌, List, [], ◌∷◌, ◌++◌, length, take, drop, slice_index, Result, Ok, Err, OnOk, refl, sym, ◌∙◌, ap, subst, arith, length-append}
use Rattle.std.proofs.lemmas.Bool.{cases_lt}
use Rattle.std.proofs.lemmas.List.{get_or_append_left, get_or-append_right, take_all}
use Rattle.std.proofs.Math.Seq.{drop-append_seam, take-append_seam, take-length}
use Rattle.qd_base.specs.declared.part.WalRef.{WalRef}
use Rattle.qd_durable.specs.Places.{StandsAt}
use Rattle.qd_durable.specs.declared.fault.LogFault.{LogFault}
use Rattle.qd_durable.proofs.Standing.{stands_each, stands_room}
use Rattle.qd_seq.specs.declared.reading.End.TheVariants as end
use Rattle.qd_seq.specs.Layout.{HasRecords, mark, place_of, spelled}
use Rattle.qd_seq.specs.Reading.{AreGiven, IsGiven, IsGivenByte, IsMarked, IsSoFar}
use Rattle.qd_seq.proofs.ReadLemmas.{none_taken, piece_closed}
use Rattle.qd_seq.proofs.Records.{spelled_long}
use Rattle.qd_seq.proofs.ToldReads.{Taking}

module _ (gives : ℕ → ℕ → List ℕ → Type 0) where
  -- what was given so far, and what a read behind it gave
  given_more : (a b : List ℕ) → AreGiven gives a → gives 1 (length a) b → AreGiven gives (a ++ b)
  given_more a b had given i within = by (cases_lt i (length a))
    where
      by : (i < length a) ⊎ (length a ≤ i) → IsGivenByte gives i (slice_index (a ++ b) i)
      by (inl lt) = subst (λ n. IsGivenByte gives i n) (sym (get_or_append_left a b 0 i lt)) (had i lt)
      by (inr le) = record {
        from = length a;
        part = b;
        given = given;
        behind = le;
        within = omega (arith, within, length-append a b);
        same = sym (get_or-append_right a b (length a) i 0 refl le);
      }

  -- the front of what was given
  given_front : (whole part : List ℕ) → AreGiven gives whole → StandsAt whole 0 part → AreGiven gives part
  given_front whole part had stands i within =
      let room : length part ≤ length whole = omega (arith, stands_room whole 0 part stands (omega (arith, within))) in
      let none : 0 + i ≡ i = omega arith in
      let same : slice_index whole i ≡ slice_index part i = ap (λ k. slice_index whole k) (sym none) ∙ stands_each whole 0 part stands i within in
      subst (λ n. IsGivenByte gives i n) same (had i (omega (arith, within, room)))

  -- the mark alone
  pub mark_so_far : (part : List ℕ) → length part ≤ 8 → gives 1 0 part → ((whole : List ℕ) → part ≡ take 8 whole → StandsAt whole 0 mark) → IsSoFar gives []
  mark_so_far part short given says =
      let stands : StandsAt part 0 mark = says part (sym (take_all 8 part short)) in
      let all : AreGiven gives part = given_more [] part (λ i lt. absurd (omega (arith, lt))) given in
      record { given = given_front part mark all stands; records = none_taken mark refl }

  pub mark_given : {T : Type 0} (part : List ℕ) (result : Result T LogFault) → length part ≤ 8 → gives 1 0 part → ((whole : List ℕ) → part ≡ take 8 whole → IsMarked result whole) → OnOk result (IsSoFar gives [])
  mark_given part (Ok done) short given says = mark_so_far part short given says
  mark_given part (Err cause) short given says = tt

  -- records that bytes begin with are those of their own bytes
  own_records : (refs : List WalRef) (bytes : List ℕ) → HasRecords refs bytes → HasRecords refs (spelled refs)
  own_records refs bytes has = record { stand = take-length (spelled refs); lawful = has.lawful; few = has.few }

  -- a piece behind the records so far
  module _ (refs more : List WalRef) (at : ℕ) (part : List ℕ) (is : at ≡ place_of (length refs)) (given : gives 1 at part) (so_far : IsSoFar gives refs) where
    abbrev whole : List ℕ
    whole = spelled refs ++ part

    long : length (spelled refs) ≡ at
    long = spelled_long refs ∙ sym is

    whole_given : AreGiven gives whole
    whole_given = given_more (spelled refs) part so_far.given (subst (λ n. gives 1 n part) (sym long) given)

    whole_records : HasRecords refs whole
    whole_records = record { stand = take-append_seam (spelled refs) part; lawful = so_far.records.lawful; few = so_far.records.few }

    part_stands : StandsAt whole (place_of (length refs)) part
    part_stands = subst (λ n. take (length part) (drop n whole) ≡ part) (spelled_long refs) (ap (λ (l : List ℕ). take (length part) l) (drop-append_seam (spelled refs) part) ∙ take-length part)

    pub closed_given : Taking end.Closed refs more part → IsGiven gives more
    closed_given taken = record { bytes = whole; given = whole_given; spelled = piece_closed more (place_of (length refs) + length part) whole (taken whole whole_records part_stands) }

    pub full_given : Taking end.Cut refs more part → IsSoFar gives more
    full_given taken =
        let are = taken whole whole_records part_stands in
        record { given = given_front whole (spelled more) whole_given are.records.stand; records = own_records more whole are.records }
