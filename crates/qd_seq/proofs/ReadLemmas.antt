-- What is read of a log, record by record and piece by piece.
use Rattle.std.proofs.Common.{◌≡◌, ◌⊎◌, inl, inr, ℕ, ◌+◌, ◌-◌, ◌<◌, ◌≤◌, min, nat_le, Bool, true, false, not, List, [], ◌∷◌, ◌++◌, length, take, drop, Result, Ok, Err, IfErr, refl, sym, ◌∙◌, ap, subst, arith, length-drop}
use Rattle.std.specs.Str.{bytes_eq}
use Rattle.std.proofs.lemmas.Bool.Decides.{nat_tests}
use Rattle.std.proofs.lemmas.Slice.Eq.{bytes_eq-Decides}
use Rattle.std.proofs.lemmas.List.{length-take, take_all}
use Rattle.qd_io.specs.Ends.{Counts}
use Rattle.qd_io.specs.declared.fault.IoFault.{IoFault}
use Rattle.qd_io.specs.declared.fault.IoFault.TheVariants as io
use Rattle.qd_base.specs.declared.part.WalRef.{WalRef}
use Rattle.qd_durable.specs.Faults.{CountsVol, vol_of}
use Rattle.qd_durable.specs.Places.{StandsAt}
use Rattle.qd_durable.specs.declared.fault.LogFault.{LogFault}
use Rattle.qd_durable.specs.declared.fault.LogFault.TheVariants as fault
use Rattle.qd_durable.proofs.Standing.{stands_room}
use Rattle.qd_seq.specs.declared.reading.End.{End}
use Rattle.qd_seq.specs.declared.reading.End.TheVariants as end
use Rattle.qd_seq.specs.Layout.{Fits, HasRecords, IsLawful, IsOpen, SpellsLog, body, mark, place_of, spelled}
use Rattle.qd_seq.specs.Damage.{AtRecord, BadRecord, CutMark, CutRecord, IsDamaged, NoGate, OtherMark, TooMany}
use Rattle.qd_seq.specs.Reading.{AreTaken, EndsAt, IsBadRest, IsBroken, IsEnd, IsOfBytes, IsTooMany, IsUsedUp}
use Rattle.qd_seq.proofs.PieceLemmas.{rest_stands, stands_through}
use Rattle.qd_seq.proofs.Records.{has_more, spelled_long}
use Rattle.qd_base.specs.declared.limits.TheConstants.{MAX_TXNS}

-- a fault of the volume breaks no layout
pub broken_by_volume : (bytes : List ℕ) (cause : IoFault) → IsBroken bytes (vol_of cause)
broken_by_volume bytes io.Failed = tt
broken_by_volume bytes io.Memory = tt

-- a fault of the volume, counted
pub counted_vol : (T U : Type 0) (before now : ℕ) (cause : IoFault) → Counts {T = T} before now (Err cause) → CountsVol {T = U} before now (Err (vol_of cause))
counted_vol T U before now io.Failed counts = counts
counted_vol T U before now io.Memory counts = counts

-- the first bytes of a log, and its mark
module _ (bytes whole : List ℕ) (is : bytes ≡ take 8 whole) where
  first_long : length bytes ≡ min 8 (length whole)
  first_long = ap length is ∙ length-take 8 whole

  mark_part : take (length bytes) mark ≡ take (length whole) mark
  mark_part = by (nat_le 8 (length whole)) refl
    where
      by : (full : Bool) → nat_le 8 (length whole) ≡ full → take (length bytes) mark ≡ take (length whole) mark
      by true e =
          let enough : 8 ≤ length whole = grind (arith, nat_tests) in
          take_all (length bytes) mark (omega (arith, first_long, enough)) ∙ sym (take_all (length whole) mark (omega (arith, enough)))
      by false e =
          let few : length whole < 8 = grind (arith, nat_tests) in
          ap (λ n. take n mark) (omega (arith, first_long, few))

  pub other_mark : (bytes ≡ take (length bytes) mark → ⊥) → IsDamaged whole 0
  other_mark not = OtherMark (λ same. not (is ∙ same ∙ sym mark_part))

  pub cut_mark : bytes ≡ take (length bytes) mark → length bytes < 8 → IsDamaged whole (length bytes)
  cut_mark same short =
      let few : length whole < 8 = omega (arith, first_long, short) in
      let all : bytes ≡ whole = is ∙ take_all 8 whole (omega (arith, few)) in
      subst (λ (l : List ℕ). IsDamaged l (length bytes)) all (CutMark same short)

  pub whole_mark : bytes ≡ take (length bytes) mark → 8 ≤ length bytes → StandsAt whole 0 mark
  whole_mark same long = sym is ∙ same ∙ take_all (length bytes) mark (omega (arith, long))

-- what a comparison of slices says
pub apart : (bytes part : List ℕ) (test : Bool) → test ≡ not (bytes_eq bytes part) → test ≡ true → bytes ≡ part → ⊥
apart bytes part test is holds same =
    let e : bytes_eq bytes part ≡ true = (bytes_eq-Decides bytes part).1 same in
    let h : true ≡ false = sym holds ∙ is ∙ ap not e in cc

pub alike : (bytes part : List ℕ) (test : Bool) → test ≡ not (bytes_eq bytes part) → test ≡ false → bytes ≡ part
alike bytes part test is fails = (bytes_eq-Decides bytes part).0 (by (bytes_eq bytes part) (sym fails ∙ is))
  where
    by : (b : Bool) → false ≡ not b → b ≡ true
    by true e = refl
    by false e = cc

-- a log without a record has its mark
pub none_taken : (bytes : List ℕ) → StandsAt bytes 0 mark → HasRecords [] bytes
none_taken bytes stands = record { stand = stands; lawful = tt; few = omega arith }

-- a log is as long as its records
pub records_within : (refs : List WalRef) (bytes : List ℕ) → HasRecords refs bytes → place_of (length refs) ≤ length bytes
records_within refs bytes has = omega (arith, spelled_long refs, stands_room bytes 0 (spelled refs) has.stand (omega (arith, spelled_long refs)))

-- the rest of a piece behind some records, in the bytes of the log
module _ (bytes piece rest : List ℕ) (from at : ℕ) (within : at ≤ length piece) (is : rest ≡ drop at piece) (refs : List WalRef) (placed : place_of (length refs) ≡ from + at) where
  lifted : (part : List ℕ) → StandsAt bytes from piece → StandsAt rest 0 part → StandsAt bytes (place_of (length refs)) part
  lifted part outer inner = subst (λ n. StandsAt bytes n part) (sym placed) (stands_through bytes (from + at) rest part (rest_stands bytes from at piece rest within is outer) inner)

  -- one more record
  pub taken_more : (ref : WalRef) → StandsAt bytes from piece → HasRecords refs bytes → length refs < MAX_TXNS → IsLawful (length refs) ref → StandsAt rest 0 (1 ∷ body ref) → HasRecords (refs ++ ref ∷ []) bytes
  taken_more ref outer has few lawful stands = has_more refs ref bytes has few lawful (lifted (1 ∷ body ref) outer stands)

  rest_long : length rest ≡ length piece - at
  rest_long = ap length is ∙ length-drop at piece

  -- none
  pub taken_end : (last : End) → IsEnd last (length refs) rest → StandsAt bytes from piece → HasRecords refs bytes → AreTaken last refs (from + length piece) bytes
  taken_end last ends outer has = record { records = has; ends = by last ends }
    where
      by : (last : End) → IsEnd last (length refs) rest → EndsAt last (length refs) (from + length piece) bytes
      by end.Closed closed = record { gate = closed.gate; there = lifted (closed.gate ∷ []) outer closed.there; not_open = closed.not_open }
      by end.Cut (inl none) = inl (omega (arith, placed, ap length none, rest_long, within))
      by end.Cut (inr cut) = inr (lifted (1 ∷ []) outer cut.0, cut.1, omega (arith, placed, cut.2, rest_long, within))
      by (end.Broken byte) bad = broken (lifted (1 ∷ []) outer bad.0) bad.1
        where
          broken : IsOpen bytes (place_of (length refs)) → IsTooMany (length refs) byte ⊎ IsBadRest (length refs) byte rest → IsDamaged bytes (place_of (length refs) + byte)
          broken opened (inl full) =
              let at : place_of (length refs) ≡ place_of (length refs) + byte = omega (arith, full.1) in
              subst (λ k. IsDamaged bytes k) at (AtRecord refs (place_of (length refs)) has (TooMany opened full.0))
          broken opened (inr bad) = AtRecord refs (place_of (length refs) + byte) has (BadRecord byte bad.0 (record { ref = bad.1; fits = bad.2; stands = lifted (1 ∷ body bad.1) outer bad.3; unlawful = bad.4 }))

-- what is said of the bytes alone is counted as no fault
pub counted_bytes : {T : Type 0} (before now : ℕ) (result : Result T LogFault) → now ≡ before → IfErr result IsOfBytes → CountsVol before now result
counted_bytes before now (Ok done) same is = same
counted_bytes before now (Err fault.Vol) same is = absurd is
counted_bytes before now (Err (fault.Damaged file at)) same is = same
counted_bytes before now (Err fault.Memory) same is = same

-- how much of a piece is left where it is cut
pub used_up : (piece rest : List ℕ) (at before now : ℕ) (last : End) → at ≤ length piece → rest ≡ drop at piece → place_of now ≡ place_of before + at → IsEnd last now rest → IsUsedUp last before now (length piece)
used_up piece rest at before now end.Closed within is placed ends = tt
used_up piece rest at before now (end.Broken byte) within is placed ends = tt
used_up piece rest at before now end.Cut within is placed (inl none) = omega (arith, within, ap length is, length-drop at piece, placed, ap length none)
used_up piece rest at before now end.Cut within is placed (inr cut) = omega (arith, within, ap length is, length-drop at piece, placed, cut.2)

-- what is said of a piece that was read behind some records
pub piece_closed : (refs : List WalRef) (limit : ℕ) (bytes : List ℕ) → AreTaken end.Closed refs limit bytes → SpellsLog refs bytes
piece_closed refs limit bytes taken = record { records = taken.records; closed = taken.ends }

pub piece_cut : (refs : List WalRef) (limit : ℕ) (bytes : List ℕ) → length bytes ≡ limit → AreTaken end.Cut refs limit bytes → IsDamaged bytes limit
piece_cut refs limit bytes ends taken = subst (λ n. IsDamaged bytes n) ends (by taken.ends)
  where
    by : EndsAt end.Cut (length refs) limit bytes → IsDamaged bytes (length bytes)
    by (inl none) = AtRecord refs (length bytes) taken.records (NoGate (ends ∙ none))
    by (inr cut) = AtRecord refs (length bytes) taken.records (CutRecord cut.0 cut.1 (omega (arith, ends, cut.2)))
