use Rattle.std.proofs.Common.{◌≡◌, ℕ, ◌+◌, ◌-◌, List, [], ◌∷◌, ◌++◌, length, take, drop, sym, ◌∙◌, ap, subst, arith, length-drop}
use Rattle.std.proofs.lemmas.List.{take_rest}
use Rattle.qd_base.specs.declared.part.WalRef.{WalRef}
use Rattle.qd_seq.specs.Layout.{AreInSegments, HasRecords, IsLawful, place_of}
use Rattle.qd_seq.specs.Reading.{IsEnd}
use Rattle.qd_seq.proofs.ReadLemmas.{taken_end, taken_more}
use Rattle.qd_seq.proofs.Records.{count_more, in_segments, record_long}
use Rattle.qd_seq.proofs.reading.take_records.Goals as goal

pub records-preserved : goal.records-preserved
records-preserved c =
    let refs = c.records.refs.items in
    let piece = c.args.piece.now in
    let rest : List ℕ = take (length piece - c.records.at) (drop c.records.at piece) in
    let rest_is : rest ≡ drop c.records.at piece = take_rest piece c.records.at in
    let seen = c.in-Entry.ensures.seen in
    let count : c.len.result ≡ length refs = c.len.ensures ∙ c.records.refs.ok.0 in
    let items : c.push.new.self.items ≡ refs ++ c.in-Entry.place ∷ [] = c.in_ok-push-in-Entry.ensures.items in
    let more : length c.push.new.self.items ≡ length refs + 1 = ap (λ (l : List WalRef). length l) items ∙ count_more refs c.in-Entry.place in
    record {
      within = omega (arith, record_long rest 0 c.in-Entry.place seen.2, ap (λ (l : List ℕ). length l) rest_is, length-drop c.records.at piece);
      placed = omega (arith, more, c.records.invariant.placed);
      few = omega (arith, more, count, seen.0);
      segments = subst (λ (l : List WalRef). AreInSegments l) (sym items) (in_segments refs c.in-Entry.place c.records.invariant.segments seen.1.segment);
      taken = λ bytes has stands. subst (λ (l : List WalRef). HasRecords l bytes) (sym items)
          (taken_more bytes piece rest (place_of (length c.args.refs.now.items)) c.records.at c.records.invariant.within rest_is refs c.records.invariant.placed c.in-Entry.place stands (c.records.invariant.taken bytes has stands)
          (omega (arith, count, seen.0)) (subst (λ k. IsLawful k c.in-Entry.place) count seen.1) seen.2);
    }

pub returns-in-Ends-clause-taken : goal.returns-in-Ends-clause-taken
returns-in-Ends-clause-taken c bytes has stands =
    let refs = c.records.refs.items in
    let piece = c.args.piece.now in
    let rest : List ℕ = take (length piece - c.records.at) (drop c.records.at piece) in
    let count : c.len.result ≡ length refs = c.len.ensures ∙ c.records.refs.ok.0 in
    taken_end bytes piece rest (place_of (length c.args.refs.now.items)) c.records.at c.records.invariant.within (take_rest piece c.records.at) refs c.records.invariant.placed c.in-Ends.end
    (subst (λ k. IsEnd c.in-Ends.end k rest) count c.in-Ends.ensures.seen) stands (c.records.invariant.taken bytes has stands)
