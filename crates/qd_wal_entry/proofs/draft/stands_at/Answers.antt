use Rattle.std.proofs.Common.{◌≡◌, ℕ, List, Some, slice_get, subst, arith}
use Rattle.std.proofs.lemmas.Bool.Decides.{Decides-eqb}
use Rattle.std.proofs.lemmas.Slice.Eq.{slice_eq-Decides}
use Rattle.qd_wal_entry.proofs.DictionaryLemmas.{found_there}
use Rattle.qd_wal_entry.proofs.draft.stands_at.Goals as goal

pub returns-then-id-len : goal.returns-then-id-len
returns-then-id-len c = record {
  there = λ same.
      let texts = c.args.texts.now in
      let is : c.text_of.result.now ≡ c.args.text.now = (slice_eq-Decides Decides-eqb c.text_of.result.now c.args.text.now c.eq.result c.eq.ensures).0 same in
      found_there texts c.args.id c.args.text.now c.len.ensures.distinct (omega (arith, c.if-id-len.true, c.len.ensures.count)) (subst (λ (t : List ℕ). slice_get texts c.args.id ≡ Some t) is c.text_of.ensures.text);
}
