use Rattle.std.proofs.Common.{◌≡◌, pos, get_or, inl, inr, sym, subst, FitsSigned, arith, rules}
use Rattle.std.specs.Int.{w64}
use Rattle.std.proofs.lemmas.Bool.{cases_lt}
use Rattle.std.proofs.lemmas.List.{get_or_default}
use Rattle.qd_column_format.proofs.words.are_longs.Goals as goal

pub loop-i-preserved : goal.loop-i-preserved
loop-i-preserved c =
    let numbers = c.args.numbers.now in
    let this : FitsSigned w64 (get_or numbers c.loop-i.i (pos 0)) = search rules in
    λ k lt. elim (cases_lt k c.loop-i.i) [
      | inl before ↦ c.loop-i.invariant k before
      | inr here ↦ (let is : k ≡ c.loop-i.i = omega arith in subst (λ n. FitsSigned w64 (get_or numbers n (pos 0))) (sym is) this)
    ]

pub returns : goal.returns
returns c = record { fit = λ k d lt. subst (FitsSigned w64) (get_or_default c.args.numbers.now k (pos 0) d lt) (c.loop-i.invariant k (omega arith)) }
