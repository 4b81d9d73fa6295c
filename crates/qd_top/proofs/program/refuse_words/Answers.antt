use Rattle.std.proofs.Common.{[], inl, inr, refl}
use Rattle.qd_top.proofs.RunLemmas.{usage-from_writes_all, usage-from_fault}
use Rattle.qd_top.proofs.program.refuse_words.Goals as goal

pub returns-in-Ok-clause-usage : goal.returns-in-Ok-clause-usage
returns-in-Ok-clause-usage g c = λ e. ([], usage-from_writes_all _ _ _ refl c.in-Ok.ensures.told, inl refl)

pub returns-in-Err-Failed-clause-usage : goal.returns-in-Err-Failed-clause-usage
returns-in-Err-Failed-clause-usage g c =
    λ e. let t = usage-from_fault _ _ _ c.in-Err-Failed.field-0 refl c.in-Err-Failed.ensures.told in
    let counted = rw c.in-Err-Failed.field-0-is at c.in-Err-Failed.ensures.counted in
    (t.0, t.1, inr counted.1)

pub returns-in-Ok-clause-front : goal.returns-in-Ok-clause-front
returns-in-Ok-clause-front g c = ([], usage-from_writes_all _ _ _ refl c.in-Ok.ensures.told)

pub returns-in-Err-Failed-clause-front : goal.returns-in-Err-Failed-clause-front
returns-in-Err-Failed-clause-front g c = usage-from_fault _ _ _ c.in-Err-Failed.field-0 refl c.in-Err-Failed.ensures.told

pub returns-in-Err-Memory-clause-front : goal.returns-in-Err-Memory-clause-front
returns-in-Err-Memory-clause-front g c = usage-from_fault _ _ _ c.in-Err-Memory.field-0 refl c.in-Err-Memory.ensures.told
