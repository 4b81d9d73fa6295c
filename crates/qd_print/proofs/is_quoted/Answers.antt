use Rattle.std.proofs.Common.{rules, ◌||◌, ◌==◌, tests}
use Rattle.std.proofs.lemmas.Iterator.{YieldsList-from_slice}
use Rattle.std.proofs.lemmas.Iterator.Search.{any_from_yields_List}
use Rattle.qd_print.proofs.is_quoted.Goals as goal

pub returns-else-is_empty : goal.returns-else-is_empty
returns-else-is_empty c =
    let e = any_from_yields_List (λ b. b == 34 || b == 44 || b == 13 || b == 10) _ _ c.any.result c.any.ensures.ran (YieldsList-from_slice c.args.text.now cc) (λ x b q k. search (rules, tests)) in
    let h = c.if-is_empty.ensures in
    rw (← h) e
