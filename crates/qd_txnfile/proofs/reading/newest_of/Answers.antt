use Rattle.std.proofs.Common.{sym, subst}
use Rattle.qd_txnfile.specs.declared.half.Half.{Half}
use Rattle.qd_txnfile.specs.Reading.{IsHeadOf}
use Rattle.qd_txnfile.specs.Versions.{file_of}
use Rattle.qd_txnfile.proofs.ReadLemmas.{found_kept}
use Rattle.qd_txnfile.proofs.reading.newest_of.Goals as goal

pub returns-in-First-clause-newest : goal.returns-in-First-clause-newest
returns-in-First-clause-newest c image first second =
    c.with_size.ensures.newest image (subst (λ (h : Half). IsHeadOf c.args.first.now (image (file_of h))) (sym c.in-First.is) first) (c.in_ok-choice.ensures.judged image first second)

pub returns-in-First-clause-found : goal.returns-in-First-clause-found
returns-in-First-clause-found c = found_kept c.with_size.result _ c.with_size.ensures.other c.in_ok-choice.ensures.found

pub returns-in-Second-clause-newest : goal.returns-in-Second-clause-newest
returns-in-Second-clause-newest c image first second =
    c.with_size-in-Second.ensures.newest image (subst (λ (h : Half). IsHeadOf c.args.second.now (image (file_of h))) (sym c.in-Second.is) second) (c.in_ok-choice.ensures.judged image first second)

pub returns-in-Second-clause-found : goal.returns-in-Second-clause-found
returns-in-Second-clause-found c = found_kept c.with_size-in-Second.result _ c.with_size-in-Second.ensures.other c.in_ok-choice.ensures.found
