use Rattle.std.proofs.Common.{ℕ, List, Option, IfSome, sym, subst}
use Rattle.qd_volume.specs.Disk.{Disk, reads_of}
use Rattle.qd_txnfile.specs.Reading.{IsHeadOf}
use Rattle.qd_txnfile.proofs.GivenLemmas.{head_given}
use Rattle.qd_txnfile.proofs.ReadLemmas.{newest_ok}
use Rattle.qd_txnfile.proofs.reading.read_newest.Goals as goal

pub returns-clause-told : goal.returns-clause-told
returns-clause-told g c =
    let disk = (g.V.Volume.storage c.args.volume.now).disk in
    let first = subst (λ (l : List ℕ). IfSome disk (λ d. IsHeadOf l (reads_of d 2))) (sym c.shown.ensures.same) c.in_ok-first.ensures.told in
    let second = subst (λ (l : List ℕ). IfSome disk (λ d. IsHeadOf l (reads_of d 3))) (sym c.shown-2.ensures.same)
    (subst (λ (m : Option Disk). IfSome m (λ d. IsHeadOf c.in_ok-second.second (reads_of d 3))) c.in_ok-first.ensures.stays c.in_ok-second.ensures.told) in
    newest_ok disk c.shown.result.now c.shown-2.result.now c.in_ok-newest.newest first second c.in_ok-newest.ensures.newest

pub returns-clause-given : goal.returns-clause-given
returns-clause-given g c =
    let first = subst (λ (l : List ℕ). g.V.Volume.gives 2 0 l) (sym c.shown.ensures.same) c.in_ok-first.ensures.given in
    let second = subst (λ (l : List ℕ). g.V.Volume.gives 3 0 l) (sym c.shown-2.ensures.same) c.in_ok-second.ensures.given in
    head_given g.V.Volume.gives c.shown.result.now c.shown-2.result.now c.in_ok-newest.newest c.shown.ensures.few c.shown-2.ensures.few first second c.in_ok-newest.ensures.newest
