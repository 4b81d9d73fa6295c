use Rattle.std.proofs.Common.{◌≡◌, ◌∙◌, ℕ, sym, subst}
use Rattle.qd_durable.specs.Faults.{CountsVol}
use Rattle.qd_wal.proofs.reading.read_entry.Goals as goal

pub returns-clause-counted : goal.returns-clause-counted
returns-clause-counted g c =
    let before = (g.V.Volume.storage c.args.volume.now).faults in
    let same : (g.V.Volume.storage c.read_part.new.volume).faults ≡ before = c.in_ok-bytes.ensures.counted ∙ c.in_ok-len.ensures.counted in
    subst (λ (now : ℕ). CountsVol before now c.judge.result) (sym same) (c.judge.ensures.counted before)
