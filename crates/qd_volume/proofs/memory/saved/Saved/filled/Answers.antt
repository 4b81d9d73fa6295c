use Rattle.std.proofs.Common.{◌≡◌, ℕ, List, length, reverse, refl, sym, ◌∙◌, ap, subst}
use Rattle.qd_volume.specs.Files.{File, Range}
use Rattle.qd_volume.specs.Crash.{FillsLost, IsFilled}
use Rattle.qd_volume.proofs.Filled.{filled_lost}
use Rattle.qd_volume.proofs.Grown.{whole}
use Rattle.qd_volume.proofs.memory.saved.Saved.filled.Goals as goal

pub returns : goal.returns
returns c =
    let inner = c.self.inside in
    let now = c.fill_lost.new.bytes in
    let from : FillsLost inner.reads.items inner.least c.deref.result.now now = subst (λ (l : List ℕ). FillsLost l inner.least c.deref.result.now now) c.deref_mut.ensures.value c.fill_lost.ensures in
    let lost : FillsLost inner.reads.items inner.least inner.named.items now = subst (λ (l : List Range). FillsLost inner.reads.items inner.least l now) c.deref.ensures.value from in
    let file : File = record { reads = inner.reads.items; synced = inner.synced.items; least = inner.least; named = reverse inner.named.items } in
    let filled : IsFilled file now = filled_lost file inner.named.items now refl lost in
    let size : length now ≡ length inner.reads.items = c.fill_lost.ensures.long ∙ ap length c.deref_mut.ensures.value in
    let len : inner.reads.len ≡ length inner.reads.items = sym c.deref_mut.ensures.len ∙ ap length c.deref_mut.ensures.value in
    rw (whole inner.reads.len now inner.reads.items size len) (subst (λ (f : File). IsFilled f now) c.self.view_is filled)
