use Rattle.std.proofs.Common.{◌≡◌, ℕ, List, ◌∙◌, sym, ap, subst}
use Rattle.std.specs.Ordering.{nat_cmp}
use Rattle.std.specs.BTreeMap.{get}
use Rattle.qd_volume.specs.Disk.{Disk, changed, file_of}
use Rattle.qd_volume.specs.Files.{Synced, Wrote}
use Rattle.qd_volume.proofs.Left.{IsDone, done_next}
use Rattle.qd_volume.proofs.memory.volume.MemVolume.leave.Goals as goal

pub loop-file-preserved : goal.loop-file-preserved
loop-file-preserved c =
    let before = c.args.self.disk in
    let after = c.loop-file.volume.disk in
    let file = c.in-Some.file in
    let image = c.image.result.items in
    let disk : c.keep.new.self.disk ≡ changed (changed after file (Wrote 0 image)) file Synced = c.in_ok-keep.ensures.disk ∙ ap (λ (l : List ℕ). changed (changed after file (Wrote 0 l)) file Synced) c.deref-in-Some.ensures.value in
    record {
      plan = c.keep.ensures.plan ∙ c.loop-file.invariant.plan;
      each = λ other. subst (λ (d : Disk). IsDone c.args.pick (file_of before other) (get nat_cmp c.pop_first.new.self other) (file_of d other)) (sym disk)
          (done_next c.args.pick before after file c.in-Some.state image (get nat_cmp c.loop-file.states) (get nat_cmp c.pop_first.new.self) c.loop-file.invariant.each c.in-Some.ensures.updates.0 c.in-Some.ensures.value c.image.ensures other);
    }
