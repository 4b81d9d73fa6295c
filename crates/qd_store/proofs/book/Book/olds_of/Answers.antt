use Rattle.std.proofs.Common.{ℕ, ◌∙◌, ◌+◌, [], IfSome, List, Option, Some, None, refl, subst, sym, take}
use Rattle.std.specs.List.{AllZip}
use Rattle.std.proofs.lemmas.Result.{err_from_is_err_and}
use Rattle.qd_apply.specs.declared.olds.Late.{Late}
use Rattle.qd_apply.specs.declared.olds.OldPart.{OldPart}
use Rattle.qd_apply.specs.Olds.{all_late}
use Rattle.qd_manifest.specs.declared.shape.TableParts.{TableParts}
use Rattle.qd_volume.specs.Disk.{Disk, reads_of}
use Rattle.qd_store.specs.Drafting.{IsReadOf}
use Rattle.qd_store.proofs.OldsRead.{AreOf, all_are_read, all_files, files_failed, files_memory, files_more, next_there, read_more}
use Rattle.qd_store.proofs.book.Book.olds_of.Goals as goal

abbrev no_part : Late
no_part = record { table = 0; part = 0; first = 0 }

none_of : (split : ℕ) (shape : List TableParts) (o : Option Disk) → IfSome o (λ disk. AreOf split shape [] [] (reads_of disk))
none_of split shape None = tt
none_of split shape (Some disk) = tt

pub loop-late-init : goal.loop-late-init
loop-late-init g c = record {
  stays = refl;
  counted = refl;
  read = subst (λ (l : List OldPart). AllZip (IsReadOf c.args.plan.now.split_rows c.args.plan.now.shape) [] l) (sym c.new-olds.ensures.items) tt;
  files = subst (λ (l : List OldPart). IfSome (g.V.Volume.storage c.args.volume.now).disk (λ disk. AreOf c.args.plan.now.split_rows c.args.plan.now.shape [] l (reads_of disk))) (sym c.new-olds.ensures.items)
      (none_of c.args.plan.now.split_rows c.args.plan.now.shape (g.V.Volume.storage c.args.volume.now).disk);
}

pub old_at-requires : goal.old_at-requires
old_at-requires g c = record {
  there = next_there c.args.self.now c.args.plan.now.written c.args.plan.now.split_rows c.args.plan.now.shape c.args.plan.now.tables c.late-late-items.result.now c.late-late-items.ensures.late c.requires.of.0 c.requires.of.1 c.requires.of.2 c.loop-late.late-index no_part c.loop-late-test.true;
}

pub returns-in_err-old-clause-files : goal.returns-in_err-old-clause-files
returns-in_err-old-clause-files g c =
    let p = err_from_is_err_and c.from_residual.result c.from_residual.ensures.1 in
    rw p.1 (rw p.2 (files_failed c.args.self.now c.args.plan.now.written c.args.plan.now.split_rows c.args.plan.now.shape c.args.plan.now.tables c.late-late-items.result.now c.late-late-items.ensures.late c.requires.of.0 c.requires.of.1 c.requires.of.2 c.loop-late.late-index no_part c.loop-late-test.true
    c.loop-late.olds.items c.in_err-old.field-0.0 _ _ c.loop-late.invariant.stays c.loop-late.invariant.files c.in_err-old.ensures.files))

pub returns-in_err-old-clause-stays : goal.returns-in_err-old-clause-stays
returns-in_err-old-clause-stays g c = c.old_at.ensures.stays ∙ c.loop-late.invariant.stays

pub returns-in_err-push-clause-files : goal.returns-in_err-push-clause-files
returns-in_err-push-clause-files g c =
    let p = err_from_is_err_and c.from_residual-in_err-push.result c.from_residual-in_err-push.ensures.1 in
    rw p.1 (rw p.2 (files_memory c.args.plan.now.split_rows (all_late 0 c.args.plan.now.written c.args.plan.now.split_rows c.args.plan.now.shape c.args.plan.now.tables) c.args.plan.now.shape (g.V.Volume.storage c.args.volume.now).disk))

pub returns-in_err-push-clause-stays : goal.returns-in_err-push-clause-stays
returns-in_err-push-clause-stays g c = c.old_at.ensures.stays ∙ c.loop-late.invariant.stays

pub loop-late-preserved : goal.loop-late-preserved
loop-late-preserved g c = record {
  stays = c.old_at.ensures.stays ∙ c.loop-late.invariant.stays;
  counted = c.in_ok-old.ensures.counted ∙ c.loop-late.invariant.counted;
  read = subst (λ (l : List OldPart). AllZip (IsReadOf c.args.plan.now.split_rows c.args.plan.now.shape) (take (c.loop-late.late-index + 1) c.late-late-items.result.now) l) (sym c.in_ok-push.ensures.items)
      (read_more c.args.self.now c.args.plan.now.written c.args.plan.now.split_rows c.args.plan.now.shape c.args.plan.now.tables c.late-late-items.result.now c.late-late-items.ensures.late c.requires.of.0 c.requires.of.1 c.requires.of.2 c.loop-late.late-index no_part c.loop-late-test.true
      _ _ c.loop-late.invariant.read c.in_ok-old.ensures.read);
  files = subst (λ (l : List OldPart). IfSome (g.V.Volume.storage c.args.volume.now).disk (λ disk. AreOf c.args.plan.now.split_rows c.args.plan.now.shape (take (c.loop-late.late-index + 1) c.late-late-items.result.now) l (reads_of disk))) (sym c.in_ok-push.ensures.items)
      (files_more c.args.self.now c.args.plan.now.written c.args.plan.now.split_rows c.args.plan.now.shape c.args.plan.now.tables c.late-late-items.result.now c.late-late-items.ensures.late c.requires.of.0 c.requires.of.1 c.requires.of.2 c.loop-late.late-index no_part c.loop-late-test.true
      _ _ _ _ c.loop-late.invariant.stays c.loop-late.invariant.files c.in_ok-old.ensures.files);
}

pub returns-clause-read : goal.returns-clause-read
returns-clause-read g c = all_are_read c.args.self.now c.args.plan.now.written c.args.plan.now.split_rows c.args.plan.now.shape c.args.plan.now.tables c.late-late-items.result.now c.late-late-items.ensures.late c.requires.of.0 c.requires.of.1 c.requires.of.2 c.loop-late.late-index _ c.loop-late-test.false c.loop-late.invariant.read

pub returns-clause-files : goal.returns-clause-files
returns-clause-files g c = all_files c.args.self.now c.args.plan.now.written c.args.plan.now.split_rows c.args.plan.now.shape c.args.plan.now.tables c.late-late-items.result.now c.late-late-items.ensures.late c.requires.of.0 c.requires.of.1 c.requires.of.2 c.loop-late.late-index c.loop-late.olds _ c.loop-late-test.false c.loop-late.invariant.files
