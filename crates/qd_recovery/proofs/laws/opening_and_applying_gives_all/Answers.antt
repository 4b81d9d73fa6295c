use Rattle.std.proofs.Common.{◌∷◌, subst}
use Rattle.qd_store.specs.Found.{Found}
use Rattle.qd_recovery.specs.Runs.{IsLeftBy}
use Rattle.qd_recovery.proofs.Opening.{begins_again, holds_all}
use Rattle.qd_recovery.proofs.Stopping.{left_by}
use Rattle.qd_recovery.proofs.laws.opening_and_applying_gives_all.Goals as goal

pub returns : goal.returns
returns c = record {
  law = λ h run runs first last stop follows f s t volume before after calls x finds all opens none steps shows.
      let left = left_by c.one_answer.ensures.law c.stores_are_whole.ensures.law c.now_is_a_moment_since.ensures.only c.reads_as_an_image.ensures c.one_is_found.ensures.law h run runs first last stop follows in (
        subst (λ (g : Found). IsLeftBy h (run ∷ runs) g.history) (c.one_is_found.ensures.law left.0 f last left.1 finds) left.2,
        holds_all c.one_answer.ensures.law c.applied_is_all.ensures.law f.history calls s t volume before after x
            (begins_again c.crashed_is_whole.ensures.law c.reads_as_an_image.ensures f last volume finds all s before opens none) steps shows,
      );
}
