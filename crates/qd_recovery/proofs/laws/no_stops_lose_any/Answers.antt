use Rattle.qd_recovery.proofs.Stopping.{kept, left_by}
use Rattle.qd_recovery.proofs.laws.no_stops_lose_any.Goals as goal

pub returns : goal.returns
returns c = record {
  law = record {
    left = left_by c.one_answer.ensures.law c.stores_are_whole.ensures.law c.now_is_a_moment_since.ensures.only c.reads_as_an_image.ensures c.one_is_found.ensures.law;
    kept = kept;
  };
}
