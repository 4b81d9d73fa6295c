use Rattle.std.proofs.Common.{refl}
use Rattle.qd_apply.proofs.laws.worked_examples.Goals as goal

pub returns : goal.returns
returns c = record {
  law = record {
    nothing = refl;
    late = refl;
    late_rows = refl;
    behind = refl;
    behind_rows = refl;
    behind_grown = refl;
    split = refl;
    split_rows = refl;
    split_grown = refl;
    past_shown = refl;
    past_shown_split = refl;
    past_shown_grown = refl;
    next_day = refl;
    both_days = refl;
  };
}
