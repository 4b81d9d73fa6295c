use Rattle.qd_base.specs.Rows.{without_equals}
use Rattle.qd_base.proofs.Order.{at_time-fold, at_time-in_time}
use Rattle.qd_base.proofs.laws.equal_times_keep_order.Goals as goal

pub returns : goal.returns
returns c =
    record {
      law = record {
        without_keys = at_time-fold;
        with_keys = λ col t keys rows row. at_time-in_time col t (without_equals keys rows row) row;
      };
    }
