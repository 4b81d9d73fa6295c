use Rattle.std.proofs.Common.{refl}
use Rattle.std.specs.Fmt.{digits}
use Rattle.qd_gen.proofs.laws.worked_examples.Goals as goal

pub returns : goal.returns
unfolding digits
returns c =
    record {
      law =
          record {
            first = refl;
            last = refl;
            great = refl;
            even = refl;
            two = refl;
            three = refl;
            none = refl;
            without = refl;
            in_front = refl;
            at_the_end = refl;
            front_of_none = refl;
          };
    }
