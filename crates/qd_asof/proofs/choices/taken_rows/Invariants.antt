use Rattle.std.proofs.Common.{◌≡◌, length, map}
use Rattle.std.specs.List.{range_with_len}
use Rattle.qd_asof.specs.Choices.{choice}
use Rattle.qd_asof.proofs.ChoiceLemmas.{ArePassed}
use Rattle.qd_asof.proofs.choices.taken_rows.Given as goal

-- the choices of the left rows so far; the right rows that are early for the last of them are passed
abbrev pub invariant-loop-i : goal.invariant-loop-i
invariant-loop-i l =
    record {
      size : length l.last.items ≡ l.bound;
      passed : ArePassed l.strict l.left_times l.right_numbers l.right_times l.i l.next l.last.items;
      taken : l.taken.items ≡ map (choice l.strict l.left_numbers l.left_times l.right_numbers l.right_times) (range_with_len 0 l.i);
    }
