use Rattle.std.proofs.Common.{◌≡◌, ℕ, ◌<◌, ◌≤◌, true, length, get_or}
use Rattle.qd_meaning.specs.Joined.{is_early}
use Rattle.qd_asof.specs.Choices.{AreLast}
use Rattle.qd_asof.proofs.choices.pass_early.Given as goal

-- the right rows so far are early, and known
abbrev pub invariant-loop-next : goal.invariant-loop-next
invariant-loop-next l =
    record {
      size : length l.last.items ≡ length l.fn.last.items;
      known : AreLast l.numbers l.next l.last.items;
      passed : (j : ℕ) → l.from ≤ j → j < l.next → is_early l.strict l.time (get_or l.times j 0) ≡ true;
    }
