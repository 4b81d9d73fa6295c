-- Joins without keys.
use Rattle.std.proofs.Common.{◌≡◌, ℕ, ◌<◌, ◌≤◌, Bool, true, false, List, [], ◌∷◌, ◌++◌, refl, sym, ap, ◌∙◌}
use Rattle.std.specs.List.{AllByRecursion}
use Rattle.std.proofs.lemmas.Bool.{le-ltb, lt-leb, lt-ltb, le-leb}
use Rattle.qd_base.specs.Rows.{Row, time_of}
use Rattle.qd_base.proofs.Lists.{each-weaker}
use Rattle.qd_meaning.specs.Joined.{may_take}
use Rattle.qd_meaning.specs.ListLaws.{JoinsTakeTheLast}
use Rattle.qd_asof.specs.Laws.{keyless, LastOfEqualTimes}

pub last-of-equal-times : JoinsTakeTheLast → LastOfEqualTimes
last-of-equal-times takes = record {
  asof = λ lt rt missing l r front back early late.
      takes.last (keyless false) lt rt missing l r front back (le-leb (time_of rt r) (time_of lt l) early)
      (each-weaker (λ x. time_of lt l < time_of rt x) (λ x. may_take (keyless false) lt rt l x ≡ false) (λ x h. lt-leb (time_of rt x) (time_of lt l) h) back late);
  strict = λ lt rt missing l r front back early late.
      takes.last (keyless true) lt rt missing l r front back (lt-ltb (time_of rt r) (time_of lt l) early)
      (each-weaker (λ x. time_of lt l ≤ time_of rt x) (λ x. may_take (keyless true) lt rt l x ≡ false) (λ x h. le-ltb (time_of rt x) (time_of lt l) h) back late);
}
