-- Lists that grow at their ends.
use Rattle.std.proofs.Common.{◌≡◌, List, [], ◌++◌, sym, ap, ◌∙◌, append_assoc}
use Rattle.std.proofs.lemmas.List.{append-nil}
use Rattle.qd_ilp.specs.Cut.{Grows}

pub grows_not : {T : Type 0} (a b : List T) → b ≡ a → Grows a b
grows_not a b same = record { more = []; whole = same ∙ sym (append-nil a) }

pub grows_by : {T : Type 0} (a b more : List T) → b ≡ a ++ more → Grows a b
grows_by a b more pushed = record { more = more; whole = pushed }

pub grows_twice : {T : Type 0} (a b c : List T) → Grows a b → Grows b c → Grows a c
grows_twice {T} a b c ab bc = record { more = ab.more ++ bc.more; whole = bc.whole ∙ ap (λ (l : List T). l ++ bc.more) ab.whole ∙ append_assoc a ab.more bc.more }
