-- What each call makes of a told volume, from what its writes make of it.
use Rattle.std.proofs.Common.{◌≡◌, inl, ℕ, ◌+◌, ◌<◌, nat_eq, Bool, false, List, [], ◌∷◌, ◌++◌, length, Option, None, Some, Result, Ok, Err, refl, sym, subst, arith, length-append}
use Rattle.qd_base.specs.declared.part.WalRef.{WalRef}
use Rattle.qd_volume.specs.Disk.{Disk, Image}
use Rattle.qd_durable.specs.Moments.{EachNow, LeavesOnly, Moves, SameBut, SameOutside, Touches}
use Rattle.qd_durable.specs.Writing.{Overwrites}
use Rattle.qd_durable.proofs.Moved.{but_both, but_same, leaves_both, leaves_still, leaves_weaker, moments_have, moves_both, moves_still, moves_weaker, now_has, outside_but}
use Rattle.qd_seq.specs.Layout.{GivesList, IsLawful, body, mark, place_of}
use Rattle.qd_seq.specs.States.{GivesKnown, GivesOneOf, IsKnown, Knows}
use Rattle.qd_seq.specs.Calls.{Appends, ChangesLog, Creates, Repairs}
use Rattle.qd_seq.proofs.Images.{body_known, body_step, closed_known, empty_known, gate_step, gives_known, opened_known}
use Rattle.qd_seq.proofs.Records.{body_long}
use Rattle.qd_base.specs.declared.limits.TheConstants.{MAX_TXNS}

-- a write to the log changes no other file
pub elsewhere_of : (at size : ℕ) (before after : Disk) → Touches 1 at size before after → ChangesLog before after
elsewhere_of at size before after touches =
    moves_weaker (SameOutside 1 at size) (SameBut (nat_eq 1)) before after (outside_but (nat_eq 1) 1 at size refl) touches

pub elsewhere_both : (a b c : Disk) → ChangesLog a b → ChangesLog b c → ChangesLog a c
elsewhere_both a b c first second = moves_both (SameBut (nat_eq 1)) (SameBut (nat_eq 1)) (SameBut (nat_eq 1)) a b c (λ x y r. r) (but_both (nat_eq 1)) first second

pub elsewhere_still : (disk : Disk) → ChangesLog disk disk
elsewhere_still disk = moves_still (SameBut (nat_eq 1)) disk (but_same (nat_eq 1))

-- what is known, each image gives
pub known_given : (refs : List WalRef) (pending : Option WalRef) (disk : Disk) → Knows refs pending disk → EachNow disk (GivesKnown refs pending)
known_given refs pending disk knows image now = gives_known refs pending image (knows image now)

-- what is known before a write is known at each moment of it, and behind it
module _ (at size : ℕ) (before after : Disk) (touches : Touches 1 at size before after) (refs : List WalRef) (pending : Option WalRef)
    (step : (earlier image : Image) → IsKnown refs pending (earlier 1) → SameOutside 1 at size earlier image → IsKnown refs pending (image 1))
  where
    pub known_behind : Knows refs pending before → Knows refs pending after
    known_behind knows = now_has (SameOutside 1 at size) (λ image. IsKnown refs pending (image 1)) (λ image. IsKnown refs pending (image 1)) before after touches knows step

    pub given_inside : Knows refs pending before → LeavesOnly before after (GivesKnown refs pending)
    given_inside knows = moments_have (SameOutside 1 at size) (λ image. IsKnown refs pending (image 1)) (GivesKnown refs pending) before after touches knows
        (λ earlier image known same. gives_known refs pending image (step earlier image known same))

-- a call on other files
pub others_leave : (touched : ℕ → Bool) (before after : Disk) (refs : List WalRef) (pending : Option WalRef) → touched 1 ≡ false → Moves (SameBut touched) before after → Knows refs pending before → LeavesOnly before after (GivesKnown refs pending) × Knows refs pending after
others_leave touched before after refs pending free moves knows = (
  moments_have (SameBut touched) (λ image. IsKnown refs pending (image 1)) (GivesKnown refs pending) before after moves knows (λ earlier image known same. gives_known refs pending image (kept earlier image known same)),
  now_has (SameBut touched) (λ image. IsKnown refs pending (image 1)) (λ image. IsKnown refs pending (image 1)) before after moves knows kept,
)
  where
    kept : (earlier image : Image) → IsKnown refs pending (earlier 1) → SameBut touched earlier image → IsKnown refs pending (image 1)
    kept earlier image known same = subst (λ (l : List ℕ). IsKnown refs pending l) (sym (same 1 free)) known

-- the bytes of a body with the gate behind it
pub written_long : (ref : WalRef) → length (body ref ++ 0 ∷ []) ≡ 25
written_long ref = omega (arith, length-append (body ref) (0 ∷ []), body_long ref)

abbrev pub Body : {T E : Type 0} → Result T E → List WalRef → WalRef → Disk → Disk → Type 0
Body result refs ref before after = Overwrites result 1 (place_of (length refs) + 1) (body ref ++ 0 ∷ []) before after

abbrev pub Gate : {T E : Type 0} → Result T E → List WalRef → ℕ → Disk → Disk → Type 0
Gate result refs gate before after = Overwrites result 1 (place_of (length refs)) (gate ∷ []) before after

module _ {T E : Type 0} (refs : List WalRef) (ref : WalRef) (before : Disk) where
  -- the body is written
  module _ {R : Result T E} (after : Disk) (wrote : Body R refs ref before after) where
    body_touches : Touches 1 (place_of (length refs) + 1) 25 before after
    body_touches = subst (λ n. Touches 1 (place_of (length refs) + 1) n before after) (written_long ref) wrote.touches

    body_inside : Knows refs None before → LeavesOnly before after (GivesOneOf refs ref)
    body_inside knows = leaves_weaker (GivesList refs) (GivesOneOf refs ref) before after (λ image gives. inl gives)
        (given_inside (place_of (length refs) + 1) 25 before after body_touches refs None (body_step refs) knows)

    body_behind : Knows refs None before → Knows refs None after
    body_behind knows = known_behind (place_of (length refs) + 1) 25 before after body_touches refs None (body_step refs) knows

  pub append_not_begun : {U : Type 0} (after : Disk) (fault answer : E) → Body {T = T} {E = E} (Err fault) refs ref before after → Appends {T = U} {E = E} (Err answer) refs ref None before after
  append_not_begun after fault answer wrote = record {
    any_moment = body_inside {R = Err fault} after wrote;
    behind = body_behind {R = Err fault} after wrote;
    gate = body_touches {R = Err fault} after wrote;
    elsewhere = elsewhere_of (place_of (length refs) + 1) 25 before after (body_touches {R = Err fault} after wrote);
  }

  -- and then the gate
  module _ (mid after : Disk) (done : T) (first : Body {T = T} {E = E} (Ok done) refs ref before mid) (lawful : IsLawful (length refs) ref) (few : length refs < MAX_TXNS) where
    body_stands : Knows refs None before → Knows refs (Some ref) mid
    body_stands knows image now = body_known refs ref (image 1) lawful few (body_behind {R = Ok done} mid first knows image now) (first.durable image now)

    module _ {R : Result T E} (second : Gate R refs 1 mid after) where
      gate_inside : Knows refs None before → LeavesOnly before after (GivesOneOf refs ref)
      gate_inside knows = leaves_both before mid after (GivesOneOf refs ref) (body_inside {R = Ok done} mid first knows)
          (given_inside (place_of (length refs)) 1 mid after second.touches refs (Some ref) (gate_step refs ref) (body_stands knows))

      gate_behind : Knows refs None before → Knows refs (Some ref) after
      gate_behind knows = known_behind (place_of (length refs)) 1 mid after second.touches refs (Some ref) (gate_step refs ref) (body_stands knows)

      both_elsewhere : ChangesLog before after
      both_elsewhere = elsewhere_both before mid after (elsewhere_of (place_of (length refs) + 1) 25 before mid (body_touches {R = Ok done} mid first)) (elsewhere_of (place_of (length refs)) 1 mid after second.touches)

    pub append_failed : {U : Type 0} (fault answer : E) → Gate {T = T} {E = E} (Err fault) refs 1 mid after → Appends {T = U} {E = E} (Err answer) refs ref (Some ref) before after
    append_failed fault answer second = record {
      any_moment = gate_inside {R = Err fault} second;
      behind = gate_behind {R = Err fault} second;
      gate = tt;
      elsewhere = both_elsewhere {R = Err fault} second;
    }

    pub append_done : {U : Type 0} (again : T) (n : U) → Gate {T = T} {E = E} (Ok again) refs 1 mid after → Appends {T = U} {E = E} (Ok n) refs ref None before after
    append_done again n second = record {
      any_moment = gate_inside {R = Ok again} second;
      behind = λ knows. (known_given (refs ++ ref ∷ []) None after (opened knows), opened knows);
      gate = tt;
      elsewhere = both_elsewhere {R = Ok again} second;
    }
      where
        opened : Knows refs None before → Knows (refs ++ ref ∷ []) None after
        opened knows image now = opened_known refs ref (image 1) (gate_behind {R = Ok again} second knows image now) (second.durable image now)

-- the gate behind the last record is closed
module _ {T E : Type 0} (refs : List WalRef) (ref : WalRef) (before after : Disk) where
  module _ {R : Result T E} (wrote : Gate R refs 0 before after) where
    repair_inside : Knows refs (Some ref) before → LeavesOnly before after (GivesOneOf refs ref)
    repair_inside knows = given_inside (place_of (length refs)) 1 before after wrote.touches refs (Some ref) (gate_step refs ref) knows

    repair_behind : Knows refs (Some ref) before → Knows refs (Some ref) after
    repair_behind knows = known_behind (place_of (length refs)) 1 before after wrote.touches refs (Some ref) (gate_step refs ref) knows

  pub repair_failed : {U : Type 0} (fault answer : E) → Gate {T = T} {E = E} (Err fault) refs 0 before after → Repairs {T = U} {E = E} (Err answer) refs (Some ref) before after
  repair_failed fault answer wrote = record {
    any_moment = repair_inside {R = Err fault} wrote;
    behind = repair_behind {R = Err fault} wrote;
    elsewhere = elsewhere_of (place_of (length refs)) 1 before after wrote.touches;
  }

  pub repair_done : {U : Type 0} (done : T) (answer : U) → Gate {T = T} {E = E} (Ok done) refs 0 before after → Repairs {T = U} {E = E} (Ok answer) refs (Some ref) before after
  repair_done done answer wrote = record {
    any_moment = repair_inside {R = Ok done} wrote;
    behind = λ knows. (known_given refs None after (closed knows), closed knows);
    elsewhere = elsewhere_of (place_of (length refs)) 1 before after wrote.touches;
  }
    where
      closed : Knows refs (Some ref) before → Knows refs None after
      closed knows image now = closed_known refs (Some ref) (image 1) (repair_behind {R = Ok done} wrote knows image now) (wrote.durable image now)

-- a log with nothing to repair
pub repair_none : {U E : Type 0} (answer : U) (refs : List WalRef) (disk : Disk) → Repairs {T = U} {E = E} (Ok answer) refs None disk disk
repair_none answer refs disk = record {
  any_moment = λ knows. leaves_still (GivesList refs) disk (known_given refs None disk knows);
  behind = λ knows. (known_given refs None disk knows, knows);
  elsewhere = elsewhere_still disk;
}

-- the log is made
module _ {T E : Type 0} (before after : Disk) where
  pub create_failed : {U : Type 0} (fault answer : E) → Overwrites {T = T} {E = E} (Err fault) 1 0 (mark ++ 0 ∷ []) before after → Creates {T = U} {E = E} (Err answer) before after
  create_failed fault answer wrote = record { created = tt; touches = wrote.touches; elsewhere = elsewhere_of 0 9 before after wrote.touches }

  pub create_done : {U : Type 0} (done : T) (log : U) → Overwrites {T = T} {E = E} (Ok done) 1 0 (mark ++ 0 ∷ []) before after → Creates {T = U} {E = E} (Ok log) before after
  create_done done log wrote = record { created = (known_given [] None after knows, knows); touches = wrote.touches; elsewhere = elsewhere_of 0 9 before after wrote.touches }
    where
      knows : Knows [] None after
      knows image now = empty_known (image 1) (wrote.durable image now)
