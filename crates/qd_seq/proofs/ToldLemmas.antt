-- What the calls make of a volume, told or not, from what their writes make of it.
use Rattle.std.proofs.Common.{◌≡◌, ℕ, ◌+◌, ◌<◌, true, false, List, [], ◌∷◌, ◌++◌, length, Option, None, Some, is_some, Result, Ok, Err, Vec, vec_len, refl, ◌∙◌, ap, subst}
use Rattle.std.specs.declared.alloc.Global.{Global}
use Rattle.qd_io.specs.declared.fault.IoFault.{IoFault}
use Rattle.qd_base.specs.declared.part.WalRef.{WalRef}
use Rattle.qd_volume.specs.Disk.{Disk}
use Rattle.qd_durable.specs.Moments.{Told}
use Rattle.qd_durable.specs.Writing.{Overwrites}
use Rattle.qd_durable.proofs.Writes.{told_both, told_map, told_still}
use Rattle.qd_seq.specs.Layout.{IsLawful, body, mark, place_of}
use Rattle.qd_seq.specs.Calls.{Appends, Creates, Repairs}
use Rattle.qd_seq.proofs.Steps.{Body, Gate, append_done, append_failed, append_not_begun, create_done, create_failed, repair_done, repair_failed, repair_none}
use Rattle.qd_base.specs.declared.limits.TheConstants.{MAX_TXNS}

-- what a write answers
abbrev pub Answer : Type 0
Answer = Result (Unit {0}) IoFault

-- some bytes were written into the log
abbrev pub Wrote : Answer → ℕ → List ℕ → Disk → Disk → Type 0
Wrote result at bytes = Overwrites {T = Unit {0}} {E = IoFault} result 1 at bytes

-- the body of a reference, and then its gate
module _ (refs : List WalRef) (ref : WalRef) (at gate : ℕ) (bytes : List ℕ) (body_at : at ≡ place_of (length refs) + 1) (gate_at : gate ≡ place_of (length refs)) (is : bytes ≡ body ref ++ 0 ∷ []) where
  as_body : (result : Answer) (old new : Option Disk) → Told old new (Wrote result at bytes) → Told old new (Body {T = Unit {0}} {E = IoFault} result refs ref)
  as_body result old new told = subst (λ n. Told old new (Wrote result n (body ref ++ 0 ∷ []))) body_at (subst (λ (l : List ℕ). Told old new (Wrote result at l)) is told)

  as_gate : (result : Answer) (byte : ℕ) (old new : Option Disk) → Told old new (Wrote result gate (byte ∷ [])) → Told old new (Gate {T = Unit {0}} {E = IoFault} result refs byte)
  as_gate result byte old new told = subst (λ n. Told old new (Wrote result n (byte ∷ []))) gate_at told

  pub append_not_begun_told : (U : Type 0) (old new : Option Disk) (fault answer : IoFault) → Told old new (Wrote (Err fault) at bytes) → Told old new (Appends {T = U} {E = IoFault} (Err answer) refs ref None)
  append_not_begun_told U old new fault answer told =
      told_map (Body {T = Unit {0}} {E = IoFault} (Err fault) refs ref) (Appends {T = U} {E = IoFault} (Err answer) refs ref None) old new
      (λ before after wrote. append_not_begun {T = Unit {0}} {E = IoFault} refs ref before after fault answer wrote) (as_body (Err fault) old new told)

  module _ (lawful : IsLawful (length refs) ref) (few : length refs < MAX_TXNS) (old mid new : Option Disk) (done : Unit {0}) (first : Told old mid (Wrote (Ok done) at bytes)) where
    pub append_failed_told : (U : Type 0) (fault answer : IoFault) → Told mid new (Wrote (Err fault) gate (1 ∷ [])) → Told old new (Appends {T = U} {E = IoFault} (Err answer) refs ref (Some ref))
    append_failed_told U fault answer second =
        told_both (Body {T = Unit {0}} {E = IoFault} (Ok done) refs ref) (Gate {T = Unit {0}} {E = IoFault} (Err fault) refs 1) (Appends {T = U} {E = IoFault} (Err answer) refs ref (Some ref)) old mid new
        (λ a b c one two. append_failed {T = Unit {0}} {E = IoFault} refs ref a b c done one lawful few fault answer two) (as_body (Ok done) old mid first) (as_gate (Err fault) 1 mid new second)

    pub append_done_told : {U : Type 0} (again : Unit {0}) (n : U) → Told mid new (Wrote (Ok again) gate (1 ∷ [])) → Told old new (Appends {T = U} {E = IoFault} (Ok n) refs ref None)
    append_done_told {U} again n second =
        told_both (Body {T = Unit {0}} {E = IoFault} (Ok done) refs ref) (Gate {T = Unit {0}} {E = IoFault} (Ok again) refs 1) (Appends {T = U} {E = IoFault} (Ok n) refs ref None) old mid new
        (λ a b c one two. append_done {T = Unit {0}} {E = IoFault} refs ref a b c done one lawful few again n two) (as_body (Ok done) old mid first) (as_gate (Ok again) 1 mid new second)

-- the gate of a pending reference closed
module _ (refs : List WalRef) (ref : WalRef) (gate : ℕ) (gate_at : gate ≡ place_of (length refs)) (old new : Option Disk) where
  closing : (result : Answer) → Told old new (Wrote result gate (0 ∷ [])) → Told old new (Gate {T = Unit {0}} {E = IoFault} result refs 0)
  closing result told = subst (λ n. Told old new (Wrote result n (0 ∷ []))) gate_at told

  pub repair_failed_told : (U : Type 0) (fault answer : IoFault) → Told old new (Wrote (Err fault) gate (0 ∷ [])) → Told old new (Repairs {T = U} {E = IoFault} (Err answer) refs (Some ref))
  repair_failed_told U fault answer told =
      told_map (Gate {T = Unit {0}} {E = IoFault} (Err fault) refs 0) (Repairs {T = U} {E = IoFault} (Err answer) refs (Some ref)) old new
      (λ before after wrote. repair_failed {T = Unit {0}} {E = IoFault} refs ref before after fault answer wrote) (closing (Err fault) told)

  pub repair_done_told : {U : Type 0} (done : Unit {0}) (answer : U) → Told old new (Wrote (Ok done) gate (0 ∷ [])) → Told old new (Repairs {T = U} {E = IoFault} (Ok answer) refs (Some ref))
  repair_done_told {U} done answer told =
      told_map (Gate {T = Unit {0}} {E = IoFault} (Ok done) refs 0) (Repairs {T = U} {E = IoFault} (Ok answer) refs (Some ref)) old new
      (λ before after wrote. repair_done {T = Unit {0}} {E = IoFault} refs ref before after done answer wrote) (closing (Ok done) told)

-- a log with nothing to repair
pub repair_none_told : {U : Type 0} (answer : U) (refs : List WalRef) (old : Option Disk) → Told old old (Repairs {T = U} {E = IoFault} (Ok answer) refs None)
repair_none_told {U} answer refs old = told_still (Repairs {T = U} {E = IoFault} (Ok answer) refs None) old (λ disk. repair_none answer refs disk)

-- the log made
module _ (bytes : List ℕ) (is : bytes ≡ mark ++ 0 ∷ []) (old new : Option Disk) where
  as_empty : (result : Answer) → Told old new (Wrote result 0 bytes) → Told old new (Wrote result 0 (mark ++ 0 ∷ []))
  as_empty result told = subst (λ (l : List ℕ). Told old new (Wrote result 0 l)) is told

  pub create_failed_told : (U : Type 0) (fault answer : IoFault) → Told old new (Wrote (Err fault) 0 bytes) → Told old new (Creates {T = U} {E = IoFault} (Err answer))
  create_failed_told U fault answer told =
      told_map (Wrote (Err fault) 0 (mark ++ 0 ∷ [])) (Creates {T = U} {E = IoFault} (Err answer)) old new
      (λ before after wrote. create_failed {T = Unit {0}} {E = IoFault} before after fault answer wrote) (as_empty (Err fault) told)

  pub create_done_told : {U : Type 0} (done : Unit {0}) (log : U) → Told old new (Wrote (Ok done) 0 bytes) → Told old new (Creates {T = U} {E = IoFault} (Ok log))
  create_done_told {U} done log told =
      told_map (Wrote (Ok done) 0 (mark ++ 0 ∷ [])) (Creates {T = U} {E = IoFault} (Ok log)) old new
      (λ before after wrote. create_done {T = Unit {0}} {E = IoFault} before after done log wrote) (as_empty (Ok done) told)

-- where the gate behind some references is
pub gate_place : (refs : List WalRef) (list : Vec WalRef Global) (n gate : ℕ) → gate ≡ place_of n → n ≡ vec_len list → list.items ≡ refs → gate ≡ place_of (length refs)
gate_place refs list n gate is len items = is ∙ ap (λ k. place_of k) (len ∙ list.ok.0 ∙ ap (λ (l : List WalRef). length l) items)

-- a reference that is pending, or none
pub pending_none : (pending : Option WalRef) → is_some pending ≡ false → pending ≡ None
pending_none None e = refl
pending_none (Some ref) e = cc

pub pending_some : (pending : Option WalRef) → is_some pending ≡ true → (ref : WalRef) × (pending ≡ Some ref)
pending_some None e = cc
pending_some (Some ref) e = (ref, refl)
