-- Transactions that are spelled stay so where other bytes change.
use Rattle.std.proofs.Common.{◌≡◌, inl, inr, ℕ, ◌≤◌, ◌^◌, nat_eq, Bool, false, List, [], ◌∷◌, ◌++◌, length, Option, None, Some, refl, sym, subst, arith}
use Rattle.std.specs.List.{AllByRecursion}
use Rattle.std.proofs.lemmas.Bool.Decides.{nat_tests}
use Rattle.qd_base.specs.declared.op.Entry.{Entry}
use Rattle.qd_base.specs.declared.part.WalRef.{WalRef}
use Rattle.qd_volume.specs.Disk.{Disk, Image}
use Rattle.qd_durable.specs.Moments.{Moves, SameBut, SameOutside}
use Rattle.qd_durable.proofs.Moved.{now_has, moves_weaker}
use Rattle.qd_wal.specs.Puts.{IsApart}
use Rattle.qd_wal.specs.Reading.{SpellsAt}
use Rattle.qd_wal.specs.Segments.{file_in}
use Rattle.qd_wal.proofs.StayLemmas.{spelled_on}
use Rattle.qd_sequencer.specs.Histories.{AreSpelled, HasPending, IsPending, MayHold, is_log_file}

-- segments lie above all other files
pub segment_high : (ref : WalRef) → 2 ^ 63 ≤ file_in ref
segment_high ref = omega arith

-- the images agree in all segments
abbrev pub SameSegments : Image → Image → Type 0
SameSegments earlier image = (ref : WalRef) → image (file_in ref) ≡ earlier (file_in ref)

pub same_segments : (touched : ℕ → Bool) (earlier image : Image) → ((file : ℕ) → 2 ^ 63 ≤ file → touched file ≡ false) → SameBut touched earlier image → SameSegments earlier image
same_segments touched earlier image free same ref = same (file_in ref) (free (file_in ref) (segment_high ref))

one_free : (file : ℕ) → 2 ^ 63 ≤ file → nat_eq 1 file ≡ false
one_free file high = grind (arith, nat_tests)

pub log_alone : (earlier image : Image) → SameBut (nat_eq 1) earlier image → SameSegments earlier image
log_alone earlier image same = same_segments (nat_eq 1) earlier image one_free same

-- one transaction, and all of a history
pub one_kept : (ref : WalRef) (e : Entry) (earlier image : Image) → SameSegments earlier image → SpellsAt (earlier (file_in ref)) ref e → SpellsAt (image (file_in ref)) ref e
one_kept ref e earlier image same spells = subst (λ (bytes : List ℕ). SpellsAt bytes ref e) (sym (same ref)) spells

pub all_kept : (refs : List WalRef) (h : List Entry) (earlier image : Image) → SameSegments earlier image → AreSpelled refs h earlier → AreSpelled refs h image
all_kept [] [] earlier image same spelled = tt
all_kept [] (e ∷ h) earlier image same spelled = absurd spelled
all_kept (ref ∷ refs) [] earlier image same spelled = absurd spelled
all_kept (ref ∷ refs) (e ∷ h) earlier image same spelled = (one_kept ref e earlier image same spelled.0, all_kept refs h earlier image same spelled.1)

-- while an entry is put apart from them
pub all_apart : (at : WalRef) (size : ℕ) (earlier image : Image) → SameOutside (file_in at) at.start size earlier image → (refs : List WalRef) (h : List Entry) → AllByRecursion (IsApart at) refs → AreSpelled refs h earlier → AreSpelled refs h image
all_apart at size earlier image same [] [] apart spelled = tt
all_apart at size earlier image same [] (e ∷ h) apart spelled = absurd spelled
all_apart at size earlier image same (ref ∷ refs) [] apart spelled = absurd spelled
all_apart at size earlier image same (ref ∷ refs) (e ∷ h) apart spelled = (spelled_on at ref size e apart.0 earlier image same spelled.0, all_apart at size earlier image same refs h apart.1 spelled.1)

-- one more
pub spelled_push : (ref : WalRef) (e : Entry) (image : Image) → SpellsAt (image (file_in ref)) ref e → (refs : List WalRef) (h : List Entry) → AreSpelled refs h image → AreSpelled (refs ++ ref ∷ []) (h ++ e ∷ []) image
spelled_push ref e image spells [] [] spelled = (spells, tt)
spelled_push ref e image spells [] (x ∷ h) spelled = absurd spelled
spelled_push ref e image spells (x ∷ refs) [] spelled = absurd spelled
spelled_push ref e image spells (x ∷ refs) (y ∷ h) spelled = (spelled.0, spelled_push ref e image spells refs h spelled.1)

pub spelled_long : (refs : List WalRef) (h : List Entry) (image : Image) → AreSpelled refs h image → length refs ≡ length h
spelled_long [] [] image spelled = refl
spelled_long [] (e ∷ h) image spelled = absurd spelled
spelled_long (ref ∷ refs) [] image spelled = absurd spelled
spelled_long (ref ∷ refs) (e ∷ h) image spelled = let same = spelled_long refs h image spelled.1 in omega arith

-- files that are no logs
pub not_one : (file : ℕ) → is_log_file file ≡ false → nat_eq 1 file ≡ false
not_one file e = grind (arith, nat_tests)

pub not_high : (at : WalRef) (file : ℕ) → is_log_file file ≡ false → nat_eq (file_in at) file ≡ false
not_high at file e = let high = segment_high at in grind (arith, nat_tests)

pub log_among : (before after : Disk) → Moves (SameBut (nat_eq 1)) before after → Moves (SameBut is_log_file) before after
log_among before after moves = moves_weaker (SameBut (nat_eq 1)) (SameBut is_log_file) before after (λ x y same file e. same file (not_one file e)) moves

pub segment_among : (at : WalRef) (size : ℕ) (before after : Disk) → Moves (SameOutside (file_in at) at.start size) before after → Moves (SameBut is_log_file) before after
segment_among at size before after moves = moves_weaker (SameOutside (file_in at) at.start size) (SameBut is_log_file) before after (λ x y same file e. same.others file (not_high at file e)) moves

-- the transaction that is pending stays spelled
pub pending_kept : (pending : Option WalRef) (e : Entry) (R : Image → Image → Type 0) (before after : Disk) → Moves R before after → ((earlier image : Image) → R earlier image → SameSegments earlier image) → IsPending pending before e → IsPending pending after e
pending_kept None e R before after moves same is = absurd is
pending_kept (Some ref) e R before after moves same is =
    now_has R (λ image. SpellsAt (image (file_in ref)) ref e) (λ image. SpellsAt (image (file_in ref)) ref e) before after moves is
    (λ earlier image spells r. one_kept ref e earlier image (same earlier image r) spells)

pub has_kept : (pending : Option WalRef) (h : List Entry) (R : Image → Image → Type 0) (before after : Disk) → Moves R before after → ((earlier image : Image) → R earlier image → SameSegments earlier image) → HasPending pending h before → HasPending pending h after
has_kept None h R before after moves same has = tt
has_kept (Some ref) h R before after moves same has = (has.0, pending_kept (Some ref) has.0 R before after moves same has.1, has.2)

-- less is asked of the transaction that may come
pub may_hold : (refs : List WalRef) (h : List Entry) (P Q : Entry → Type 0) (image : Image) → ((e : Entry) → P e → Q e) → MayHold refs h P image → MayHold refs h Q image
may_hold refs h P Q image weaker (inl holds) = inl holds
may_hold refs h P Q image weaker (inr more) = inr (more.0, more.1, weaker more.1 more.2, more.3)
