-- What the calls make of a volume, told or not, from what their writes make of it.
use Rattle.std.proofs.Common.{◌≡◌, ℕ, ◌^◌, ◌<◌, List, [], ◌∷◌, ◌++◌, length, Option, Result, Ok, Err, subst}
use Rattle.std.specs.Int.{to_le_bytes, w64}
use Rattle.qd_io.specs.declared.fault.IoFault.{IoFault}
use Rattle.qd_volume.specs.Disk.{Disk}
use Rattle.qd_durable.specs.Moments.{Told}
use Rattle.qd_durable.specs.Writing.{Overwrites}
use Rattle.qd_durable.proofs.Writes.{told_both, told_map, told_still}
use Rattle.qd_txnfile.specs.declared.half.Half.{Half}
use Rattle.qd_txnfile.specs.declared.half.Half.TheVariants.{First}
use Rattle.qd_txnfile.specs.declared.half.Other.{Other}
use Rattle.qd_txnfile.specs.declared.half.Other.TheVariants as other
use Rattle.qd_txnfile.specs.Versions.{Version, body, file_of, other_of}
use Rattle.qd_txnfile.specs.States.{IsDirty, Root, with_next, with_opening, with_other}
use Rattle.qd_txnfile.specs.Calls.{Closes, Creates, Flips, Repairs, WritesBody}
use Rattle.qd_txnfile.proofs.Steps.{body_done, body_failed, body_not_begun, body_pieces, closes_done, closes_failed, closes_none, create_done, create_failed, create_not_begun, dirty_root, flip_done, flip_failed, head_pieces, repair_done, repair_failed, repair_none, root_of, written_root}

-- what a write of this crate answers
abbrev pub Answer : Type 0
Answer = Result (Unit {0}) IoFault

abbrev pub Wrote : Answer → ℕ → ℕ → List ℕ → Disk → Disk → Type 0
Wrote result file at bytes = Overwrites {T = Unit {0}} {E = IoFault} result file at bytes

module _ (half : Half) (n : ℕ) (file : ℕ) (is : file ≡ file_of (other_of half)) (old new : Option Disk) where
  -- a write into the other file
  into_other : (result : Answer) (at : ℕ) (bytes : List ℕ) → Told old new (Wrote result file at bytes) → Told old new (Wrote result (file_of (other_of half)) at bytes)
  into_other result at bytes told = subst (λ f. Told old new (Wrote result f at bytes)) is told

  pub closes_failed_told : (fault : IoFault) → Told old new (Wrote (Err fault) file 0 (0 ∷ [])) → Told old new (Closes (root_of half n other.Older) (root_of half n other.Older))
  closes_failed_told fault told =
      told_map (Wrote (Err fault) (file_of (other_of half)) 0 (0 ∷ [])) (Closes (root_of half n other.Older) (root_of half n other.Older)) old new
      (λ before after wrote. closes_failed half n before after fault wrote) (into_other (Err fault) 0 (0 ∷ []) told)

  pub closes_done_told : (done : Unit {0}) → Told old new (Wrote (Ok done) file 0 (0 ∷ [])) → Told old new (Closes (root_of half n other.Older) (root_of half n other.Closed))
  closes_done_told done told =
      told_map (Wrote (Ok done) (file_of (other_of half)) 0 (0 ∷ [])) (Closes (root_of half n other.Older) (root_of half n other.Closed)) old new
      (λ before after wrote. closes_done half n before after done wrote) (into_other (Ok done) 0 (0 ∷ []) told)

  pub flip_failed_told : (next_n : ℕ) (fault answer : IoFault) → Told old new (Wrote (Err fault) file 0 (1 ∷ [])) → Told old new (Flips {T = Unit {0}} {E = IoFault} (Err answer) (written_root half n next_n) (with_opening (written_root half n next_n)))
  flip_failed_told next_n fault answer told =
      told_map (Wrote (Err fault) (file_of (other_of half)) 0 (1 ∷ [])) (Flips {T = Unit {0}} {E = IoFault} (Err answer) (written_root half n next_n) (with_opening (written_root half n next_n))) old new
      (λ before after wrote. flip_failed half n next_n before after fault answer wrote) (into_other (Err fault) 0 (1 ∷ []) told)

  pub flip_done_told : (next_n : ℕ) (done : Unit {0}) → Told old new (Wrote (Ok done) file 0 (1 ∷ [])) → Told old new (Flips {T = Unit {0}} {E = IoFault} (Ok done) (written_root half n next_n) (with_next (written_root half n next_n)))
  flip_done_told next_n done told =
      told_map (Wrote (Ok done) (file_of (other_of half)) 0 (1 ∷ [])) (Flips {T = Unit {0}} {E = IoFault} (Ok done) (written_root half n next_n) (with_next (written_root half n next_n))) old new
      (λ before after wrote. flip_done half n next_n before after done wrote) (into_other (Ok done) 0 (1 ∷ []) told)

  pub repair_failed_told : (next_n : ℕ) (fault answer : IoFault) → Told old new (Wrote (Err fault) file 0 (0 ∷ [])) → Told old new (Repairs {T = Unit {0}} {E = IoFault} (Err answer) (dirty_root half n next_n) (dirty_root half n next_n))
  repair_failed_told next_n fault answer told =
      told_map (Wrote (Err fault) (file_of (other_of half)) 0 (0 ∷ [])) (Repairs {T = Unit {0}} {E = IoFault} (Err answer) (dirty_root half n next_n) (dirty_root half n next_n)) old new
      (λ before after wrote. repair_failed half n next_n before after fault answer wrote) (into_other (Err fault) 0 (0 ∷ []) told)

  pub repair_done_told : (next_n : ℕ) (done : Unit {0}) → Told old new (Wrote (Ok done) file 0 (0 ∷ [])) → Told old new (Repairs {T = Unit {0}} {E = IoFault} (Ok done) (dirty_root half n next_n) (with_other (dirty_root half n next_n) other.Closed))
  repair_done_told next_n done told =
      told_map (Wrote (Ok done) (file_of (other_of half)) 0 (0 ∷ [])) (Repairs {T = Unit {0}} {E = IoFault} (Ok done) (dirty_root half n next_n) (with_other (dirty_root half n next_n) other.Closed)) old new
      (λ before after wrote. repair_done half n next_n before after done wrote) (into_other (Ok done) 0 (0 ∷ []) told)

-- a gate that is known to be closed
pub closes_none_told : (half : Half) (n : ℕ) (known : Other) (old : Option Disk) → (IsDirty known → ⊥) → (known ≡ other.Older → ⊥) → Told old old (Closes (root_of half n known) (root_of half n other.Closed))
closes_none_told half n known old clean not = told_still (Closes (root_of half n known) (root_of half n other.Closed)) old (λ disk. closes_none half n known disk clean not)

-- a root with nothing to repair
pub repair_none_told : (done : Unit {0}) (root : Root) (old : Option Disk) → (IsDirty root.other → ⊥) → Told old old (Repairs {T = Unit {0}} {E = IoFault} (Ok done) root root)
repair_none_told done root old clean = told_still (Repairs {T = Unit {0}} {E = IoFault} (Ok done) root root) old (λ disk. repair_none done root disk clean)

-- a body: its gate closed first, and then written
module _ (half : Half) (n : ℕ) (known : Other) (next : Version) (file : ℕ) (is : file ≡ file_of (other_of half)) (number : next.n < 2 ^ 64) (size : length next.manifest < 2 ^ 64) (newer : n < next.n)
    (front : List ℕ) (head : front ≡ to_le_bytes w64 next.n ++ to_le_bytes w64 (length next.manifest))
    (old mid new : Option Disk) (closes : Told old mid (Closes (root_of half n known) (root_of half n other.Closed)))
  where
    bytes_are : front ++ next.manifest ≡ body next
    bytes_are = body_pieces next front head

    written_there : (result : Answer) → Told mid new (Wrote result file 1 (front ++ next.manifest)) → Told mid new (Wrote result (file_of (other_of half)) 1 (front ++ next.manifest))
    written_there result told = subst (λ f. Told mid new (Wrote result f 1 (front ++ next.manifest))) is told

    pub body_failed_told : (fault : IoFault) → Told mid new (Wrote (Err fault) file 1 (front ++ next.manifest)) → Told old new (WritesBody (root_of half n known) (root_of half n other.Closed) next)
    body_failed_told fault told =
        told_both (Closes (root_of half n known) (root_of half n other.Closed)) (Wrote (Err fault) (file_of (other_of half)) 1 (front ++ next.manifest)) (WritesBody (root_of half n known) (root_of half n other.Closed) next) old mid new
        (λ a b c closed wrote. body_failed half n next (front ++ next.manifest) bytes_are number size newer a b c known closed fault wrote) closes (written_there (Err fault) told)

    pub body_done_told : (done : Unit {0}) → Told mid new (Wrote (Ok done) file 1 (front ++ next.manifest)) → Told old new (WritesBody (root_of half n known) (root_of half n (other.Written next.n)) next)
    body_done_told done told =
        told_both (Closes (root_of half n known) (root_of half n other.Closed)) (Wrote (Ok done) (file_of (other_of half)) 1 (front ++ next.manifest)) (WritesBody (root_of half n known) (root_of half n (other.Written next.n)) next) old mid new
        (λ a b c closed wrote. body_done half n next (front ++ next.manifest) bytes_are number size newer a b c known closed done wrote) closes (written_there (Ok done) told)

pub body_not_begun_told : (half : Half) (n : ℕ) (next : Version) (old new : Option Disk) → Told old new (Closes (root_of half n other.Older) (root_of half n other.Older)) → Told old new (WritesBody (root_of half n other.Older) (root_of half n other.Older) next)
body_not_begun_told half n next old new told =
    told_map (Closes (root_of half n other.Older) (root_of half n other.Older)) (WritesBody (root_of half n other.Older) (root_of half n other.Older) next) old new (body_not_begun half n next) told

-- both files made
module _ (v : Version) (head : List ℕ) (is : head ≡ 1 ∷ (to_le_bytes w64 v.n ++ to_le_bytes w64 (length v.manifest))) (number : v.n < 2 ^ 64) (size : length v.manifest < 2 ^ 64) where
  pub create_not_begun_told : (old new : Option Disk) (fault answer : IoFault) → Told old new (Wrote (Err fault) 2 0 (head ++ v.manifest)) → Told old new (Creates {E = IoFault} (Err answer) v)
  create_not_begun_told old new fault answer told =
      told_map (Wrote (Err fault) 2 0 (head ++ v.manifest)) (Creates {E = IoFault} (Err answer) v) old new
      (λ before after wrote. create_not_begun v head (head_pieces v head is) number size before after fault answer wrote) told

  pub create_failed_told : (old mid new : Option Disk) (done : Unit {0}) (fault answer : IoFault) → Told old mid (Wrote (Ok done) 2 0 (head ++ v.manifest)) → Told mid new (Wrote (Err fault) 3 0 (0 ∷ [])) → Told old new (Creates {E = IoFault} (Err answer) v)
  create_failed_told old mid new done fault answer first second =
      told_both (Wrote (Ok done) 2 0 (head ++ v.manifest)) (Wrote (Err fault) 3 0 (0 ∷ [])) (Creates {E = IoFault} (Err answer) v) old mid new
      (λ a b c one two. create_failed v head (head_pieces v head is) number size a c b done one fault answer two) first second

  pub create_done_told : (old mid new : Option Disk) (done again : Unit {0}) → Told old mid (Wrote (Ok done) 2 0 (head ++ v.manifest)) → Told mid new (Wrote (Ok again) 3 0 (0 ∷ [])) → Told old new (Creates {E = IoFault} (Ok (root_of First v.n other.Closed)) v)
  create_done_told old mid new done again first second =
      told_both (Wrote (Ok done) 2 0 (head ++ v.manifest)) (Wrote (Ok again) 3 0 (0 ∷ [])) (Creates {E = IoFault} (Ok (root_of First v.n other.Closed)) v) old mid new
      (λ a b c one two. create_done v head (head_pieces v head is) number size a c b done one again two) first second
