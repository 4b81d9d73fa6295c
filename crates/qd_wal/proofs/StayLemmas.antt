-- Which files segments are, and what the putting of an entry leaves of others.
use Rattle.std.proofs.Common.{◌≡◌, inl, inr, ℕ, ◌+◌, ◌^◌, ◌<◌, ◌≤◌, nat_eq, Bool, true, false, List, length, take, drop, Result, refl, sym, ◌∙◌, ap, subst, arith, eq-eqb}
use Rattle.std.proofs.lemmas.Bool.{eqb-true, false≢true}
use Rattle.qd_base.specs.declared.op.Entry.{Entry}
use Rattle.qd_base.specs.declared.part.WalRef.{WalRef}
use Rattle.qd_durable.proofs.Moved.{moments_have, now_has}
use Rattle.qd_durable.proofs.Standing.{stands_kept}
use Rattle.qd_durable.specs.Moments.{EachNow, LeavesOnly, SameOutside}
use Rattle.qd_io.specs.declared.fault.IoFault.{IoFault}
use Rattle.qd_volume.specs.Disk.{Disk, Image}
use Rattle.qd_wal.specs.Puts.{IsApart, Puts}
use Rattle.qd_wal.specs.Reading.{SpellsAt}
use Rattle.qd_wal.specs.Segments.{file_in, part_at, segment_file}

pub own_files : (wal segment log other : ℕ) → segment < 2 ^ 24 → other < 2 ^ 24 → segment_file wal segment ≡ segment_file log other → (wal ≡ log) × (segment ≡ other)
own_files wal segment log other low low_too same = (omega (arith, same, low, low_too), omega (arith, same, low, low_too))

module _ (at entry : WalRef) (size : ℕ) (e : Entry) (apart : IsApart at entry) (earlier image : Image) (same : SameOutside (file_in at) at.start size earlier image) where
  -- in the same segment
  spelled_here : file_in at ≡ file_in entry → SpellsAt (earlier (file_in at)) entry e → SpellsAt (image (file_in at)) entry e
  spelled_here one spells =
      let f = file_in at in
      let part = part_at (earlier f) entry in
      let stood : take (length part) (drop entry.start (earlier f)) ≡ part = ap (λ n. take n (drop entry.start (earlier f))) spells.whole in
      let stands = stands_kept (earlier f) (image f) entry.start part at.start size same.longer same.same (inl (ends apart)) stood in
      let kept : part_at (image f) entry ≡ part = ap (λ n. take n (drop entry.start (image f))) (sym spells.whole) ∙ stands in
      record {
        whole = ap length kept ∙ spells.whole;
        spelled = record { sound = spells.spelled.sound; whole = kept ∙ spells.spelled.whole };
      }
    where
      ends : IsApart at entry → entry.start + length (part_at (earlier (file_in at)) entry) ≤ at.start
      ends (inl other) = absurd (false≢true (sym other ∙ eq-eqb (file_in at) (file_in entry) one))
      ends (inr below) = omega (arith, below, spells.whole)

  pub spelled_on : SpellsAt (earlier (file_in entry)) entry e → SpellsAt (image (file_in entry)) entry e
  spelled_on spells = by (nat_eq (file_in at) (file_in entry)) refl
    where
      by : (b : Bool) → nat_eq (file_in at) (file_in entry) ≡ b → SpellsAt (image (file_in entry)) entry e
      by true is =
          let one = eqb-true (file_in at) (file_in entry) is in
          subst (λ f. SpellsAt (image f) entry e) one (spelled_here one (subst (λ f. SpellsAt (earlier f) entry e) (sym one) spells))
      by false is = subst (λ (bytes : List ℕ). SpellsAt bytes entry e) (sym (same.others (file_in entry) is)) spells

pub entries_stay : (result : Result WalRef IoFault) (at entry : WalRef) (bytes : List ℕ) (e : Entry) (before after : Disk) → Puts result at bytes before after → IsApart at entry → EachNow before (λ image. SpellsAt (image (file_in entry)) entry e) → LeavesOnly before after (λ image. SpellsAt (image (file_in entry)) entry e) × EachNow after (λ image. SpellsAt (image (file_in entry)) entry e)
entries_stay result at entry bytes e before after puts apart had =
    let R = SameOutside (file_in at) at.start (length bytes) in
    let P : Image → Type 0 = λ image. SpellsAt (image (file_in entry)) entry e in
    let keeps : (earlier image : Image) → P earlier → R earlier image → P image = λ earlier image spells same. spelled_on at entry (length bytes) e apart earlier image same spells in
    (moments_have R P P before after puts.touches had keeps, now_has R P P before after puts.touches had keeps)
