-- What bytes at a place of a segment spell, and where they are damaged, is one.
use Rattle.std.proofs.Common.{◌≡◌, inl, inr, ℕ, ◌+◌, min, List, length, sym, ap, ◌∙◌, arith}
use Rattle.qd_base.specs.declared.op.Entry.{Entry}
use Rattle.qd_base.specs.declared.part.WalRef.{WalRef}
use Rattle.qd_wal_entry.proofs.Entries.{damaged_spells_none, one_entry, one_place}
use Rattle.qd_wal.specs.Segments.{part_at}
use Rattle.qd_wal.specs.Reading.{IsDamagedIn, SpellsAt}

pub one_read : (bytes : List ℕ) (at : WalRef) (a b : Entry) → SpellsAt bytes at a → SpellsAt bytes at b → a ≡ b
one_read bytes at a b p q = one_entry (part_at bytes at) a b p.spelled q.spelled

pub place_is_one : (bytes : List ℕ) (at : WalRef) (place other : ℕ) → IsDamagedIn bytes at place → IsDamagedIn bytes at other → place ≡ other
place_is_one bytes at place other (inl p) (inl q) = p.2 ∙ ap (λ k. min (at.start + k) (length bytes)) (one_place (part_at bytes at) p.0 q.0 p.1 q.1) ∙ sym q.2
place_is_one bytes at place other (inl p) (inr q) = absurd (damaged_spells_none (part_at bytes at) p.0 q.0 p.1 q.1)
place_is_one bytes at place other (inr p) (inl q) = absurd (damaged_spells_none (part_at bytes at) q.0 p.0 q.1 p.1)
place_is_one bytes at place other (inr p) (inr q) = p.3 ∙ sym q.3

pub none_spelled : (bytes : List ℕ) (at : WalRef) (place : ℕ) (e : Entry) → IsDamagedIn bytes at place → SpellsAt bytes at e → ⊥
none_spelled bytes at place e (inl p) spells = damaged_spells_none (part_at bytes at) p.0 e p.1 spells.spelled
none_spelled bytes at place e (inr p) spells = omega (arith, p.2, spells.whole)
