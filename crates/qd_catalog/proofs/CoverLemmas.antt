-- No live version shows more rows of a block than were written to it.
use Rattle.std.proofs.Common.{◌≡◌, ℕ, zero, suc, ◌+◌, ◌<◌, ◌≤◌, max, Bool, true, false, cond, eqb, nat_eq, List, [], ◌∷◌, length, get_or, set, replicate, Option, Some, None, refl, sym, ap, subst, ◌∙◌, inl, inr, arith}
use Rattle.std.specs.List.{list_any}
use Rattle.std.proofs.lemmas.Bool.{cases_eq, cases_Bool, eq-eqb, ne_eqb, cond-true, cond-false}
use Rattle.std.proofs.lemmas.List.{get_or-set_same, get_or-set_other, length-set}
use Rattle.std.proofs.lemmas.Option.{none-some, same_Some}
use Rattle.qd_manifest.specs.declared.shape.TableParts.{TableParts}
use Rattle.qd_manifest.specs.Spelling.{blocks_in, blocks_of}
use Rattle.qd_catalog.specs.declared.version.Version.{Version}
use Rattle.qd_catalog.specs.Laws.{CatalogsAreCovered, IsCovered}
use Rattle.qd_catalog.specs.Versions.{Adds, IsListed, IsOpened, Retires, SameVersions, Sweeps, Versions, lists, parts_of, rows_in, shown, version_at, written_of}
use Rattle.qd_catalog.proofs.KeptLemmas.{blocks_of_parts, shown-absent}

-- a list with an item put at a place
set_none : (versions : List (Option Version)) (row k : ℕ) (x : Version) → get_or (set versions row None) k None ≡ Some x → get_or versions k None ≡ Some x
set_none versions row k x e = elim (cases_eq k row) [
  | inl same ↦ absurd (gone versions row (subst (λ (i : ℕ). get_or (set versions row None) i None ≡ Some x) same e))
  | inr other ↦ sym (get_or-set_other versions row k None None other) ∙ e
]
  where
    gone : (versions : List (Option Version)) (row : ℕ) → get_or (set versions row None) row None ≡ Some x → ⊥
    gone [] row e = none-some x e
    gone (v ∷ versions) zero e = none-some x e
    gone (v ∷ versions) (suc row) e = gone versions row e

first_only : (n : ℕ) (o : Option Version) (row : ℕ) (x : Version) → get_or (o ∷ replicate n None) row None ≡ Some x → o ≡ Some x
first_only n o zero x e = e
first_only n o (suc row) x e = absurd (none n row e)
  where
    none : (n row : ℕ) → get_or (replicate n None) row None ≡ Some x → ⊥
    none zero row e = none-some x e
    none (suc n) zero e = none-some x e
    none (suc n) (suc row) e = none n row e

-- a version shows no rows of a block that it doesn't list
unlisted : (x : Version) (b : ℕ) → lists (Some x) b ≡ false → shown (parts_of x.shape) b ≡ 0
unlisted x b e = shown-absent (parts_of x.shape) b (sym (ap (list_any (nat_eq b)) (blocks_of_parts x.shape)) ∙ e)

opened : (v : Versions) (n next : ℕ) (shape : List TableParts) → IsOpened v n next shape → IsCovered v
opened v n next shape h row x b e =
    let first : Some (record { n = n; shape = shape }) ≡ Some x = first_only 63 (Some (record { n = n; shape = shape })) row x (sym (ap (λ (l : List (Option Version)). get_or l row None) h.versions) ∙ e) in
    let same = same_Some (record { n = n; shape = shape }) x first in
    subst (λ (y : Version). shown (parts_of y.shape) b ≤ written_of v b) same (omega (arith, h.written b))

reserved : (old new : Versions) → IsCovered old → SameVersions old new → IsCovered new
reserved old new covered h row x b e =
    let fits = covered row x b (sym (ap (λ (l : List (Option Version)). get_or l row None) h.versions) ∙ e) in
    subst (λ (w : List (ℕ × ℕ)). shown (parts_of x.shape) b ≤ rows_in w b) (sym h.written) fits

added : (old new : Versions) (n : ℕ) (shape : List TableParts) (row : ℕ) → IsCovered old → Adds old new n shape row → IsCovered new
added old new n shape row covered h k x b e =
    let made : Option Version = Some (record { n = n; shape = shape }) in
    let at : get_or (set old.versions row made) k None ≡ Some x = sym (ap (λ (l : List (Option Version)). get_or l k None) h.versions) ∙ e in
    let w = h.written b in
    elim (cases_eq k row) [
      | inl same ↦
          (let here = subst (λ (i : ℕ). get_or (set old.versions row made) i None ≡ Some x) same at in
          mine (put old.versions row made x here) w)
      | inr other ↦ (let fits = covered k x b (sym (get_or-set_other old.versions row k made None other) ∙ at) in omega arith)
    ]
  where
    put : (versions : List (Option Version)) (row : ℕ) (made : Option Version) (x : Version) → get_or (set versions row made) row None ≡ Some x → made ≡ Some x
    put [] row made x e = absurd (none-some x e)
    put (v ∷ versions) zero made x e = e
    put (v ∷ versions) (suc row) made x e = put versions row made x e

    mine : Some (record { n = n; shape = shape }) ≡ Some x → written_of new b ≡ max (written_of old b) (shown (parts_of shape) b) → shown (parts_of x.shape) b ≤ written_of new b
    mine e w = subst (λ (y : Version). shown (parts_of y.shape) b ≤ written_of new b) (same_Some (record { n = n; shape = shape }) x e) (omega arith)

retired : (old new : Versions) (row : ℕ) → IsCovered old → Retires old new row → IsCovered new
retired old new row covered h k x b e =
    let fits = covered k x b (set_none old.versions row k x (sym (ap (λ (l : List (Option Version)). get_or l k None) h.versions) ∙ e)) in
    let same = h.written b in
    omega arith

swept : (old new : Versions) (block : ℕ) → IsCovered old → (IsListed old block → ⊥) → Sweeps old new block → IsCovered new
swept old new block covered free h k x b e =
    let at : version_at old k ≡ Some x = sym (ap (λ (l : List (Option Version)). get_or l k None) h.versions) ∙ e in
    let w = h.written b in
    elim (cases_eq block b) [
      | inl same ↦ (let none = unlisted x b (no_list (lists (Some x) b) refl same at) in omega arith)
      | inr other ↦
          (let fits = covered k x b at in
          let stays : written_of new b ≡ written_of old b = w ∙ cond-false (eqb block b) 0 (written_of old b) (ne_eqb block b other) in
          omega arith)
    ]
  where
    no_list : (l : Bool) → lists (Some x) b ≡ l → block ≡ b → version_at old k ≡ Some x → lists (Some x) b ≡ false
    no_list false e same at = e
    no_list true e same at = absurd (free (k, ap (λ (o : Option Version). lists o block) at ∙ ap (lists (Some x)) same ∙ e))

pub covered : CatalogsAreCovered
covered = record { opened = opened; reserved = reserved; added = added; retired = retired; swept = swept }
