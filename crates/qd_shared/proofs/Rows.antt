-- The rows of versions, as the catalogue and as a scoreboard has them.
use Rattle.std.proofs.Common.{◌≡◌, ◌≢◌, ◌⊎◌, ◌∙◌, ◌||◌, inl, inr, ℕ, zero, suc, ◌<◌, Bool, true, false, nat_eq, List, [], ◌∷◌, length, map, get_or, set, Option, Some, None, Contains, refl, sym, ap, subst}
use Rattle.std.specs.List.{list_any}
use Rattle.std.proofs.Math.Dec.{eqb}
use Rattle.std.proofs.lemmas.Bool.{eqb-true}
use Rattle.std.proofs.lemmas.Bool.Decides.{eqb_tells}
use Rattle.std.proofs.lemmas.List.{get_or-set_same, get_or-set_other}
use Rattle.std.proofs.lemmas.Map.Views.{Contains-from_any}
use Rattle.qd_catalog.specs.declared.version.Version as catalog
use Rattle.qd_catalog.specs.Versions as rows
use Rattle.qd_catalog.specs.Versions.{Versions, lists, written_of}
use Rattle.qd_manifest.specs.declared.shape.TableParts.{TableParts}
use Rattle.qd_manifest.specs.Spelling.{blocks_of}
use Rattle.qd_score_model.specs.declared.view.Version.{Version}
use Rattle.qd_score_model.specs.Machine.{AllPresent, version_at}
use Rattle.qd_versions.proofs.Blocks.{in_listed, written_kept}
use Rattle.qd_shared.specs.Desks.{Desk, book_of, version_of, versions_in}
use Rattle.qd_shared.specs.Publishing.{HasRows}

abbrev pub Row : Type 0
Row = Option (Version (List TableParts))

-- ---- a row is a row

pub row_of : (l : List (Option catalog.Version)) (row : ℕ) → get_or (map version_of l) row None ≡ version_of (get_or l row None)
row_of [] row = refl
row_of (x ∷ xs) zero = refl
row_of (x ∷ xs) (suc row) = row_of xs row

pub one_version : (o : Option catalog.Version) (x : Version (List TableParts)) → version_of o ≡ Some x → (y : catalog.Version) × (o ≡ Some y) × (x ≡ record { n = y.n; shape = y.shape })
one_version None x is = absurd (cc)
one_version (Some y) x is = (y, refl, cc)

-- the catalogue's version of a scoreboard's row, and the other way round
pub in_catalog : (d : Desk) (row : ℕ) (x : Version (List TableParts)) → version_at (versions_in d) row ≡ Some x
    → (y : catalog.Version) × (rows.version_at d.owned.store.versions.versions row ≡ Some y) × (x ≡ record { n = y.n; shape = y.shape })
in_catalog d row x at = one_version (get_or d.owned.store.versions.versions.versions row None) x (sym (row_of d.owned.store.versions.versions.versions row) ∙ at)

pub on_board : (d : Desk) (row : ℕ) (y : catalog.Version) → rows.version_at d.owned.store.versions.versions row ≡ Some y → version_at (versions_in d) row ≡ Some (record { n = y.n; shape = y.shape })
on_board d row y at = row_of d.owned.store.versions.versions.versions row ∙ ap version_of at

-- ---- blocks

any_first : (b : ℕ) (es : List (ℕ × ℕ)) → list_any (nat_eq b) (map (λ (e : ℕ × ℕ). e.0) es) ≡ list_any (λ (e : ℕ × ℕ). nat_eq b e.0) es
any_first b [] = refl
any_first b (e ∷ es) = ap (λ (c : Bool). nat_eq b e.0 || c) (any_first b es)

written_there : (b : ℕ) (es : List (ℕ × ℕ)) → 0 < rows.rows_in es b → Contains (map (λ (e : ℕ × ℕ). e.0) es) b
written_there b es some = Contains-from_any (λ x y t. eqb-true x y t) b (map (λ (e : ℕ × ℕ). e.0) es) (any_first b es ∙ written_kept es b some)

-- each block that a live version lists is present
pub present_all : (d : Desk) → HasRows d → AllPresent blocks_of (versions_in d) (book_of d).present
present_all d have row x at block inside =
    let c = in_catalog d row x at in
    let listed : lists (Some c.0) block ≡ true = in_listed block (blocks_of c.0.shape) (subst (λ (v : Version (List TableParts)). Contains (blocks_of v.shape) block) c.2 inside) in
    written_there block d.owned.store.versions.versions.written (have.written block (row, ap (λ (o : Option catalog.Version). lists o block) c.1 ∙ listed))

-- ---- a row is written

module _ (l : List Row) (row : ℕ) where
  pub same_row : (x : Row) → row < length l → version_at (set l row x) row ≡ x
  same_row x within = get_or-set_same l row x None within

  pub other_row : (x : Row) (other : ℕ) → other ≢ row → version_at (set l row x) other ≡ version_at l other
  other_row x other apart = get_or-set_other l row other x None apart

-- what a written row holds, by whether it is that row
pub written_row : (l : List Row) (row : ℕ) (x : Row) (P : ℕ → Version (List TableParts) → Type 0) → row < length l → ((y : Version (List TableParts)) → x ≡ Some y → P row y) → ((other : ℕ) (y : Version (List TableParts)) → other ≢ row → version_at l other ≡ Some y → P other y)
    → (other : ℕ) (y : Version (List TableParts)) → version_at (set l row x) other ≡ Some y → P other y
written_row l row x P within here there other y at = by (eqb_tells other row) where
  by : ((eqb other row ≡ true) × (other ≡ row)) ⊎ ((eqb other row ≡ false) × (other ≢ row)) → P other y
  by (inl (t, same)) = subst (λ (k : ℕ). P k y) (sym same) (here y (sym (same_row l row x within) ∙ (ap (λ (k : ℕ). version_at (set l row x) k) (sym same) ∙ at)))
  by (inr (f, apart)) = there other y apart (sym (other_row l row x other apart) ∙ at)
