-- Rows that fit the columns of a builder.
use Rattle.std.proofs.Common.{◌≡◌, ◌≢◌, ℕ, zero, suc, ◌+◌, ◌<◌, List, [], ◌∷◌, ◌++◌, length, take, get_or, refl, sym, ap, ◌∙◌, arith, subst}
use Rattle.std.proofs.lemmas.List.{take_more, length-take-le}
use Rattle.qd_base.specs.declared.cell.Cell.{Cell}
use Rattle.qd_base.specs.declared.cell.Cell.TheVariants as cell
use Rattle.qd_base.specs.declared.schema.ColType.{ColType}
use Rattle.qd_base.specs.declared.schema.ColType.TheVariants as kind
use Rattle.qd_base.specs.declared.schema.Col.{Col}
use Rattle.qd_base.specs.Lawful.{Takes, HasKinds}
use Rattle.qd_base.specs.Rows.{Row}
use Rattle.qd_block.specs.Blocks.{Building, kinds_in, with_open, FitsKinds, IsTimed}

pub fits_length : (kinds : List ColType) (row : Row) → FitsKinds kinds row → length row ≡ length kinds
fits_length [] [] f = refl
fits_length [] (x ∷ xs) f = absurd f
fits_length (k ∷ ks) [] f = absurd f
fits_length (k ∷ ks) (x ∷ xs) f = ap suc (fits_length ks xs f.1)

pub fits_at : (kinds : List ColType) (row : Row) (i : ℕ) (e : ColType) (d : Cell) → FitsKinds kinds row → i < length row → Takes (get_or kinds i e) (get_or row i d)
fits_at [] [] i e d f h = absurd (omega arith)
fits_at [] (x ∷ xs) i e d f h = absurd f
fits_at (k ∷ ks) [] i e d f h = absurd f
fits_at (k ∷ ks) (x ∷ xs) zero e d f h = f.0
fits_at (k ∷ ks) (x ∷ xs) (suc i) e d f h = fits_at ks xs i e d f.1 (omega arith)

-- a row of cells for declared columns
pub fits_columns : (cols : List Col) (row : Row) → HasKinds cols row → FitsKinds (kinds_in cols) row
fits_columns [] [] h = tt
fits_columns [] (x ∷ xs) h = absurd h
fits_columns (c ∷ cs) [] h = absurd h
fits_columns (c ∷ cs) (x ∷ xs) h = (h.0, fits_columns cs xs h.1)

-- a builder with the first cells of a row open
abbrev pub opened : Building → Row → ℕ → Building
opened b row i = record b { open_row = take i row }

-- what is asked of the cell that comes next
pub record IsNext (b : Building) (x : Cell) : Type 0 where
  pub there : length b.open_row < length b.kinds
  pub takes : Takes (get_or b.kinds (length b.open_row) kind.Long) x
  pub timed : length b.open_row ≡ b.time_col → x ≢ cell.Null

pub next_fits : (b now : Building) (row : Row) (i : ℕ) (x : Cell) → FitsKinds b.kinds row → IsTimed b.time_col row → now ≡ opened b row i → i < length row → x ≡ get_or row i x → IsNext now x
next_fits b now row i x fits timed is low at =
    let size : length (take i row) ≡ i = length-take-le i row (omega arith) in
    let takes : Takes (get_or b.kinds i kind.Long) x = subst (Takes (get_or b.kinds i kind.Long)) (sym at) (fits_at b.kinds row i kind.Long x fits low) in
    let next : IsNext (opened b row i) x = record {
      there = omega (arith, size, fits_length b.kinds row fits);
      takes = subst (λ (n : ℕ). Takes (get_or b.kinds n kind.Long) x) (sym size) takes;
      timed = λ e null. timed (sym (ap (λ (n : ℕ). get_or row n cell.Null) (sym size ∙ e)) ∙ here row i x low at ∙ null);
    } in
    subst (λ (n : Building). IsNext n x) (sym is) next
  where
    here : (row : Row) (i : ℕ) (x : Cell) → i < length row → x ≡ get_or row i x → get_or row i cell.Null ≡ x
    here [] i x low at = absurd (omega arith)
    here (y ∷ ys) zero x low at = sym at
    here (y ∷ ys) (suc i) x low at = here ys i x (omega arith) at

pub open_next : (b now after : Building) (row : Row) (i : ℕ) (x : Cell) → now ≡ opened b row i → after ≡ with_open now x → i < length row → x ≡ get_or row i x → after ≡ opened b row (i + 1)
open_next b now after row i x is added low at =
    added ∙ ap (λ (n : Building). with_open n x) is ∙ ap (λ (r : Row). record b { open_row = r }) (ap (λ (y : Cell). take i row ++ y ∷ []) at ∙ sym (take_more row i x low))
