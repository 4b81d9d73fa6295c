-- Rows among lines, and the lines behind them, by what a batch keeps.
use Rattle.std.proofs.Common.{◌≡◌, ℕ, zero, suc, ◌+◌, ◌<◌, ◌≤◌, List, [], ◌∷◌, ◌++◌, length, drop, get_or, refl, sym, ap, ap₂, ◌∙◌, arith, drop-cons, le_of_suc-le-suc}
use Rattle.std.specs.List.{AllByRecursion}
use Rattle.qd_ilp.specs.declared.item.Pair.{Pair}
use Rattle.qd_ilp.specs.declared.row.KeptRow.{KeptRow}
use Rattle.qd_ilp.specs.Line.{Line, Row, Blank, Gives}
use Rattle.qd_ilp.specs.Whole.{blanks, lines_in, row_in}
use Rattle.qd_ilp.specs.View.{rows_among, behind_rows}

past_blanks : (k n : ℕ) (row : Row) (lines : List Line) → behind_rows (suc n) (blanks k ++ Gives row ∷ lines) ≡ behind_rows n lines
past_blanks zero n row lines = refl
past_blanks (suc k) n row lines = past_blanks k n row lines

count_past : (k : ℕ) (lines : List Line) → rows_among (blanks k ++ lines) ≡ rows_among lines
count_past zero lines = refl
count_past (suc k) lines = count_past k lines

none_among : (k : ℕ) → rows_among (blanks k) ≡ 0
none_among zero = refl
none_among (suc k) = none_among k

module _ (bytes : List ℕ) (pairs : List Pair) where
  pub rows_counted : (rows : List KeptRow) (behind : ℕ) → rows_among (lines_in bytes pairs rows behind) ≡ length rows
  rows_counted [] behind = none_among behind
  rows_counted (r ∷ rs) behind = count_past r.blanks (Gives (row_in bytes pairs r.head) ∷ lines_in bytes pairs rs behind) ∙ ap suc (rows_counted rs behind)

  pub behind_is : (i : ℕ) (rows : List KeptRow) (behind : ℕ) → i ≤ length rows → behind_rows i (lines_in bytes pairs rows behind) ≡ lines_in bytes pairs (drop i rows) behind
  behind_is zero rows behind le = refl
  behind_is (suc i) [] behind le = absurd (omega arith)
  behind_is (suc i) (r ∷ rs) behind le = past_blanks r.blanks i (row_in bytes pairs r.head) (lines_in bytes pairs rs behind) ∙ behind_is i rs behind (le_of_suc-le-suc le)

  pub row_at : (i : ℕ) (rows : List KeptRow) (behind : ℕ) (d : KeptRow) → i < length rows
      → behind_rows i (lines_in bytes pairs rows behind) ≡ blanks (get_or rows i d).blanks ++ Gives (row_in bytes pairs (get_or rows i d).head) ∷ behind_rows (i + 1) (lines_in bytes pairs rows behind)
  row_at i rows behind d lt =
      let next : suc i ≡ i + 1 = omega arith in
      let r = get_or rows i d in
      behind_is i rows behind (omega arith) ∙ ap (λ (rs : List KeptRow). lines_in bytes pairs rs behind) (drop-cons rows i d lt ∙ ap (λ (k : ℕ). r ∷ drop k rows) next)
      ∙ ap (λ (ls : List Line). blanks r.blanks ++ Gives (row_in bytes pairs r.head) ∷ ls) (sym (behind_is (i + 1) rows behind (omega arith)))

-- what holds of each kept row holds of the one at a place
pub kept_at : (P : KeptRow → Type 0) (rows : List KeptRow) (i : ℕ) (d : KeptRow) → AllByRecursion P rows → i < length rows → P (get_or rows i d)
kept_at P [] i d h lt = absurd (omega arith)
kept_at P (r ∷ rs) zero d h lt = h.0
kept_at P (r ∷ rs) (suc i) d h lt = kept_at P rs i d h.1 (le_of_suc-le-suc lt)
