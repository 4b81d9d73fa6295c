-- Marks over one buffer of bytes.
use Rattle.std.proofs.Common.{◌≡◌, ℕ, zero, suc, ◌+◌, ◌-◌, ◌*◌, ◌/◌, ◌%◌, ◌<◌, ◌≤◌, List, [], ◌∷◌, ◌++◌, Some, length, take, drop, get_or, refl, sym, ap, ◌∙◌, arith, cond, eqb, true, false, slice_get, slice_range, length-append, length-drop, subst}
use Rattle.std.proofs.lemmas.Bool.{eq-eqb, ne_eqb}
use Rattle.std.proofs.lemmas.List.{take-append-le, drop_all}
use Rattle.std.proofs.lemmas.Option.{slice_get-get_or}
use Rattle.qd_base.specs.declared.cell.Cell.{Cell}
use Rattle.qd_base.specs.declared.cell.Cell.TheVariants as cell
use Rattle.qd_column.specs.Texts.{text_cell, cells_from, start_at, Tile}

pub length-cells_from : (bytes : List ℕ) (start : ℕ) (marks : List ℕ) → length (cells_from bytes start marks) ≡ length marks
length-cells_from bytes start [] = refl
length-cells_from bytes start (m ∷ ms) = ap suc (length-cells_from bytes (m / 2) ms)

-- the last place is behind the first
tile_ends : (start end : ℕ) (marks : List ℕ) → Tile start marks end → start ≤ end
tile_ends start end [] t = omega arith
tile_ends start end (m ∷ ms) t = let rest = tile_ends (m / 2) end ms t.3 in let one = t.0 in omega arith

-- more bytes change no part that was there
drop-more : (n : ℕ) (xs ys : List ℕ) → n ≤ length xs → drop n (xs ++ ys) ≡ drop n xs ++ ys
drop-more zero xs ys h = refl
drop-more (suc n) [] ys h = absurd (omega arith)
drop-more (suc n) (x ∷ xs) ys h = drop-more n xs ys (omega arith)

part_kept : (xs ys : List ℕ) (a b : ℕ) → a ≤ b → b ≤ length xs → slice_range (xs ++ ys) a b ≡ slice_range xs a b
part_kept xs ys a b low high = ap (take (b - a)) (drop-more a xs ys (omega arith)) ∙ take-append-le (b - a) (drop a xs) ys (omega (arith, length-drop a xs))

-- a row more, behind all bytes
pub cells_from-more : (bytes more : List ℕ) (start mark : ℕ) (marks : List ℕ) → Tile start marks (length bytes) → cells_from (bytes ++ more) start (marks ++ mark ∷ []) ≡ cells_from bytes start marks ++ text_cell (bytes ++ more) (length bytes) mark ∷ []
cells_from-more bytes more start mark [] t = ap (λ n. text_cell (bytes ++ more) n mark ∷ []) t
cells_from-more bytes more start mark (m ∷ ms) t =
    let within : m / 2 ≤ length bytes = tile_ends (m / 2) (length bytes) ms t.3 in
    let kept : slice_range (bytes ++ more) start (m / 2) ≡ slice_range bytes start (m / 2) = part_kept bytes more start (m / 2) t.0 within in
    let rest = cells_from-more bytes more (m / 2) mark ms t.3 in
    let same : text_cell (bytes ++ more) start m ≡ text_cell bytes start m = ap (λ s. cond (eqb (m % 2) 1) cell.Null (cell.Text s)) kept in
    ap (λ x. x ∷ cells_from (bytes ++ more) (m / 2) (ms ++ mark ∷ [])) same ∙ ap (λ xs. text_cell bytes start m ∷ xs) rest

pub tile_more : (start end mark : ℕ) (marks : List ℕ) → Tile start marks end → end ≤ mark / 2 → mark / 2 ≤ end + 65535 → (mark % 2 ≡ 1 → mark / 2 ≡ end) → Tile start (marks ++ mark ∷ []) (mark / 2)
tile_more start end mark [] t low high null = (omega arith, omega arith, λ e. null e ∙ sym t, refl)
tile_more start end mark (m ∷ ms) t low high null = (t.0, t.1, t.2, tile_more (m / 2) end mark ms t.3 low high null)

drop_whole : (xs ys : List ℕ) → drop (length xs) (xs ++ ys) ≡ ys
drop_whole [] ys = refl
drop_whole (x ∷ xs) ys = drop_whole xs ys

take_whole : (xs : List ℕ) (n : ℕ) → n ≡ length xs → take n xs ≡ xs
take_whole [] n e = rw e refl
take_whole (x ∷ xs) n e = rw e (ap (λ l. x ∷ l) (take_whole xs (length xs) refl))

-- what is behind all bytes that were there
pub part_added : (xs ys : List ℕ) (b : ℕ) → b ≡ length xs + length ys → slice_range (xs ++ ys) (length xs) b ≡ ys
part_added xs ys b e = ap (take (b - length xs)) (drop_whole xs ys) ∙ take_whole ys (b - length xs) (omega arith)

-- the cells and the marks with a text, and with NULL
pub text_pushed : (bytes text : List ℕ) (marks : List ℕ) (mark : ℕ) → Tile 0 marks (length bytes) → mark ≡ 2 * (length bytes + length text) → length text ≤ 65535 → (cells_from (bytes ++ text) 0 (marks ++ mark ∷ []) ≡ cells_from bytes 0 marks ++ cell.Text text ∷ []) × Tile 0 (marks ++ mark ∷ []) (length (bytes ++ text))
text_pushed bytes text marks mark t is short =
    let even : mark % 2 ≡ 0 = omega arith in
    let half : mark / 2 ≡ length bytes + length text = omega arith in
    let whole : mark / 2 ≡ length (bytes ++ text) = omega (arith, length-append bytes text) in
    let shown : text_cell (bytes ++ text) (length bytes) mark ≡ cell.Text text = rw (ne_eqb (mark % 2) 1 (λ e. absurd (omega arith))) (ap cell.Text (part_added bytes text (mark / 2) half)) in
    (cells_from-more bytes text 0 mark marks t ∙ ap (λ x. cells_from bytes 0 marks ++ x ∷ []) shown, subst (λ (n : ℕ). Tile 0 (marks ++ mark ∷ []) n) whole (tile_more 0 (length bytes) mark marks t (omega arith) (omega arith) (λ e. absurd (omega arith))))

append_none : (xs : List ℕ) → xs ++ [] ≡ xs
append_none [] = refl
append_none (x ∷ xs) = ap (λ l. x ∷ l) (append_none xs)

pub null_pushed : (bytes marks : List ℕ) (mark : ℕ) → Tile 0 marks (length bytes) → mark ≡ 2 * length bytes + 1 → (cells_from bytes 0 (marks ++ mark ∷ []) ≡ cells_from bytes 0 marks ++ cell.Null ∷ []) × Tile 0 (marks ++ mark ∷ []) (length bytes)
null_pushed bytes marks mark t is =
    let odd : mark % 2 ≡ 1 = omega arith in
    let half : mark / 2 ≡ length bytes = omega arith in
    let shown : text_cell (bytes ++ []) (length bytes) mark ≡ cell.Null = rw (eq-eqb (mark % 2) 1 odd) refl in
    (ap (λ b. cells_from b 0 (marks ++ mark ∷ [])) (sym (append_none bytes)) ∙ cells_from-more bytes [] 0 mark marks t ∙ ap (λ x. cells_from bytes 0 marks ++ x ∷ []) shown, subst (λ (n : ℕ). Tile 0 (marks ++ mark ∷ []) n) half (tile_more 0 (length bytes) mark marks t (omega arith) (omega arith) (λ e. half)))

-- the cell of a row
pub cell_at_row : (bytes : List ℕ) (start : ℕ) (marks : List ℕ) (i : ℕ) → i < length marks → slice_get (cells_from bytes start marks) i ≡ Some (text_cell bytes (start_at start marks i) (get_or marks i 0))
cell_at_row bytes start [] i h = absurd (omega arith)
cell_at_row bytes start (m ∷ ms) zero h = refl
cell_at_row bytes start (m ∷ ms) (suc zero) h = cell_at_row bytes (m / 2) ms zero (omega arith)
cell_at_row bytes start (m ∷ ms) (suc (suc i)) h = cell_at_row bytes (m / 2) ms (suc i) (omega arith)

pub row_within : (start end : ℕ) (marks : List ℕ) (i : ℕ) → Tile start marks end → i < length marks → (start_at start marks i ≤ get_or marks i 0 / 2) × (get_or marks i 0 / 2 ≤ end) × (get_or marks i 0 / 2 ≤ start_at start marks i + 65535)
row_within start end [] i t h = absurd (omega arith)
row_within start end (m ∷ ms) zero t h = (t.0, tile_ends (m / 2) end ms t.3, t.1)
row_within start end (m ∷ ms) (suc zero) t h = row_within (m / 2) end ms zero t.3 (omega arith)
row_within start end (m ∷ ms) (suc (suc i)) t h = row_within (m / 2) end ms (suc i) t.3 (omega arith)
