-- The marks of texts over one buffer of bytes.
use Rattle.std.proofs.Common.{◌≡◌, ◌≢◌, ℕ, zero, suc, ◌+◌, ◌-◌, ◌*◌, ◌/◌, ◌%◌, ◌<◌, ◌≤◌, inl, inr, List, [], ◌∷◌, ◌++◌, length, fold, take, drop, slice_index, slice_range, refl, sym, ap, ◌∙◌, arith, All, length-append, length-drop, length-take, ◌^◌}
use Rattle.std.specs.List.{flat_map}
use Rattle.std.proofs.lemmas.Bool.Decides.{eqb_tells}
use Rattle.std.proofs.lemmas.List.{length-take-le, take-append-drop, drop-drop, drop-take, take-take}
use Rattle.qd_base.specs.declared.cell.Cell.{Cell}
use Rattle.qd_base.specs.declared.cell.Cell.TheVariants as cell
use Rattle.qd_base.specs.declared.limits.TheConstants.{MAX_TEXT_BYTES}
use Rattle.qd_base.specs.declared.schema.ColType.TheVariants as kind
use Rattle.qd_column.specs.Texts.{text_cell, cells_from, Tile}
use Rattle.qd_column.proofs.ListLemmas.{part_none}
use Rattle.qd_column_format.specs.Fields.{marks_from, AreFields}
use Rattle.qd_column_format.specs.Spelling.{text_bytes, IsStorable}

-- where the last text ends, the first one beginning at a place
abbrev pub end_from : ℕ → List ℕ → ℕ
end_from start marks = fold (λ s m. m / 2) start marks

-- the rule of a mark, behind a place
abbrev pub FollowsEnd : ℕ → ℕ → Type 0
FollowsEnd start n = (start ≤ n / 2) × (n / 2 ≤ start + MAX_TEXT_BYTES) × (n % 2 ≡ 1 → n / 2 ≡ start)

pub tile_ends : (start end : ℕ) (marks : List ℕ) → Tile start marks end → start ≤ end
tile_ends start end [] t = omega arith
tile_ends start end (m ∷ ms) t = let rest = tile_ends (m / 2) end ms t.3 in let one = t.0 in omega arith

pub length-cells : (bytes : List ℕ) (start : ℕ) (marks : List ℕ) → length (cells_from bytes start marks) ≡ length marks
length-cells bytes start [] = refl
length-cells bytes start (m ∷ ms) = ap suc (length-cells bytes (m / 2) ms)

pub length-marks : (start : ℕ) (cells : List Cell) → length (marks_from start cells) ≡ length cells
length-marks start [] = refl
length-marks start (cell.Null ∷ cs) = ap suc (length-marks start cs)
length-marks start (cell.Long x ∷ cs) = ap suc (length-marks start cs)
length-marks start (cell.Bool b ∷ cs) = ap suc (length-marks start cs)
length-marks start (cell.Text t ∷ cs) = ap suc (length-marks (start + length t) cs)
length-marks start (cell.Time t ∷ cs) = ap suc (length-marks start cs)

-- two parts, one behind the other
pub parts_join : {X : Type 0} (xs : List X) (a b c : ℕ) → a ≤ b → b ≤ c → slice_range xs a b ++ slice_range xs b c ≡ slice_range xs a c
parts_join xs a b c low high =
    let ys = drop a xs in
    let moved : drop b xs ≡ drop (b - a) ys = let place : a + (b - a) ≡ b = omega arith in ap (λ n. drop n xs) (sym place) ∙ sym (drop-drop (b - a) a xs) in
    let count : (b - a) + (c - b) ≡ c - a = omega arith in
    ap (λ l. take (b - a) ys ++ take (c - b) l) moved
    ∙ ap (λ l. take (b - a) ys ++ l) (sym (drop-take (b - a) (c - b) ys))
    ∙ ap (λ l. l ++ drop (b - a) (take ((b - a) + (c - b)) ys)) (sym (take-take (b - a) ((b - a) + (c - b)) ys (omega arith)))
    ∙ take-append-drop (b - a) (take ((b - a) + (c - b)) ys)
    ∙ ap (λ n. take n ys) count

part_size : (bytes : List ℕ) (a b : ℕ) → a ≤ b → b ≤ length bytes → a + length (slice_range bytes a b) ≡ b
part_size bytes a b low high = let size = length-take-le (b - a) (drop a bytes) (omega (arith, length-drop a bytes)) in omega arith

-- the marks of the cells that marks stand for
mark_again : (bytes : List ℕ) (start m : ℕ) (cs : List Cell) → start ≤ m / 2 → m / 2 ≤ length bytes → (m % 2 ≡ 1 → m / 2 ≡ start) → marks_from start (text_cell bytes start m ∷ cs) ≡ m ∷ marks_from (m / 2) cs
mark_again bytes start m cs low high null =
    elim (eqb_tells (m % 2) 1) [
      | inl odd ↦ (let same : start ≡ m / 2 = sym (null odd.1) in let is : 2 * start + 1 ≡ m = omega (arith, odd.1, same) in rw odd.0 (ap (λ n. n ∷ marks_from start cs) is ∙ ap (λ s. m ∷ marks_from s cs) same))
      | inr even ↦ (let size = part_size bytes start (m / 2) low high in let other : m % 2 ≢ 1 = even.1 in let is : 2 * (start + length (slice_range bytes start (m / 2))) ≡ m = omega (arith, size, other) in rw even.0 (ap (λ n. n ∷ marks_from (start + length (slice_range bytes start (m / 2))) cs) is ∙ ap (λ s. m ∷ marks_from s cs) size))
    ]

pub marks_again : (bytes : List ℕ) (start end : ℕ) (marks : List ℕ) → Tile start marks end → end ≤ length bytes → marks_from start (cells_from bytes start marks) ≡ marks
marks_again bytes start end [] t within = refl
marks_again bytes start end (m ∷ ms) t within =
    let inside = tile_ends (m / 2) end ms t.3 in
    mark_again bytes start m (cells_from bytes (m / 2) ms) t.0 (omega arith) t.2 ∙ ap (λ l. m ∷ l) (marks_again bytes (m / 2) end ms t.3 within)

-- the bytes of the texts that marks stand for
text_again : (bytes : List ℕ) (start m : ℕ) (more : List ℕ) → (m % 2 ≡ 1 → m / 2 ≡ start) → text_bytes (text_cell bytes start m) ++ more ≡ slice_range bytes start (m / 2) ++ more
text_again bytes start m more null =
    elim (eqb_tells (m % 2) 1) [
      | inl odd ↦ rw odd.0 (ap (λ l. l ++ more) (sym (ap (slice_range bytes start) (null odd.1) ∙ part_none bytes start)))
      | inr even ↦ rw even.0 refl
    ]

pub texts_again : (bytes : List ℕ) (start end : ℕ) (marks : List ℕ) → Tile start marks end → flat_map text_bytes (cells_from bytes start marks) ≡ slice_range bytes start end
texts_again bytes start end [] t = sym (ap (slice_range bytes start) (sym t) ∙ part_none bytes start)
texts_again bytes start end (m ∷ ms) t =
    let inside = tile_ends (m / 2) end ms t.3 in
    ap (λ l. text_bytes (text_cell bytes start m) ++ l) (texts_again bytes (m / 2) end ms t.3) ∙ text_again bytes start m (slice_range bytes (m / 2) end) t.2 ∙ parts_join bytes start (m / 2) end t.0 inside

-- marks that keep the rule tile the bytes up to the last of them
pub tile_of_fields : (start : ℕ) (marks : List ℕ) → ((i : ℕ) → i < length marks → FollowsEnd (end_from start (take i marks)) (slice_index marks i)) → Tile start marks (end_from start marks)
tile_of_fields start [] follows = refl
tile_of_fields start (m ∷ ms) follows = let first = follows zero (omega arith) in (first.0, first.1, first.2, tile_of_fields (m / 2) ms (λ i h. follows (suc i) (omega arith)))

-- the texts of a column that can be stored are short enough
tile_storable : (bytes : List ℕ) (start end : ℕ) (marks : List ℕ) → Tile start marks end → All (IsStorable kind.Varchar) (cells_from bytes start marks)
tile_storable bytes start end [] t k d h = absurd (omega arith)
tile_storable bytes start end (m ∷ ms) t zero d h =
    elim (eqb_tells (m % 2) 1) [
      | inl odd ↦ rw odd.0 tt
      | inr even ↦ rw even.0 (let high = t.1 in omega (arith, length-take (m / 2 - start) (drop start bytes)))
    ]
tile_storable bytes start end (m ∷ ms) t (suc k) d h = tile_storable bytes (m / 2) end ms t.3 k d (omega arith)

pub cells_storable : (bytes : List ℕ) (end : ℕ) (marks : List ℕ) → Tile 0 marks end → All (IsStorable kind.Varchar) (cells_from bytes 0 marks)
cells_storable bytes end marks t = tile_storable bytes 0 end marks t

-- the marks of cells that can be stored keep the rule
cells_follow : (start : ℕ) (cells : List Cell) → All (IsStorable kind.Varchar) cells → (i : ℕ) → i < length cells → FollowsEnd (end_from start (take i (marks_from start cells))) (slice_index (marks_from start cells) i)
cells_follow start [] each i h = absurd (omega arith)
cells_follow start (cell.Null ∷ cs) each zero h = (omega arith, omega arith, λ odd. omega arith)
cells_follow start (cell.Null ∷ cs) each (suc i) h = let half : (2 * start + 1) / 2 ≡ start = omega arith in rw half (cells_follow start cs (λ k d lt. each (suc k) d (omega arith)) i (omega arith))
cells_follow start (cell.Text t ∷ cs) each zero h = let short = each 0 cell.Null (omega arith) in (omega arith, omega arith, λ odd. absurd (omega arith))
cells_follow start (cell.Text t ∷ cs) each (suc i) h = let half : 2 * (start + length t) / 2 ≡ start + length t = omega arith in rw half (cells_follow (start + length t) cs (λ k d lt. each (suc k) d (omega arith)) i (omega arith))
cells_follow start (cell.Long x ∷ cs) each i h = absurd (each 0 cell.Null (omega arith))
cells_follow start (cell.Bool b ∷ cs) each i h = absurd (each 0 cell.Null (omega arith))
cells_follow start (cell.Time t ∷ cs) each i h = absurd (each 0 cell.Null (omega arith))

pub marks_are_fields : (cells : List Cell) → All (IsStorable kind.Varchar) cells → All (λ n. n < 256 ^ 8) (marks_from 0 cells) → AreFields kind.Varchar (marks_from 0 cells)
marks_are_fields cells each fit = record { fit = fit; kept = λ i h. cells_follow 0 cells each i (omega (arith, length-marks 0 cells)) }

-- where the texts of cells end
pub end_of_marks : (start : ℕ) (cells : List Cell) → end_from start (marks_from start cells) ≡ start + length (flat_map text_bytes cells)
end_of_marks start [] = omega arith
end_of_marks start (cell.Null ∷ cs) = let half : (2 * start + 1) / 2 ≡ start = omega arith in ap (λ s. end_from s (marks_from start cs)) half ∙ end_of_marks start cs
end_of_marks start (cell.Long x ∷ cs) = let half : (2 * start + 1) / 2 ≡ start = omega arith in ap (λ s. end_from s (marks_from start cs)) half ∙ end_of_marks start cs
end_of_marks start (cell.Bool b ∷ cs) = let half : (2 * start + 1) / 2 ≡ start = omega arith in ap (λ s. end_from s (marks_from start cs)) half ∙ end_of_marks start cs
end_of_marks start (cell.Time t ∷ cs) = let half : (2 * start + 1) / 2 ≡ start = omega arith in ap (λ s. end_from s (marks_from start cs)) half ∙ end_of_marks start cs
end_of_marks start (cell.Text t ∷ cs) =
    let half : 2 * (start + length t) / 2 ≡ start + length t = omega arith in
    ap (λ s. end_from s (marks_from (start + length t) cs)) half ∙ end_of_marks (start + length t) cs ∙ omega (arith, length-append t (flat_map text_bytes cs))

-- the marks of the first cells
pub first_marks : (start : ℕ) (cells : List Cell) (n : ℕ) → marks_from start (take n cells) ≡ take n (marks_from start cells)
first_marks start cells zero = refl
first_marks start [] (suc n) = refl
first_marks start (cell.Null ∷ cs) (suc n) = ap (λ l. (2 * start + 1) ∷ l) (first_marks start cs n)
first_marks start (cell.Long x ∷ cs) (suc n) = ap (λ l. (2 * start + 1) ∷ l) (first_marks start cs n)
first_marks start (cell.Bool b ∷ cs) (suc n) = ap (λ l. (2 * start + 1) ∷ l) (first_marks start cs n)
first_marks start (cell.Time t ∷ cs) (suc n) = ap (λ l. (2 * start + 1) ∷ l) (first_marks start cs n)
first_marks start (cell.Text t ∷ cs) (suc n) = ap (λ l. (2 * (start + length t)) ∷ l) (first_marks (start + length t) cs n)
