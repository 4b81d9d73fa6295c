-- Rows from marks.
use Rattle.std.proofs.Common.{◌≡◌, ℕ, suc, ◌+◌, ◌-◌, ◌<◌, ◌≤◌, Bool, true, false, ◌||◌, true≢false, List, [], ◌∷◌, ◌++◌, Option, Some, None, length, map, take, drop, get_or, refl, sym, ap, ap₂, ◌∙◌, arith, slice_get, subst, length-drop, append_assoc, drop-cons}
use Rattle.std.specs.List.{list_any, IsDistinct, AllByRecursion}
use Rattle.std.specs.Option.{is_none}
use Rattle.std.proofs.lemmas.List.{map-append, take-map, drop-map, take-append-le, drop-append-le, take-append-drop, take_all}
use Rattle.std.proofs.lemmas.Option.{get_or_from_slice_get}
use Rattle.qd_base.specs.declared.cell.Cell.{Cell}
use Rattle.qd_base.specs.declared.cell.Cell.TheVariants as cell
use Rattle.qd_base.specs.declared.schema.Col.{Col}
use Rattle.qd_base.specs.declared.schema.ColType.TheVariants as kind
use Rattle.qd_base.specs.declared.schema.Schema.{Schema}
use Rattle.qd_base.specs.Database.{missing}
use Rattle.qd_base.specs.Schemas.{same_name}
use Rattle.qd_base.proofs.Alike.{names_equal, turned}
use Rattle.qd_base.proofs.Tables.{find-position}
use Rattle.qd_ilp.specs.Line.{Item, Row}
use Rattle.qd_ilp.specs.Transaction.{cell_in, cell_of, columns_before, created, designated, found_or, micros_of, moment_of, name_at, stamp_column, with_items}
use Rattle.qd_lines.specs.Drafts.{IsUsable, Marked, mark}
use Rattle.qd_lines.specs.Cells.{named_cell, row_of}
use Rattle.qd_lines.proofs.ColumnLemmas.{with_items-behind}
use Rattle.qd_lines.proofs.MarkLemmas.{none_at, found_none, name_at-there}

pub cell_met : (items : List Item) (c : Col) (at : ℕ) (i : Item) → mark items c ≡ Some at → slice_get items at ≡ Some i → named_cell items c ≡ cell_of i.value
cell_met items c at i e got = ap (found_or (missing c.kind)) (find-position (λ (x : Item). same_name c.name x.name) items at i e ∙ ap (λ (x : Item). Some x) (get_or_from_slice_get items at i i got))

pub cell_missing : (items : List Item) (c : Col) → mark items c ≡ None → named_cell items c ≡ missing c.kind
cell_missing items c e = ap (found_or (missing c.kind)) (found_none (λ (x : Item). same_name c.name x.name) items (none_at (λ (x : Item). same_name c.name x.name) items e))

-- the cells of columns that don't have the designated one's name
pub cells_named : (name : List ℕ) (row : Row) (micros : ℕ) (cols : List Col) → AllByRecursion (λ (c : Col). same_name name c.name ≡ false) cols → map (cell_in name row micros) cols ≡ map (named_cell row.items) cols
cells_named name row micros [] h = refl
cells_named name row micros (c ∷ cs) h = ap₂ (λ (x : Cell) (xs : List Cell). x ∷ xs) (rw h.0 refl) (cells_named name row micros cs h.1)

-- marks of a part of the columns
marks_before : {X Y : Type 0} (f : X → Y) (cols added : List X) (t : ℕ) → t ≤ length cols → take t (map f (cols ++ added)) ≡ map f (take t cols)
marks_before f cols added t le = take-map f t (cols ++ added) ∙ ap (map f) (take-append-le t cols added le)

pub first_marks : {X Y : Type 0} (f : X → Y) (cols added : List X) (marks : List Y) (t : ℕ) → marks ≡ map f (cols ++ added) → t ≤ length cols → take t marks ≡ map f (take t cols)
first_marks f cols added marks t e le = ap (take t) e ∙ marks_before f cols added t le

pub later_marks : {X Y : Type 0} (f : X → Y) (cols added : List X) (marks : List Y) (from n : ℕ) → marks ≡ map f (cols ++ added) → from + n ≤ length cols → take n (drop from marks) ≡ map f (take n (drop from cols))
later_marks f cols added marks from n e le =
    ap (λ (ms : List _). take n (drop from ms)) e ∙ ap (take n) (drop-map f from (cols ++ added)) ∙ take-map f n (drop from (cols ++ added))
    ∙ ap (λ (cs : List _). map f (take n cs)) (drop-append-le from cols added (omega arith)) ∙ ap (map f) (take-append-le n (drop from cols) added (omega (arith, length-drop from cols)))

-- what is known of distinct columns, one of them apart
distinct_parts : (front : List Col) (c : Col) (back : List Col) → IsDistinct (λ (a : Col) (b : Col). same_name a.name b.name) (front ++ c ∷ back) → AllByRecursion (λ (x : Col). same_name c.name x.name ≡ false) front × AllByRecursion (λ (x : Col). same_name c.name x.name ≡ false) back
unfolding IsDistinct
distinct_parts [] c back h = (tt, h.0)
distinct_parts (x ∷ xs) c back h = let rest = distinct_parts xs c back h.1 in ((turned x.name c.name false (seam xs h.0), rest.0), rest.1)
  where
    seam : (us : List Col) → AllByRecursion (λ (y : Col). same_name x.name y.name ≡ false) (us ++ c ∷ back) → same_name x.name c.name ≡ false
    seam [] k = k.0
    seam (u ∷ us) k = seam us k.1

parted : (cols : List Col) (time : ℕ) (d : Col) → time < length cols → cols ≡ take time cols ++ get_or cols time d ∷ take (length cols - (time + 1)) (drop (time + 1) cols)
parted cols time d lt = let next : suc time ≡ time + 1 = omega arith in sym (take-append-drop time cols) ∙ ap (λ (cs : List Col). take time cols ++ cs) (drop-cons cols time d lt ∙ ap (λ (cs : List Col). get_or cols time d ∷ cs) (ap (λ (k : ℕ). drop k cols) next ∙ sym (take_all (length cols - (time + 1)) (drop (time + 1) cols) (omega (arith, length-drop (time + 1) cols)))))

module _ (row : Row) (micros : ℕ) (cols : List Col) (time : ℕ) (u : IsUsable cols time) (added : List Col) (marks : List (Option ℕ)) (m : Marked cols (name_at cols time) row.items added marks false) where
  -- the row of a line whose table is there
  pub row_there : ((map (named_cell row.items) (take time cols) ++ cell.Time micros ∷ []) ++ map (named_cell row.items) (take (length cols - (time + 1)) (drop (time + 1) cols))) ++ map (named_cell row.items) added ≡ map (cell_in (name_at cols time) row micros) (with_items cols row.items)
  row_there =
      let d : Col = record { name = []; kind = kind.Long } in
      let c = get_or cols time d in
      let front = take time cols in
      let back = take (length cols - (time + 1)) (drop (time + 1) cols) in
      let g = cell_in c.name row micros in
      let whole : cols ++ added ≡ front ++ c ∷ (back ++ added) = ap (λ (cs : List Col). cs ++ added) (parted cols time d u.there) ∙ append_assoc front (c ∷ back) added in
      let apart = distinct_parts front c (back ++ added) (subst (λ (cs : List Col). IsDistinct (λ (a : Col) (b : Col). same_name a.name b.name) cs) whole m.distinct) in
      let itself : same_name c.name c.name ≡ true = names_equal.refl c.name in
      let here : g c ≡ cell.Time micros = rw itself refl in
      let parts : map g (front ++ c ∷ (back ++ added)) ≡ map (named_cell row.items) front ++ cell.Time micros ∷ (map (named_cell row.items) back ++ map (named_cell row.items) added) =
      map-append g front (c ∷ (back ++ added)) ∙ ap₂ (λ (xs ys : List Cell). xs ++ ys) (cells_named c.name row micros front apart.0) (ap₂ (λ (x : Cell) (xs : List Cell). x ∷ xs) here (cells_named c.name row micros (back ++ added) apart.1 ∙ map-append (named_cell row.items) back added)) in
      let xs : List Cell = map (named_cell row.items) front in
      let ys : List Cell = map (named_cell row.items) back in
      let zs : List Cell = map (named_cell row.items) added in
      append_assoc (xs ++ cell.Time micros ∷ []) ys zs ∙ append_assoc xs (cell.Time micros ∷ []) (ys ++ zs) ∙ sym parts ∙ ap (map g) (sym whole ∙ m.cols_after) ∙ ap (λ (t : List ℕ). map (cell_in t row micros) (with_items cols row.items)) (sym (name_at-there cols time d u.there))

-- no element passes a test that none does
none_passes : {X : Type 0} (p : X → Bool) (xs : List X) → list_any p xs ≡ false → AllByRecursion (λ x. p x ≡ false) xs
none_passes p [] h = tt
none_passes p (x ∷ xs) h = go (p x) refl h (λ k. none_passes p xs k)
  where
    go : (b : Bool) → p x ≡ b → (b || list_any p xs) ≡ false → (list_any p xs ≡ false → AllByRecursion (λ y. p y ≡ false) xs) → (p x ≡ false) × AllByRecursion (λ y. p y ≡ false) xs
    go true e h rest = absurd (true≢false h)
    go false e h rest = (e, rest h)

-- the columns that a line adds to those of a new table
pub added_alone : (row : Row) (added : List Col) (marks : List (Option ℕ)) → Marked (stamp_column ∷ []) stamp_column.name row.items added marks false → added ≡ with_items [] row.items
added_alone row added marks m =
    let apart = none_passes (λ (i : Item). same_name stamp_column.name i.name) row.items (m.names_twice.none refl).1 in
    ap (drop 1) (m.cols_after ∙ with_items-behind stamp_column [] row.items apart)

-- the row of a line that makes its table
pub row_made : (row : Row) (micros : ℕ) (added : List Col) (marks : List (Option ℕ)) → Marked (stamp_column ∷ []) stamp_column.name row.items added marks false
    → map (named_cell row.items) added ++ cell.Time micros ∷ [] ≡ map (cell_in stamp_column.name row micros) (created row).cols
unfolding IsDistinct
row_made row micros added marks m =
    let g = cell_in stamp_column.name row micros in
    let here : g stamp_column ≡ cell.Time micros = refl in
    ap₂ (λ (xs : List Cell) (x : Cell). xs ++ x ∷ []) (sym (cells_named stamp_column.name row micros added m.distinct.0)) (sym here) ∙ sym (map-append g added (stamp_column ∷ [])) ∙ ap (λ (cs : List Col). map g (cs ++ stamp_column ∷ [])) (added_alone row added marks m)

-- the row is that of the definition, by the table before the line
pub row_fresh : (o : Option Schema) (now : ℕ) (row : Row) (cols : List Col) (time : List ℕ) (fresh : Bool) (micros : ℕ) (added : List Col) (marks : List (Option ℕ)) → cols ≡ columns_before o → time ≡ designated o → fresh ≡ is_none o → fresh ≡ true → micros ≡ micros_of (moment_of now row.moment)
    → Marked cols time row.items added marks false → map (named_cell row.items) added ++ cell.Time micros ∷ [] ≡ row_of o now row
row_fresh None now row cols time fresh micros added marks e n f t is m =
    let there : Marked (stamp_column ∷ []) stamp_column.name row.items added marks false = subst (λ (cs : List Col). Marked cs stamp_column.name row.items added marks false) e (subst (λ (t : List ℕ). Marked cols t row.items added marks false) n m) in
    row_made row micros added marks there ∙ ap (λ (x : ℕ). map (cell_in stamp_column.name row x) (created row).cols) is
row_fresh (Some s) now row cols time fresh micros added marks e n f t is m = absurd (true≢false (sym t ∙ f))

pub row_old : (o : Option Schema) (now : ℕ) (row : Row) (cols : List Col) (time : ℕ) (u : IsUsable cols time) (fresh : Bool) (micros : ℕ) (added : List Col) (marks : List (Option ℕ)) → cols ≡ columns_before o → name_at cols time ≡ designated o → fresh ≡ is_none o → fresh ≡ false → micros ≡ micros_of (moment_of now row.moment)
    → Marked cols (name_at cols time) row.items added marks false
    → ((map (named_cell row.items) (take time cols) ++ cell.Time micros ∷ []) ++ map (named_cell row.items) (take (length cols - (time + 1)) (drop (time + 1) cols))) ++ map (named_cell row.items) added ≡ row_of o now row
row_old None now row cols time u fresh micros added marks e n f t is m = absurd (true≢false (sym f ∙ t))
row_old (Some s) now row cols time u fresh micros added marks e n f t is m =
    row_there row micros cols time u added marks m ∙ ap (λ (x : ℕ). map (cell_in (name_at cols time) row x) (with_items cols row.items)) is ∙ ap₂ (λ (t : List ℕ) (cs : List Col). map (cell_in t row (micros_of (moment_of now row.moment))) (with_items cs row.items)) n e
