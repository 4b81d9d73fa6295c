-- Items laid by runs.
use Rattle.std.proofs.Common.{◌≡◌, ℕ, zero, suc, ◌+◌, ◌<◌, ◌≤◌, List, [], ◌∷◌, ◌++◌, length, map, take, get_or, refl, sym, ap, ◌∙◌, arith, append_assoc, slice_range}
use Rattle.std.proofs.lemmas.List.{take_more}
use Rattle.qd_column.specs.declared.runs.Run.{Run}
use Rattle.qd_column.specs.declared.runs.Side.{Side}
use Rattle.qd_column.specs.declared.runs.Side.TheVariants as side
use Rattle.qd_column.specs.Runs.{of_side, items_in, laid}
use Rattle.qd_column.proofs.ListLemmas.{map-part}

append_nothing : {T : Type 0} (xs : List T) → xs ++ [] ≡ xs
append_nothing [] = refl
append_nothing (x ∷ xs) = ap (λ l. x ∷ l) (append_nothing xs)

-- one run more, the last
pub laid-push : {T : Type 0} (first second : List T) (runs : List Run) (run : Run) → laid first second (runs ++ run ∷ []) ≡ laid first second runs ++ items_in first second run
laid-push first second [] run = append_nothing (items_in first second run)
laid-push first second (r ∷ runs) run = ap (λ l. items_in first second r ++ l) (laid-push first second runs run) ∙ sym (append_assoc (items_in first second r) (laid first second runs) (items_in first second run))

-- the runs up to one more
pub laid-more : {T : Type 0} (first second : List T) (runs : List Run) (i : ℕ) (d : Run) → i < length runs → laid first second (take (i + 1) runs) ≡ laid first second (take i runs) ++ items_in first second (get_or runs i d)
laid-more first second runs i d h = ap (laid first second) (take_more runs i d h) ∙ laid-push first second (take i runs) (get_or runs i d)

pub laid_on : {T : Type 0} (first second : List T) (runs : List Run) (i : ℕ) (d : Run) (so_far new : List T) → i < length runs → so_far ≡ laid first second (take i runs) → new ≡ so_far ++ items_in first second (get_or runs i d) → new ≡ laid first second (take (i + 1) runs)
laid_on first second runs i d so_far new h before is = is ∙ ap (λ l. l ++ items_in first second (get_or runs i d)) before ∙ sym (laid-more first second runs i d h)

-- the items of a run of the first list, and of the second
pub of_first : {T : Type 0} (first second : List T) (run : Run) → run.side ≡ side.First → slice_range first run.from run.to ≡ items_in first second run
of_first first second run is = ap (λ s. slice_range (of_side first second s) run.from run.to) (sym is)

pub of_second : {T : Type 0} (first second : List T) (run : Run) → run.side ≡ side.Second → slice_range second run.from run.to ≡ items_in first second run
of_second first second run is = ap (λ s. slice_range (of_side first second s) run.from run.to) (sym is)

-- the images of what is laid
pub map-append : {S T : Type 0} (f : S → T) (xs ys : List S) → map f (xs ++ ys) ≡ map f xs ++ map f ys
map-append f [] ys = refl
map-append f (x ∷ xs) ys = ap (λ l. f x ∷ l) (map-append f xs ys)

pub map-laid : {S T : Type 0} (f : S → T) (first second : List S) (runs : List Run) → map f (laid first second runs) ≡ laid (map f first) (map f second) runs
map-laid f first second [] = refl
map-laid f first second (run ∷ runs) = map-append f (items_in first second run) (laid first second runs) ∙ ap (λ l. l ++ map f (laid first second runs)) (run_images run.side) ∙ ap (λ l. items_in (map f first) (map f second) run ++ l) (map-laid f first second runs)
  where
    run_images : (s : Side) → map f (slice_range (of_side first second s) run.from run.to) ≡ slice_range (of_side (map f first) (map f second) s) run.from run.to
    run_images side.First = map-part f first run.from run.to
    run_images side.Second = map-part f second run.from run.to
