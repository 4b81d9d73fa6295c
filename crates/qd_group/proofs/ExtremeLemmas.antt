-- The least and the greatest of numbers as columns keep them.
use Rattle.std.proofs.Common.{◌≡◌, Bool, true, false, cond, List, [], ◌∷◌, map, refl, sym, ap, ◌∙◌}
use Rattle.std.specs.Prelude.{ℤ, ◌||◌, fold, int_lt}
use Rattle.std.specs.Ordering.{int_eq, is_lt}
use Rattle.std.specs.declared.cmp.Ordering.TheVariants.{Less, Equal, Greater}
use Rattle.qd_base.specs.declared.cell.Cell.{Cell}
use Rattle.qd_base.specs.declared.cell.Cell.TheVariants as cell
use Rattle.qd_base.specs.declared.limits.TheConstants.{NULL_LONG}
use Rattle.qd_column.specs.Cells.{long_cell}
use Rattle.qd_meaning.specs.Grouped.{is_less}
use Rattle.qd_group.specs.Tallies.{Leading, least, greatest, greater, lead_after, leading, lesser, next}

less_is : (x b : ℤ) → is_less (cell.Long x) (cell.Long b) ≡ int_lt x b
less_is x b = by (int_lt x b) (int_lt b x)
  where
    by : (s t : Bool) → is_lt (cond s Less (cond t Greater Equal)) ≡ s
    by true t = refl
    by false true = refl
    by false false = refl

-- what leads after a number more, by whether it, and the one before it, are NULL, and whether it is better
led : (f : Cell → Cell → Bool) (x b : ℤ) → f (cell.Long x) cell.Null ≡ false → (t u s : Bool) → f (cell.Long x) (cell.Long b) ≡ s
    → lead_after (f (cond t cell.Null (cell.Long x)) (cond u cell.Null (cell.Long b))) (record { best = cond u cell.Null (cell.Long b); ended = false }) (cond t cell.Null (cell.Long x))
    ≡ record { best = cond t (cond u cell.Null (cell.Long b)) (cond (u || s) (cond t cell.Null (cell.Long x)) (cond u cell.Null (cell.Long b))); ended = false }
led f x b none true u s e = refl
led f x b none false true s e = ap (λ z. cond (z || true) (record { best = cell.Long x; ended = false }) (record { best = cell.Null; ended = true })) none
led f x b none false false true e = ap (λ z. cond (z || false) (record { best = cell.Long x; ended = false }) (record { best = cell.Long b; ended = false })) e
led f x b none false false false e = ap (λ z. cond (z || false) (record { best = cell.Long x; ended = false }) (record { best = cell.Long b; ended = false })) e

cell_of_choice : (b x : ℤ) (t v : Bool) → long_cell (cond t b (cond v x b)) ≡ cond t (long_cell b) (cond v (long_cell x) (long_cell b))
cell_of_choice b x true v = refl
cell_of_choice b x false true = refl
cell_of_choice b x false false = refl

lead_lesser : (b x : ℤ) → lead_after (is_less (long_cell x) (long_cell b)) (leading b) (long_cell x) ≡ leading (lesser b x)
lead_lesser b x =
    led is_less x b refl (int_eq x NULL_LONG) (int_eq b NULL_LONG) (int_lt x b) (less_is x b)
    ∙ ap (λ (c : Cell). record { best = c; ended = false }) (sym (cell_of_choice b x (int_eq x NULL_LONG) (int_eq b NULL_LONG || int_lt x b)))

lead_greater : (b x : ℤ) → lead_after (is_less (long_cell b) (long_cell x)) (leading b) (long_cell x) ≡ leading (greater b x)
lead_greater b x =
    led (λ c d. is_less d c) x b refl (int_eq x NULL_LONG) (int_eq b NULL_LONG) (int_lt b x) (less_is b x)
    ∙ ap (λ (c : Cell). record { best = c; ended = false }) (sym (cell_of_choice b x (int_eq x NULL_LONG) (int_eq b NULL_LONG || int_lt b x)))

pub leasts_long : (b : ℤ) (xs : List ℤ) → least (leading (fold lesser b xs)) ≡ fold next (least (leading b)) (map long_cell xs)
leasts_long b [] = refl
leasts_long b (x ∷ xs) = leasts_long (lesser b x) xs ∙ sym (ap (λ (l : Leading). fold next (least l) (map long_cell xs)) (lead_lesser b x))

pub greatests_long : (b : ℤ) (xs : List ℤ) → greatest (leading (fold greater b xs)) ≡ fold next (greatest (leading b)) (map long_cell xs)
greatests_long b [] = refl
greatests_long b (x ∷ xs) = greatests_long (greater b x) xs ∙ sym (ap (λ (l : Leading). fold next (greatest l) (map long_cell xs)) (lead_greater b x))
