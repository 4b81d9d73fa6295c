-- What is kept of the values of rows answers as the aggregate does.
use Rattle.std.proofs.Common.{◌≡◌, ℕ, zero, suc, ◌+◌, ◌<◌, ◌≤◌, cond, List, [], ◌∷◌, ◌++◌, length, map, take, set, get_or, refl, sym, ap, ap₂, ◌∙◌, subst, arith, inl, inr, replicate}
use Rattle.std.specs.Prelude.{◌^◌, Option, Some, None, fold, unwrap_or, ℤ, pos, ◌+ℤ◌, unsigned_abs, FitsSigned}
use Rattle.std.specs.Int.{w64}
use Rattle.std.proofs.lemmas.Int.{fits_signed_from_abs}
use Rattle.qd_base.specs.declared.limits.TheConstants.{MAX_NUMBER}
use Rattle.qd_value.specs.Cells.{long}
use Rattle.qd_value.proofs.Longs.{long_within, long_beyond}
use Rattle.std.specs.List.{range_with_len}
use Rattle.std.proofs.Math.IntN.{+ℤ_comm, +ℤ_assoc, pos-+ℤ-pos}
use Rattle.std.proofs.lemmas.Bool.{cases_eq, eq-eqb, ne_eqb}
use Rattle.std.proofs.lemmas.List.{append-nil, map_push, take_all, take_more, length-replicate, length-set, get_or-replicate, get_or-set_same, get_or-set_other, ext_get_or}
use Rattle.std.proofs.lemmas.List.FromFn.{fill_by_all, length-map-range_with_len, get_or-map-range_with_len}
use Rattle.std.proofs.lemmas.List.Sums.{fold_push}
use Rattle.qd_base.specs.declared.cell.Cell.{Cell}
use Rattle.qd_base.specs.declared.cell.Cell.TheVariants as cell
use Rattle.qd_base.specs.Rows.{Row}
use Rattle.qd_meaning.specs.declared.parts.Agg.{Agg}
use Rattle.qd_meaning.specs.declared.parts.Agg.TheVariants as agg
use Rattle.qd_meaning.specs.Grouped.{plus, total, sum_cell, is_less, first_cell, last_cell, aggregate, values}
use Rattle.qd_expr.proofs.ListLemmas.{map-map}
use Rattle.qd_group.specs.Grouping.{answers_of, members}
use Rattle.qd_group.specs.Kept.{kept}
use Rattle.qd_group.specs.Tallies.{Leading, State, counted, summed, least, greatest, first, last, nothing, lead_after, start, next, answer, argument, tallied}
use Rattle.qd_group.proofs.Bests.{best_of, takes_less, takes_greater}
use Rattle.qd_group.proofs.Distincts.{members_more}

counts : (n : ℕ) (rows : List Row) → answer (fold next (counted (pos n)) (map (argument agg.Count) rows)) ≡ cell.Long (pos (n + length rows))
counts n [] = ap (λ (k : ℕ). cell.Long (pos k)) (omega arith)
counts n (r ∷ rs) =
    ap (λ z. answer (fold next (counted z) (map (argument agg.Count) rs))) (pos-+ℤ-pos n 1)
    ∙ counts (n + 1) rs
    ∙ ap (λ (k : ℕ). cell.Long (pos k)) (omega arith)

-- two sums, where there are any
joined : Option ℤ → Option ℤ → Option ℤ
joined None u = u
joined (Some x) None = Some x
joined (Some x) (Some y) = Some (x +ℤ y)

joined-long : (x : ℤ) (t u : Option ℤ) → joined (plus (cell.Long x) t) u ≡ joined t (plus (cell.Long x) u)
unfolding joined
joined-long x None None = refl
joined-long x None (Some y) = refl
joined-long x (Some z) None = ap Some (+ℤ_comm x z)
joined-long x (Some z) (Some y) = ap Some (ap (λ k. k +ℤ y) (+ℤ_comm x z) ∙ +ℤ_assoc z x y)

joined-plus : (c : Cell) (t u : Option ℤ) → joined (plus c t) u ≡ joined t (plus c u)
joined-plus cell.Null t u = refl
joined-plus (cell.Long x) t u = joined-long x t u
joined-plus (cell.Bool x) t u = refl
joined-plus (cell.Text x) t u = refl
joined-plus (cell.Time x) t u = refl

joined-none : (t : Option ℤ) → t ≡ joined t None
unfolding joined
joined-none None = refl
joined-none (Some x) = refl

sums : (t : Option ℤ) (cs : List Cell) → answer (fold next (summed t) cs) ≡ sum_cell (joined t (total cs))
sums t [] = ap sum_cell (joined-none t)
sums t (c ∷ cs) = sums (plus c t) cs ∙ ap sum_cell (joined-plus c t (total cs))

sums-none : (cs : List Cell) → answer (fold next (summed None) cs) ≡ sum_cell (total cs)
unfolding joined
sums-none cs = sums None cs

leasts : (l : Leading) (cs : List Cell) → answer (fold next (least l) cs) ≡ (fold (λ l c. lead_after (is_less c l.best) l c) l cs).best
leasts l [] = refl
leasts l (c ∷ cs) = leasts (lead_after (is_less c l.best) l c) cs

greatests : (l : Leading) (cs : List Cell) → answer (fold next (greatest l) cs) ≡ (fold (λ l c. lead_after (is_less l.best c) l c) l cs).best
greatests l [] = refl
greatests l (c ∷ cs) = greatests (lead_after (is_less l.best c) l c) cs

firsts : (f : Option Cell) (cs : List Cell) → answer (fold next (first f) cs) ≡ unwrap_or f (first_cell cs)
firsts f [] = refl
firsts f (c ∷ cs) = firsts (Some (unwrap_or f c)) cs

lasts : (l : Cell) (cs : List Cell) → answer (fold next (last l) cs) ≡ last_cell l cs
lasts l [] = refl
lasts l (c ∷ cs) = lasts c cs

-- an aggregate answers what is made of the rows
pub tallied_answer : (a : Agg) (rows : List Row) → answer (tallied a rows) ≡ aggregate rows a
tallied_answer agg.Count rows = counts 0 rows ∙ ap (λ (k : ℕ). cell.Long (pos k)) (omega arith)
tallied_answer (agg.Sum e) rows = sums-none (values e rows)
tallied_answer (agg.Min e) rows = leasts nothing (values e rows) ∙ best_of is_less takes_less nothing (values e rows)
tallied_answer (agg.Max e) rows = greatests nothing (values e rows) ∙ best_of (λ b a. is_less a b) takes_greater nothing (values e rows)
tallied_answer (agg.First e) rows = firsts None (values e rows)
tallied_answer (agg.Last e) rows = lasts cell.Null (values e rows)

-- ---- one row more

pub tallied-push : (a : Agg) (rows : List Row) (row : Row) → tallied a (rows ++ row ∷ []) ≡ next (tallied a rows) (argument a row)
tallied-push a rows row = ap (fold next (start a)) (map_push (argument a) rows row) ∙ fold_push next (start a) (map (argument a) rows) (argument a row)

pub tallied_more : (a : Agg) (rows : List Row) (i : ℕ) (before after : State) (c : Cell) → i < length rows → before ≡ tallied a (take i rows) → c ≡ argument a (get_or rows i []) → after ≡ next before c → after ≡ tallied a (take (i + 1) rows)
tallied_more a rows i before after c low was taken is =
    is ∙ ap₂ next was taken ∙ sym (tallied-push a (take i rows) (get_or rows i [])) ∙ ap (tallied a) (sym (take_more rows i [] low))

kept_here : (a : Agg) (ns : List ℕ) (rows : List Row) (i n : ℕ) → i < length ns → i < length rows → get_or ns i 0 ≡ n → kept a ns rows (i + 1) n ≡ next (kept a ns rows i n) (argument a (get_or rows i []))
kept_here a ns rows i n low there is =
    ap (tallied a) (members_more n i ns rows [] low there ∙ ap (λ b. members n (take i ns) (take i rows) ++ cond b (get_or rows i [] ∷ []) []) (eq-eqb (get_or ns i 0) n is)) ∙ tallied-push a (members n (take i ns) (take i rows)) (get_or rows i [])

kept_there : (a : Agg) (ns : List ℕ) (rows : List Row) (i n : ℕ) → i < length ns → i < length rows → (get_or ns i 0 ≡ n → ⊥) → kept a ns rows (i + 1) n ≡ kept a ns rows i n
kept_there a ns rows i n low there is =
    ap (tallied a) (members_more n i ns rows [] low there ∙ ap (λ b. members n (take i ns) (take i rows) ++ cond b (get_or rows i [] ∷ []) []) (ne_eqb (get_or ns i 0) n is) ∙ append-nil (members n (take i ns) (take i rows)))

pub kept_more : (a : Agg) (ns : List ℕ) (rows : List Row) (i groups : ℕ) (states more : List State) (after : State) (c : Cell) → i < length ns → i < length rows → get_or ns i 0 < groups
    → states ≡ map (kept a ns rows i) (range_with_len 0 groups) → c ≡ argument a (get_or rows i []) → after ≡ next (get_or states (get_or ns i 0) after) c → more ≡ set states (get_or ns i 0) after
    → more ≡ map (kept a ns rows (i + 1)) (range_with_len 0 groups)
kept_more a ns rows i groups states more after c low there within are taken is written =
    ext_get_or after more (map (kept a ns rows (i + 1)) (range_with_len 0 groups)) (size ∙ sym (length-map-range_with_len (kept a ns rows (i + 1)) 0 groups)) at
  where
    count : length states ≡ groups
    count = ap length are ∙ length-map-range_with_len (kept a ns rows i) 0 groups

    size : length more ≡ groups
    size = ap length written ∙ length-set states (get_or ns i 0) after ∙ count

    old : (n : ℕ) → n < groups → get_or states n after ≡ kept a ns rows i n
    old n lt = ap (λ (l : List State). get_or l n after) are ∙ get_or-map-range_with_len (kept a ns rows i) 0 groups n n after lt (omega arith)

    new : (n : ℕ) → n < groups → get_or (map (kept a ns rows (i + 1)) (range_with_len 0 groups)) n after ≡ kept a ns rows (i + 1) n
    new n lt = get_or-map-range_with_len (kept a ns rows (i + 1)) 0 groups n n after lt (omega arith)

    at : (n : ℕ) → n < length more → get_or more n after ≡ get_or (map (kept a ns rows (i + 1)) (range_with_len 0 groups)) n after
    at n lt = elim (cases_eq (get_or ns i 0) n) [
      | inl here ↦
          ap (λ (l : List State). get_or l n after) written
          ∙ ap (λ k. get_or (set states k after) n after) here
          ∙ get_or-set_same states n after after (omega (arith, size, count))
          ∙ is ∙ ap₂ next (ap (λ k. get_or states k after) here ∙ old n (omega (arith, size))) taken
          ∙ sym (kept_here a ns rows i n low there here)
          ∙ sym (new n (omega (arith, size)))
      | inr other ↦
          ap (λ (l : List State). get_or l n after) written
          ∙ get_or-set_other states (get_or ns i 0) n after after (λ e. other (sym e))
          ∙ old n (omega (arith, size))
          ∙ sym (kept_there a ns rows i n low there other)
          ∙ sym (new n (omega (arith, size)))
    ]

pub kept_none : (a : Agg) (ns : List ℕ) (rows : List Row) (groups : ℕ) (states : List State) → states ≡ replicate groups (start a) → states ≡ map (kept a ns rows 0) (range_with_len 0 groups)
kept_none a ns rows groups states are = are ∙ fill_by_all (kept a ns rows 0) (replicate groups (start a)) groups (start a) (length-replicate groups (start a)) (λ k low. get_or-replicate groups k (start a) (start a) low)

pub kept_all : (a : Agg) (ns : List ℕ) (rows : List Row) (i groups : ℕ) → length ns ≤ i → length rows ≤ i → map (kept a ns rows i) (range_with_len 0 groups) ≡ map (λ n. tallied a (members n ns rows)) (range_with_len 0 groups)
kept_all a ns rows i groups all_ns all_rows = ap₂ (λ (ms : List ℕ) (rs : List Row). map (λ n. tallied a (members n ms rs)) (range_with_len 0 groups)) (take_all i ns all_ns) (take_all i rows all_rows)

pub map-replicate : {X Y : Type 0} (f : X → Y) (n : ℕ) (x : X) → map f (replicate n x) ≡ replicate n (f x)
map-replicate f zero x = refl
map-replicate f (suc n) x = ap (λ l. f x ∷ l) (map-replicate f n x)

-- a number in the range of LONG, and one outside of it
pub long_near : (z : ℤ) (a : ℕ) → a ≡ unsigned_abs z → a ≤ MAX_NUMBER → cell.Long z ≡ long z
long_near z a is low = sym (long_within z (subst (λ (n : ℕ). n ≤ MAX_NUMBER) is low))

pub long_far : (z : ℤ) (a : ℕ) → a ≡ unsigned_abs z → MAX_NUMBER < a → cell.Null ≡ long z
long_far z a is high = sym (long_beyond z (subst (λ (n : ℕ). MAX_NUMBER < n) is high))

pub fits_near : (z : ℤ) (a : ℕ) → a ≡ unsigned_abs z → a ≤ MAX_NUMBER → FitsSigned w64 z
fits_near z a is low = fits_signed_from_abs w64 z (omega (arith, greatest))
  where
    greatest : MAX_NUMBER + 1 ≡ 2 ^ 63
    greatest = refl

map-alike : {X Y : Type 0} (f g : X → Y) → ((x : X) → f x ≡ g x) → (xs : List X) → map f xs ≡ map g xs
map-alike f g same [] = refl
map-alike f g same (x ∷ xs) = ap₂ (λ y l. y ∷ l) (same x) (map-alike f g same xs)

-- the answers of what is kept of groups
pub column_answers : {K : Type 0} (state : K → State) (a : Agg) (ns : List ℕ) (groups : ℕ) (rows : List Row) (tallies : List K) → map state tallies ≡ map (λ n. tallied a (members n ns rows)) (range_with_len 0 groups)
    → map (λ t. answer (state t)) tallies ≡ answers_of ns groups rows a
column_answers state a ns groups rows tallies are =
    sym (map-map answer state tallies)
    ∙ ap (map answer) are
    ∙ map-map answer (λ n. tallied a (members n ns rows)) (range_with_len 0 groups)
    ∙ map-alike (λ n. answer (tallied a (members n ns rows))) (λ n. aggregate (members n ns rows) a) (λ n. tallied_answer a (members n ns rows)) (range_with_len 0 groups)
