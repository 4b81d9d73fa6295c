-- Blocks of shapes: which of them are listed, how many are new, and what rows parts show.
use Rattle.std.proofs.Common.{◌≡◌, ℕ, zero, suc, ◌+◌, ◌<◌, ◌≤◌, max, Bool, true, false, cond, nat_eq, ◌||◌, List, [], ◌∷◌, length, filter, All, Contains, refl, sym, ap, subst, ◌∙◌, arith, true≢false, eq-eqb}
use Rattle.std.specs.Cmp.{IsEquivalence}
use Rattle.std.specs.List.{list_any, range_with_len, IsDistinct}
use Rattle.std.proofs.lemmas.Bool.{eqb-false, eqb-true, ne_eqb}
use Rattle.std.proofs.lemmas.Bool.Decides.{nat_tests}
use Rattle.std.proofs.lemmas.List.Elements.{All-append, All-head, All-nil, All-tail, All-weaker}
use Rattle.std.proofs.lemmas.Map.Made.{length-le_from_is_member}
use Rattle.std.proofs.lemmas.Map.Views.{Contains-from_any, list_any-from_Contains}
use Rattle.qd_base.proofs.Lists.{IsDistinct-filter}
use Rattle.qd_base.specs.declared.part.Part.{Part}
use Rattle.qd_manifest.specs.declared.shape.TableParts.{TableParts}
use Rattle.qd_manifest.specs.Spelling.{AreParts, IsPart, blocks_in, blocks_of}
use Rattle.qd_catalog.specs.Versions.{next_after, parts_of, rows_in, shown}
use Rattle.qd_catalog.proofs.KeptLemmas.{blocks_of_parts}

-- equal numbers
pub number_equality : IsEquivalence nat_eq
number_equality = record {
  refl = λ x. eq-eqb x x refl;
  symm = λ x y. grind (arith, nat_tests);
  congr = λ x y z e. ap (λ n. nat_eq n z) (eqb-true x y e);
}

-- a block that is listed is in the list, and the other way round
pub listed_in : (b : ℕ) (xs : List ℕ) → list_any (nat_eq b) xs ≡ true → Contains xs b
listed_in b xs e = Contains-from_any eqb-true b xs e

pub in_listed : (b : ℕ) (xs : List ℕ) → Contains xs b → list_any (nat_eq b) xs ≡ true
in_listed b xs c = list_any-from_Contains number_equality b xs c

-- numbers of a range
in_range : (count a q : ℕ) → a ≤ q → q < a + count → list_any (nat_eq q) (range_with_len a count) ≡ true
in_range zero a q low high = absurd (omega arith)
in_range (suc count) a q low high = by (nat_eq q a) refl (λ more. in_range count (a + 1) q more (omega arith))
  where
    by : (same : Bool) → nat_eq q a ≡ same → (a + 1 ≤ q → list_any (nat_eq q) (range_with_len (a + 1) count) ≡ true) → (nat_eq q a || list_any (nat_eq q) (range_with_len (a + 1) count)) ≡ true
    by true e rest = rw e refl
    by false e rest = let h = rest (grind (arith, nat_tests)) in rw e h

-- different numbers of a range are no more than its length
few_apart : (xs : List ℕ) (a count : ℕ) → IsDistinct nat_eq xs → ((q : ℕ) → list_any (nat_eq q) xs ≡ true → (a ≤ q) × (q < a + count)) → length xs ≤ length (range_with_len a count)
few_apart xs a count distinct each = length-le_from_is_member number_equality xs (range_with_len a count) distinct (λ q e. let h = each q e in in_range count a q h.0 h.1)

length_range : (count a : ℕ) → length (range_with_len a count) ≡ count
length_range zero a = refl
length_range (suc count) a = let h = length_range count (a + 1) in omega (arith, h)

-- what passes a filter passed its test, and stood in the list
passed : (p : ℕ → Bool) (q : ℕ) (xs : List ℕ) → list_any (nat_eq q) (filter p xs) ≡ true → (p q ≡ true) × (list_any (nat_eq q) xs ≡ true)
passed p q [] e = absurd (true≢false (sym e))
passed p q (x ∷ xs) e = by (p x) (nat_eq q x) refl refl e (passed p q xs)
  where
    by : (here same : Bool) → p x ≡ here → nat_eq q x ≡ same → list_any (nat_eq q) (cond here (x ∷ filter p xs) (filter p xs)) ≡ true → (list_any (nat_eq q) (filter p xs) ≡ true → (p q ≡ true) × (list_any (nat_eq q) xs ≡ true)) → (p q ≡ true) × ((nat_eq q x || list_any (nat_eq q) xs) ≡ true)
    by true true h s f more = (ap p (eqb-true q x s) ∙ h, rw s refl)
    by true false h s f more =
        let rest : list_any (nat_eq q) (filter p xs) ≡ true = sym (ap (λ b. b || list_any (nat_eq q) (filter p xs)) s) ∙ f in
        let both = more rest in
        (both.0, rw s both.1)
    by false true h s f more = let both = more f in (both.0, rw s refl)
    by false false h s f more = let both = more f in (both.0, rw s both.1)

-- the blocks of a list that pass a test are few, where they are different numbers of a range
pub few_new : (p : ℕ → Bool) (xs : List ℕ) (a count : ℕ) → IsDistinct nat_eq xs → ((q : ℕ) → Contains xs q → p q ≡ true → (a ≤ q) × (q < a + count)) → length (filter p xs) ≤ count
few_new p xs a count distinct each =
    omega (
      arith,
      length_range count a,
      few_apart (filter p xs) a count (IsDistinct-filter nat_eq p xs distinct)
          (λ q e. let h = passed p q xs e in each q (listed_in q xs h.1) h.0),
    )

-- ---- the number behind all blocks

pub after_low : (xs : List ℕ) (n : ℕ) → n ≤ next_after n xs
after_low [] n = omega arith
after_low (x ∷ xs) n = omega (arith, after_low xs (max n (x + 1)))

pub after_high : (xs : List ℕ) (n m : ℕ) → n ≤ m → All (λ b. b < m) xs → next_after n xs ≤ m
after_high [] n m le below = le
after_high (x ∷ xs) n m le below = after_high xs (max n (x + 1)) m (omega (arith, All-head (λ b. b < m) x xs below)) (All-tail (λ b. b < m) x xs below)

after_has : (xs : List ℕ) (n b : ℕ) → list_any (nat_eq b) xs ≡ true → b + 1 ≤ next_after n xs
after_has [] n b e = absurd (true≢false (sym e))
after_has (x ∷ xs) n b e = by (nat_eq b x) refl e (after_has xs (max n (x + 1)) b)
  where
    by : (same : Bool) → nat_eq b x ≡ same → (same || list_any (nat_eq b) xs) ≡ true → (list_any (nat_eq b) xs ≡ true → b + 1 ≤ next_after (max n (x + 1)) xs) → b + 1 ≤ next_after (max n (x + 1)) xs
    by true s f more = let h = eqb-true b x s in omega (arith, after_low xs (max n (x + 1)))
    by false s f more = more f

-- blocks that are all below a number, up to which all from another one on are there
pub after_all : (xs : List ℕ) (n count : ℕ) → All (λ b. b < n + count) xs → ((b : ℕ) → n ≤ b → b < n + count → Contains xs b) → next_after n xs ≡ n + count
after_all xs n zero below whole = omega (arith, after_low xs n, after_high xs n (n + zero) (omega arith) below)
after_all xs n (suc count) below whole =
    omega (arith, after_high xs n (n + suc count) (omega arith) below, after_has xs n (n + count) (in_listed (n + count) xs (whole (n + count) (omega arith) (omega arith))))

-- ---- the rows that parts show

shown_some : (ps : List Part) (b : ℕ) → All (λ p. 1 ≤ p.rows) ps → list_any (nat_eq b) (blocks_in ps) ≡ true → 0 < shown ps b
shown_some [] b some e = absurd (true≢false (sym e))
shown_some (p ∷ ps) b some e = by (nat_eq p.block b) refl (shown_some ps b (All-tail (λ p. 1 ≤ p.rows) p ps some))
  where
    first : 1 ≤ p.rows
    first = All-head (λ p. 1 ≤ p.rows) p ps some

    by : (same : Bool) → nat_eq p.block b ≡ same → (list_any (nat_eq b) (blocks_in ps) ≡ true → 0 < shown ps b) → 0 < cond (nat_eq p.block b) (max p.rows (shown ps b)) (shown ps b)
    by true s more = rw s (omega (arith, first))
    by false s more =
        let other : nat_eq b p.block ≡ false = ne_eqb b p.block (λ same. eqb-false p.block b s (sym same)) in
        let rest : list_any (nat_eq b) (blocks_in ps) ≡ true = sym (ap (λ c. c || list_any (nat_eq b) (blocks_in ps)) other) ∙ e in
        let h = more rest in
        rw s h

-- each part of tables has a row
each_some : (tables : List TableParts) → All (λ t. AreParts t.schema t.parts) tables → All (λ p. 1 ≤ p.rows) (parts_of tables)
each_some [] are = All-nil (λ p. 1 ≤ p.rows)
each_some (t ∷ ts) are =
    All-append (λ p. 1 ≤ p.rows) t.parts (parts_of ts)
    (All-weaker (IsPart t.schema) (λ p. 1 ≤ p.rows) (λ p is. is.some) t.parts (All-head (λ t. AreParts t.schema t.parts) t ts are).each)
    (each_some ts (All-tail (λ t. AreParts t.schema t.parts) t ts are))

pub shown_listed : (tables : List TableParts) (b : ℕ) → All (λ t. AreParts t.schema t.parts) tables → list_any (nat_eq b) (blocks_of tables) ≡ true → 0 < shown (parts_of tables) b
shown_listed tables b are e = shown_some (parts_of tables) b (each_some tables are) (sym (ap (λ (l : List ℕ). list_any (nat_eq b) l) (blocks_of_parts tables)) ∙ e)

-- a block of which rows were written is kept
pub written_kept : (es : List (ℕ × ℕ)) (b : ℕ) → 0 < rows_in es b → list_any (λ e. nat_eq b e.0) es ≡ true
written_kept [] b some = absurd (omega arith)
written_kept (e ∷ es) b some = by (nat_eq b e.0) refl (written_kept es b)
  where
    by : (same : Bool) → nat_eq b e.0 ≡ same → (0 < rows_in es b → list_any (λ (x : ℕ × ℕ). nat_eq b x.0) es ≡ true) → (nat_eq b e.0 || list_any (λ (x : ℕ × ℕ). nat_eq b x.0) es) ≡ true
    by true s more = rw s refl
    by false s more =
        let h = more (subst (λ c. 0 < cond c e.1 (rows_in es b)) s some) in
        rw s h
