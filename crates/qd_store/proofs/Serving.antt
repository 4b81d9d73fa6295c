-- Blocks by their numbers that serve for the parts of tables: some blocks at hand, and for each other part a filler.
use Rattle.std.proofs.Common.{◌≡◌, ℕ, Bool, true, false, cond, nat_eq, List, [], ◌∷◌, map, refl, sym, ap, ap₂, ◌∙◌, subst, inl, inr, if◌then◌else◌, true≢false, eq-eqb, eqb-true}
use Rattle.std.specs.List.{AllByRecursion, AllZip, IsDistinct}
use Rattle.qd_base.proofs.Lists.{each-from_map}
use Rattle.qd_block.specs.Blocks.{Block}
use Rattle.qd_rows.specs.Sets.{no_block}
use Rattle.qd_store.proofs.Fillers.{Fits, filler}
use Rattle.qd_store.proofs.PlacedParts.{Among, among_each, number, Placed}

-- a block serves for a number where it fits each part that has it
abbrev pub Serves : List Placed → ℕ → Block → Type 0
Serves list n b = AllByRecursion (λ (x : Placed). number x ≡ n → Fits x.schema x.part b) list

abbrev pub HaveFillers : List Placed → Type 0
HaveFillers list = AllByRecursion (λ (x : Placed). Fits x.schema x.part (filler x.schema x.part)) list

differ : (a b : ℕ) → nat_eq a b ≡ false → a ≡ b → ⊥
differ a b other same = true≢false (sym (eq-eqb a b same) ∙ other)

-- a number that no part has
none_serve : (list : List Placed) (n : ℕ) (b : Block) → AllByRecursion (λ (m : ℕ). nat_eq n m ≡ false) (map number list) → Serves list n b
none_serve [] n b none = tt
none_serve (x ∷ xs) n b none = (λ same. absurd (differ n (number x) none.0 (sym same)), none_serve xs n b none.1)

-- the block of one part, where no two parts have one number
pub one_serves : (list : List Placed) (x : Placed) (b : Block) → IsDistinct nat_eq (map number list) → Among x list → Fits x.schema x.part b
    → Serves list (number x) b
unfolding IsDistinct
one_serves [] x b apart there fits = absurd there
one_serves (y ∷ ys) x b apart (inl same) fits = (
  λ e. subst (λ (z : Placed). Fits z.schema z.part b) (sym same) fits,
  none_serve ys (number x) b (subst (λ (z : Placed). AllByRecursion (λ (m : ℕ). nat_eq (number z) m ≡ false) (map number ys)) same apart.0),
)
one_serves (y ∷ ys) x b apart (inr there) fits = (
  λ e. absurd (differ (number y) (number x) (among_each (λ (z : Placed). nat_eq (number y) (number z) ≡ false) x ys there (each-from_map number (λ (m : ℕ). nat_eq (number y) m ≡ false) ys apart.0)) e),
  one_serves ys x b apart.1 there fits,
)

-- ---- fillers by their numbers

abbrev pub fillers : List Placed → ℕ → Block
fillers [] n = no_block
fillers (x ∷ xs) n = if nat_eq (number x) n then filler x.schema x.part else fillers xs n

pub fillers_serve : (list : List Placed) (n : ℕ) → IsDistinct nat_eq (map number list) → HaveFillers list → Serves list n (fillers list n)
unfolding IsDistinct
fillers_serve [] n apart have = tt
fillers_serve (x ∷ xs) n apart have = step (nat_eq (number x) n) refl (fillers_serve xs n apart.1 have.1)
  where
    step : (b : Bool) → nat_eq (number x) n ≡ b → Serves xs n (fillers xs n) → Serves (x ∷ xs) n (if b then filler x.schema x.part else fillers xs n)
    step true e later = (
      λ same. have.0,
      none_serve xs n (filler x.schema x.part) (subst (λ (k : ℕ). AllByRecursion (λ (m : ℕ). nat_eq k m ≡ false) (map number xs)) (eqb-true (number x) n e) apart.0),
    )
    step false e later = (λ same. absurd (differ (number x) n e same), later)

-- ---- blocks at hand, before others

abbrev pub chosen : List ℕ → List Block → (ℕ → Block) → ℕ → Block
chosen [] blocks others n = others n
chosen (k ∷ ks) [] others n = others n
chosen (k ∷ ks) (b ∷ bs) others n = if nat_eq k n then b else chosen ks bs others n

pub chosen_serve : (list : List Placed) (ks : List ℕ) (bs : List Block) (others : ℕ → Block) → AllZip (Serves list) ks bs
    → ((n : ℕ) → Serves list n (others n)) → (n : ℕ) → Serves list n (chosen ks bs others n)
chosen_serve list [] [] others zip h n = h n
chosen_serve list [] (b ∷ bs) others zip h n = absurd zip
chosen_serve list (k ∷ ks) [] others zip h n = absurd zip
chosen_serve list (k ∷ ks) (b ∷ bs) others zip h n = step (nat_eq k n) refl (chosen_serve list ks bs others zip.1 h n)
  where
    step : (c : Bool) → nat_eq k n ≡ c → Serves list n (chosen ks bs others n) → Serves list n (if c then b else chosen ks bs others n)
    step true e later = subst (λ (m : ℕ). Serves list m b) (eqb-true k n e) zip.0
    step false e later = later

passed_by : (k : ℕ) (b : Block) (ks : List ℕ) (bs : List Block) (others : ℕ → Block) (ns : List ℕ) → AllByRecursion (λ (m : ℕ). nat_eq k m ≡ false) ns
    → map (chosen (k ∷ ks) (b ∷ bs) others) ns ≡ map (chosen ks bs others) ns
passed_by k b ks bs others [] none = refl
passed_by k b ks bs others (n ∷ ns) none =
    ap₂ (λ (x : Block) (l : List Block). x ∷ l) (ap (λ (c : Bool). cond c b (chosen ks bs others n)) none.0) (passed_by k b ks bs others ns none.1)

-- each of them is at its number
pub chosen_are : (R : ℕ → Block → Type 0) (ks : List ℕ) (bs : List Block) (others : ℕ → Block) → IsDistinct nat_eq ks → AllZip R ks bs
    → map (chosen ks bs others) ks ≡ bs
unfolding IsDistinct
chosen_are R [] [] others apart zip = refl
chosen_are R [] (b ∷ bs) others apart zip = absurd zip
chosen_are R (k ∷ ks) [] others apart zip = absurd zip
chosen_are R (k ∷ ks) (b ∷ bs) others apart zip =
    ap₂ (λ (x : Block) (l : List Block). x ∷ l)
    (ap (λ (c : Bool). cond c b (chosen ks bs others k)) (eq-eqb k k refl))
    (passed_by k b ks bs others ks apart.0 ∙ chosen_are R ks bs others apart.1 zip.1)
