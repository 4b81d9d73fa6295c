-- Blocks that are listed one after another, and the rows that parts show.
use Rattle.std.proofs.Common.{◌≡◌, ℕ, zero, suc, ◌+◌, ◌<◌, ◌≤◌, max, Bool, true, false, cond, eqb, ◌||◌, ◌&&◌, not, nat_eq, List, [], ◌∷◌, ◌++◌, length, map, filter, Option, Some, None, is_some, set, refl, sym, ap, subst, ◌∙◌, arith, true≢false}
use Rattle.std.specs.List.{list_any, flat_map}
use Rattle.std.specs.Map.{lookup}
use Rattle.std.specs.Option.{option_map}
use Rattle.std.proofs.lemmas.Bool.{cases_Bool, cond-true, cond-false, or_parts, eqb-false, ne_eqb}
use Rattle.std.proofs.lemmas.List.{map-append, set-set, length-append}
use Rattle.std.proofs.lemmas.List.Elements.{filter-append}
use Rattle.std.proofs.lemmas.List.Folds.{list_any-append}
use Rattle.qd_base.specs.declared.part.Part.{Part}
use Rattle.qd_manifest.specs.declared.shape.TableParts.{TableParts}
use Rattle.qd_manifest.specs.Spelling.{blocks_in, blocks_of}
use Rattle.qd_catalog.specs.declared.blocks.Kept.{Kept}
use Rattle.qd_catalog.specs.Versions.{rows_in, shown, parts_of}
use Rattle.qd_catalog.specs.Tracked.{kept_in, and_row, but_row, new_in, ListsAll, Unlists}

-- the rows that parts show, of two lists of them
shown_one : (c : Bool) (m n k : ℕ) → n ≡ max m k → (x : ℕ) → cond c (max x n) n ≡ max (cond c (max x m) m) k
shown_one true m n k e x = omega (arith, e)
shown_one false m n k e x = e

pub shown-append : (ps qs : List Part) (b : ℕ) → shown (ps ++ qs) b ≡ max (shown ps b) (shown qs b)
shown-append [] qs b = omega arith
shown-append (p ∷ ps) qs b = shown_one (eqb p.block b) (shown ps b) (shown (ps ++ qs) b) (shown qs b) (shown-append ps qs b) p.rows

-- parts that don't name a block show none of its rows
pub shown-absent : (ps : List Part) (b : ℕ) → list_any (nat_eq b) (blocks_in ps) ≡ false → shown ps b ≡ 0
shown-absent [] b e = refl
shown-absent (p ∷ ps) b e =
    let h = or_parts (eqb b p.block) (list_any (nat_eq b) (blocks_in ps)) e in
    cond-false (eqb p.block b) (max p.rows (shown ps b)) (shown ps b) (ne_eqb p.block b (λ same. eqb-false b p.block h.0 (sym same))) ∙ shown-absent ps b h.1

-- the blocks of a shape are those of its parts
pub blocks_of_parts : (tables : List TableParts) → blocks_of tables ≡ blocks_in (parts_of tables)
blocks_of_parts [] = refl
blocks_of_parts (t ∷ ts) = ap (λ l. blocks_in t.parts ++ l) (blocks_of_parts ts) ∙ sym (map-append (λ (p : Part). p.block) t.parts (parts_of ts))

-- a row that lists a block twice lists it
and_row_twice : (k : Kept) (row m n : ℕ) → and_row (and_row k row m) row n ≡ and_row k row (max m n)
and_row_twice k row m n =
    let most : max (max k.written m) n ≡ max k.written (max m n) = omega arith in
    ap (λ (w : ℕ). record { written = w; rows = set (set k.rows row true) row true }) most ∙ ap (λ (rows : List Bool). record { written = max k.written (max m n); rows = rows }) (set-set k.rows row true true)

lists_one : (p q : Bool) (o : Option Kept) (row m n : ℕ) → (p ≡ false → m ≡ 0) → (q ≡ false → n ≡ 0)
    → cond q (Some (and_row (kept_in (cond p (Some (and_row (kept_in o) row m)) o)) row n)) (cond p (Some (and_row (kept_in o) row m)) o)
    ≡ cond (p || q) (Some (and_row (kept_in o) row (max m n))) o
lists_one true true o row m n f g = ap (λ (k : Kept). Some k) (and_row_twice (kept_in o) row m n)
lists_one true false o row m n f g = let most : m ≡ max m n = (let none = g refl in omega arith) in ap (λ (k : ℕ). Some (and_row (kept_in o) row k)) most
lists_one false true o row m n f g = let most : n ≡ max m n = (let none = f refl in omega arith) in ap (λ (k : ℕ). Some (and_row (kept_in o) row k)) most
lists_one false false o row m n f g = refl

-- parts that are listed behind others
pub lists_more : (old mid new : ℕ → Option Kept) (row : ℕ) (ps qs : List Part) → ListsAll old mid row ps → ListsAll mid new row qs → ListsAll old new row (ps ++ qs)
lists_more old mid new row ps qs h k b =
    let p = list_any (nat_eq b) (blocks_in ps) in
    let q = list_any (nat_eq b) (blocks_in qs) in
    let m = shown ps b in
    let n = shown qs b in
    let both : list_any (nat_eq b) (blocks_in (ps ++ qs)) ≡ (p || q) = ap (list_any (nat_eq b)) (map-append (λ (x : Part). x.block) ps qs) ∙ list_any-append (nat_eq b) (blocks_in ps) (blocks_in qs) in
    let after : new b ≡ cond q (Some (and_row (kept_in (cond p (Some (and_row (kept_in (old b)) row m)) (old b))) row n)) (cond p (Some (and_row (kept_in (old b)) row m)) (old b)) = k b ∙ ap (λ (o : Option Kept). cond q (Some (and_row (kept_in o) row n)) o) (h b) in
    after ∙ lists_one p q (old b) row m n (λ e. shown-absent ps b e) (λ e. shown-absent qs b e)
    ∙ ap (λ (c : Bool). cond c (Some (and_row (kept_in (old b)) row (max m n))) (old b)) (sym both)
    ∙ ap (λ (w : ℕ). cond (list_any (nat_eq b) (blocks_in (ps ++ qs))) (Some (and_row (kept_in (old b)) row w)) (old b)) (sym (shown-append ps qs b))

pub lists_none : (old : ℕ → Option Kept) (row : ℕ) → ListsAll old old row []
lists_none old row b = refl

-- ---- room for new blocks

one_fewer : (c d : Bool) (x : ℕ) (xs ys : List ℕ) → (c ≡ true → d ≡ true) → length xs ≤ length ys → length (cond (not d) (x ∷ xs) xs) ≤ length (cond (not c) (x ∷ ys) ys)
one_fewer true true x xs ys f le = le
one_fewer true false x xs ys f le = absurd (true≢false (sym (f refl)))
one_fewer false true x xs ys f le = omega arith
one_fewer false false x xs ys f le = omega arith

-- where no fewer blocks are kept, no more are new
fewer_new : (old new : ℕ → Option Kept) → ((x : ℕ) → is_some (old x) ≡ true → is_some (new x) ≡ true) → (xs : List ℕ) → length (new_in new xs) ≤ length (new_in old xs)
fewer_new old new f [] = omega arith
fewer_new old new f (x ∷ xs) = one_fewer (is_some (old x)) (is_some (new x)) x (new_in new xs) (new_in old xs) (f x) (fewer_new old new f xs)

kept_still : (c : Bool) (k : Kept) (o : Option Kept) → is_some o ≡ true → is_some (cond c (Some k) o) ≡ true
kept_still true k o e = refl
kept_still false k o e = e

one_more : (c : Bool) (x n : ℕ) (ys : List ℕ) → n ≤ length ys → n + cond c 0 1 ≤ length (cond (not c) (x ∷ ys) ys)
one_more true x n ys le = omega arith
one_more false x n ys le = omega arith

-- a block that is listed is new no more
pub new_in_step : (old new : ℕ → Option Kept) (row : ℕ) (p : Part) (rest : List ℕ) → ListsAll old new row (p ∷ []) → length (new_in new rest) + cond (is_some (old p.block)) 0 1 ≤ length (new_in old (p.block ∷ rest))
new_in_step old new row p rest h =
    one_more (is_some (old p.block)) p.block (length (new_in new rest)) (new_in old rest)
    (fewer_new old new (λ x e. subst (λ (o : Option Kept). is_some o ≡ true) (sym (h x)) (kept_still (list_any (nat_eq x) (p.block ∷ [])) (and_row (kept_in (old x)) row (shown (p ∷ []) x)) (old x) e)) rest)

still_kept : (old new : ℕ → Option Kept) (row : ℕ) (ps : List Part) → ListsAll old new row ps → (x : ℕ) → is_some (old x) ≡ true → is_some (new x) ≡ true
still_kept old new row ps h x e = subst (λ (o : Option Kept). is_some o ≡ true) (sym (h x)) (kept_still (list_any (nat_eq x) (blocks_in ps)) (and_row (kept_in (old x)) row (shown ps x)) (old x) e)

pub new_in-append : (kept : ℕ → Option Kept) (xs ys : List ℕ) → length (new_in kept (xs ++ ys)) ≡ length (new_in kept xs) + length (new_in kept ys)
new_in-append kept xs ys = ap length (filter-append (λ (b : ℕ). not (is_some (kept b))) xs ys) ∙ length-append (new_in kept xs) (new_in kept ys)

-- blocks that are listed are new no more
pub new_in_steps : (old new : ℕ → Option Kept) (row : ℕ) (ps : List Part) (rest : List ℕ) → ListsAll old new row ps → length (new_in new rest) + length (new_in old (blocks_in ps)) ≤ length (new_in old (blocks_in ps ++ rest))
new_in_steps old new row ps rest h =
    let fewer = fewer_new old new (still_kept old new row ps h) rest in
    let parts = new_in-append old (blocks_in ps) rest in
    omega arith

-- no more blocks are new than there are
one_less : (c : Bool) (x n : ℕ) (ys : List ℕ) → length ys ≤ n → length (cond c (x ∷ ys) ys) ≤ n + 1
one_less true x n ys le = omega arith
one_less false x n ys le = omega arith

pub few_new : (kept : ℕ → Option Kept) (xs : List ℕ) → length (new_in kept xs) ≤ length xs
few_new kept [] = omega arith
few_new kept (x ∷ xs) = let h = one_less (not (is_some (kept x))) x (length xs) (new_in kept xs) (few_new kept xs) in omega arith

-- ---- what contracts see of the blocks that are kept

kept_or : (c r : Bool) (k : Kept) (o : Option Kept) → r ≡ is_some o → (c || r) ≡ is_some (cond c (Some k) o)
kept_or true r k o e = refl
kept_or false r k o e = e

pub kept_in_entries : (es : List (ℕ × Kept)) (b : ℕ) → list_any (λ (e : ℕ × ℕ). nat_eq b e.0) (map (λ (e : ℕ × Kept). (e.0, e.1.written)) es) ≡ is_some (lookup (nat_eq b) es)
kept_in_entries [] b = refl
kept_in_entries (e ∷ es) b = kept_or (nat_eq b e.0) (list_any (λ (f : ℕ × ℕ). nat_eq b f.0) (map (λ (f : ℕ × Kept). (f.0, f.1.written)) es)) e.1 (lookup (nat_eq b) es) (kept_in_entries es b)

same_filter : (p q : ℕ → Bool) → ((x : ℕ) → p x ≡ q x) → (xs : List ℕ) → filter p xs ≡ filter q xs
same_filter p q h [] = refl
same_filter p q h (x ∷ xs) = ap (λ (c : Bool). cond c (x ∷ filter p xs) (filter p xs)) (h x) ∙ ap (λ (l : List ℕ). cond (q x) (x ∷ l) l) (same_filter p q h xs)

pub new_in_entries : (es : List (ℕ × Kept)) (blocks : List ℕ) → filter (λ (b : ℕ). not (list_any (λ (e : ℕ × ℕ). nat_eq b e.0) (map (λ (e : ℕ × Kept). (e.0, e.1.written)) es))) blocks ≡ new_in (λ (b : ℕ). lookup (nat_eq b) es) blocks
new_in_entries es blocks = same_filter (λ (b : ℕ). not (list_any (λ (e : ℕ × ℕ). nat_eq b e.0) (map (λ (e : ℕ × Kept). (e.0, e.1.written)) es))) (λ (b : ℕ). not (is_some (lookup (nat_eq b) es))) (λ b. ap not (kept_in_entries es b)) blocks

-- the rows of a block, once parts are listed, and once blocks are listed no more
pub rows_listed : (c : Bool) (o : Option Kept) (row n : ℕ) → (c ≡ false → n ≡ 0) → (kept_in (cond c (Some (and_row (kept_in o) row n)) o)).written ≡ max (kept_in o).written n
rows_listed true o row n f = refl
rows_listed false o row n f = (let none = f refl in omega arith)

rows_unlisted : (c : Bool) (o : Option Kept) (row : ℕ) → (kept_in (cond c (option_map (but_row row) o) o)).written ≡ (kept_in o).written
rows_unlisted true None row = refl
rows_unlisted true (Some k) row = refl
rows_unlisted false o row = refl

rows_of : (c : Bool) (k : Kept) (o : Option Kept) (n : ℕ) → n ≡ (kept_in o).written → cond c k.written n ≡ (kept_in (cond c (Some k) o)).written
rows_of true k o n e = refl
rows_of false k o n e = e

pub rows_in_kept : (es : List (ℕ × Kept)) (b : ℕ) → rows_in (map (λ (e : ℕ × Kept). (e.0, e.1.written)) es) b ≡ (kept_in (lookup (nat_eq b) es)).written
rows_in_kept [] b = refl
rows_in_kept (e ∷ es) b = rows_of (nat_eq b e.0) e.1 (lookup (nat_eq b) es) (rows_in (map (λ (f : ℕ × Kept). (f.0, f.1.written)) es) b) (rows_in_kept es b)

pub rows_added : (old new : List (ℕ × Kept)) (row : ℕ) (ps : List Part) → ListsAll (λ b. lookup (nat_eq b) old) (λ b. lookup (nat_eq b) new) row ps → (b : ℕ)
    → rows_in (map (λ (e : ℕ × Kept). (e.0, e.1.written)) new) b ≡ max (rows_in (map (λ (e : ℕ × Kept). (e.0, e.1.written)) old) b) (shown ps b)
rows_added old new row ps h b =
    rows_in_kept new b ∙ ap (λ (o : Option Kept). (kept_in o).written) (h b)
    ∙ rows_listed (list_any (nat_eq b) (blocks_in ps)) (lookup (nat_eq b) old) row (shown ps b) (λ e. shown-absent ps b e)
    ∙ ap (λ (w : ℕ). max w (shown ps b)) (sym (rows_in_kept old b))

pub rows_stay : (old new : List (ℕ × Kept)) (row : ℕ) (blocks before after : List ℕ) → Unlists (λ b. lookup (nat_eq b) old) (λ b. lookup (nat_eq b) new) row blocks before after → (b : ℕ)
    → rows_in (map (λ (e : ℕ × Kept). (e.0, e.1.written)) new) b ≡ rows_in (map (λ (e : ℕ × Kept). (e.0, e.1.written)) old) b
rows_stay old new row blocks before after h b =
    rows_in_kept new b ∙ ap (λ (o : Option Kept). (kept_in o).written) (h.kept b)
    ∙ rows_unlisted (list_any (nat_eq b) blocks) (lookup (nat_eq b) old) row
    ∙ sym (rows_in_kept old b)

rows_without : (c : Bool) (o : Option Kept) → (kept_in (cond c None o)).written ≡ cond c 0 (kept_in o).written
rows_without true o = refl
rows_without false o = refl

-- the rows once a block is kept no more
pub rows_but : (old new : List (ℕ × Kept)) (block : ℕ) → ((b : ℕ) → lookup (nat_eq b) new ≡ cond (nat_eq block b) None (lookup (nat_eq b) old)) → (b : ℕ)
    → rows_in (map (λ (e : ℕ × Kept). (e.0, e.1.written)) new) b ≡ cond (nat_eq block b) 0 (rows_in (map (λ (e : ℕ × Kept). (e.0, e.1.written)) old) b)
rows_but old new block h b =
    rows_in_kept new b ∙ ap (λ (o : Option Kept). (kept_in o).written) (h b)
    ∙ rows_without (nat_eq block b) (lookup (nat_eq b) old)
    ∙ ap (λ (w : ℕ). cond (nat_eq block b) 0 w) (sym (rows_in_kept old b))
