-- Versions that read the files of their blocks as columns of the same kinds, and one more that does.
use Rattle.std.proofs.Common.{◌≡◌, ℕ, zero, suc, ◌<◌, nat_eq, Bool, true, false, ◌||◌, List, [], ◌∷◌, length, get_or, Option, None, Some, Contains, take, refl, sym, ap, ◌∙◌, subst, arith, true≢false}
use Rattle.std.specs.List.{list_any}
use Rattle.std.proofs.lemmas.Bool.{eqb-true, eqb-false}
use Rattle.std.proofs.lemmas.List.Folds.{list_any-append}
use Rattle.qd_base.specs.declared.part.Part.{Part}
use Rattle.qd_block.specs.Blocks.{kinds_in}
use Rattle.qd_manifest.specs.declared.shape.TableParts.{TableParts}
use Rattle.qd_manifest.specs.Spelling.{blocks_in, blocks_of}
use Rattle.qd_catalog.specs.declared.version.Version.{Version}
use Rattle.qd_catalog.specs.Versions.{IsListed, Versions, lists, version_at}
use Rattle.qd_versions.specs.Stores.{AreAlike, HaveOneKinds}
use Rattle.qd_versions.proofs.Blocks.{in_listed, listed_in}

-- an item with its place in a longer list
later : {X : Type 0} (x y : X) (xs : List X) → Contains xs y → Contains (x ∷ xs) y
later x y xs c = (suc c.0, omega (arith, c.1), c.2)

-- a block that parts name is that of one of them
part_named : (ps : List Part) (b : ℕ) → list_any (nat_eq b) (blocks_in ps) ≡ true → (q : Part) × Contains ps q × (b ≡ q.block)
part_named [] b e = absurd (true≢false (sym e))
part_named (p ∷ ps) b e = by (nat_eq b p.block) refl e (part_named ps b)
  where
    by : (same : Bool) → nat_eq b p.block ≡ same → (same || list_any (nat_eq b) (blocks_in ps)) ≡ true → (list_any (nat_eq b) (blocks_in ps) ≡ true → (q : Part) × Contains ps q × (b ≡ q.block)) → (q : Part) × Contains (p ∷ ps) q × (b ≡ q.block)
    by true s f more = (p, (0, omega arith, refl), eqb-true b p.block s)
    by false s f more = let h = more f in (h.0, later p h.0 ps h.1, h.2)

-- the part of a shape that names a block
pub record Names (shape : List TableParts) (b : ℕ) : Type 0 where
  pub t : TableParts
  pub p : Part
  pub its_table : Contains shape t
  pub its_part : Contains t.parts p
  pub same : b ≡ p.block

pub named : (shape : List TableParts) (b : ℕ) → list_any (nat_eq b) (blocks_of shape) ≡ true → Names shape b
named [] b e = absurd (true≢false (sym e))
named (t ∷ ts) b e = by (list_any (nat_eq b) (blocks_in t.parts)) refl (sym (list_any-append (nat_eq b) (blocks_in t.parts) (blocks_of ts)) ∙ e) (named ts b)
  where
    by : (here : Bool) → list_any (nat_eq b) (blocks_in t.parts) ≡ here → (list_any (nat_eq b) (blocks_in t.parts) || list_any (nat_eq b) (blocks_of ts)) ≡ true → (list_any (nat_eq b) (blocks_of ts) ≡ true → Names ts b) → Names (t ∷ ts) b
    by true h f more = let q = part_named t.parts b h in record { t = t; p = q.0; its_table = (0, omega arith, refl); its_part = q.1; same = q.2 }
    by false h f more =
        let n = more (sym (ap (λ c. c || list_any (nat_eq b) (blocks_of ts)) h) ∙ f) in
        record { t = n.t; p = n.p; its_table = later t n.t ts n.its_table; its_part = n.its_part; same = n.same }

-- and the other way round
in_parts : (ps : List Part) (k : ℕ) (p : Part) → k < length ps → get_or ps k p ≡ p → list_any (nat_eq p.block) (blocks_in ps) ≡ true
in_parts ps k p less e = in_listed p.block (blocks_in ps) (k, within ps k less, at ps k p p.block e less)
  where
    within : (ps : List Part) (k : ℕ) → k < length ps → k < length (blocks_in ps)
    within [] k less = absurd (omega arith)
    within (q ∷ qs) zero less = omega arith
    within (q ∷ qs) (suc k) less = omega (arith, within qs k (omega (arith, less)))

    at : (ps : List Part) (k : ℕ) (p : Part) (d : ℕ) → get_or ps k p ≡ p → k < length ps → get_or (blocks_in ps) k d ≡ p.block
    at [] k p d e less = absurd (omega arith)
    at (q ∷ qs) zero p d e less = ap (λ (x : Part). x.block) e
    at (q ∷ qs) (suc k) p d e less = at qs k p d e (omega (arith, less))

pub or_second : (a b : Bool) → b ≡ true → (a || b) ≡ true
or_second true b e = refl
or_second false b e = e

pub or_either : (a b : Bool) → a ≡ true → (a || b) ≡ true
or_either true b e = refl
or_either false b e = absurd (true≢false (sym e))

in_shape : (shape : List TableParts) (k : ℕ) (t : TableParts) (b : ℕ) → k < length shape → get_or shape k t ≡ t → list_any (nat_eq b) (blocks_in t.parts) ≡ true → list_any (nat_eq b) (blocks_of shape) ≡ true
in_shape [] k t b less e h = absurd (omega arith)
in_shape (u ∷ us) zero t b less e h =
    list_any-append (nat_eq b) (blocks_in u.parts) (blocks_of us)
    ∙ or_either (list_any (nat_eq b) (blocks_in u.parts)) (list_any (nat_eq b) (blocks_of us)) (subst (λ (x : TableParts). list_any (nat_eq b) (blocks_in x.parts) ≡ true) (sym e) h)
in_shape (u ∷ us) (suc k) t b less e h =
    list_any-append (nat_eq b) (blocks_in u.parts) (blocks_of us)
    ∙ or_second (list_any (nat_eq b) (blocks_in u.parts)) (list_any (nat_eq b) (blocks_of us)) (in_shape us k t b (omega (arith, less)) e h)

pub names_block : (shape : List TableParts) (t : TableParts) (p : Part) → Contains shape t → Contains t.parts p → list_any (nat_eq p.block) (blocks_of shape) ≡ true
names_block shape t p ct cp = in_shape shape ct.0 t p.block ct.1 ct.2 (in_parts t.parts cp.0 p cp.1 cp.2)

pub kinds_flip : (one other : List TableParts) → HaveOneKinds one other → HaveOneKinds other one
kinds_flip one other kinds t u p q ct cp cu cq same = sym (kinds u t q p cu cq ct cp (sym same))

-- the version of a row that lists a block
pub listed_at : (o : Option Version) (b : ℕ) → lists o b ≡ true → (x : Version) × (o ≡ Some x) × (list_any (nat_eq b) (blocks_of x.shape) ≡ true)
listed_at None b e = absurd (true≢false (sym e))
listed_at (Some x) b e = (x, refl, e)

-- a shape that reads blocks as the current version does reads them as each live version does
module _ (v : Versions) (alike : AreAlike v) (below : (b : ℕ) → IsListed v b → b < v.next_block) (shape : List TableParts) (one : (x : Version) → version_at v v.current ≡ Some x → HaveOneKinds shape x.shape)
    (old : (b : ℕ) → Contains (blocks_of shape) b → b < v.next_block → lists (version_at v v.current) b ≡ true)
  where
    pub alike_with : (r : ℕ) (z : Version) → version_at v r ≡ Some z → HaveOneKinds shape z.shape
    alike_with r z live t u p q ct cp cu cq same = by (nat_eq v.current r) refl
      where
        -- the current version names the block too
        listed : lists (version_at v v.current) p.block ≡ true
        listed =
            old p.block (listed_in p.block (blocks_of shape) (names_block shape t p ct cp))
            (subst (λ b. b < v.next_block) (sym same) (below q.block (r, ap (λ (o : Option Version). lists o q.block) live ∙ names_block z.shape u q cu cq)))

        by : (is : Bool) → nat_eq v.current r ≡ is → take p.cols (kinds_in t.schema.cols) ≡ take q.cols (kinds_in u.schema.cols)
        by true e = one z (ap (λ k. version_at v k) (eqb-true v.current r e) ∙ live) t u p q ct cp cu cq same
        by false e =
            let x = listed_at (version_at v v.current) p.block listed in
            let n = named x.0.shape p.block x.2 in
            one x.0 x.1 t n.t p n.p ct cp n.its_table n.its_part n.same
            ∙ alike v.current r x.0 z (eqb-false v.current r e) x.1 live n.t u n.p q n.its_table n.its_part cu cq (sym n.same ∙ same)
