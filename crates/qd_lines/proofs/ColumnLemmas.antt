-- The columns that the tags and fields of a line add.
use Rattle.std.proofs.Common.{◌≡◌, ◌+◌, ◌<◌, ◌≤◌, ◌||◌, Bool, true, false, cond, List, [], ◌∷◌, ◌++◌, length, refl, sym, ap, ◌∙◌, arith, length-append, append_assoc}
use Rattle.std.specs.List.{AllByRecursion, IsDistinct, list_any}
use Rattle.std.specs.Option.{is_some, IsNone}
use Rattle.std.proofs.lemmas.List.{append-nil}
use Rattle.qd_base.specs.declared.limits.TheConstants.{MAX_COLUMNS}
use Rattle.qd_base.specs.declared.schema.Col.{Col}
use Rattle.qd_base.specs.Names.{IsColumnName}
use Rattle.qd_base.specs.Schemas.{same_name, column_at}
use Rattle.qd_base.proofs.Lists.{each-append, IsDistinct-push}
use Rattle.qd_base.proofs.Tables.{position-none}
use Rattle.qd_base.proofs.Texts.{some_place}
use Rattle.qd_ilp.specs.Line.{Item}
use Rattle.qd_ilp.specs.Transaction.{with_items}
use Rattle.qd_lines.specs.Drafts.{column_made}

abbrev with_item : List Col → Item → List Col
with_item cols i = cond (is_some (column_at cols i.name)) cols (cols ++ column_made i ∷ [])

-- the columns that are added
abbrev pub added_by : List Col → List Item → List Col
added_by cols [] = []
added_by cols (i ∷ is) = cond (is_some (column_at cols i.name)) (added_by cols is) (column_made i ∷ added_by (cols ++ column_made i ∷ []) is)

pub with_items_added : (cols : List Col) (items : List Item) → with_items cols items ≡ cols ++ added_by cols items
with_items_added cols [] = sym (append-nil cols)
with_items_added cols (i ∷ is) = go (is_some (column_at cols i.name)) (with_items_added cols is) (with_items_added (cols ++ column_made i ∷ []) is)
  where
    go : (b : Bool) → with_items cols is ≡ cols ++ added_by cols is → with_items (cols ++ column_made i ∷ []) is ≡ (cols ++ column_made i ∷ []) ++ added_by (cols ++ column_made i ∷ []) is
        → with_items (cond b cols (cols ++ column_made i ∷ [])) is ≡ cols ++ cond b (added_by cols is) (column_made i ∷ added_by (cols ++ column_made i ∷ []) is)
    go true h k = h
    go false h k = k ∙ append_assoc cols (column_made i ∷ []) (added_by (cols ++ column_made i ∷ []) is)

-- a fact of each column that was there, and of each that an item makes
pub each-with_items : (P : Col → Type 0) (cols : List Col) (items : List Item) → AllByRecursion P cols → AllByRecursion (λ (i : Item). P (column_made i)) items → AllByRecursion P (with_items cols items)
each-with_items P cols [] h k = h
each-with_items P cols (i ∷ is) h k = each-with_items P (with_item cols i) is (go (is_some (column_at cols i.name))) k.1
  where
    go : (b : Bool) → AllByRecursion P (cond b cols (cols ++ column_made i ∷ []))
    go true = h
    go false = each-append P cols (column_made i ∷ []) h (k.0, tt)

pub distinct-with_items : (cols : List Col) (items : List Item) → IsDistinct (λ (a : Col) (b : Col). same_name a.name b.name) cols → IsDistinct (λ (a : Col) (b : Col). same_name a.name b.name) (with_items cols items)
distinct-with_items cols [] h = h
distinct-with_items cols (i ∷ is) h = distinct-with_items (with_item cols i) is (go (is_some (column_at cols i.name)) refl)
  where
    go : (b : Bool) → is_some (column_at cols i.name) ≡ b → IsDistinct (λ (a : Col) (b : Col). same_name a.name b.name) (cond b cols (cols ++ column_made i ∷ []))
    go true e = h
    go false e = IsDistinct-push (λ (a : Col) (b : Col). same_name a.name b.name) cols (column_made i) h (position-none (λ (c : Col). same_name c.name i.name) cols e)

-- each of these columns is new to those before it, has a name that columns may have, and is none too many
abbrev pub AreNew : List Col → List Col → Type 0
AreNew cols [] = Unit {0}
AreNew cols (c ∷ cs) = IsNone (column_at cols c.name) × IsColumnName c.name × (length cols < MAX_COLUMNS) × AreNew (cols ++ c ∷ []) cs

pub new-added : (cols : List Col) (items : List Item) → AllByRecursion (λ (i : Item). IsColumnName i.name) items → length (cols ++ added_by cols items) ≤ MAX_COLUMNS → AreNew cols (added_by cols items)
new-added cols [] h le = tt
new-added cols (i ∷ is) h le = go (is_some (column_at cols i.name)) refl (new-added cols is h.1) (new-added (cols ++ column_made i ∷ []) is h.1) le
  where
    more : List Col
    more = cols ++ column_made i ∷ []

    go : (b : Bool) → is_some (column_at cols i.name) ≡ b → (length (cols ++ added_by cols is) ≤ MAX_COLUMNS → AreNew cols (added_by cols is)) → (length ((cols ++ column_made i ∷ []) ++ added_by (cols ++ column_made i ∷ []) is) ≤ MAX_COLUMNS → AreNew (cols ++ column_made i ∷ []) (added_by (cols ++ column_made i ∷ []) is))
        → length (cols ++ cond b (added_by cols is) (column_made i ∷ added_by (cols ++ column_made i ∷ []) is)) ≤ MAX_COLUMNS → AreNew cols (cond b (added_by cols is) (column_made i ∷ added_by (cols ++ column_made i ∷ []) is))
    go true e f g le = f le
    go false e f g le =
        let rest : List Col = added_by (cols ++ column_made i ∷ []) is in
        let size : length (cols ++ column_made i ∷ rest) ≡ length cols + length (column_made i ∷ rest) = length-append cols (column_made i ∷ rest) in
        let same : length ((cols ++ column_made i ∷ []) ++ rest) ≡ length (cols ++ column_made i ∷ rest) = ap length (append_assoc cols (column_made i ∷ []) rest) in
        (e, h.0, omega arith, g (omega arith))

-- ---- a column before the others

-- A column that no item names, before the others, stays there.
pub with_items-behind : (c : Col) (cols : List Col) (items : List Item) → AllByRecursion (λ (i : Item). same_name c.name i.name ≡ false) items → with_items (c ∷ cols) items ≡ c ∷ with_items cols items
with_items-behind c cols [] h = refl
with_items-behind c cols (i ∷ is) h = go (is_some (column_at (c ∷ cols) i.name)) (is_some (column_at cols i.name)) same (with_items-behind c cols is h.1) (with_items-behind c (cols ++ column_made i ∷ []) is h.1)
  where
    same : is_some (column_at (c ∷ cols) i.name) ≡ is_some (column_at cols i.name)
    same =
        some_place (λ (x : Col). same_name x.name i.name) (c ∷ cols) ∙ ap (λ b. b || list_any (λ (x : Col). same_name x.name i.name) cols) h.0
        ∙ sym (some_place (λ (x : Col). same_name x.name i.name) cols)

    go : (a b : Bool) → a ≡ b → with_items (c ∷ cols) is ≡ c ∷ with_items cols is → with_items (c ∷ (cols ++ column_made i ∷ [])) is ≡ c ∷ with_items (cols ++ column_made i ∷ []) is
        → with_items (cond a (c ∷ cols) (c ∷ (cols ++ column_made i ∷ []))) is ≡ c ∷ with_items (cond b cols (cols ++ column_made i ∷ [])) is
    go true true e h k = h
    go false false e h k = k
    go true false e h k = absurd cc
    go false true e h k = absurd cc
