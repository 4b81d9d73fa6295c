-- Rows of items: what stands at the place of each may stand in its column.
use Rattle.std.proofs.Common.{◌≡◌, ℕ, zero, suc, ◌+◌, ◌⊎◌, inl, inr, Bool, true, false, List, [], ◌∷◌, ◌++◌, map, length, Option, Some, None, refl, sym, ap, ◌∙◌, subst, arith, true≢false}
use Rattle.std.specs.Prelude.{if◌then◌else◌, ◌==◌, ◌||◌, slice_get}
use Rattle.std.specs.List.{AllByRecursion, AllZip, flat_map, range_with_len, zip}
use Rattle.qd_base.specs.declared.cell.Cell.{Cell}
use Rattle.qd_base.specs.declared.cell.Cell.TheVariants as cell
use Rattle.qd_base.specs.declared.schema.Col.{Col}
use Rattle.qd_base.specs.declared.schema.ColType.{ColType}
use Rattle.qd_base.specs.declared.schema.ColType.TheVariants as kind
use Rattle.qd_base.specs.Rows.{Row, cell_at}
use Rattle.qd_value.specs.declared.bound.Bound.{Bound}
use Rattle.qd_value.specs.Value.{value}
use Rattle.qd_meaning.specs.declared.parts.Agg.{Agg}
use Rattle.qd_meaning.specs.Typing.{Form, NumberAt, Other, Plain, TextAt}
use Rattle.qd_meaning.specs.Grouped.{aggregate, aggregates, key_of}
use Rattle.qd_meaning.specs.Items.{Key, Made, Makes, Part, Role, Shows, Start, Value, agg_in, aggs_among, bound_in, is_made, key_in, keys_among, output_column, picks_from, role_by, role_of, some_made}
use Rattle.qd_meaning.specs.Outputs.{made_new, names_from, shown_as}
use Rattle.qd_meaning.specs.Planned.{made_kinds}
use Rattle.qd_meaning.specs.Answer.{output_row}
use Rattle.qd_query.specs.Typed.{IsOfKind, IsTypedBy}
use Rattle.qd_query.proofs.TypedValues.{FitsColumns, MayStand}
use Rattle.qd_query.proofs.TypedItems.{IsGood, IsGoodPart, value_stands}

-- ---- lists side by side

module _ {A B : Type 0} where
  pub zip_length : (P : A → B → Type 0) (xs : List A) (ys : List B) → AllZip P xs ys → length xs ≡ length ys
  zip_length P [] [] h = refl
  zip_length P [] (y ∷ ys) h = absurd h
  zip_length P (x ∷ xs) [] h = absurd h
  zip_length P (x ∷ xs) (y ∷ ys) h = ap suc (zip_length P xs ys h.1)

  pub zip_weaker : (P Q : A → B → Type 0) → ((x : A) (y : B) → P x y → Q x y) → (xs : List A) (ys : List B) → AllZip P xs ys → AllZip Q xs ys
  zip_weaker P Q f [] [] h = tt
  zip_weaker P Q f [] (y ∷ ys) h = absurd h
  zip_weaker P Q f (x ∷ xs) [] h = absurd h
  zip_weaker P Q f (x ∷ xs) (y ∷ ys) h = (f x y h.0, zip_weaker P Q f xs ys h.1)

  pub zip_append : (P : A → B → Type 0) (xs more : List A) (ys rest : List B) → AllZip P xs ys → AllZip P more rest → AllZip P (xs ++ more) (ys ++ rest)
  zip_append P [] more [] rest h k = k
  zip_append P [] more (y ∷ ys) rest h k = absurd h
  zip_append P (x ∷ xs) more [] rest h k = absurd h
  zip_append P (x ∷ xs) more (y ∷ ys) rest h k = (h.0, zip_append P xs more ys rest h.1 k)

pub zip_map : {A B C : Type 0} (P : A → B → Type 0) (Q : A → C → Type 0) (f : B → C) → ((x : A) (y : B) → P x y → Q x (f y)) → (xs : List A) (ys : List B) → AllZip P xs ys → AllZip Q xs (map f ys)
zip_map P Q f g [] [] h = tt
zip_map P Q f g [] (y ∷ ys) h = absurd h
zip_map P Q f g (x ∷ xs) [] h = absurd h
zip_map P Q f g (x ∷ xs) (y ∷ ys) h = (g x y h.0, zip_map P Q f g xs ys h.1)

-- ---- cells at their places

abbrev pub AllStand : List ColType → Row → Type 0
AllStand kinds cells = AllZip MayStand kinds cells

-- the cells from a place on
abbrev pub StandAt : Row → ℕ → List ColType → Type 0
StandAt row at kinds = (j : ℕ) (k : ColType) → slice_get kinds j ≡ Some k → MayStand k (cell_at row (at + j))

stand_first : (row : Row) (at : ℕ) (k : ColType) (kinds : List ColType) → StandAt row at (k ∷ kinds) → MayStand k (cell_at row at)
stand_first row at k kinds h = subst (λ (i : ℕ). MayStand k (cell_at row i)) (let same : at + 0 ≡ at = omega arith in same) (h 0 k refl)

stand_rest : (row : Row) (at : ℕ) (k : ColType) (kinds : List ColType) → StandAt row at (k ∷ kinds) → StandAt row (at + 1) kinds
stand_rest row at k kinds h j l e = subst (λ (i : ℕ). MayStand l (cell_at row i)) (let same : at + suc j ≡ at + 1 + j = omega arith in same) (h (suc j) l e)

one_stands : (kinds : List ColType) (cells back : Row) (j : ℕ) (k : ColType) → AllStand kinds cells → slice_get kinds j ≡ Some k → MayStand k (cell_at (cells ++ back) j)
one_stands [] cells back j k h e = absurd (cc)
one_stands (x ∷ xs) [] back j k h e = absurd h
one_stands (x ∷ xs) (c ∷ cs) back zero k h e = subst (λ (z : ColType). MayStand z c) (let same : x ≡ k = cc in same) h.0
one_stands (x ∷ xs) (c ∷ cs) back (suc j) k h e = one_stands xs cs back j k h.1 e

behind : (front cells : Row) (j : ℕ) → cell_at (front ++ cells) (length front + j) ≡ cell_at cells j
behind [] cells j = ap (cell_at cells) (let same : 0 + j ≡ j = omega arith in same)
behind (x ∷ xs) cells j = ap (cell_at (x ∷ (xs ++ cells))) (let same : suc (length xs) + j ≡ suc (length xs + j) = omega arith in same) ∙ behind xs cells j

pub stand_behind : (front cells back : Row) (at : ℕ) (kinds : List ColType) → at ≡ length front → AllStand kinds cells → StandAt (front ++ (cells ++ back)) at kinds
stand_behind front cells back at kinds same h j k e =
    subst (MayStand k) (sym (ap (λ (n : ℕ). cell_at (front ++ (cells ++ back)) (n + j)) same ∙ behind front (cells ++ back) j)) (one_stands kinds cells back j k h e)

-- ---- the places of items

abbrev pub key_kind : Role → ColType → List ColType
key_kind Start k = []
key_kind (Key e) k = k ∷ []
key_kind (Makes a) k = []

abbrev pub kinds_of : List Shows → List ColType
kinds_of items = map (λ (s : Shows). s.kind) items

abbrev pub roles_of : Option ℕ → List Shows → List Role
roles_of buckets items = map (λ (s : Shows). role_of buckets s.part) items

abbrev pub key_kinds : Option ℕ → List Shows → List ColType
key_kinds buckets items = flat_map (λ (s : Shows). key_kind (role_of buckets s.part) s.kind) items

-- where an item shows the start of its bucket, that may stand in its column
abbrev pub StartsBy : Role → ColType → Row → Type 0
StartsBy Start k row = MayStand k (cell_at row 0)
StartsBy (Key e) k row = Unit {0}
StartsBy (Makes a) k row = Unit {0}

abbrev pub Placed : Row → ℕ → ColType → Type 0
Placed row p k = MayStand k (cell_at row p)

module _ (buckets : Option ℕ) (row : Row) where
  -- the items behind one of them, wherever its key or aggregate stands
  abbrev pub Rest : List Shows → Type 0
  Rest rest = (key made : ℕ) → StandAt row key (key_kinds buckets rest) → StandAt row made (made_kinds rest) → AllZip (Placed row) (picks_from key made (roles_of buckets rest)) (kinds_of rest)

  key_next : (r : Role) (k : ColType) (rest : List Shows) (key made : ℕ) → ((a : Agg) → r ≡ Makes a → ⊥) → StandAt row key (key_kind r k ++ key_kinds buckets rest) → StandAt row made (made_kinds rest) → StartsBy r k row
      → Rest rest → AllZip (Placed row) (picks_from key made (r ∷ roles_of buckets rest)) (k ∷ kinds_of rest)
  key_next Start k rest key made other keys aggs start next = (start, next key made keys aggs)
  key_next (Key e) k rest key made other keys aggs start next = (stand_first row key k (key_kinds buckets rest) keys, next (key + 1) made (stand_rest row key k (key_kinds buckets rest) keys) aggs)
  key_next (Makes a) k rest key made other keys aggs start next = absurd (other a refl)

  no_making : (b : Option ℕ) (f : Form) (e : Bound) (a : Agg) → role_by b f e ≡ Makes a → ⊥
  no_making None f e a h = absurd (cc)
  no_making (Some t) (Plain n col) e a h = by (n == t) h
    where
      by : (b : Bool) → (if b then Start else Key e) ≡ Makes a → ⊥
      by true h = absurd (cc)
      by false h = absurd (cc)
  no_making (Some t) (TextAt bytes place) e a h = absurd (cc)
  no_making (Some t) (NumberAt n signed place) e a h = absurd (cc)
  no_making (Some t) Other e a h = absurd (cc)

  item_next : (p : Part) (k : ColType) (rest : List Shows) (key made : ℕ) → StandAt row key (key_kind (role_of buckets p) k ++ key_kinds buckets rest)
      → StandAt row made ((if is_made p then k ∷ [] else []) ++ made_kinds rest) → StartsBy (role_of buckets p) k row → Rest rest
      → AllZip (Placed row) (picks_from key made (role_of buckets p ∷ roles_of buckets rest)) (k ∷ kinds_of rest)
  item_next (Value x) k rest key made keys aggs start next = key_next (role_by buckets x.form x.bound) k rest key made (no_making buckets x.form x.bound) keys aggs start next
  item_next (Made a) k rest key made keys aggs start next = (stand_first row made k (made_kinds rest) aggs, next key (made + 1) keys (stand_rest row made k (made_kinds rest) aggs))

  pub items_placed : (items : List Shows) → AllByRecursion (λ (s : Shows). StartsBy (role_of buckets s.part) s.kind row) items → Rest items
  items_placed [] starts key made keys aggs = tt
  items_placed (s ∷ ss) starts key made keys aggs = item_next s.part s.kind ss key made keys aggs starts.0 (items_placed ss starts.1)

-- rows that have a cell for each item
pub all_placed : (row : Row) (at : ℕ) (items : List Shows) (roles : List Role) → length roles ≡ length items → StandAt row at (kinds_of items) → AllZip (Placed row) (range_with_len at (length roles)) (kinds_of items)
all_placed row at [] [] same h = tt
all_placed row at [] (r ∷ rs) same h = absurd (omega (arith, same))
all_placed row at (s ∷ ss) [] same h = absurd (omega (arith, same))
all_placed row at (s ∷ ss) (r ∷ rs) same h = (stand_first row at s.kind (kinds_of ss) h, all_placed row (at + 1) ss rs (omega (arith, same)) (stand_rest row at s.kind (kinds_of ss) h))

-- ---- keys and aggregates

module _ (cols : List Col) (buckets : Option ℕ) where
  abbrev pub KeyStands : ColType → Bound → Type 0
  KeyStands k e = (row : Row) → FitsColumns cols row → MayStand k (value e row)

  abbrev pub AggStands : ColType → Agg → Type 0
  AggStands k a = (rows : List Row) → AllByRecursion (FitsColumns cols) rows → MayStand k (aggregate rows a)

  of_key : (r : Role) (k : ColType) (e : Bound) (ks : List ColType) (rest : List Bound) → (r ≡ Start) ⊎ (r ≡ Key e) → KeyStands k e → AllZip KeyStands ks rest → AllZip KeyStands (key_kind r k ++ ks) (key_in r ++ rest)
  of_key r k e ks rest (inl is) h more = subst (λ (x : Role). AllZip KeyStands (key_kind x k ++ ks) (key_in x ++ rest)) (sym is) more
  of_key r k e ks rest (inr is) h more = subst (λ (x : Role). AllZip KeyStands (key_kind x k ++ ks) (key_in x ++ rest)) (sym is) (h, more)

  start_or_key : (b : Option ℕ) (f : Form) (e : Bound) → (role_by b f e ≡ Start) ⊎ (role_by b f e ≡ Key e)
  start_or_key None f e = inr refl
  start_or_key (Some t) (Plain n col) e = by (n == t)
    where
      by : (b : Bool) → ((if b then Start else Key e) ≡ Start) ⊎ ((if b then Start else Key e) ≡ Key e)
      by true = inl refl
      by false = inr refl
  start_or_key (Some t) (TextAt bytes place) e = inr refl
  start_or_key (Some t) (NumberAt n signed place) e = inr refl
  start_or_key (Some t) Other e = inr refl

  key_one : (p : Part) (k : ColType) (ks : List ColType) (rest : List Bound) → IsGoodPart cols k p → AllZip KeyStands ks rest → AllZip KeyStands (key_kind (role_of buckets p) k ++ ks) (key_in (role_of buckets p) ++ rest)
  key_one (Value x) k ks rest good more =
      of_key (role_by buckets x.form x.bound) k x.bound ks rest (start_or_key buckets x.form x.bound) (λ row fits. subst (λ (z : ColType). MayStand z (value x.bound row)) (sym good.0) (value_stands cols x good.1 row fits)) more
  key_one (Made a) k ks rest good more = more

  pub keys_stand : (items : List Shows) → AllByRecursion (IsGood cols) items → AllZip KeyStands (key_kinds buckets items) (keys_among (roles_of buckets items))
  keys_stand [] good = tt
  keys_stand (s ∷ ss) good = key_one s.part s.kind (key_kinds buckets ss) (keys_among (roles_of buckets ss)) good.0 (keys_stand ss good.1)

  no_agg : (r : Role) (e : Bound) (rest : List Agg) → (r ≡ Start) ⊎ (r ≡ Key e) → agg_in r ++ rest ≡ rest
  no_agg r e rest (inl is) = ap (λ (x : Role). agg_in x ++ rest) is
  no_agg r e rest (inr is) = ap (λ (x : Role). agg_in x ++ rest) is

  agg_one : (p : Part) (k : ColType) (ks : List ColType) (rest : List Agg) → IsGoodPart cols k p → AllZip AggStands ks rest → AllZip AggStands ((if is_made p then k ∷ [] else []) ++ ks) (agg_in (role_of buckets p) ++ rest)
  agg_one (Value x) k ks rest good more = subst (AllZip AggStands ks) (sym (no_agg (role_by buckets x.form x.bound) x.bound rest (start_or_key buckets x.form x.bound))) more
  agg_one (Made a) k ks rest good more = (good, more)

  pub aggs_stand : (items : List Shows) → AllByRecursion (IsGood cols) items → AllZip AggStands (made_kinds items) (aggs_among (roles_of buckets items))
  aggs_stand [] good = tt
  aggs_stand (s ∷ ss) good = agg_one s.part s.kind (made_kinds ss) (aggs_among (roles_of buckets ss)) good.0 (aggs_stand ss good.1)

  pub key_values : (ks : List ColType) (keys : List Bound) (row : Row) → FitsColumns cols row → AllZip KeyStands ks keys → AllStand ks (key_of keys row)
  key_values ks keys row fits h = zip_map KeyStands MayStand (λ (e : Bound). value e row) (λ k e stands. stands row fits) ks keys h

  pub agg_values : (ks : List ColType) (aggs : List Agg) (rows : List Row) → AllByRecursion (FitsColumns cols) rows → AllZip AggStands ks aggs → AllStand ks (aggregates aggs rows)
  agg_values ks aggs rows fits h = zip_map AggStands MayStand (aggregate rows) (λ k a stands. stands rows fits) ks aggs h

  -- items that are all values of a row
  plain_one : (p : Part) (k : ColType) (ks : List ColType) (rest : List Bound) → IsGoodPart cols k p → is_made p ≡ false → AllZip KeyStands ks rest → AllZip KeyStands (k ∷ ks) (bound_in p ++ rest)
  plain_one (Value x) k ks rest good none more = (λ row fits. subst (λ (z : ColType). MayStand z (value x.bound row)) (sym good.0) (value_stands cols x good.1 row fits), more)
  plain_one (Made a) k ks rest good none more = absurd (true≢false none)

  pub plain_stand : (items : List Shows) → AllByRecursion (IsGood cols) items → some_made items ≡ false → AllZip KeyStands (kinds_of items) (flat_map (λ (s : Shows). bound_in s.part) items)
  plain_stand [] good none = tt
  plain_stand (s ∷ ss) good none =
      let split = apart (is_made s.part) (some_made ss) none in
      plain_one s.part s.kind (kinds_of ss) (flat_map (λ (s : Shows). bound_in s.part) ss) good.0 split.0 (plain_stand ss good.1 split.1)
    where
      apart : (a b : Bool) → (a || b) ≡ false → (a ≡ false) × (b ≡ false)
      apart true b h = absurd (true≢false h)
      apart false b h = (refl, h)

-- ---- the columns of items

pub shown_is : (k : ColType) (c : Cell) → MayStand k c → IsOfKind k (shown_as k c)
shown_is kind.Long cell.Null h = tt
shown_is kind.Long (cell.Long x) h = tt
shown_is kind.Bool cell.Null h = tt
shown_is kind.Bool (cell.Bool x) h = tt
shown_is kind.Symbol cell.Null h = tt
shown_is kind.Symbol (cell.Text x) h = tt
shown_is kind.Varchar cell.Null h = tt
shown_is kind.Varchar (cell.Text x) h = tt
shown_is kind.Time cell.Null h = tt
shown_is kind.Time (cell.Time x) h = tt
shown_is kind.Long (cell.Bool x) (inl h) = absurd (cc)
shown_is kind.Long (cell.Bool x) (inr h) = absurd (cc)
shown_is kind.Long (cell.Text x) (inl h) = absurd (cc)
shown_is kind.Long (cell.Text x) (inr h) = absurd (cc)
shown_is kind.Long (cell.Time x) (inl h) = absurd (cc)
shown_is kind.Long (cell.Time x) (inr h) = absurd (cc)
shown_is kind.Bool (cell.Long x) (inl h) = absurd (cc)
shown_is kind.Bool (cell.Long x) (inr h) = absurd (cc)
shown_is kind.Bool (cell.Text x) (inl h) = absurd (cc)
shown_is kind.Bool (cell.Text x) (inr h) = absurd (cc)
shown_is kind.Bool (cell.Time x) (inl h) = absurd (cc)
shown_is kind.Bool (cell.Time x) (inr h) = absurd (cc)
shown_is kind.Symbol (cell.Long x) (inl h) = absurd (cc)
shown_is kind.Symbol (cell.Long x) (inr h) = absurd (cc)
shown_is kind.Symbol (cell.Bool x) (inl h) = absurd (cc)
shown_is kind.Symbol (cell.Bool x) (inr h) = absurd (cc)
shown_is kind.Symbol (cell.Time x) (inl h) = absurd (cc)
shown_is kind.Symbol (cell.Time x) (inr h) = absurd (cc)
shown_is kind.Varchar (cell.Long x) (inl h) = absurd (cc)
shown_is kind.Varchar (cell.Long x) (inr h) = absurd (cc)
shown_is kind.Varchar (cell.Bool x) (inl h) = absurd (cc)
shown_is kind.Varchar (cell.Bool x) (inr h) = absurd (cc)
shown_is kind.Varchar (cell.Time x) (inl h) = absurd (cc)
shown_is kind.Varchar (cell.Time x) (inr h) = absurd (cc)
shown_is kind.Time (cell.Long x) (inl h) = absurd (cc)
shown_is kind.Time (cell.Long x) (inr h) = absurd (cc)
shown_is kind.Time (cell.Bool x) (inl h) = absurd (cc)
shown_is kind.Time (cell.Bool x) (inr h) = absurd (cc)
shown_is kind.Time (cell.Text x) (inl h) = absurd (cc)
shown_is kind.Time (cell.Text x) (inr h) = absurd (cc)

abbrev pub columns_from : List (List ℕ) → List Shows → List Col
columns_from taken items = map output_column (zip (names_from taken (map (λ (s : Shows). s.name) items)) (kinds_of items))

pub row_typed : (taken : List (List ℕ)) (items : List Shows) (picks : List ℕ) (row : Row) → AllZip (Placed row) picks (kinds_of items) → IsTypedBy (columns_from taken items) (output_row picks (columns_from taken items) row)
row_typed taken [] [] row h = tt
row_typed taken [] (p ∷ ps) row h = absurd h
row_typed taken (s ∷ ss) [] row h = absurd h
row_typed taken (s ∷ ss) (p ∷ ps) row h = (shown_is s.kind (cell_at row p) h.0, row_typed (taken ++ made_new taken s.name ∷ []) ss ps row h.1)
