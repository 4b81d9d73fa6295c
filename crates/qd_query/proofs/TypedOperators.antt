-- The rows of each operator may stand in the columns of its items.
use Rattle.std.proofs.Common.{◌≡◌, ℕ, zero, suc, ◌-◌, ◌⊎◌, inl, inr, Bool, true, false, cond, List, [], ◌∷◌, ◌++◌, map, fold, length, filter, take, drop, Option, Some, None, ℤ, refl, sym, ◌∙◌, arith, true≢false}
use Rattle.std.specs.Prelude.{if◌then◌else◌, neg_ℤ, not, pos, ◌==◌, ◌||◌, ◌&&◌}
use Rattle.std.specs.List.{AllByRecursion, AllZip, flat_map, list_all, list_any, zip}
use Rattle.std.proofs.lemmas.Bool.Decides.{nat_tests}
use Rattle.qd_base.specs.declared.cell.Cell.{Cell}
use Rattle.qd_base.specs.declared.cell.Cell.TheVariants as cell
use Rattle.qd_base.specs.declared.code.Code.{Code}
use Rattle.qd_base.specs.declared.code.Code.TheVariants as code
use Rattle.qd_base.specs.declared.schema.Col.{Col}
use Rattle.qd_base.specs.declared.schema.ColType.{ColType}
use Rattle.qd_base.specs.declared.schema.ColType.TheVariants as kind
use Rattle.qd_base.specs.declared.schema.Schema.{Schema}
use Rattle.qd_base.specs.Database.{missing}
use Rattle.qd_base.specs.Lawful.{IsRowOf, Takes}
use Rattle.qd_base.specs.Rows.{Row, same_on, time_of}
use Rattle.qd_sql_ast.specs.declared.tree.FillWith.{FillWith}
use Rattle.qd_sql_ast.specs.declared.tree.FillWith.TheVariants as given
use Rattle.qd_sql_ast.specs.declared.tree.Fills.{Fills}
use Rattle.qd_time.specs.declared.buckets.Align.{Align}
use Rattle.qd_time.specs.Buckets.{bucket_start}
use Rattle.qd_value.specs.declared.bound.Bound.{Bound}
use Rattle.qd_meaning.specs.declared.parts.Agg.{Agg}
use Rattle.qd_meaning.specs.declared.parts.Cut.{Cut}
use Rattle.qd_meaning.specs.declared.parts.Cut.TheVariants as cut
use Rattle.qd_meaning.specs.declared.parts.Fill.{Fill}
use Rattle.qd_meaning.specs.declared.parts.Fill.TheVariants as fill
use Rattle.qd_meaning.specs.declared.parts.SampleSpec.{SampleSpec}
use Rattle.qd_meaning.specs.Refusals.{unless}
use Rattle.qd_meaning.specs.Joined.{last_or}
use Rattle.qd_meaning.specs.Latest.{latest}
use Rattle.qd_meaning.specs.Grouped.{aggregates, distinct, groups_of, key_of, keys_of, rows_of, same_key}
use Rattle.qd_meaning.specs.Sampled.{align_of, each_fill, fill_cell, filled, filled_from, in_bucket, nulls, row_of, sample_row, sampled, sampled_over, skips, starts, unfilled}
use Rattle.qd_meaning.specs.Sampling.{fill_of, fills_faults, fills_of, is_long, list_faults, none_faults, number_faults}
use Rattle.qd_meaning.specs.Ordered.{limited, ordered, placed, row_before}
use Rattle.qd_query.proofs.TypedValues.{FitsColumns, MayStand}
use Rattle.qd_query.proofs.TypedRows.{AggStands, AllStand, KeyStands, agg_values, key_values, zip_length, zip_weaker}

-- ---- lists

module _ {A : Type 0} (P : A → Type 0) where
  pub each_append : (xs ys : List A) → AllByRecursion P xs → AllByRecursion P ys → AllByRecursion P (xs ++ ys)
  each_append [] ys h k = k
  each_append (x ∷ xs) ys h k = (h.0, each_append xs ys h.1 k)

  pub each_filter : (test : A → Bool) (xs : List A) → AllByRecursion P xs → AllByRecursion P (filter test xs)
  each_filter test [] h = tt
  each_filter test (x ∷ xs) h = by (test x) (each_filter test xs h.1)
    where
      by : (b : Bool) → AllByRecursion P (filter test xs) → AllByRecursion P (cond b (x ∷ filter test xs) (filter test xs))
      by true rest = (h.0, rest)
      by false rest = rest

  each_take : (n : ℕ) (xs : List A) → AllByRecursion P xs → AllByRecursion P (take n xs)
  each_take zero xs h = tt
  each_take (suc n) [] h = tt
  each_take (suc n) (x ∷ xs) h = (h.0, each_take n xs h.1)

  each_drop : (n : ℕ) (xs : List A) → AllByRecursion P xs → AllByRecursion P (drop n xs)
  each_drop zero xs h = h
  each_drop (suc n) [] h = tt
  each_drop (suc n) (x ∷ xs) h = each_drop n xs h.1

pub last_one : (P : Row → Type 0) (other : Row) (rows : List Row) → P other → AllByRecursion P rows → P (last_or other rows)
last_one P other [] h hs = h
last_one P other (r ∷ rs) h hs = last_one P r rs hs.0 hs.1

pub each_map : {A B : Type 0} (P : A → Type 0) (Q : B → Type 0) (f : A → B) → ((x : A) → P x → Q (f x)) → (xs : List A) → AllByRecursion P xs → AllByRecursion Q (map f xs)
each_map P Q f g [] h = tt
each_map P Q f g (x ∷ xs) h = (g x h.0, each_map P Q f g xs h.1)

pub each_weaker : {A : Type 0} (P Q : A → Type 0) → ((x : A) → P x → Q x) → (xs : List A) → AllByRecursion P xs → AllByRecursion Q xs
each_weaker P Q f [] h = tt
each_weaker P Q f (x ∷ xs) h = (f x h.0, each_weaker P Q f xs h.1)

each_flat : {A B : Type 0} (P : A → Type 0) (Q : B → Type 0) (f : A → List B) → ((x : A) → P x → AllByRecursion Q (f x)) → (xs : List A) → AllByRecursion P xs → AllByRecursion Q (flat_map f xs)
each_flat P Q f g [] h = tt
each_flat P Q f g (x ∷ xs) h = each_append Q (f x) (flat_map f xs) (g x h.0) (each_flat P Q f g xs h.1)

each_pair : {A B : Type 0} (P : A → Type 0) (Q : B → Type 0) (xs : List A) (ys : List B) → AllByRecursion P xs → AllByRecursion Q ys → AllByRecursion (λ (k : A × B). P k.0 × Q k.1) (zip xs ys)
each_pair P Q [] ys h k = tt
each_pair P Q (x ∷ xs) [] h k = tt
each_pair P Q (x ∷ xs) (y ∷ ys) h k = ((h.0, k.0), each_pair P Q xs ys h.1 k.1)

each_one : {A : Type 0} (P : A → Type 0) (xs : List A) → ((x : A) → P x) → AllByRecursion P xs
each_one P [] f = tt
each_one P (x ∷ xs) f = (f x, each_one P xs f)

pub any_each : {A : Type 0} (xs : List A) → AllByRecursion (λ (x : A). Unit {0}) xs
any_each [] = tt
any_each (x ∷ xs) = (tt, any_each xs)

pub front_none : {A : Type 0} (xs ys : List A) → xs ++ ys ≡ [] → xs ≡ []
front_none [] ys h = refl
front_none (x ∷ xs) ys h = absurd (cc)

pub back_none : {A : Type 0} (xs ys : List A) → xs ++ ys ≡ [] → ys ≡ []
back_none [] ys h = h
back_none (x ∷ xs) ys h = absurd (cc)

-- ---- rows of tables and of joins

takes_stands : (k : ColType) (c : Cell) → Takes k c → MayStand k c
takes_stands kind.Long cell.Null h = inl refl
takes_stands kind.Long (cell.Long x) h = inr refl
takes_stands kind.Long (cell.Bool x) h = absurd h
takes_stands kind.Long (cell.Text x) h = absurd h
takes_stands kind.Long (cell.Time x) h = absurd h
takes_stands kind.Bool cell.Null h = absurd h
takes_stands kind.Bool (cell.Long x) h = absurd h
takes_stands kind.Bool (cell.Bool x) h = inr refl
takes_stands kind.Bool (cell.Text x) h = absurd h
takes_stands kind.Bool (cell.Time x) h = absurd h
takes_stands kind.Symbol cell.Null h = inl refl
takes_stands kind.Symbol (cell.Long x) h = absurd h
takes_stands kind.Symbol (cell.Bool x) h = absurd h
takes_stands kind.Symbol (cell.Text x) h = inr refl
takes_stands kind.Symbol (cell.Time x) h = absurd h
takes_stands kind.Varchar cell.Null h = inl refl
takes_stands kind.Varchar (cell.Long x) h = absurd h
takes_stands kind.Varchar (cell.Bool x) h = absurd h
takes_stands kind.Varchar (cell.Text x) h = inr refl
takes_stands kind.Varchar (cell.Time x) h = absurd h
takes_stands kind.Time cell.Null h = inl refl
takes_stands kind.Time (cell.Long x) h = absurd h
takes_stands kind.Time (cell.Bool x) h = absurd h
takes_stands kind.Time (cell.Text x) h = absurd h
takes_stands kind.Time (cell.Time x) h = inr refl

pub row_fits : (s : Schema) (row : Row) → IsRowOf s row → FitsColumns s.cols row
row_fits s row h = zip_weaker (λ (c : Col) (x : Cell). Takes c.kind x) (λ (c : Col) (x : Cell). MayStand c.kind x) (λ c x. takes_stands c.kind x) s.cols row h.kinds

missing_stands : (k : ColType) → MayStand k (missing k)
missing_stands kind.Long = inl refl
missing_stands kind.Bool = inr refl
missing_stands kind.Symbol = inl refl
missing_stands kind.Varchar = inl refl
missing_stands kind.Time = inl refl

pub missing_fits : (cols : List Col) → FitsColumns cols (map (λ (c : Col). missing c.kind) cols)
missing_fits [] = tt
missing_fits (c ∷ cs) = (missing_stands c.kind, missing_fits cs)

pub each_latest : (P : Row → Type 0) (keys : List ℕ) (rows : List Row) → AllByRecursion P rows → AllByRecursion P (latest keys rows)
each_latest P keys [] h = tt
each_latest P keys (r ∷ rs) h = by (list_any (same_on keys r) rs) (each_latest P keys rs h.1)
  where
    by : (b : Bool) → AllByRecursion P (latest keys rs) → AllByRecursion P (if b then latest keys rs else r ∷ latest keys rs)
    by true rest = rest
    by false rest = (h.0, rest)

-- ---- groups

each_distinct : (P : Row → Type 0) (ks : List Row) → AllByRecursion P ks → AllByRecursion P (distinct ks)
each_distinct P [] h = tt
each_distinct P (k ∷ ks) h = (h.0, each_filter P (λ x. not (same_key k x)) (distinct ks) (each_distinct P ks h.1))

module _ (cols : List Col) (buckets : Option ℕ) where
  pub keys_fit : (ks : List ColType) (keys : List Bound) (rows : List Row) → AllZip (KeyStands cols buckets) ks keys → AllByRecursion (FitsColumns cols) rows → AllByRecursion (AllStand ks) (keys_of keys rows)
  keys_fit ks keys rows h fits =
      each_distinct (AllStand ks) (map (key_of keys) rows) (each_map (FitsColumns cols) (AllStand ks) (key_of keys) (λ row fit. key_values cols buckets ks keys row fit h) rows fits)

  no_keys : (ks : List ColType) → AllZip (KeyStands cols buckets) ks [] → AllStand ks []
  no_keys [] h = tt
  no_keys (k ∷ ks) h = absurd h

  pub groups_fit : (ks : List ColType) (keys : List Bound) (rows : List Row) → AllZip (KeyStands cols buckets) ks keys → AllByRecursion (FitsColumns cols) rows → AllByRecursion (AllStand ks) (groups_of keys rows)
  groups_fit ks [] rows h fits = (no_keys ks h, tt)
  groups_fit ks (e ∷ es) rows h fits = keys_fit ks (e ∷ es) rows h fits

-- ---- fills

-- a fill keeps a cell of a column one that may stand in it
abbrev pub FillStands : ColType → Fill → Type 0
FillStands k f = (before : Cell) → MayStand k before → MayStand k (fill_cell f before)

fills_stand : (ks : List ColType) (fs : List Fill) (before : Row) → AllZip FillStands ks fs → AllStand ks before → AllStand ks (map (λ (f : Fill × Cell). fill_cell f.0 f.1) (zip fs before))
fills_stand [] [] [] h k = tt
fills_stand [] [] (c ∷ cs) h k = absurd k
fills_stand [] (f ∷ fs) before h k = absurd h
fills_stand (x ∷ xs) [] before h k = absurd h
fills_stand (x ∷ xs) (f ∷ fs) [] h k = absurd k
fills_stand (x ∷ xs) (f ∷ fs) (c ∷ cs) h k = (h.0 c k.0, fills_stand xs fs cs h.1 k.1)

holds_unless : (b : Bool) (why : Code) (place : ℕ) → unless b why place ≡ [] → b ≡ true
holds_unless true why place h = refl
holds_unless false why place h = absurd (cc)

number_stands : (k : ColType) (x : ℤ) → is_long k ≡ true → FillStands k (fill.Number x)
number_stands kind.Long x h before stands = inr refl
number_stands kind.Bool x h before stands = absurd (cc)
number_stands kind.Symbol x h before stands = absurd (cc)
number_stands kind.Varchar x h before stands = absurd (cc)
number_stands kind.Time x h before stands = absurd (cc)

numbers_stand : (x : ℤ) (ks : List ColType) → AllByRecursion (λ (k : ColType). is_long k ≡ true) ks → AllByRecursion (λ (k : ColType). FillStands k (fill.Number x)) ks
numbers_stand x [] h = tt
numbers_stand x (k ∷ ks) h = (number_stands k x h.0, numbers_stand x ks h.1)

both : (a b : Bool) → (a && b) ≡ true → (a ≡ true) × (b ≡ true)
both true b h = (refl, h)
both false b h = absurd (true≢false (sym h))

all_long : (ks : List ColType) → list_all is_long ks ≡ true → AllByRecursion (λ (k : ColType). is_long k ≡ true) ks
all_long [] h = tt
all_long (k ∷ ks) h = let split = both (is_long k) (list_all is_long ks) h in (split.0, all_long ks split.1)

-- one fill for all columns
fill_each : (g : FillWith) (ks : List ColType) → number_faults g ks ≡ [] → AllByRecursion (λ (k : ColType). FillStands k (fill_of g)) ks
fill_each (given.Nothing place) ks h = each_one (λ (k : ColType). FillStands k (fill_of (given.Nothing place))) ks (λ k before stands. inl refl)
fill_each (given.Null place) ks h = each_one (λ (k : ColType). FillStands k (fill_of (given.Null place))) ks (λ k before stands. inl refl)
fill_each (given.Prev place) ks h = each_one (λ (k : ColType). FillStands k (fill_of (given.Prev place))) ks (λ k before stands. stands)
fill_each (given.Number n) ks h = numbers_stand (pos n.value) ks (all_long ks (holds_unless (list_all is_long ks) code.Types n.at h))
fill_each (given.Minus minus n) ks h = numbers_stand (neg_ℤ (pos n.value)) ks (all_long ks (holds_unless (list_all is_long ks) code.Types minus h))

same_fill : (f : Fill) (ks : List ColType) (aggs : List Agg) → length ks ≡ length aggs → AllByRecursion (λ (k : ColType). FillStands k f) ks → AllZip FillStands ks (map (λ (a : Agg). f) aggs)
same_fill f [] [] same h = tt
same_fill f [] (a ∷ more) same h = absurd (omega (arith, same))
same_fill f (k ∷ ks) [] same h = absurd (omega (arith, same))
same_fill f (k ∷ ks) (a ∷ more) same h = (h.0, same_fill f ks more (omega (arith, same)) h.1)

-- a fill for each
own_fill : (gs : List FillWith) (ks : List ColType) → length gs ≡ length ks → flat_map (λ (x : FillWith × ColType). number_faults x.0 (x.1 ∷ [])) (zip gs ks) ≡ [] → AllZip FillStands ks (map fill_of gs)
own_fill [] [] same h = tt
own_fill [] (k ∷ ks) same h = absurd (omega (arith, same))
own_fill (g ∷ gs) [] same h = absurd (omega (arith, same))
own_fill (g ∷ gs) (k ∷ ks) same h = (
  (fill_each g (k ∷ []) (front_none (number_faults g (k ∷ [])) (flat_map (λ (x : FillWith × ColType). number_faults x.0 (x.1 ∷ [])) (zip gs ks)) h)).0,
  own_fill gs ks (omega (arith, same)) (back_none (number_faults g (k ∷ [])) (flat_map (λ (x : FillWith × ColType). number_faults x.0 (x.1 ∷ [])) (zip gs ks)) h),
)

-- where a sample is filled, each fill keeps a cell of its column one that may stand there
filling : (gs : List FillWith) (ks : List ColType) (aggs : List Agg) → length ks ≡ length aggs → (length gs == 1 || length gs == length ks) ≡ true → list_faults gs ks ≡ []
    → (skips (map fill_of gs) ≡ true) ⊎ AllZip FillStands ks (each_fill (map fill_of gs) aggs)
filling [] ks aggs same few h = inl refl
filling (g ∷ []) ks aggs same few h = inr (same_fill (fill_of g) ks aggs same (fill_each g ks h))
filling (g ∷ g' ∷ gs) ks aggs same few h =
    inr
    (own_fill (g ∷ g' ∷ gs) ks (as_many (length gs) (length ks) few)
    (back_none (flat_map none_faults (g ∷ g' ∷ gs)) (flat_map (λ (x : FillWith × ColType). number_faults x.0 (x.1 ∷ [])) (zip (g ∷ g' ∷ gs) ks)) h))
  where
    as_many : (n m : ℕ) → (suc (suc n) == 1 || suc (suc n) == m) ≡ true → suc (suc n) ≡ m
    as_many n m h = grind (arith, nat_tests)

pub fills_fit : (f : Option Fills) (ks : List ColType) (aggs : List Agg) → length ks ≡ length aggs → fills_faults f ks ≡ [] → (skips (fills_of f) ≡ true) ⊎ AllZip FillStands ks (each_fill (fills_of f) aggs)
fills_fit None ks aggs same h = inl refl
fills_fit (Some f) ks aggs same h =
    let test : Bool = length f.fills == 1 || length f.fills == length ks in
    filling f.fills ks aggs same (holds_unless test code.Types f.at (front_none (unless test code.Types f.at) (list_faults f.fills ks) h)) (back_none (unless test code.Types f.at) (list_faults f.fills ks) h)

-- ---- samples

module _ (cols : List Col) (buckets : Option ℕ) (spec : SampleSpec) (ks mk : List ColType) (P : Row → Type 0)
    (keys : AllZip (KeyStands cols buckets) ks spec.group.keys) (aggs : AllZip (AggStands cols buckets) mk spec.group.aggs)
    (fills : (skips spec.fills ≡ true) ⊎ AllZip FillStands mk (each_fill spec.fills spec.group.aggs))
    (placed' : (start : ℕ) (key cells : Row) → AllStand ks key → AllStand mk cells → P (sample_row start key cells)) where
  one_row : (start : ℕ) (key : Row) (rows : List Row) → AllStand ks key → AllByRecursion (FitsColumns cols) rows → AllByRecursion P (row_of spec.group.aggs start key rows)
  one_row start key [] stands fits = tt
  one_row start key (r ∷ rs) stands fits = (placed' start key (aggregates spec.group.aggs (r ∷ rs)) stands (agg_values cols buckets mk spec.group.aggs (r ∷ rs) fits aggs), tt)

  unfilled_rows : (align : Align) (time_col : ℕ) (rows : List Row) (found : List Row) (starts : List ℕ) → AllByRecursion (FitsColumns cols) rows → AllByRecursion (AllStand ks) found
      → AllByRecursion P (unfilled spec align time_col found starts rows)
  unfilled_rows align time_col rows found starts fits stand =
      each_flat (λ (s : ℕ). Unit {0}) P (λ start. flat_map (λ key. row_of spec.group.aggs start key (rows_of spec.group.keys key (in_bucket spec.stride align time_col start rows))) found)
      (λ start any.
      each_flat (AllStand ks) P (λ key. row_of spec.group.aggs start key (rows_of spec.group.keys key (in_bucket spec.stride align time_col start rows)))
      (λ key stands.
      one_row start key (rows_of spec.group.keys key (in_bucket spec.stride align time_col start rows)) stands
      (each_filter (FitsColumns cols) (λ row. same_key key (key_of spec.group.keys row)) (in_bucket spec.stride align time_col start rows)
      (each_filter (FitsColumns cols) (λ row. bucket_start spec.stride align (time_of time_col row) == start) rows fits)))
      found stand)
      starts (any_each starts)

  fill_one : AllZip FillStands mk (each_fill spec.fills spec.group.aggs) → (before : Row) (rows : List Row) → AllStand mk before → AllByRecursion (FitsColumns cols) rows
      → AllStand mk (filled spec.group.aggs (each_fill spec.fills spec.group.aggs) before rows)
  fill_one keep before [] stands fits = fills_stand mk (each_fill spec.fills spec.group.aggs) before keep stands
  fill_one keep before (r ∷ rs) stands fits = agg_values cols buckets mk spec.group.aggs (r ∷ rs) fits aggs

  filled_rows : AllZip FillStands mk (each_fill spec.fills spec.group.aggs) → (align : Align) (time_col : ℕ) (found : List Row) (starts : List ℕ) (befores rows : List Row) → AllByRecursion (AllStand ks) found
      → AllByRecursion (AllStand mk) befores → AllByRecursion (FitsColumns cols) rows → AllByRecursion P (filled_from spec align time_col found starts befores rows)
  filled_rows keep align time_col found [] befores rows stand before fits = tt
  filled_rows keep align time_col found (start ∷ more) befores rows stand before fits =
      let here = in_bucket spec.stride align time_col start rows in
      let here_fits = each_filter (FitsColumns cols) (λ row. bucket_start spec.stride align (time_of time_col row) == start) rows fits in
      let now = map (λ (k : Row × Row). filled spec.group.aggs (each_fill spec.fills spec.group.aggs) k.1 (rows_of spec.group.keys k.0 here)) (zip found befores) in
      let now_stand : AllByRecursion (AllStand mk) now =
      each_map (λ (k : Row × Row). AllStand ks k.0 × AllStand mk k.1) (AllStand mk) (λ (k : Row × Row). filled spec.group.aggs (each_fill spec.fills spec.group.aggs) k.1 (rows_of spec.group.keys k.0 here))
      (λ k stands. fill_one keep k.1 (rows_of spec.group.keys k.0 here) stands.1 (each_filter (FitsColumns cols) (λ row. same_key k.0 (key_of spec.group.keys row)) here here_fits))
      (zip found befores) (each_pair (AllStand ks) (AllStand mk) found befores stand before) in
      each_append P (map (λ (k : Row × Row). sample_row start k.0 k.1) (zip found now)) (filled_from spec align time_col found more now rows)
      (each_map (λ (k : Row × Row). AllStand ks k.0 × AllStand mk k.1) P (λ (k : Row × Row). sample_row start k.0 k.1) (λ k stands. placed' start k.0 k.1 stands.0 stands.1) (zip found now)
      (each_pair (AllStand ks) (AllStand mk) found now stand now_stand))
      (filled_rows keep align time_col found more now rows stand now_stand fits)

  nulls_stand : (xs : List ColType) (as' : List Agg) → length xs ≡ length as' → AllStand xs (nulls as')
  nulls_stand [] [] same = tt
  nulls_stand [] (a ∷ more) same = absurd (omega (arith, same))
  nulls_stand (x ∷ xs) [] same = absurd (omega (arith, same))
  nulls_stand (x ∷ xs) (a ∷ more) same = (inl refl, nulls_stand xs more (omega (arith, same)))

  sampled_rows_over : (align : Align) (time_col : ℕ) (starts : List ℕ) (rows : List Row) → AllByRecursion (FitsColumns cols) rows → AllByRecursion P (sampled_over spec align time_col starts rows)
  sampled_rows_over align time_col starts rows fits = by (skips spec.fills) refl
    where
      found : List Row
      found = keys_of spec.group.keys rows

      stand : AllByRecursion (AllStand ks) (keys_of spec.group.keys rows)
      stand = keys_fit cols buckets ks spec.group.keys rows keys fits

      keep : skips spec.fills ≡ false → (skips spec.fills ≡ true) ⊎ AllZip FillStands mk (each_fill spec.fills spec.group.aggs) → AllZip FillStands mk (each_fill spec.fills spec.group.aggs)
      keep no_skip (inl skip) = absurd (true≢false (sym skip ∙ no_skip))
      keep no_skip (inr h) = h

      by : (b : Bool) → skips spec.fills ≡ b
          → AllByRecursion P (if b then unfilled spec align time_col (keys_of spec.group.keys rows) starts rows else filled_from spec align time_col (keys_of spec.group.keys rows) starts (map (λ k. nulls spec.group.aggs) (keys_of spec.group.keys rows)) rows)
      by true skip = unfilled_rows align time_col rows (keys_of spec.group.keys rows) starts fits stand
      by false no_skip =
          filled_rows (keep no_skip fills) align time_col (keys_of spec.group.keys rows) starts (map (λ k. nulls spec.group.aggs) (keys_of spec.group.keys rows)) rows stand
          (each_map (AllStand ks) (AllStand mk) (λ k. nulls spec.group.aggs) (λ k stands. nulls_stand mk spec.group.aggs (zip_length (AggStands cols buckets) mk spec.group.aggs aggs)) (keys_of spec.group.keys rows) stand) fits

  pub sampled_rows : (time_col : ℕ) (rows : List Row) → AllByRecursion (FitsColumns cols) rows → AllByRecursion P (sampled spec time_col rows)
  sampled_rows time_col [] fits = tt
  sampled_rows time_col (r ∷ rs) fits =
      sampled_rows_over (align_of spec.offset (time_of time_col r)) time_col
      (starts spec.stride (align_of spec.offset (time_of time_col r)) (time_of time_col r) (time_of time_col (last_or r rs))) (r ∷ rs) fits

-- ---- ORDER BY and LIMIT

each_placed : (P : Row → Type 0) (keys : List (ℕ × Bool)) (rows more : List Row) → AllByRecursion P rows → AllByRecursion P more → AllByRecursion P (fold (placed keys) rows more)
each_placed P keys rows [] h k = h
each_placed P keys rows (x ∷ xs) h k =
    each_placed P keys (placed keys rows x) xs
    (each_append P (filter (λ y. not (row_before keys x y)) rows) (x ∷ filter (λ y. row_before keys x y) rows) (each_filter P (λ y. not (row_before keys x y)) rows h) (k.0, each_filter P (λ y. row_before keys x y) rows h)) k.1

pub each_ordered : (P : Row → Type 0) (keys : List (ℕ × Bool)) (rows : List Row) → AllByRecursion P rows → AllByRecursion P (ordered keys rows)
each_ordered P keys rows h = each_placed P keys [] rows tt h

pub each_limited : (P : Row → Type 0) (c : Option Cut) (rows : List Row) → AllByRecursion P rows → AllByRecursion P (limited c rows)
each_limited P None rows h = h
each_limited P (Some (cut.First n)) rows h = each_take P n rows h
each_limited P (Some (cut.Last n)) rows h = each_drop P (length rows - n) rows h
each_limited P (Some (cut.Between a b)) rows h = each_drop P a (take b rows) (each_take P b rows h)
