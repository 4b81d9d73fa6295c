-- Schemas: what is read is spelled so, and what is spelled so is read.
use Rattle.std.proofs.Common.{◌≡◌, ℕ, zero, suc, ◌+◌, ◌^◌, ◌<◌, ◌≤◌, Bool, true, ltb, leb, eqb, not, ◌&&◌, ◌||◌, nat_eq, List, [], ◌∷◌, ◌++◌, length, get_or, slice_get, Ok, Option, Some, None, is_some, IsSomeAnd, IsNone, All, Contains, refl, sym, ap, subst, ◌∙◌, inl, inr, ◌⊎◌, append_assoc, arith, true≢false}
use Rattle.std.specs.List.{flat_map, IsDistinct, list_any, position}
use Rattle.std.specs.Int.{w16}
use Rattle.std.proofs.lemmas.Bool.{and_parts, and_from, or_cases, or_left, or_right, not-true, not_from_false, leb-true, le-leb, ltb-true, lt-ltb, eqb-true, eq-eqb}
use Rattle.std.proofs.lemmas.List.{length-append, length_push}
use Rattle.std.proofs.lemmas.List.Elements.{All-push, All-nil, Contains-push, Contains-append_left, Contains-push_cases}
use Rattle.std.proofs.lemmas.List.Folds.{list_any_at}
use Rattle.std.proofs.lemmas.Map.Steps.{length-le_from_distinct_below}
use Rattle.qd_base.specs.declared.limits.TheConstants.{MAX_COLUMNS}
use Rattle.qd_base.specs.declared.schema.Col.{Col}
use Rattle.qd_base.specs.declared.schema.ColType.{ColType}
use Rattle.qd_base.specs.declared.schema.ColType.TheVariants as kind
use Rattle.qd_base.specs.declared.schema.PartUnit.{PartUnit}
use Rattle.qd_base.specs.declared.schema.PartUnit.TheVariants as units
use Rattle.qd_base.specs.declared.schema.Schema.{Schema}
use Rattle.qd_base.specs.Names.{IsColumnName}
use Rattle.qd_base.specs.Schemas.{same_name, column_at}
use Rattle.qd_base.specs.Lawful.{IsSchema}
use Rattle.qd_base.proofs.Lists.{IsDistinct-push, IsDistinct-nil}
use Rattle.qd_base.proofs.Tables.{position-none}
use Rattle.qd_fields.specs.Spelling.{u16_bytes, name_bytes, code_of_kind, code_of_unit, column_bytes, schema_bytes}
use Rattle.qd_fields.specs.Layout.{Read, ◌>>=◌, kept, coded, items, number_at, byte_at, name_at, kind_of_code, unit_of_code}
use Rattle.qd_manifest.specs.declared.shape.TableParts.{TableParts}
use Rattle.qd_manifest.specs.Rules.{is_column_name, is_table_name, may_be_table, may_be_column, kind_is_time, is_time, may_be_key}
use Rattle.qd_manifest.specs.Layout.{column_from, columns_from, key_from, keys_from, schema_from}
use Rattle.qd_fields.proofs.Steps.{AreBytes, bind_ok, bind_again, ok_is, kept_ok, kept_again, coded_ok, coded_again, Takes, Takes-then, wide16, number_takes, number_again, byte_takes, name_takes, name_again, find_passes, items_take, items_again, All-amid}
use Rattle.qd_manifest.proofs.NameLemmas.{column_named, column_test, table_named, position-absent, distinct_before, absent_each, each_absent}

-- ---- codes

kind_code : (code : ℕ) (k : ColType) → kind_of_code code ≡ Some k → code ≡ code_of_kind k
kind_code code k e = sym (eqb-true (code_of_kind k) code (find_passes (λ j. eqb (code_of_kind j) code) (kind.Long ∷ kind.Bool ∷ kind.Symbol ∷ kind.Varchar ∷ kind.Time ∷ []) k e))

code_kind : (k : ColType) → kind_of_code (code_of_kind k) ≡ Some k
code_kind kind.Long = refl
code_kind kind.Bool = refl
code_kind kind.Symbol = refl
code_kind kind.Varchar = refl
code_kind kind.Time = refl

unit_code : (code : ℕ) (u : PartUnit) → unit_of_code code ≡ Some u → code ≡ code_of_unit u
unit_code code u e = sym (eqb-true (code_of_unit u) code (find_passes (λ j. eqb (code_of_unit j) code) (units.Hour ∷ units.Day ∷ units.Month ∷ units.Year ∷ []) u e))

code_unit : (u : PartUnit) → unit_of_code (code_of_unit u) ≡ Some u
code_unit units.Hour = refl
code_unit units.Day = refl
code_unit units.Month = refl
code_unit units.Year = refl

-- ---- columns

same_col : Col → Col → Bool
same_col a b = same_name a.name b.name

-- columns as a schema has them
record AreCols (cols : List Col) : Type 0 where
  names : All (λ (c : Col). IsColumnName c.name) cols
  distinct : IsDistinct (λ (a : Col) (b : Col). same_name a.name b.name) cols

no_cols : AreCols []
no_cols = record { names = All-nil (λ (c : Col). IsColumnName c.name); distinct = IsDistinct-nil (λ (a : Col) (b : Col). same_name a.name b.name) }

column_takes : (before : List Col) (bytes : List ℕ) (x : Col × List ℕ) → AreCols before → AreBytes bytes → column_from before bytes ≡ Ok x → AreCols (before ++ x.0 ∷ []) × Takes bytes (column_bytes x.0) x.1
unfolding column_from column_bytes
column_takes before bytes x good known e =
    let a = bind_ok (coded kind_of_code bytes (byte_at bytes)) (λ k. kept (may_be_column before) k.1 (name_at k.1) >>= λ n. Ok (record { name = n.0; kind = k.0 }, n.1)) x e in
    let b = bind_ok (kept (may_be_column before) a.0.1 (name_at a.0.1)) (λ n. Ok (record { name = n.0; kind = a.0.0 }, n.1)) x a.2 in
    let code = coded_ok kind_of_code bytes (byte_at bytes) a.0 a.1 in
    let first = byte_takes bytes code.0 a.0.1 known code.1 in
    let named = kept_ok (may_be_column before) a.0.1 (name_at a.0.1) b.0 b.1 in
    let second = name_takes a.0.1 b.0.0 b.0.1 first.0.rest_fits named.0 in
    let rule = and_parts (is_column_name b.0.0) (not (is_some (column_at before b.0.0))) named.1 in
    let both = Takes-then bytes (code.0 ∷ []) a.0.1 (name_bytes b.0.0) b.0.1 first.0 second.0 in
    let whole : Takes bytes (code_of_kind a.0.0 ∷ name_bytes b.0.0) b.0.1 = subst (λ (k : ℕ). Takes bytes (k ∷ name_bytes b.0.0) b.0.1) (kind_code code.0 a.0.0 code.2) both in
    let col : Col = record { name = b.0.0; kind = a.0.0 } in
    let more : AreCols (before ++ col ∷ []) = record {
      names = All-push (λ (c : Col). IsColumnName c.name) before col good.names (column_named b.0.0 rule.0);
      distinct = IsDistinct-push (λ (p : Col) (q : Col). same_name p.name q.name) before col good.distinct (position-none (λ (c : Col). same_name c.name b.0.0) before (not-true (is_some (column_at before b.0.0)) rule.1));
    } in
    subst (λ (y : Col × List ℕ). AreCols (before ++ y.0 ∷ []) × Takes bytes (code_of_kind y.0.kind ∷ name_bytes y.0.name) y.1) (ok_is (col, b.0.1) x b.2) (more, whole)

column_again : (cols before : List Col) (c : Col) (after : List Col) (rest : List ℕ) → AreCols cols → cols ≡ before ++ c ∷ after → column_from before (column_bytes c ++ rest) ≡ Ok (c, rest)
unfolding column_from column_bytes
column_again cols before c after rest good e =
    let bytes = code_of_kind c.kind ∷ (name_bytes c.name ++ rest) in
    let one : coded kind_of_code bytes (byte_at bytes) ≡ Ok (c.kind, name_bytes c.name ++ rest) = coded_again kind_of_code bytes (byte_at bytes) (code_of_kind c.kind) c.kind (name_bytes c.name ++ rest) refl (code_kind c.kind) in
    let apart = distinct_before (λ (p : Col) (q : Col). same_name p.name q.name) before c after (subst (IsDistinct (λ (p : Col) (q : Col). same_name p.name q.name)) e good.distinct) in
    let rule : may_be_column before c.name ≡ true = and_from (is_column_name c.name) (not (is_some (column_at before c.name))) (column_test c.name (All-amid (λ (k : Col). IsColumnName k.name) cols before c after e good.names)) (not_from_false (is_some (column_at before c.name)) (position-absent (λ (k : Col). same_name k.name c.name) before apart)) in
    let two : kept (may_be_column before) (name_bytes c.name ++ rest) (name_at (name_bytes c.name ++ rest)) ≡ Ok (c.name, rest) = kept_again (may_be_column before) (name_bytes c.name ++ rest) (name_at (name_bytes c.name ++ rest)) (c.name, rest) (name_again c.name rest) rule in
    bind_again (coded kind_of_code bytes (byte_at bytes)) (λ k. kept (may_be_column before) k.1 (name_at k.1) >>= λ n. Ok (record { name = n.0; kind = k.0 }, n.1)) (c.kind, name_bytes c.name ++ rest) (c, rest) one (bind_again (kept (may_be_column before) (name_bytes c.name ++ rest) (name_at (name_bytes c.name ++ rest))) (λ n. Ok (record { name = n.0; kind = c.kind }, n.1)) (c.name, rest) (c, rest) two refl)

columns_take : (bytes : List ℕ) (x : List Col × List ℕ) → AreBytes bytes → columns_from bytes ≡ Ok x → AreCols x.0 × (length x.0 ≤ MAX_COLUMNS) × Takes bytes (u16_bytes (length x.0) ++ flat_map column_bytes x.0) x.1
unfolding columns_from
columns_take bytes x known e =
    let a = bind_ok (kept (λ n. leb n MAX_COLUMNS) bytes (number_at w16 bytes)) (λ n. items column_from n.0 [] n.1) x e in
    let count = kept_ok (λ n. leb n MAX_COLUMNS) bytes (number_at w16 bytes) a.0 a.1 in
    let first = number_takes w16 (2 ^ 16) wide16 bytes a.0.0 a.0.1 known count.0 in
    let all = items_take column_from column_bytes AreCols column_takes a.0.0 a.0.1 x no_cols first.0.rest_fits a.2 in
    let both = Takes-then bytes (u16_bytes a.0.0) a.0.1 (flat_map column_bytes x.0) x.1 first.0 all.2 in
    (all.0, omega (arith, all.1, leb-true a.0.0 MAX_COLUMNS count.1), subst (λ (k : ℕ). Takes bytes (u16_bytes k ++ flat_map column_bytes x.0) x.1) (sym all.1) both)

columns_again : (cols : List Col) (rest : List ℕ) → AreCols cols → length cols ≤ MAX_COLUMNS → columns_from (u16_bytes (length cols) ++ (flat_map column_bytes cols ++ rest)) ≡ Ok (cols, rest)
unfolding columns_from
columns_again cols rest good few =
    let behind = flat_map column_bytes cols ++ rest in
    let bytes = u16_bytes (length cols) ++ behind in
    let one : kept (λ n. leb n MAX_COLUMNS) bytes (number_at w16 bytes) ≡ Ok (length cols, behind) = kept_again (λ n. leb n MAX_COLUMNS) bytes (number_at w16 bytes) (length cols, behind) (number_again w16 (2 ^ 16) wide16 (length cols) behind (let most : length cols ≤ 256 = few in omega arith)) (le-leb (length cols) MAX_COLUMNS few) in
    let all = items_again column_from column_bytes cols (λ before c after more e. column_again cols before c after more good e) rest in
    bind_again (kept (λ n. leb n MAX_COLUMNS) bytes (number_at w16 bytes)) (λ n. items column_from n.0 [] n.1) (length cols, behind) (cols, rest) one all

-- ---- keys

-- so many keys, of these columns, up to some of them
record AreKeys (columns time count : ℕ) (keys : List ℕ) : Type 0 where
  within : All (λ k. k < columns) keys
  distinct : IsDistinct nat_eq keys
  timed : count ≤ length keys → 0 < count → Contains keys time

no_keys : (columns time count : ℕ) → AreKeys columns time count []
no_keys columns time count = record { within = All-nil (λ k. k < columns); distinct = IsDistinct-nil nat_eq; timed = λ le lt. absurd (omega arith) }

found_among : (time : ℕ) (xs : List ℕ) → list_any (nat_eq time) xs ≡ true → Contains xs time
found_among time [] e = absurd (true≢false (sym e))
found_among time (x ∷ xs) e =
    elim (or_cases (eqb time x) (list_any (nat_eq time) xs) e) [
      | inl same ↦ (0, omega arith, sym (eqb-true time x same))
      | inr more ↦ (let c = found_among time xs more in (suc c.0, omega (arith, c.1), c.2))
    ]

among_found : (time : ℕ) (xs : List ℕ) → Contains xs time → list_any (nat_eq time) xs ≡ true
among_found time xs c = list_any_at (nat_eq time) xs c.0 time c.1 (eq-eqb time (get_or xs c.0 time) (sym c.2))

key_timed : (time count key : ℕ) (before : List ℕ) → (ltb (length before + 1) count || (eqb key time || list_any (nat_eq time) before)) ≡ true → count ≤ length before + 1 → Contains (before ++ key ∷ []) time
key_timed time count key before e le =
    elim (or_cases (ltb (length before + 1) count) (eqb key time || list_any (nat_eq time) before) e) [
      | inl less ↦ (let lt = ltb-true (length before + 1) count less in absurd (omega arith))
      | inr last ↦ elim (or_cases (eqb key time) (list_any (nat_eq time) before) last) [
        | inl same ↦ subst (Contains (before ++ key ∷ [])) (eqb-true key time same) (Contains-push before key)
        | inr more ↦ Contains-append_left before (key ∷ []) time (found_among time before more)
      ]
    ]

timed_key : (time count key : ℕ) (all before after : List ℕ) → all ≡ before ++ key ∷ after → length all ≡ count → Contains all time → (ltb (length before + 1) count || (eqb key time || list_any (nat_eq time) before)) ≡ true
timed_key time count key all before [] e size there =
    elim (Contains-push_cases before key time (subst (λ (l : List ℕ). Contains l time) e there)) [
      | inl earlier ↦ or_right (ltb (length before + 1) count) (eqb key time || list_any (nat_eq time) before) (or_right (eqb key time) (list_any (nat_eq time) before) (among_found time before earlier))
      | inr here ↦ or_right (ltb (length before + 1) count) (eqb key time || list_any (nat_eq time) before) (or_left (eqb key time) (list_any (nat_eq time) before) (eq-eqb key time here))
    ]
timed_key time count key all before (k ∷ ks) e size there =
    or_left (ltb (length before + 1) count) (eqb key time || list_any (nat_eq time) before) (lt-ltb (length before + 1) count (omega (arith, sym size, ap length e, length-append before (key ∷ k ∷ ks))))

key_takes : (columns time count : ℕ) (before bytes : List ℕ) (x : ℕ × List ℕ) → AreKeys columns time count before → AreBytes bytes → key_from columns time count before bytes ≡ Ok x → AreKeys columns time count (before ++ x.0 ∷ []) × Takes bytes (u16_bytes x.0) x.1
unfolding key_from
key_takes columns time count before bytes x good known e =
    let k = kept_ok (may_be_key columns time count before) bytes (number_at w16 bytes) x e in
    let t = number_takes w16 (2 ^ 16) wide16 bytes x.0 x.1 known k.0 in
    let last = ltb (length before + 1) count || (eqb x.0 time || list_any (nat_eq time) before) in
    let a = and_parts (ltb x.0 columns) (not (list_any (nat_eq x.0) before) && last) k.1 in
    let b = and_parts (not (list_any (nat_eq x.0) before)) last a.1 in (
      record {
        within = All-push (λ j. j < columns) before x.0 good.within (ltb-true x.0 columns a.0);
        distinct = IsDistinct-push nat_eq before x.0 good.distinct (absent_each x.0 before (not-true (list_any (nat_eq x.0) before) b.0));
        timed = λ le lt. key_timed time count x.0 before b.1 (omega (arith, le, length_push before x.0));
      },
      t.0,
    )

-- the keys of a schema of so many columns
abbrev pub KeysFit : ℕ → ℕ → List ℕ → Type 0
KeysFit columns time keys = (keys ≡ []) ⊎ (All (λ k. k < columns) keys × IsDistinct nat_eq keys × Contains keys time)

key_again : (columns time : ℕ) (keys before : List ℕ) (k : ℕ) (after rest : List ℕ) → columns ≤ 2 ^ 16 → KeysFit columns time keys → keys ≡ before ++ k ∷ after → key_from columns time (length keys) before (u16_bytes k ++ rest) ≡ Ok (k, rest)
unfolding key_from
key_again columns time keys before k after rest few (inl none) e = absurd (omega (arith, ap length (sym none ∙ e), length-append before (k ∷ after)))
key_again columns time keys before k after rest few (inr fit) e =
    let last = ltb (length before + 1) (length keys) || (eqb k time || list_any (nat_eq time) before) in
    let below : k < columns = All-amid (λ j. j < columns) keys before k after e fit.0 in
    let apart = each_absent k before (distinct_before nat_eq before k after (subst (IsDistinct nat_eq) e fit.1)) in
    let rule : may_be_key columns time (length keys) before k ≡ true =
    and_from (ltb k columns) (not (list_any (nat_eq k) before) && last) (lt-ltb k columns below)
    (and_from (not (list_any (nat_eq k) before)) last (not_from_false (list_any (nat_eq k) before) apart) (timed_key time (length keys) k keys before after e refl fit.2)) in
    kept_again (may_be_key columns time (length keys) before) (u16_bytes k ++ rest) (number_at w16 (u16_bytes k ++ rest)) (k, rest) (number_again w16 (2 ^ 16) wide16 k rest (omega arith)) rule

keys_fit : (columns time count : ℕ) (keys : List ℕ) → length keys ≡ count → AreKeys columns time count keys → KeysFit columns time keys
keys_fit columns time count [] size good = inl refl
keys_fit columns time count (k ∷ ks) size good = inr (good.within, good.distinct, good.timed (omega arith) (omega arith))

keys_take : (columns time : ℕ) (bytes : List ℕ) (x : List ℕ × List ℕ) → AreBytes bytes → keys_from columns time bytes ≡ Ok x → KeysFit columns time x.0 × Takes bytes (u16_bytes (length x.0) ++ flat_map u16_bytes x.0) x.1
unfolding keys_from
keys_take columns time bytes x known e =
    let a = bind_ok (number_at w16 bytes) (λ n. items (key_from columns time n.0) n.0 [] n.1) x e in
    let first = number_takes w16 (2 ^ 16) wide16 bytes a.0.0 a.0.1 known a.1 in
    let all = items_take (key_from columns time a.0.0) u16_bytes (AreKeys columns time a.0.0) (key_takes columns time a.0.0) a.0.0 a.0.1 x (no_keys columns time a.0.0) first.0.rest_fits a.2 in
    let both = Takes-then bytes (u16_bytes a.0.0) a.0.1 (flat_map u16_bytes x.0) x.1 first.0 all.2 in
    (keys_fit columns time a.0.0 x.0 all.1 all.0, subst (λ (k : ℕ). Takes bytes (u16_bytes k ++ flat_map u16_bytes x.0) x.1) (sym all.1) both)

keys_again : (columns time : ℕ) (keys rest : List ℕ) → columns ≤ 2 ^ 16 → length keys < 2 ^ 16 → KeysFit columns time keys → keys_from columns time (u16_bytes (length keys) ++ (flat_map u16_bytes keys ++ rest)) ≡ Ok (keys, rest)
unfolding keys_from
keys_again columns time keys rest few short fit =
    let behind = flat_map u16_bytes keys ++ rest in
    let one : number_at w16 (u16_bytes (length keys) ++ behind) ≡ Ok (length keys, behind) = number_again w16 (2 ^ 16) wide16 (length keys) behind short in
    let all = items_again (key_from columns time (length keys)) u16_bytes keys (λ before k after more e. key_again columns time keys before k after more few fit e) rest in
    bind_again (number_at w16 (u16_bytes (length keys) ++ behind)) (λ n. items (key_from columns time n.0) n.0 [] n.1) (length keys, behind) (keys, rest) one all

-- ---- schemas

time_kind : (k : ColType) → kind_is_time k ≡ true → k ≡ kind.Time
time_kind kind.Long e = absurd cc
time_kind kind.Bool e = absurd cc
time_kind kind.Symbol e = absurd cc
time_kind kind.Varchar e = absurd cc
time_kind kind.Time e = refl

pub is_time_means : (o : Option Col) → is_time o ≡ true → IsSomeAnd o (λ c. c.kind ≡ kind.Time)
is_time_means None e = absurd (true≢false (sym e))
is_time_means (Some c) e = time_kind c.kind e

is_time_test : (o : Option Col) → IsSomeAnd o (λ c. c.kind ≡ kind.Time) → is_time o ≡ true
is_time_test None h = absurd h
is_time_test (Some c) h = ap kind_is_time h

pub place_within : {X : Type 0} (Q : X → Type 0) (xs : List X) (i : ℕ) → IsSomeAnd (slice_get xs i) Q → i < length xs
place_within Q [] i h = absurd h
place_within Q (x ∷ xs) zero h = omega arith
place_within Q (x ∷ xs) (suc i) h = let lt = place_within Q xs i h in omega arith

-- distinct numbers below a bound are no more than it
pub few_keys : (columns time : ℕ) (keys : List ℕ) → KeysFit columns time keys → length keys ≤ columns
few_keys columns time keys (inl none) = omega (arith, ap length none)
few_keys columns time keys (inr fit) = length-le_from_distinct_below keys columns fit.1 (λ q e. let c = found_among q keys e in subst (λ (j : ℕ). j < columns) c.2 (fit.0 c.0 q c.1))

-- a schema that is read keeps the rules, and has a new name
pub schema_takes : (before : List TableParts) (bytes : List ℕ) (x : Schema × List ℕ) → AreBytes bytes → schema_from before bytes ≡ Ok x → IsSchema x.0 × IsNone (position (λ (t : TableParts). same_name t.schema.name x.0.name) before) × Takes bytes (schema_bytes x.0) x.1
unfolding schema_from schema_bytes
schema_takes before bytes x known e =
    let a = bind_ok (kept (may_be_table before) bytes (name_at bytes)) (λ name. columns_from name.1 >>= λ cols. kept (λ n. is_time (slice_get cols.0 n)) cols.1 (number_at w16 cols.1) >>= λ time. coded unit_of_code time.1 (byte_at time.1) >>= λ u. keys_from (length cols.0) time.0 u.1 >>= λ keys. Ok (record { name = name.0; cols = cols.0; time_col = time.0; unit = u.0; keys = keys.0 }, keys.1)) x e in
    let name = a.0 in
    let b = bind_ok (columns_from name.1) (λ cols. kept (λ n. is_time (slice_get cols.0 n)) cols.1 (number_at w16 cols.1) >>= λ time. coded unit_of_code time.1 (byte_at time.1) >>= λ u. keys_from (length cols.0) time.0 u.1 >>= λ keys. Ok (record { name = name.0; cols = cols.0; time_col = time.0; unit = u.0; keys = keys.0 }, keys.1)) x a.2 in
    let cols = b.0 in
    let c = bind_ok (kept (λ n. is_time (slice_get cols.0 n)) cols.1 (number_at w16 cols.1)) (λ time. coded unit_of_code time.1 (byte_at time.1) >>= λ u. keys_from (length cols.0) time.0 u.1 >>= λ keys. Ok (record { name = name.0; cols = cols.0; time_col = time.0; unit = u.0; keys = keys.0 }, keys.1)) x b.2 in
    let time = c.0 in
    let d = bind_ok (coded unit_of_code time.1 (byte_at time.1)) (λ u. keys_from (length cols.0) time.0 u.1 >>= λ keys. Ok (record { name = name.0; cols = cols.0; time_col = time.0; unit = u.0; keys = keys.0 }, keys.1)) x c.2 in
    let u = d.0 in
    let f = bind_ok (keys_from (length cols.0) time.0 u.1) (λ keys. Ok (record { name = name.0; cols = cols.0; time_col = time.0; unit = u.0; keys = keys.0 }, keys.1)) x d.2 in
    let keys = f.0 in
    let named = kept_ok (may_be_table before) bytes (name_at bytes) name a.1 in
    let rule = and_parts (is_table_name name.0) (not (is_some (position (λ (t : TableParts). same_name t.schema.name name.0) before))) named.1 in
    let t0 = name_takes bytes name.0 name.1 known named.0 in
    let t1 = columns_take name.1 cols t0.0.rest_fits b.1 in
    let timed = kept_ok (λ n. is_time (slice_get cols.0 n)) cols.1 (number_at w16 cols.1) time c.1 in
    let t2 = number_takes w16 (2 ^ 16) wide16 cols.1 time.0 time.1 t1.2.rest_fits timed.0 in
    let code = coded_ok unit_of_code time.1 (byte_at time.1) u d.1 in
    let t3 = byte_takes time.1 code.0 u.1 t2.0.rest_fits code.1 in
    let t3' : Takes time.1 (code_of_unit u.0 ∷ []) u.1 = subst (λ (k : ℕ). Takes time.1 (k ∷ []) u.1) (unit_code code.0 u.0 code.2) t3.0 in
    let t4 = keys_take (length cols.0) time.0 u.1 keys t3'.rest_fits f.1 in
    let s : Schema = record { name = name.0; cols = cols.0; time_col = time.0; unit = u.0; keys = keys.0 } in
    let keys_text = u16_bytes (length keys.0) ++ flat_map u16_bytes keys.0 in
    let cols_text = u16_bytes (length cols.0) ++ flat_map column_bytes cols.0 in
    let e34 = Takes-then time.1 (code_of_unit u.0 ∷ []) u.1 keys_text keys.1 t3' t4.1 in
    let e24 = Takes-then cols.1 (u16_bytes time.0) time.1 (code_of_unit u.0 ∷ keys_text) keys.1 t2.0 e34 in
    let e14 = Takes-then name.1 cols_text cols.1 (u16_bytes time.0 ++ (code_of_unit u.0 ∷ keys_text)) keys.1 t1.2 e24 in
    let e04 = Takes-then bytes (name_bytes name.0) name.1 (cols_text ++ (u16_bytes time.0 ++ (code_of_unit u.0 ∷ keys_text))) keys.1 t0.0 e14 in
    let grouped : name_bytes name.0 ++ (cols_text ++ (u16_bytes time.0 ++ (code_of_unit u.0 ∷ keys_text))) ≡ schema_bytes s = ap (λ l. name_bytes name.0 ++ l) (append_assoc (u16_bytes (length cols.0)) (flat_map column_bytes cols.0) (u16_bytes time.0 ++ (code_of_unit u.0 ∷ keys_text))) in
    let sound : IsSchema s = record {
      name = table_named name.0 rule.0;
      few = t1.1;
      names = t1.0.names;
      distinct = t1.0.distinct;
      designated = is_time_means (slice_get cols.0 time.0) timed.1;
      keys = t4.0;
    } in
    subst (λ (y : Schema × List ℕ). IsSchema y.0 × IsNone (position (λ (t : TableParts). same_name t.schema.name y.0.name) before) × Takes bytes (schema_bytes y.0) y.1) (ok_is (s, keys.1) x f.2) (sound, not-true (is_some (position (λ (t : TableParts). same_name t.schema.name name.0) before)) rule.1, subst (λ (l : List ℕ). Takes bytes l keys.1) grouped e04)

-- what is spelled of a schema is read
pub schema_again : (before : List TableParts) (s : Schema) (rest : List ℕ) → IsSchema s → may_be_table before s.name ≡ true → schema_from before (schema_bytes s ++ rest) ≡ Ok (s, rest)
unfolding schema_from schema_bytes
schema_again before s rest sound rule =
    let keys_text = u16_bytes (length s.keys) ++ flat_map u16_bytes s.keys in
    let r4 = u16_bytes (length s.keys) ++ (flat_map u16_bytes s.keys ++ rest) in
    let r3 = code_of_unit s.unit ∷ r4 in
    let r2 = u16_bytes s.time_col ++ r3 in
    let r1 = u16_bytes (length s.cols) ++ (flat_map column_bytes s.cols ++ r2) in
    let r0 = name_bytes s.name ++ r1 in
    let few : length s.cols ≤ MAX_COLUMNS = sound.few in
    let most : length s.cols ≤ 256 = few in
    let placed : s.time_col < length s.cols = place_within (λ (c : Col). c.kind ≡ kind.Time) s.cols s.time_col sound.designated in
    let short : length s.keys ≤ length s.cols = few_keys (length s.cols) s.time_col s.keys sound.keys in
    let g4 : keys_text ++ rest ≡ r4 = append_assoc (u16_bytes (length s.keys)) (flat_map u16_bytes s.keys) rest in
    let g2 : (u16_bytes s.time_col ++ (code_of_unit s.unit ∷ keys_text)) ++ rest ≡ r2 = append_assoc (u16_bytes s.time_col) (code_of_unit s.unit ∷ keys_text) rest ∙ ap (λ l. u16_bytes s.time_col ++ (code_of_unit s.unit ∷ l)) g4 in
    let tail = u16_bytes s.time_col ++ (code_of_unit s.unit ∷ keys_text) in
    let g1 : (u16_bytes (length s.cols) ++ (flat_map column_bytes s.cols ++ tail)) ++ rest ≡ r1 = append_assoc (u16_bytes (length s.cols)) (flat_map column_bytes s.cols ++ tail) rest ∙ ap (λ l. u16_bytes (length s.cols) ++ l) (append_assoc (flat_map column_bytes s.cols) tail rest ∙ ap (λ l. flat_map column_bytes s.cols ++ l) g2) in
    let g0 : (name_bytes s.name ++ (u16_bytes (length s.cols) ++ (flat_map column_bytes s.cols ++ tail))) ++ rest ≡ r0 = append_assoc (name_bytes s.name) (u16_bytes (length s.cols) ++ (flat_map column_bytes s.cols ++ tail)) rest ∙ ap (λ l. name_bytes s.name ++ l) g1 in
    let one : kept (may_be_table before) r0 (name_at r0) ≡ Ok (s.name, r1) = kept_again (may_be_table before) r0 (name_at r0) (s.name, r1) (name_again s.name r1) rule in
    let two : columns_from r1 ≡ Ok (s.cols, r2) = columns_again s.cols r2 (record { names = sound.names; distinct = sound.distinct }) few in
    let three : kept (λ n. is_time (slice_get s.cols n)) r2 (number_at w16 r2) ≡ Ok (s.time_col, r3) = kept_again (λ n. is_time (slice_get s.cols n)) r2 (number_at w16 r2) (s.time_col, r3) (number_again w16 (2 ^ 16) wide16 s.time_col r3 (omega arith)) (is_time_test (slice_get s.cols s.time_col) sound.designated) in
    let four : coded unit_of_code r3 (byte_at r3) ≡ Ok (s.unit, r4) = coded_again unit_of_code r3 (byte_at r3) (code_of_unit s.unit) s.unit r4 refl (code_unit s.unit) in
    let five : keys_from (length s.cols) s.time_col r4 ≡ Ok (s.keys, rest) = keys_again (length s.cols) s.time_col s.keys rest (omega arith) (omega arith) sound.keys in
    let step4 : PartUnit × List ℕ → Read Schema = λ u. keys_from (length s.cols) s.time_col u.1 >>= λ keys. Ok (record { name = s.name; cols = s.cols; time_col = s.time_col; unit = u.0; keys = keys.0 }, keys.1) in
    let step3 : ℕ × List ℕ → Read Schema = λ time. coded unit_of_code time.1 (byte_at time.1) >>= λ u. keys_from (length s.cols) time.0 u.1 >>= λ keys. Ok (record { name = s.name; cols = s.cols; time_col = time.0; unit = u.0; keys = keys.0 }, keys.1) in
    let step2 : List Col × List ℕ → Read Schema = λ cols. kept (λ n. is_time (slice_get cols.0 n)) cols.1 (number_at w16 cols.1) >>= λ time. coded unit_of_code time.1 (byte_at time.1) >>= λ u. keys_from (length cols.0) time.0 u.1 >>= λ keys. Ok (record { name = s.name; cols = cols.0; time_col = time.0; unit = u.0; keys = keys.0 }, keys.1) in
    let step1 : List ℕ × List ℕ → Read Schema = λ name. columns_from name.1 >>= λ cols. kept (λ n. is_time (slice_get cols.0 n)) cols.1 (number_at w16 cols.1) >>= λ time. coded unit_of_code time.1 (byte_at time.1) >>= λ u. keys_from (length cols.0) time.0 u.1 >>= λ keys. Ok (record { name = name.0; cols = cols.0; time_col = time.0; unit = u.0; keys = keys.0 }, keys.1) in
    ap (schema_from before) g0
    ∙ bind_again (kept (may_be_table before) r0 (name_at r0)) step1 (s.name, r1) (s, rest) one
    (bind_again (columns_from r1) step2 (s.cols, r2) (s, rest) two
    (bind_again (kept (λ n. is_time (slice_get s.cols n)) r2 (number_at w16 r2)) step3 (s.time_col, r3) (s, rest) three
    (bind_again (coded unit_of_code r3 (byte_at r3)) step4 (s.unit, r4) (s, rest) four
    (bind_again (keys_from (length s.cols) s.time_col r4) (λ keys. Ok (record { name = s.name; cols = s.cols; time_col = s.time_col; unit = s.unit; keys = keys.0 }, keys.1)) (s.keys, rest) (s, rest) five refl))))
