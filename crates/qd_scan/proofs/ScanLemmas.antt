-- What a scan has, part by part.
use Rattle.std.proofs.Common.{◌≡◌, ℕ, zero, suc, ◌+◌, ◌-◌, ◌<◌, ◌≤◌, ◌⊎◌, inl, inr, List, [], ◌∷◌, ◌++◌, Option, Some, None, length, map, take, get_or, refl, sym, ap, ap₂, ◌∙◌, arith, All, subst, append-nil}
use Rattle.std.specs.Prelude.{IfOk, IfSome, Result, Ok, Err, slice_get, true}
use Rattle.std.specs.List.{AllByRecursion, flat_map}
use Rattle.std.proofs.lemmas.Bool.{cases_lt}
use Rattle.std.proofs.lemmas.List.{take_all, take_more}
use Rattle.std.proofs.lemmas.Option.{get_or_from_slice_get}
use Rattle.std.proofs.lemmas.List.Concat.{flat_map-append}
use Rattle.std.proofs.lemmas.List.Elements.{All-append, All-filter, All-weaker, All-from_recursion, recursion_from_All, filter-append, filter_passes}
use Rattle.qd_base.specs.declared.part.Part.{Part}
use Rattle.qd_base.specs.declared.schema.Col.{Col}
use Rattle.qd_base.specs.declared.schema.Schema.{Schema}
use Rattle.qd_base.specs.Database.{Database}
use Rattle.qd_base.specs.Lawful.{HasKinds, IsRowOf}
use Rattle.qd_base.specs.Laws.{IsInOrder}
use Rattle.qd_base.specs.Rows.{Row, time_of}
use Rattle.qd_base.proofs.Order.{in_order-append, in_order-filter}
use Rattle.qd_block.specs.Blocks.{Block, IsWhole}
use Rattle.qd_io.specs.Ends.{HasRisen}
use Rattle.qd_manifest.specs.Spelling.{AreParts, no_part}
use Rattle.qd_rows.specs.Sets.{ResultRows, Joined, row_of_place, rows_in}
use Rattle.qd_scan.specs.declared.fault.PartFault.{PartFault}
use Rattle.qd_scan.specs.declared.fault.PartFault.TheVariants as fault
use Rattle.qd_scan.specs.Scans.{HasRowsBetween, HasScanned, IsBetween}
use Rattle.qd_scan.specs.Sources.{SourceView, no_schema, part_at, parts_at, rows_at, rows_between, rows_in_part, schema_at, table_rows, HasCause, HasRowsOf, IsBlockOf, IsSource, Stays, Tells}
use Rattle.qd_scan.specs.Scans.{AreApart}
use Rattle.qd_scan.proofs.PartLemmas.{are_apart, ends_before}
use Rattle.qd_scan.proofs.RowLemmas.{between_ends, table_each, table_fits, table_in_order}
use Rattle.qd_scan.proofs.TimeLemmas.{fails_before, fails_behind, filter_none, is_between, is_between_holds, none_between_before, none_between_behind}

-- Calls, one after another.
pub stays_here : (s : SourceView) → Stays s s
stays_here s = record { schemas = refl; parts = refl; database = refl; faults = omega arith; damages = omega arith }

pub stays_then : (a b c : SourceView) → Stays a b → Stays b c → Stays a c
stays_then a b c one two = record {
  schemas = two.schemas ∙ one.schemas;
  parts = two.parts ∙ one.parts;
  database = two.database ∙ one.database;
  faults = omega (arith, one.faults, two.faults);
  damages = omega (arith, one.damages, two.damages);
}

risen_then : (a b c : ℕ) → a ≤ b → HasRisen b c → HasRisen a c
risen_then a b c le (inl lt) = inl (omega arith)
risen_then a b c le (inr end) = inr end

pub cause_then : (a b c : SourceView) (f : PartFault) → Stays a b → HasCause b c f → HasCause a c f
cause_then a b c fault.Vol stays cause = risen_then a.faults b.faults c.faults stays.faults cause
cause_then a b c (fault.Damaged file at) stays cause = (risen_then a.damages b.damages c.damages stays.damages cause.0, cause.1)
cause_then a b c fault.Memory stays cause = tt

-- what is given of the tables as they are shown later is of them as they were
pub block_before : (a b : SourceView) (table i : ℕ) (x : Block) → Stays a b → IsBlockOf (schema_at b table) (part_at b table i) x → IsBlockOf (schema_at a table) (part_at a table i) x
block_before a b table i x stays h =
    subst (λ (ss : List Schema). IsBlockOf (schema_at (record a { schemas = ss }) table) (part_at a table i) x) stays.schemas
    (subst (λ (ps : List (List Part)). IsBlockOf (schema_at b table) (part_at (record a { parts = ps }) table i) x) stays.parts h)

pub rows_before : (a b : SourceView) (table i : ℕ) (x : Block) → Stays a b → HasRowsOf b table i x → HasRowsOf a table i x
rows_before a b table i x stays h =
    subst (λ (ss : List Schema). HasRowsOf (record a { schemas = ss }) table i x) stays.schemas
    (subst (λ (ps : List (List Part)). HasRowsOf (record a { schemas = b.schemas; parts = ps }) table i x) stays.parts
    (subst (λ (db : Option Database). HasRowsOf (record a { schemas = b.schemas; parts = b.parts; database = db }) table i x) stays.database h))

-- Before the first part.
none_of : (s : ResultRows) → s.places ≡ [] → rows_in s ≡ []
none_of s none = ap (map (row_of_place s)) none

told_none : (o : Option Database) (f : Database → List Row) → ((db : Database) → f db ≡ []) → (rows : List Row) → rows ≡ [] → IfSome o (λ db. rows ≡ f db)
told_none None f none rows empty = tt
told_none (Some db) f none rows empty = empty ∙ sym (none db)

pub scan_begun : (s : SourceView) (table lo hi : ℕ) (set : ResultRows) → set.left ≡ (schema_at s table).cols → set.right ≡ None → set.places ≡ [] → HasScanned s table lo hi 0 set
scan_begun s table lo hi set cols single none =
    let col = (schema_at s table).time_col in
    let empty : rows_in set ≡ [] = none_of set none in
    let all : (P : Row → Type 0) → All P (rows_in set) = λ P. subst (All P) (sym empty) (λ k d lt. absurd (omega arith)) in
    record {
      cols = cols;
      single = single;
      fit = all (IsRowOf (schema_at s table));
      order = subst (IsInOrder col) (sym empty) tt;
      between = all (IsBetween col lo hi);
      before = λ k low high. all (λ r. time_of col r < (part_at s table k).lo);
      rows = told_none s.database (λ db. rows_between col lo hi (flat_map (rows_in_part col (rows_at db table)) [])) (λ db. refl) (rows_in set) empty;
    }

-- The rows of one part more.
parts_more : (f : Part → List Row) (parts : List Part) (i : ℕ) → i < length parts → flat_map f (take (i + 1) parts) ≡ flat_map f (take i parts) ++ f (get_or parts i no_part)
parts_more f parts i low = ap (flat_map f) (take_more parts i no_part low) ∙ flat_map-append f (take i parts) (get_or parts i no_part ∷ []) ∙ ap (λ l. flat_map f (take i parts) ++ l) (append-nil (f (get_or parts i no_part)))

between_more : (col lo hi : ℕ) (f : Part → List Row) (parts : List Part) (i : ℕ) → i < length parts → rows_between col lo hi (flat_map f (take (i + 1) parts)) ≡ rows_between col lo hi (flat_map f (take i parts)) ++ rows_between col lo hi (f (get_or parts i no_part))
between_more col lo hi f parts i low = ap (rows_between col lo hi) (parts_more f parts i low) ∙ filter-append (is_between col lo hi) (flat_map f (take i parts)) (f (get_or parts i no_part))

pub in_part : (col lo hi : ℕ) (rows : List Row) → All (IsBetween col lo hi) (rows_between col lo hi rows)
in_part col lo hi rows = All-weaker (λ r. is_between col lo hi r ≡ true) (IsBetween col lo hi) (is_between_holds col lo hi) (rows_between col lo hi rows) (filter_passes (is_between col lo hi) rows)

-- A part misses the interval.
abbrev pub Misses : ℕ → ℕ → Part → Type 0
Misses lo hi p = (p.hi < lo) ⊎ (hi < p.lo)

missed : (col lo hi : ℕ) (p : Part) (rows : List Row) → Misses lo hi p → rows_between col lo hi (rows_in_part col rows p) ≡ []
missed col lo hi p rows (inl early) = none_between_before col lo hi (rows_in_part col rows p) (λ k d lt. let in' = in_part col p.lo p.hi rows k d lt in omega (arith, in'.1))
missed col lo hi p rows (inr late) = none_between_behind col lo hi (rows_in_part col rows p) (λ k d lt. let in' = in_part col p.lo p.hi rows k d lt in omega (arith, in'.0))

told_skip : (col lo hi : ℕ) (table : ℕ) (parts : List Part) (i : ℕ) (rows : List Row) (o : Option Database) → i < length parts → Misses lo hi (get_or parts i no_part)
    → IfSome o (λ db. rows ≡ rows_between col lo hi (flat_map (rows_in_part col (rows_at db table)) (take i parts)))
    → IfSome o (λ db. rows ≡ rows_between col lo hi (flat_map (rows_in_part col (rows_at db table)) (take (i + 1) parts)))
told_skip col lo hi table parts i rows None low miss h = tt
told_skip col lo hi table parts i rows (Some db) low miss h =
    let f : Part → List Row = rows_in_part col (rows_at db table) in
    h ∙ sym (append-nil (rows_between col lo hi (flat_map f (take i parts))))
    ∙ ap (λ l. rows_between col lo hi (flat_map f (take i parts)) ++ l) (sym (missed col lo hi (get_or parts i no_part) (rows_at db table) miss))
    ∙ sym (between_more col lo hi f parts i low)

scan_skip : (s : SourceView) (table lo hi i : ℕ) (set : ResultRows) → i < length (parts_at s table) → Misses lo hi (part_at s table i) → HasScanned s table lo hi i set → HasScanned s table lo hi (i + 1) set
scan_skip s table lo hi i set low miss has = record {
  cols = has.cols;
  single = has.single;
  fit = has.fit;
  order = has.order;
  between = has.between;
  before = λ k ge lt. has.before k (omega arith) lt;
  rows = told_skip (schema_at s table).time_col lo hi table (parts_at s table) i (rows_in set) s.database low miss has.rows;
}

zero_more : (i : ℕ) → i ≡ i + zero
zero_more i = omega arith

suc_more : (i n : ℕ) → i + 1 + n ≡ i + suc n
suc_more i n = omega arith

scan_skips : (s : SourceView) (table lo hi i n : ℕ) (set : ResultRows) → i + n ≤ length (parts_at s table) → ((k : ℕ) → i ≤ k → k < i + n → Misses lo hi (part_at s table k)) → HasScanned s table lo hi i set → HasScanned s table lo hi (i + n) set
scan_skips s table lo hi i zero set within miss has = subst (λ (n : ℕ). HasScanned s table lo hi n set) (zero_more i) has
scan_skips s table lo hi i (suc n) set within miss has =
    subst (λ (m : ℕ). HasScanned s table lo hi m set) (suc_more i n)
    (scan_skips s table lo hi (i + 1) n set (omega arith) (λ k ge lt. miss k (omega arith) (omega arith)) (scan_skip s table lo hi i set (omega arith) (miss i (omega arith) (omega arith)) has))

pub scan_skipped : (s : SourceView) (table lo hi i j : ℕ) (set : ResultRows) → i ≤ j → j ≤ length (parts_at s table) → ((k : ℕ) → i ≤ k → k < j → Misses lo hi (part_at s table k)) → HasScanned s table lo hi i set → HasScanned s table lo hi j set
scan_skipped s table lo hi i j set low within miss has =
    let all : i + (j - i) ≡ j = omega arith in
    subst (λ (m : ℕ). HasScanned s table lo hi m set) all (scan_skips s table lo hi i (j - i) set (omega arith) (λ k ge lt. miss k ge (omega arith)) has)

-- A part is taken.
told_step : (col lo hi : ℕ) (table : ℕ) (parts : List Part) (i : ℕ) (rows more new : List Row) (o : Option Database) → i < length parts
    → new ≡ rows ++ rows_between col lo hi more
    → IfSome o (λ db. rows ≡ rows_between col lo hi (flat_map (rows_in_part col (rows_at db table)) (take i parts)))
    → IfSome o (λ db. more ≡ rows_in_part col (rows_at db table) (get_or parts i no_part))
    → IfSome o (λ db. new ≡ rows_between col lo hi (flat_map (rows_in_part col (rows_at db table)) (take (i + 1) parts)))
told_step col lo hi table parts i rows more new None low added h given = tt
told_step col lo hi table parts i rows more new (Some db) low added h given =
    let f : Part → List Row = rows_in_part col (rows_at db table) in
    added ∙ ap₂ (λ (a b : List Row). a ++ rows_between col lo hi b) h given ∙ sym (between_more col lo hi f parts i low)

-- what is known of the rows that a part adds
pub record IsMore (s : Schema) (lo hi : ℕ) (p : Part) (more : List Row) : Type 0 where
  pub fit : All (IsRowOf s) more
  pub order : IsInOrder s.time_col more
  pub between : All (IsBetween s.time_col lo hi) more
  pub in_part : All (IsBetween s.time_col p.lo p.hi) more

pub is_more : (s : Schema) (lo hi : ℕ) (p : Part) (b : Block) → IsWhole b → IsBlockOf s p b → IsMore s lo hi p (rows_between s.time_col lo hi (table_rows s.cols b))
is_more s lo hi p b whole is =
    let P : ℕ → Type 0 = λ t. (p.lo ≤ t) × (t ≤ p.hi) in
    let rows = table_rows s.cols b in
    let order : IsInOrder s.time_col rows = subst (λ (c : ℕ). IsInOrder c rows) is.time_col (table_in_order s.cols b whole) in
    let sorted : IsInOrder s.time_col b.rows = subst (λ (c : ℕ). IsInOrder c b.rows) is.time_col whole.order in
    let last : time_of s.time_col (get_or b.rows (length b.rows - 1) []) ≡ p.hi = subst (λ (n : ℕ). time_of s.time_col (get_or b.rows (n - 1) []) ≡ p.hi) (sym is.rows) is.last in
    let ends : All (IsBetween s.time_col p.lo p.hi) b.rows = between_ends s.time_col p.lo p.hi b.rows sorted is.first last in
    let wide : All (λ r. P (time_of b.time_col r)) rows = table_each P s.cols b whole (subst (λ (c : ℕ). All (λ r. P (time_of c r)) b.rows) (sym is.time_col) ends) in
    let there : All (IsBetween s.time_col p.lo p.hi) rows = subst (λ (c : ℕ). All (λ r. P (time_of c r)) rows) is.time_col wide in
    let fit : All (IsRowOf s) rows = table_fits s b whole is.time_col (subst (λ (n : ℕ). All (HasKinds (take n s.cols)) b.rows) (sym is.columns) is.fit) in
    record {
      fit = All-filter (is_between s.time_col lo hi) (IsRowOf s) rows fit;
      order = in_order-filter s.time_col (is_between s.time_col lo hi) rows order;
      between = in_part s.time_col lo hi rows;
      in_part = All-filter (is_between s.time_col lo hi) (IsBetween s.time_col p.lo p.hi) rows there;
    }

-- the rows so far stand before the part's
joined_in_order : (col : ℕ) (lo hi : ℕ) (rows more : List Row) → IsInOrder col rows → IsInOrder col more → All (λ r. time_of col r < lo) rows → All (IsBetween col lo hi) more → IsInOrder col (rows ++ more)
joined_in_order col lo hi rows more one two before in' =
    in_order-append col rows more one two
    (recursion_from_All (λ x. AllByRecursion (λ y. time_of col x ≤ time_of col y) more) rows
    (λ k d lt. recursion_from_All (λ y. time_of col (get_or rows k d) ≤ time_of col y) more (λ j e lj. let x = before k d lt in let y = in' j e lj in omega (arith, x, y.0))))

pub scan_step : (s : SourceView) (table lo hi i : ℕ) (old new : ResultRows) (b : Block) → IsSource s → table < length s.schemas → i < length (parts_at s table) → IsWhole b
    → IsBlockOf (schema_at s table) (part_at s table i) b → HasRowsOf s table i b → new.left ≡ old.left → new.right ≡ None → rows_in new ≡ rows_in old ++ rows_between b.time_col lo hi (table_rows old.left b)
    → HasScanned s table lo hi i old → HasScanned s table lo hi (i + 1) new
scan_step s table lo hi i old new b law there low whole is told left right added has =
    let schema = schema_at s table in
    let col = schema.time_col in
    let p = part_at s table i in
    let more : List Row = rows_between col lo hi (table_rows schema.cols b) in
    let grown : rows_in new ≡ rows_in old ++ more = subst (λ (c : ℕ). rows_in new ≡ rows_in old ++ rows_between c lo hi (table_rows schema.cols b)) is.time_col (subst (λ (cs : List Col). rows_in new ≡ rows_in old ++ rows_between b.time_col lo hi (table_rows cs b)) has.cols added) in
    let facts = is_more schema lo hi p b whole is in
    let apart = are_apart schema (parts_at s table) (law.parts table there) in
    let all : (P : Row → Type 0) → All P (rows_in old) → All P more → All P (rows_in new) = λ P one two. subst (All P) (sym grown) (All-append P (rows_in old) more one two) in
    record {
      cols = left ∙ has.cols;
      single = right;
      fit = all (IsRowOf schema) has.fit facts.fit;
      order = subst (IsInOrder col) (sym grown) (joined_in_order col p.lo p.hi (rows_in old) more has.order facts.order (has.before i (omega arith) low) facts.in_part);
      between = all (IsBetween col lo hi) has.between facts.between;
      before = λ k ge lt. all (λ r. time_of col r < (part_at s table k).lo) (has.before k (omega arith) lt)
          (All-weaker (IsBetween col p.lo p.hi) (λ r. time_of col r < (part_at s table k).lo) (λ r x. let e = ends_before (parts_at s table) apart i k (omega arith) lt in omega (arith, e, x.1)) more facts.in_part);
      rows = told_step col lo hi table (parts_at s table) i (rows_in old) (table_rows schema.cols b) (rows_in new) s.database low grown has.rows told;
    }

-- Behind the last part.
told_all : (col lo hi : ℕ) (table : ℕ) (parts : List Part) (rows : List Row) (o : Option Database) → IfSome o (λ db. flat_map (rows_in_part col (rows_at db table)) parts ≡ rows_at db table)
    → IfSome o (λ db. rows ≡ rows_between col lo hi (flat_map (rows_in_part col (rows_at db table)) (take (length parts) parts)))
    → IfSome o (λ db. rows ≡ rows_between col lo hi (rows_at db table))
told_all col lo hi table parts rows None law h = tt
told_all col lo hi table parts rows (Some db) law h = h ∙ ap (λ l. rows_between col lo hi (flat_map (rows_in_part col (rows_at db table)) l)) (take_all (length parts) parts (omega arith)) ∙ ap (rows_between col lo hi) law

told_law : (s : SourceView) (table : ℕ) (o : Option Database) → table < length s.schemas → IfSome o (Tells s) → IfSome o (λ db. flat_map (rows_in_part (schema_at s table).time_col (rows_at db table)) (parts_at s table) ≡ rows_at db table)
told_law s table None there law = tt
told_law s table (Some db) there law = law.rows table there

pub scan_done : (s : SourceView) (table lo hi : ℕ) (set : ResultRows) → IsSource s → table < length s.schemas → HasScanned s table lo hi (length (parts_at s table)) set → HasRowsBetween s table lo hi set
scan_done s table lo hi set law there has = told_all (schema_at s table).time_col lo hi table (parts_at s table) (rows_in set) s.database (told_law s table s.database there law.told) has.rows

-- The parts that are asked for, as they are lent.
pub lent_apart : (s : SourceView) (table : ℕ) (lent : List Part) → lent ≡ parts_at s table → IsSource s → table < length s.schemas → AreApart lent
lent_apart s table lent same law there = subst AreApart (sym same) (are_apart (schema_at s table) (parts_at s table) (law.parts table there))

pub scan_from : (s : SourceView) (table lo hi first : ℕ) (set : ResultRows) (lent : List Part) → lent ≡ parts_at s table → first ≤ length lent → ((k : ℕ) → k < first → (get_or lent k no_part).hi < lo)
    → set.left ≡ (schema_at s table).cols → set.right ≡ None → set.places ≡ [] → HasScanned s table lo hi first set
scan_from s table lo hi first set lent same within before cols single none =
    scan_skipped s table lo hi 0 first set (omega arith) (subst (λ (ps : List Part). first ≤ length ps) same within)
    (λ k ge lt. inl (subst (λ (ps : List Part). (get_or ps k no_part).hi < lo) same (before k lt)))
    (scan_begun s table lo hi set cols single none)

-- the first of them is at most the last
first_last : (parts : List Part) (lo hi first last : ℕ) → AreApart parts → lo ≤ hi → first ≤ length parts → ((k : ℕ) → k < first → (get_or parts k no_part).hi < lo) → ((k : ℕ) → last ≤ k → k < length parts → hi < (get_or parts k no_part).lo) → first ≤ last
first_last parts lo hi first last are some within before behind =
    elim (cases_lt last first) [
      | inl lt ↦ absurd (
          let early = before last lt in
          let late = behind last (omega arith) (omega arith) in
          let in' = are.each last no_part (omega arith) in
          omega (arith, early, late, in'))
      | inr ge ↦ ge
    ]

pub scan_to : (s : SourceView) (table lo hi first last i : ℕ) (set : ResultRows) (lent : List Part) → lent ≡ parts_at s table → IsSource s → table < length s.schemas → lo ≤ hi
    → first ≤ length lent → ((k : ℕ) → k < first → (get_or lent k no_part).hi < lo) → last ≤ length lent → ((k : ℕ) → last ≤ k → k < length lent → hi < (get_or lent k no_part).lo)
    → last ≤ i → (first ≤ last → i ≤ last) → HasScanned s table lo hi i set → HasScanned s table lo hi (length (parts_at s table)) set
scan_to s table lo hi first last i set lent same law there some first_in before last_in behind past end has =
    let are : AreApart lent = lent_apart s table lent same law there in
    let low : i ≤ last = end (first_last lent lo hi first last are some first_in before behind) in
    let count : length lent ≡ length (parts_at s table) = ap length same in
    scan_skipped s table lo hi i (length (parts_at s table)) set (omega arith) (omega arith)
    (λ k ge lt. inr (subst (λ (ps : List Part). hi < (get_or ps k no_part).lo) same (behind k (omega arith) (omega arith))))
    has

-- Nothing lies between moments of which the later comes first.
told_nothing : (col lo hi : ℕ) (table : ℕ) (rows : List Row) (o : Option Database) → hi < lo → rows ≡ [] → IfSome o (λ db. rows ≡ rows_between col lo hi (rows_at db table))
told_nothing col lo hi table rows None above empty = tt
told_nothing col lo hi table rows (Some db) above empty =
    empty ∙ sym (filter_none (is_between col lo hi) (rows_at db table) (λ k d lt.
    let r : Row = get_or (rows_at db table) k d in
    elim (cases_lt (time_of col r) lo) [ inl early ↦ fails_before col lo hi r early | inr late ↦ fails_behind col lo hi r (omega arith) ]))

pub scan_nothing : (s : SourceView) (table lo hi : ℕ) (set : ResultRows) → hi < lo → set.places ≡ [] → HasRowsBetween s table lo hi set
scan_nothing s table lo hi set above none = told_nothing (schema_at s table).time_col lo hi table (rows_in set) s.database above (none_of set none)

-- the columns of a table, as its schema is lent
pub cols_found : (schemas lent : List Schema) (table : ℕ) (schema : Schema) (cols : List Col) → lent ≡ schemas → slice_get lent table ≡ Some schema → cols ≡ schema.cols → cols ≡ (get_or schemas table no_schema).cols
cols_found schemas lent table schema cols same found are =
    are ∙ ap (λ (x : Schema). x.cols) (sym (get_or_from_slice_get lent table schema no_schema found) ∙ ap (λ (l : List Schema). get_or l table no_schema) same)

pub ok_then : {T E : Type 0} (P Q : T → Type 0) → ((x : T) → P x → Q x) → (r : Result T E) → IfOk r P → IfOk r Q
ok_then P Q f (Ok x) h = f x h
ok_then P Q f (Err e) h = tt
