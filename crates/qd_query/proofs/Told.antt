-- Tables of a told database, by name and by position, and the rows of two tables.
use Rattle.std.proofs.Common.{◌≡◌, ℕ, zero, suc, ◌<◌, ◌≤◌, Bool, true, false, List, [], ◌∷◌, length, map, position, find, Option, Some, None, is_some, IsSomeAnd, IfSome, All, get_or, refl, sym, ap, ap₂, ◌∙◌, subst, arith, slice_get}
use Rattle.std.specs.Prelude.{unwrap_or}
use Rattle.std.specs.List.{flat_map, position_or_len}
use Rattle.std.proofs.lemmas.List.{get_or-map, get_or_default, length-map}
use Rattle.std.proofs.lemmas.List.Elements.{All-append, All-weaker}
use Rattle.std.proofs.lemmas.Option.{get_or_from_slice_get}
use Rattle.qd_base.specs.declared.limits.TheConstants.{MAX_TIME}
use Rattle.qd_base.specs.declared.part.Part.{Part}
use Rattle.qd_base.specs.declared.schema.Col.{Col}
use Rattle.qd_base.specs.declared.schema.Schema.{Schema}
use Rattle.qd_base.specs.Database.{Database, StoredTable, schemas_of}
use Rattle.qd_base.specs.Rows.{Row, time_of}
use Rattle.qd_base.specs.Schemas.{same_name, schema_of, table_at}
use Rattle.qd_base.proofs.Tables.{find-position, not_found, table_within}
use Rattle.qd_value.specs.declared.bound.Bound.{Bound}
use Rattle.qd_meaning.specs.declared.parts.JoinSpec.{JoinSpec}
use Rattle.qd_meaning.specs.Answer.{kept_rows, source_rows, stored}
use Rattle.qd_meaning.specs.Joined.{joined}
use Rattle.qd_meaning.specs.Planned.{position_of}
use Rattle.qd_query.specs.Answers.{table_in}
use Rattle.qd_query.specs.Intervals.{is_kept, Catches}
use Rattle.qd_query.proofs.KeptLemmas.{kept_between, kept_joined}
use Rattle.qd_rows.specs.Sets.{ResultRows, absent, rows_in}
use Rattle.qd_manifest.specs.Spelling.{no_part}
use Rattle.qd_scan.specs.Scans.{AreApart, HasRowsBetween, IsBetween}
use Rattle.qd_scan.specs.Sources.{no_schema, no_table, parts_at, rows_at, rows_between, rows_in_part, schema_at, IsSource, SourceView, Stays, Tells}
use Rattle.qd_scan.proofs.PartLemmas.{ends_before}
use Rattle.qd_scan.proofs.ScanLemmas.{in_part}
use Rattle.qd_scan.proofs.TimeLemmas.{all_between}

-- ---- by name and by position

module _ {S T : Type 0} (p : S → Bool) (part : T → S) where
  steps_map : (xs : List T) → position_or_len p (map part xs) ≡ position_or_len (λ x. p (part x)) xs
  steps_map [] = refl
  steps_map (x ∷ xs) = rw (steps_map xs) refl

  position_map : (xs : List T) → position p (map part xs) ≡ position (λ x. p (part x)) xs
  position_map xs = rw (steps_map xs, length-map xs part) refl

found_none : {X : Type 0} (xs : List X) (p : X → Bool) (o : Option X) → find p xs ≡ o → position p xs ≡ None → o ≡ None
found_none xs p None e none = refl
found_none xs p (Some t) e none = absurd (not_found p (λ x. Unit {0}) xs none (subst (λ (o : Option _). IsSomeAnd o (λ x. Unit {0})) (sym e) tt))

-- the table of a name is the one at its position
pub named : (db : Database) (name : List ℕ) (i : ℕ) → table_at (schemas_of db) name ≡ Some i → stored db name ≡ Some (table_in db i)
named db name i at =
    let p : StoredTable → Bool = λ t. same_name t.schema.name name in
    find-position p db i no_table (sym (position_map (λ (s : Schema). same_name s.name name) (λ (t : StoredTable). t.schema) db) ∙ at)

pub unnamed : (db : Database) (name : List ℕ) → table_at (schemas_of db) name ≡ None → stored db name ≡ None
unnamed db name none =
    let p : StoredTable → Bool = λ t. same_name t.schema.name name in
    found_none db p (find p db) refl (sym (position_map (λ (s : Schema). same_name s.name name) (λ (t : StoredTable). t.schema) db) ∙ none)

-- a name that is found has a position
pub placed : (schemas : List Schema) (name : List ℕ) → is_some (schema_of schemas name) ≡ true → table_at schemas name ≡ Some (position_of schemas name)
placed schemas name h = go (table_at schemas name) refl
  where
    go : (o : Option ℕ) → table_at schemas name ≡ o → o ≡ Some (unwrap_or o 0)
    go (Some i) e = refl
    go None e =
        let none : schema_of schemas name ≡ None = found_none schemas (λ (s : Schema). same_name s.name name) (schema_of schemas name) refl e in
        let no : false ≡ true = sym (ap is_some none) ∙ h in
        cc

pub placed_low : (schemas : List Schema) (name : List ℕ) → is_some (schema_of schemas name) ≡ true → position_of schemas name < length schemas
placed_low schemas name h = table_within schemas name (position_of schemas name) (sym (placed schemas name h))

-- ---- rows of a table

-- what holds of each row of a time in a part
each_row : (P : Row → Type 0) (col : ℕ) (rows : List Row) (ps : List Part) → All (λ (p : Part). (r : Row) → IsBetween col p.lo p.hi r → P r) ps → All P (flat_map (rows_in_part col rows) ps)
each_row P col rows [] h = λ k d lt. absurd (omega arith)
each_row P col rows (p ∷ ps) h =
    All-append P (rows_in_part col rows p) (flat_map (rows_in_part col rows) ps)
    (All-weaker (IsBetween col p.lo p.hi) P (h zero p (omega arith)) (rows_in_part col rows p) (in_part col p.lo p.hi rows))
    (each_row P col rows ps (λ k d lt. h (suc k) d (omega arith)))

told_each : (P : Row → Type 0) (s : SourceView) (table : ℕ) (db : Database) → table < length s.schemas → Tells s db
    → All (λ (p : Part). (r : Row) → IsBetween (schema_at s table).time_col p.lo p.hi r → P r) (parts_at s table) → All P (rows_at db table)
told_each P s table db there tells h = subst (All P) (tells.rows table there) (each_row P (schema_at s table).time_col (rows_at db table) (parts_at s table) h)

-- each row of a table has a time up to the greatest
told_timely : (s : SourceView) (table : ℕ) (db : Database) → IsSource s → table < length s.schemas → Tells s db → All (IsBetween (schema_at s table).time_col 0 MAX_TIME) (rows_at db table)
told_timely s table db law there tells =
    told_each (IsBetween (schema_at s table).time_col 0 MAX_TIME) s table db there tells
    (λ k d lt r x. let high : (get_or (parts_at s table) k d).hi ≤ MAX_TIME = ((law.parts table there).each k d lt).timely in (omega arith, omega (arith, x.1, high)))

-- one of moment 0 lies in a part that begins there
told_begun : (s : SourceView) (table from : ℕ) (db : Database) → table < length s.schemas → Tells s db → All (λ (p : Part). p.lo ≡ 0 → from ≡ 0) (parts_at s table)
    → All (λ (r : Row). time_of (schema_at s table).time_col r ≡ 0 → from ≡ 0) (rows_at db table)
told_begun s table from db there tells begun =
    told_each (λ (r : Row). time_of (schema_at s table).time_col r ≡ 0 → from ≡ 0) s table db there tells (λ k d lt r x none. begun k d lt (omega (arith, x.0, none)))

-- parts of which the first begins behind moment 0
pub none_begun : (parts : List Part) (d : Part) (from : ℕ) → AreApart parts → 0 < (get_or parts 0 d).lo → All (λ (p : Part). p.lo ≡ 0 → from ≡ 0) parts
none_begun parts d from are late zero e low none =
    let same : get_or parts 0 e ≡ get_or parts 0 d = get_or_default parts 0 e d low in
    let lo : (get_or parts 0 e).lo ≡ (get_or parts 0 d).lo = ap (λ (p : Part). p.lo) same in
    absurd (omega (arith, lo, none, late))
none_begun parts d from are late (suc k) e low none =
    let before = ends_before parts are 0 (suc k) (omega arith) low in
    let lo : (get_or parts (suc k) e).lo ≡ (get_or parts (suc k) no_part).lo = ap (λ (p : Part). p.lo) (get_or_default parts (suc k) e no_part low) in
    absurd (omega (arith, before, lo, none))

whole : (s : SourceView) (table : ℕ) (db : Database) → IsSource s → table < length s.schemas → Tells s db → rows_between (schema_at s table).time_col 0 MAX_TIME (rows_at db table) ≡ rows_at db table
whole s table db law there tells = all_between (schema_at s table).time_col 0 MAX_TIME (rows_at db table) (told_timely s table db law there tells)

pub told_whole : (s : SourceView) (table : ℕ) (rows : List Row) (o : Option Database) → IsSource s → table < length s.schemas → IfSome o (Tells s)
    → IfSome o (λ db. rows ≡ rows_between (schema_at s table).time_col 0 MAX_TIME (rows_at db table)) → IfSome o (λ db. rows ≡ rows_at db table)
told_whole s table rows None law there tells h = tt
told_whole s table rows (Some db) law there tells h = h ∙ whole s table db law there tells

kept_timely : (col : ℕ) (rows : List Row) → All (IsBetween col 0 MAX_TIME) rows → All (λ (r : Row). time_of col r ≤ MAX_TIME) rows
kept_timely col rows h = All-weaker (IsBetween col 0 MAX_TIME) (λ (r : Row). time_of col r ≤ MAX_TIME) (λ r x. x.1) rows h

-- what WHERE keeps of those in an interval that has the times of all that it keeps
pub told_kept : (s : SourceView) (table col lo hi : ℕ) (keep : Option Bound) (rows : List Row) (o : Option Database) → IsSource s → table < length s.schemas → col ≡ (schema_at s table).time_col
    → Catches (is_kept keep) col lo hi → IfSome o (Tells s) → IfSome o (λ db. rows ≡ rows_between (schema_at s table).time_col lo hi (rows_at db table))
    → IfSome o (λ db. kept_rows keep rows ≡ kept_rows keep (rows_at db table))
told_kept s table col lo hi keep rows None law there is catches tells h = tt
told_kept s table col lo hi keep rows (Some db) law there is catches tells h =
    let at = (schema_at s table).time_col in
    ap (kept_rows keep) h
    ∙ kept_between keep at lo hi (rows_at db table) (subst (λ (c : ℕ). Catches (is_kept keep) c lo hi) is catches) (kept_timely at (rows_at db table) (told_timely s table db law there tells))

-- ---- two tables

-- the schema of a table, as it is lent
pub schema_lent : (schemas lent : List Schema) (table : ℕ) (schema : Schema) → lent ≡ schemas → slice_get lent table ≡ Some schema → schema ≡ get_or schemas table no_schema
schema_lent schemas lent table schema same found = sym (get_or_from_slice_get lent table schema no_schema found) ∙ ap (λ (l : List Schema). get_or l table no_schema) same

pub schema_told : (s : SourceView) (db : Database) (table : ℕ) → Tells s db → table < length s.schemas → (table_in db table).schema ≡ schema_at s table
schema_told s db table tells there =
    let size : length db ≡ length s.schemas = sym (length-map db (λ (t : StoredTable). t.schema)) ∙ ap length tells.schemas in
    sym (get_or-map (λ (t : StoredTable). t.schema) db table no_table no_schema (omega (arith, size))) ∙ ap (λ (l : List Schema). get_or l table no_schema) tells.schemas

-- the rows of a join, of which WHERE keeps what it keeps of all
both_told : (s : SourceView) (db : Database) (left right left_time right_time : ℕ) (spec : JoinSpec) (cols : List Col) → left < length s.schemas → right < length s.schemas
    → left_time ≡ (schema_at s left).time_col → right_time ≡ (schema_at s right).time_col → cols ≡ (schema_at s right).cols → Tells s db
    → joined spec left_time right_time (absent cols) (rows_at db left) (rows_at db right) ≡ source_rows (Some (right, spec)) (Some (table_in db left)) (Some (table_in db right))
both_told s db left right left_time right_time spec cols low_left low_right is_left is_right are tells =
    let l = schema_told s db left tells low_left in
    let r = schema_told s db right tells low_right in
    ap₂ (λ (m n : ℕ). joined spec m n (absent cols) (rows_at db left) (rows_at db right)) (is_left ∙ ap (λ (x : Schema). x.time_col) (sym l)) (is_right ∙ ap (λ (x : Schema). x.time_col) (sym r))
    ∙ ap (λ (cs : List Col). joined spec (table_in db left).schema.time_col (table_in db right).schema.time_col (absent cs) (rows_at db left) (rows_at db right)) (are ∙ ap (λ (x : Schema). x.cols) (sym r))

pub told_joined : (s : SourceView) (o : Option Database) (left right left_time right_time from lo hi : ℕ) (spec : JoinSpec) (keep : Option Bound) (cols : List Col) (ls rs rows : List Row)
    → IsSource s → left < length s.schemas → right < length s.schemas
    → left_time ≡ (schema_at s left).time_col → right_time ≡ (schema_at s right).time_col → cols ≡ (schema_at s right).cols
    → Catches (is_kept keep) left_time lo hi → from ≤ lo → All (λ (p : Part). p.lo ≡ 0 → from ≡ 0) (parts_at s left)
    → IfSome o (Tells s) → IfSome o (λ db. ls ≡ rows_between (schema_at s left).time_col from hi (rows_at db left)) → IfSome o (λ db. rs ≡ rows_between (schema_at s right).time_col 0 hi (rows_at db right))
    → rows ≡ joined spec left_time right_time (absent cols) ls rs
    → IfSome o (λ db. kept_rows keep rows ≡ kept_rows keep (source_rows (Some (right, spec)) (Some (table_in db left)) (Some (table_in db right))))
told_joined s None left right left_time right_time from lo hi spec keep cols ls rs rows law low_left low_right is_left is_right are catches first begun tells lefts rights made = tt
told_joined s (Some db) left right left_time right_time from lo hi spec keep cols ls rs rows law low_left low_right is_left is_right are catches first begun tells lefts rights made =
    let of_left = rows_at db left in
    let of_right = rows_at db right in
    let some_left : ls ≡ rows_between left_time from hi of_left = lefts ∙ ap (λ (c : ℕ). rows_between c from hi of_left) (sym is_left) in
    let some_right : rs ≡ rows_between right_time 0 hi of_right = rights ∙ ap (λ (c : ℕ). rows_between c 0 hi of_right) (sym is_right) in
    ap (kept_rows keep) (made ∙ ap₂ (λ (xs ys : List Row). joined spec left_time right_time (absent cols) xs ys) some_left some_right)
    ∙ kept_joined keep spec left_time right_time from lo hi (absent cols) of_left of_right catches first
    (subst (λ (c : ℕ). All (λ (r : Row). time_of c r ≤ MAX_TIME) of_left) (sym is_left) (kept_timely (schema_at s left).time_col of_left (told_timely s left db law low_left tells)))
    (subst (λ (c : ℕ). All (λ (r : Row). time_of c r ≡ 0 → from ≡ 0) of_left) (sym is_left) (told_begun s left from db low_left tells begun))
    ∙ ap (kept_rows keep) (both_told s db left right left_time right_time spec cols low_left low_right is_left is_right are tells)

-- what is told after a call is told before it
pub told_before : (a b : SourceView) (P : Database → Type 0) → Stays a b → IfSome b.database P → IfSome a.database P
told_before a b P stays h = subst (λ (o : Option Database). IfSome o P) stays.database h

pub schema_before : (a b : SourceView) (table : ℕ) → Stays a b → schema_at b table ≡ schema_at a table
schema_before a b table stays = ap (λ (l : List Schema). get_or l table no_schema) stays.schemas

-- rows in an interval that are told after a call
pub between_before : (a b : SourceView) (table lo hi : ℕ) (set : ResultRows) → Stays a b → HasRowsBetween b table lo hi set → HasRowsBetween a table lo hi set
between_before a b table lo hi set stays h =
    subst (λ (x : Schema). IfSome a.database (λ db. rows_in set ≡ rows_between x.time_col lo hi (rows_at db table))) (schema_before a b table stays)
    (told_before a b (λ db. rows_in set ≡ rows_between (schema_at b table).time_col lo hi (rows_at db table)) stays h)
