-- What an ALTER without a refusal changes is lawful.
use Rattle.std.proofs.Common.{◌≡◌, ℕ, ◌<◌, ◌≤◌, inl, true, not, [], ◌∷◌, ◌++◌, List, map, length, get_or, Option, Some, None, refl, sym, ap, ◌∙◌, subst, arith}
use Rattle.std.specs.Prelude.{is_some, slice_get, unwrap_or, IfSome, IsNone, IsSomeAnd}
use Rattle.std.specs.List.{flat_map, position}
use Rattle.std.proofs.lemmas.Bool.{ltb-true, leb-true}
use Rattle.std.proofs.lemmas.List.Elements.{recursion_from_All}
use Rattle.std.proofs.lemmas.Option.{get_or_from_slice_get, slice_get_within}
use Rattle.qd_base.specs.declared.code.Code.TheVariants as code
use Rattle.qd_base.specs.declared.limits.TheConstants.{MAX_COLUMNS}
use Rattle.qd_base.specs.declared.op.Op.TheVariants as op
use Rattle.qd_base.specs.declared.schema.Col.{Col}
use Rattle.qd_base.specs.declared.schema.ColType.TheVariants as kind
use Rattle.qd_base.specs.declared.schema.Schema.{Schema}
use Rattle.qd_base.specs.Lawful.{AreLawful, AreSchemas, IsSchema}
use Rattle.qd_base.specs.Schemas.{AreKeys, same_name, column_at, schema_of}
use Rattle.qd_base.proofs.Alike.{names_equal}
use Rattle.qd_base.proofs.NameIndex.{position-is}
use Rattle.qd_base.proofs.Taken.{IsDistinct-pair}
use Rattle.qd_sql_ast.specs.declared.tree.Alter.{Alter}
use Rattle.qd_sql_ast.specs.declared.tree.Change.{Change}
use Rattle.qd_sql_ast.specs.declared.tree.Change.TheVariants as changes
use Rattle.qd_sql_ast.specs.declared.tree.ColumnDef.{ColumnDef}
use Rattle.qd_sql_ast.specs.declared.tree.Dedup.{Dedup}
use Rattle.qd_sql_ast.specs.declared.tree.Name.{Name}
use Rattle.qd_meaning.specs.Refusals.{least, unless}
use Rattle.qd_meaning.specs.Laws.{NamesAreJudged}
use Rattle.qd_meaning.specs.Creating.{col_of, key_faults, place_in, table_name_faults, unknown_column}
use Rattle.qd_meaning.specs.Altering.{added_faults, alter_faults, altered, change_faults, changed, col_name, faults_in, has_room, name_faults, new_keys_faults, time_name}
use Rattle.qd_writes.proofs.CreateLawful.{empty_parts, holds, keys_are, not-true}
use Rattle.qd_writes.proofs.InsertLawful.{found-is, named_alike}
use Rattle.qd_writes.proofs.JudgeLemmas.{none-is_empty}

-- ---- what stands where nothing is refused

record IsClear (s : Schema) (a : Alter) : Type 0 where
  names : name_faults a.change ≡ []
  room : has_room s a.change ≡ true
  change : change_faults s a.change ≡ []

is_clear : (s : Schema) (a : Alter) → alter_faults (Some s) a ≡ [] → IsClear s a
is_clear s a e =
    let two = empty_parts (table_name_faults a.table ++ name_faults a.change) (faults_in s a) e in
    let one = empty_parts (table_name_faults a.table) (name_faults a.change) two.0 in
    let inside = empty_parts (unless (has_room s a.change) code.Columns a.table.at) (change_faults s a.change) two.1 in
    record { names = one.1; room = holds (has_room s a.change) code.Columns a.table.at inside.0; change = inside.1 }

few_columns : (s : Schema) (change : Change) → has_room s change ≡ true → length s.cols ≤ MAX_COLUMNS
few_columns s (changes.AddColumn c) h = let lt = ltb-true (length s.cols) MAX_COLUMNS h in omega arith
few_columns s (changes.EnableDedup d) h = leb-true (length s.cols) MAX_COLUMNS h
few_columns s changes.DisableDedup h = leb-true (length s.cols) MAX_COLUMNS h

-- the columns have numbers
pub few : (o : Option Schema) (s : Schema) (a : Alter) → alter_faults o a ≡ [] → o ≡ Some s → length s.cols ≤ MAX_COLUMNS
few o s a e is = few_columns s a.change (is_clear s a (subst (λ (t : Option Schema). alter_faults t a ≡ []) is e)).room

pub nothing_refused : (o : Option Schema) (a : Alter) → None ≡ least (alter_faults o a) → alter_faults o a ≡ []
nothing_refused o a e = none-is_empty (alter_faults o a) e

-- ---- the designated column is found by its name

designated_name : (s : Schema) → Name
designated_name s = record { at = 0; text = time_name s }

found_by_name : (s : Schema) → IsSchema s → (o : Option Col) → slice_get s.cols s.time_col ≡ o → IsSomeAnd o (λ (c : Col). c.kind ≡ kind.Time) → position (λ (c : Col). same_name c.name (col_name o)) s.cols ≡ Some s.time_col
found_by_name s sound None is there = absurd there
found_by_name s sound (Some col) is there =
    let low : s.time_col < length s.cols = slice_get_within s.cols s.time_col col is in
    let item : get_or s.cols s.time_col col ≡ col = get_or_from_slice_get s.cols s.time_col col col is in
    position-is (λ (c : Col). same_name c.name col.name) s.cols s.time_col col low
    (λ k below.
    ap (λ (c : Col). same_name (get_or s.cols k col).name c.name) (sym item)
    ∙ IsDistinct-pair (λ (a : Col) (b : Col). same_name a.name b.name) s.cols sound.distinct k s.time_col col below low)
    (ap (λ (c : Col). same_name c.name col.name) item ∙ names_equal.refl col.name)

time_place : (s : Schema) → IsSchema s → place_in s.cols (designated_name s) ≡ s.time_col
unfolding designated_name
time_place s sound = ap (λ (o : Option ℕ). unwrap_or o 0) (found_by_name s sound (slice_get s.cols s.time_col) refl sound.designated)

keys_fit : (s : Schema) → IsSchema s → (d : Dedup) → new_keys_faults s d ≡ [] → AreKeys s.cols s.time_col (map (place_in s.cols) d.keys)
unfolding designated_name
keys_fit s sound d e =
    let parts = empty_parts (flat_map (unknown_column s.cols) d.keys) (key_faults (time_name s) d) e in
    subst (λ (t : ℕ). AreKeys s.cols t (map (place_in s.cols) d.keys)) (time_place s sound) (keys_are s.cols (designated_name s) d parts.0 parts.1)

-- ---- the whole

module _ (names : NamesAreJudged) (schemas : List Schema) (s : Schema) (sound : IsSchema s) (itself : schema_of schemas s.name ≡ Some s) where
  added_lawful : (c : ColumnDef) → name_faults (changes.AddColumn c) ≡ [] → has_room s (changes.AddColumn c) ≡ true → added_faults s c ≡ [] → AreLawful schemas (op.AddColumn s.name (col_of c) ∷ [])
  added_lawful c name room e = (
    subst (λ (o : Option Schema). IsSomeAnd o (λ (t : Schema). IsNone (column_at t.cols c.name.text))) (sym itself)
        (not-true (is_some (column_at s.cols c.name.text)) (holds (not (is_some (column_at s.cols c.name.text))) code.DuplicateColumn c.name.at e)),
    (
      (names.column c.name.text).0 (holds _ code.Name c.name.at name),
      subst (λ (o : Option Schema). IfSome o (λ (t : Schema). length t.cols < MAX_COLUMNS)) (sym itself) (ltb-true (length s.cols) MAX_COLUMNS room),
    ),
    tt,
  )

  set_lawful : (keys : List ℕ) → AreKeys s.cols s.time_col keys → AreLawful schemas (op.SetKeys s.name keys ∷ [])
  set_lawful keys are = (subst (λ (o : Option Schema). IsSomeAnd o (λ (t : Schema). AreKeys t.cols t.time_col keys)) (sym itself) are, tt, tt)

  changed_lawful : (change : Change) → name_faults change ≡ [] → has_room s change ≡ true → change_faults s change ≡ [] → AreLawful schemas (changed s change ∷ [])
  changed_lawful (changes.AddColumn c) name room e = added_lawful c name room e
  changed_lawful (changes.EnableDedup d) name room e = set_lawful (map (place_in s.cols) d.keys) (keys_fit s sound d e)
  changed_lawful changes.DisableDedup name room e = set_lawful [] (inl refl)

alter_lawful : NamesAreJudged → (schemas : List Schema) (s : Schema) (a : Alter) → AreSchemas schemas → schema_of schemas a.table.text ≡ Some s → alter_faults (Some s) a ≡ [] → AreLawful schemas (changed s a.change ∷ [])
alter_lawful names schemas s a are is e =
    let clear = is_clear s a e in
    let there = found-is IsSchema (λ (t : Schema). same_name t.name a.table.text) schemas s (recursion_from_All IsSchema schemas are.each) is in
    let itself : schema_of schemas s.name ≡ Some s = named_alike schemas s.name a.table.text there.1 ∙ is in
    changed_lawful names schemas s there.0 itself a.change clear.names clear.room clear.change

pub altered_lawful : NamesAreJudged → (schemas : List Schema) (o : Option Schema) (a : Alter) → AreSchemas schemas → o ≡ schema_of schemas a.table.text → alter_faults o a ≡ [] → AreLawful schemas (altered o a)
altered_lawful names schemas None a are is e = tt
altered_lawful names schemas (Some s) a are is e = alter_lawful names schemas s a are (sym is) e
