-- What a line without a code leaves of the schemas.
use Rattle.std.proofs.Common.{◌≡◌, ℕ, zero, suc, ◌<◌, ◌≤◌, inl, Bool, true, false, cond, List, [], ◌∷◌, ◌++◌, Option, Some, None, length, map, drop, refl, sym, ap, ◌∙◌, subst, arith, append_assoc}
use Rattle.std.specs.Prelude.{codes, slice_index}
use Rattle.std.specs.List.{AllByRecursion, IsDistinct, fold, find}
use Rattle.std.specs.Option.{option_map}
use Rattle.std.proofs.lemmas.List.{append-nil, length_push}
use Rattle.std.proofs.lemmas.List.Elements.{All-push, All-from_recursion, recursion_from_All}
use Rattle.std.proofs.lemmas.Option.{same_Some}
use Rattle.std.proofs.lemmas.Str.{IsUtf8-from_ascii}
use Rattle.qd_base.specs.declared.limits.TheConstants.{MAX_COLUMNS}
use Rattle.qd_base.specs.declared.schema.ColType.TheVariants as kind
use Rattle.qd_base.specs.declared.schema.Col.{Col}
use Rattle.qd_base.specs.declared.schema.Schema.{Schema}
use Rattle.qd_base.specs.declared.op.Op.{Op}
use Rattle.qd_base.specs.declared.op.Op.TheVariants as op
use Rattle.qd_base.specs.Names.{IsColumnName, is_column_byte}
use Rattle.qd_base.specs.Rows.{Row as Cells}
use Rattle.qd_base.specs.Schemas.{same_name, at_name, with_column, schema_of, schemas_step, Fits}
use Rattle.qd_base.specs.Lawful.{AreLawful, AreSchemas, IsSchema, IsSound}
use Rattle.qd_base.proofs.Alike.{find-at_same, names_equal, turned}
use Rattle.qd_base.proofs.Lawful.{AreSchemas-step, get-below}
use Rattle.qd_base.proofs.Lists.{get-last, IsDistinct-push, IsDistinct-nil}
use Rattle.qd_ilp.specs.Line.{Item, Row}
use Rattle.qd_ilp.specs.Transaction.{created, line_ops, stamp_column, with_items}
use Rattle.qd_lines.specs.Drafts.{IsUsable}
use Rattle.qd_lines.specs.Codes.{IsCodeless}
use Rattle.qd_lines.proofs.CleanLemmas.{Clean, clean}
use Rattle.qd_lines.proofs.ColumnLemmas.{AreNew, added_by, distinct-with_items, each-with_items, new-added, with_items-behind, with_items_added}
use Rattle.qd_lines.proofs.MarkLemmas.{none_from}
use Rattle.qd_lines.proofs.OverlayLemmas.{found-alike}

-- ---- lists

drop-front : {X : Type 0} (xs ys : List X) → drop (length xs) (xs ++ ys) ≡ ys
drop-front [] ys = refl
drop-front (x ∷ xs) ys = drop-front xs ys

-- what is found passes, and has what each has
pub found-is : {X : Type 0} (P : X → Type 0) (p : X → Bool) (xs : List X) (x : X) → AllByRecursion P xs → find p xs ≡ Some x → P x × (p x ≡ true)
found-is P p [] x h e = absurd cc
found-is P p (y ∷ ys) x h e = go (p y) refl (found-is P p ys x h.1) e
  where
    go : (b : Bool) → p y ≡ b → (find p ys ≡ Some x → P x × (p x ≡ true)) → cond b (Some y) (find p ys) ≡ Some x → P x × (p x ≡ true)
    go true f ih e = let same : y ≡ x = same_Some y x e in subst (λ z. P z × (p z ≡ true)) same (h.0, f)
    go false f ih e = ih e

-- nothing that is there passes
missing-none : {X : Type 0} (p : X → Bool) (xs : List X) → find p xs ≡ None → AllByRecursion (λ x. p x ≡ false) xs
missing-none p [] e = tt
missing-none p (y ∷ ys) e = go (p y) refl (missing-none p ys) e
  where
    go : (b : Bool) → p y ≡ b → (find p ys ≡ None → AllByRecursion (λ x. p x ≡ false) ys) → cond b (Some y) (find p ys) ≡ None → AllByRecursion (λ x. p x ≡ false) (y ∷ ys)
    go true f ih e = absurd cc
    go false f ih e = (f, ih e)

-- ---- schemas, one by one

-- a table that is there is one that may be
pub schema-there : (schemas : List Schema) (name : List ℕ) (s : Schema) → AreSchemas schemas → schema_of schemas name ≡ Some s → IsSchema s × (same_name s.name name ≡ true)
schema-there schemas name s h e = found-is IsSchema (λ (t : Schema). same_name t.name name) schemas s (recursion_from_All IsSchema schemas h.each) e

-- its columns are distinct, and the designated one is among them
pub usable-there : (schemas : List Schema) (name : List ℕ) (s : Schema) → AreSchemas schemas → schema_of schemas name ≡ Some s → IsUsable s.cols s.time_col
usable-there schemas name s h e =
    let is : IsSchema s = (schema-there schemas name s h e).0 in
    record { distinct = is.distinct; there = get-below (λ (c : Col). c.kind ≡ kind.Time) s.cols s.time_col is.designated }

-- it is also found by its own name
pub found-itself : (schemas : List Schema) (name : List ℕ) (s : Schema) → AreSchemas schemas → schema_of schemas name ≡ Some s → schema_of schemas s.name ≡ Some s
found-itself schemas name s h e = found-alike schemas s.name name (schema-there schemas name s h e).1 ∙ e

-- ---- columns that are added to one table

abbrev pub adds : List ℕ → List Col → List Op
adds name cs = map (λ (c : Col). op.AddColumn name c) cs

module _ (name : List ℕ) where
  -- each fits and is sound, and so are the changes behind them
  pub adds-lawful : (schemas : List Schema) (s : Schema) (cs : List Col) (rest : List Op) → schema_of schemas name ≡ Some s → AreNew s.cols cs → ((ss : List Schema) → schema_of ss name ≡ Some (record s { cols = s.cols ++ cs }) → AreLawful ss rest) → AreLawful schemas (adds name cs ++ rest)
  adds-lawful schemas s [] rest e new k = k schemas (e ∙ ap (λ (cols : List Col). Some (record s { cols = cols })) (sym (append-nil s.cols)))
  adds-lawful schemas s (c ∷ cs) rest e new k = (
    rw e new.0,
    rw e (new.1, new.2),
    adds-lawful (at_name (λ (t : Schema). t.name) (with_column c) name schemas) (with_column c s) cs rest (find-at_same (λ (t : Schema). t.name) (with_column c) (λ t. refl) name name (names_equal.refl name) schemas ∙ ap (option_map (with_column c)) e) new.3
        (λ ss f. k ss (f ∙ ap (λ (cols : List Col). Some (record s { cols = cols })) (append_assoc s.cols (c ∷ []) cs))),
  )

  pub adds-schemas : (schemas : List Schema) (s : Schema) (cs : List Col) (table : List ℕ) (rows : List Cells) → AreSchemas schemas → schema_of schemas name ≡ Some s → AreNew s.cols cs → AreSchemas (fold schemas_step schemas (adds name cs ++ op.Insert table rows ∷ []))
  adds-schemas schemas s [] table rows h e new = h
  adds-schemas schemas s (c ∷ cs) table rows h e new =
      adds-schemas (at_name (λ (t : Schema). t.name) (with_column c) name schemas) (with_column c s) cs table rows
      (AreSchemas-step schemas (op.AddColumn name c) h (rw e new.0) (rw e (new.1, new.2))) (find-at_same (λ (t : Schema). t.name) (with_column c) (λ t. refl) name name (names_equal.refl name) schemas ∙ ap (option_map (with_column c)) e) new.3

-- ---- the table that a line makes

ascii : (bytes : List ℕ) → AllByRecursion (λ b. b < 128) bytes → (i : ℕ) → slice_index bytes i < 128
ascii [] h i = omega arith
ascii (b ∷ bs) h zero = h.0
ascii (b ∷ bs) h (suc i) = ascii bs h.1 i

small : AllByRecursion (λ b. b < 128) (codes "timestamp")
small = (omega arith, (omega arith, (omega arith, (omega arith, (omega arith, (omega arith, (omega arith, (omega arith, (omega arith, tt)))))))))

pub timestamp-named : IsColumnName (codes "timestamp")
timestamp-named = record {
  some = omega arith;
  short = omega arith;
  text = IsUtf8-from_ascii (codes "timestamp") (ascii (codes "timestamp") small);
  bytes = All-from_recursion (λ b. is_column_byte b ≡ true) (codes "timestamp") (refl, (refl, (refl, (refl, (refl, (refl, (refl, (refl, (refl, tt)))))))));
}

module _ (row : Row) (others : AllByRecursion (λ (i : Item). same_name (codes "timestamp") i.name ≡ false) row.items) where
  -- its columns in another order are as many
  pub as-many : length (created row).cols ≡ length (with_items (stamp_column ∷ []) row.items)
  as-many = length_push (with_items [] row.items) stamp_column ∙ (let e = ap length (with_items-behind stamp_column [] row.items others) in omega arith)

  pub created-distinct : IsDistinct (λ (a : Col) (b : Col). same_name a.name b.name) (created row).cols
  created-distinct = IsDistinct-push (λ (a : Col) (b : Col). same_name a.name b.name) (with_items [] row.items) stamp_column (distinct-with_items [] row.items (IsDistinct-nil (λ (a : Col) (b : Col). same_name a.name b.name)))
      (each-with_items (λ (c : Col). same_name c.name (codes "timestamp") ≡ false) [] row.items tt (apart row.items others))
    where
      apart : (is : List Item) → AllByRecursion (λ (i : Item). same_name (codes "timestamp") i.name ≡ false) is → AllByRecursion (λ (i : Item). same_name i.name (codes "timestamp") ≡ false) is
      apart [] h = tt
      apart (i ∷ is) h = (turned (codes "timestamp") i.name false h.0, apart is h.1)

module _ (schemas : List Schema) (cells now : ℕ) (row : Row) (c : Clean schemas cells now row) (new : schema_of schemas row.table ≡ None) where
  undesignated : AllByRecursion (λ (i : Item). same_name (codes "timestamp") i.name ≡ false) row.items
  undesignated = rw new at c.others

  pub created-is : IsSchema (created row)
  created-is = record {
    name = c.table;
    few = let many = as-many row undesignated in let few : length (with_items (stamp_column ∷ []) row.items) ≤ MAX_COLUMNS = rw new at c.columns in omega arith;
    names = All-push (λ (x : Col). IsColumnName x.name) (with_items [] row.items) stamp_column
        (All-from_recursion (λ (x : Col). IsColumnName x.name) (with_items [] row.items) (each-with_items (λ (x : Col). IsColumnName x.name) [] row.items tt c.names)) timestamp-named;
    distinct = created-distinct row undesignated;
    designated = rw (get-last (with_items [] row.items) stamp_column) refl;
    keys = inl refl;
  }

  -- it fits, and is sound
  pub create-lawful : Fits schemas (op.Create (created row)) × IsSound schemas (op.Create (created row))
  create-lawful = (
    rw (none_from (λ (s : Schema). same_name s.name row.table) schemas (missing-none (λ (s : Schema). same_name s.name row.table) schemas new)) refl,
    (c.tables (rw new refl), created-is),
  )

module _ (schemas : List Schema) (cells now : ℕ) (row : Row) (c : Clean schemas cells now row) (s : Schema) (there : schema_of schemas row.table ≡ Some s) where
  -- the columns that come behind those of a table that is there
  pub new-there : AreNew s.cols (added_by s.cols row.items)
  new-there =
      let few : length (with_items s.cols row.items) ≤ MAX_COLUMNS = rw there at c.columns in
      new-added s.cols row.items c.names (let same = ap length (with_items_added s.cols row.items) in omega arith)

  pub added-there : drop (length s.cols) (with_items s.cols row.items) ≡ added_by s.cols row.items
  added-there = ap (drop (length s.cols)) (with_items_added s.cols row.items) ∙ drop-front s.cols (added_by s.cols row.items)

-- what a line without a code leaves
pub schemas-line : (schemas : List Schema) (cells now : ℕ) (row : Row) → AreSchemas schemas → IsCodeless schemas cells now row → AreSchemas (fold schemas_step schemas (line_ops (schema_of schemas row.table) now row))
schemas-line schemas cells now row h none = go (schema_of schemas row.table) refl
  where
    c : Clean schemas cells now row
    c = clean schemas cells now row none

    go : (o : Option Schema) → schema_of schemas row.table ≡ o → AreSchemas (fold schemas_step schemas (line_ops o now row))
    go None e = let ok = create-lawful schemas cells now row c e in AreSchemas-step schemas (op.Create (created row)) h ok.0 ok.1
    go (Some s) e = rw (added-there schemas cells now row c s e) (adds-schemas s.name schemas s (added_by s.cols row.items) s.name _ h (found-itself schemas row.table s h e) (new-there schemas cells now row c s e))
