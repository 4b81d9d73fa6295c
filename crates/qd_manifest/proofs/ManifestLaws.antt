-- Manifests: what is read is spelled so, and what is spelled so is read.
use Rattle.std.proofs.Common.{◌≡◌, ℕ, ◌+◌, ◌-◌, ◌*◌, ◌^◌, ◌<◌, ◌≤◌, Bool, true, false, cond, leb, eqb, not, nat_eq, List, [], ◌∷◌, ◌++◌, length, Result, Ok, Err, is_some, get_or, All, refl, sym, ap, subst, ◌∙◌, append_assoc, append-nil, arith}
use Rattle.std.specs.List.{flat_map, IsDistinct, AllByRecursion, position}
use Rattle.std.specs.Int.{w16, w64}
use Rattle.std.proofs.lemmas.Bool.{and_from, not_from_false, leb-true, le-leb, eqb-true}
use Rattle.std.proofs.lemmas.List.{length-append, length-map, map_push, map-append, nil_from_length, get_or_append_left, get_or-append-add}
use Rattle.std.proofs.lemmas.List.Concat.{flat_map-append}
use Rattle.std.proofs.lemmas.List.Elements.{All-push, All-nil, All-append, All-weaker}
use Rattle.qd_base.specs.declared.limits.TheConstants.{MAX_TABLES}
use Rattle.qd_base.specs.declared.schema.Schema.{Schema}
use Rattle.qd_base.specs.Schemas.{same_name}
use Rattle.qd_base.specs.Lawful.{IsSchema, AreSchemas}
use Rattle.qd_base.proofs.Lists.{IsDistinct-push, IsDistinct-nil, each-map, each-from_map}
use Rattle.qd_base.proofs.Tables.{position-none}
use Rattle.qd_fields.specs.Spelling.{u16_bytes, u64_bytes, schema_bytes}
use Rattle.qd_fields.specs.Layout.{Read, ◌>>=◌, kept, items, number_at}
use Rattle.qd_manifest.specs.declared.shape.TableParts.{TableParts}
use Rattle.qd_manifest.specs.declared.shape.Manifest.{Manifest}
use Rattle.qd_manifest.specs.declared.shape.TheConstants.{BLOCKS_PER_TRANSACTION}
use Rattle.qd_manifest.specs.Spelling.{AreParts, blocks_in, blocks_of, rows_shown, schemas_in, IsManifest, part_bytes, table_bytes, manifest_bytes, SpellsManifest}
use Rattle.qd_manifest.specs.Rules.{is_table_name, may_be_next, may_be_table}
use Rattle.qd_manifest.specs.Layout.{schema_from, parts_from, table_from, manifest_from}
use Rattle.qd_manifest.specs.Reading.{IsDamagedAt}
use Rattle.qd_fields.proofs.Steps.{AreBytes, bind_ok, bind_again, ok_is, test_ok, kept_ok, kept_again, Takes, Takes-then, wide16, wide64, number_takes, number_again, items_take, items_again, flat_map-push, All-amid}
use Rattle.qd_manifest.proofs.NameLemmas.{table_test, position-absent, distinct_before}
use Rattle.qd_manifest.proofs.SchemaLaws.{schema_takes, schema_again}
use Rattle.qd_manifest.proofs.PartLaws.{AreNext, parts_take, parts_again}

abbrev same_schema : Schema → Schema → Bool
same_schema a b = same_name a.name b.name

-- tables that are read
record AreTables (most next : ℕ) (tables : List TableParts) : Type 0 where
  schemas : All IsSchema (schemas_in tables)
  named : IsDistinct same_schema (schemas_in tables)
  parts : All (λ (t : TableParts). AreParts t.schema t.parts) tables
  below : All (λ b. b < next) (blocks_of tables)
  distinct : IsDistinct nat_eq (blocks_of tables)
  few : All (λ (t : TableParts). rows_shown t.parts ≤ most) tables

no_tables : (most next : ℕ) → AreTables most next []
no_tables most next = record { schemas = All-nil IsSchema; named = IsDistinct-nil same_schema; parts = All-nil (λ (t : TableParts). AreParts t.schema t.parts); below = All-nil (λ b. b < next); distinct = IsDistinct-nil nat_eq; few = All-nil (λ (t : TableParts). rows_shown t.parts ≤ most) }

-- the first of distinct elements are distinct
module _ {X : Type 0} (e : X → X → Bool) where
  front_each : (P : X → Type 0) (xs ys : List X) → AllByRecursion P (xs ++ ys) → AllByRecursion P xs
  front_each P [] ys h = tt
  front_each P (x ∷ xs) ys h = (h.0, front_each P xs ys h.1)

  front_distinct : (xs ys : List X) → IsDistinct e (xs ++ ys) → IsDistinct e xs
  unfolding IsDistinct
  front_distinct [] ys d = tt
  front_distinct (x ∷ xs) ys d = (front_each (λ y. e x y ≡ false) xs ys d.0, front_distinct xs ys d.1)

table_takes : (most next : ℕ) (before : List TableParts) (bytes : List ℕ) (x : TableParts × List ℕ) → AreTables most next before → AreBytes bytes → table_from most next before bytes ≡ Ok x → AreTables most next (before ++ x.0 ∷ []) × Takes bytes (table_bytes x.0) x.1
unfolding table_from table_bytes
table_takes most next before bytes x good known e =
    let a = bind_ok (schema_from before bytes) (λ schema. parts_from most next (blocks_of before) schema.0 schema.1 >>= λ parts. Ok (record { schema = schema.0; parts = parts.0 }, parts.1)) x e in
    let s = a.0 in
    let b = bind_ok (parts_from most next (blocks_of before) s.0 s.1) (λ parts. Ok (record { schema = s.0; parts = parts.0 }, parts.1)) x a.2 in
    let p = b.0 in
    let t0 = schema_takes before bytes s known a.1 in
    let t1 = parts_take most next (blocks_of before) s.0 s.1 p good.distinct t0.2.rest_fits b.1 in
    let both = Takes-then bytes (schema_bytes s.0) s.1 (u64_bytes (length p.0) ++ flat_map part_bytes p.0) p.1 t0.2 t1.2 in
    let t : TableParts = record { schema = s.0; parts = p.0 } in
    let schemas_more : schemas_in (before ++ t ∷ []) ≡ schemas_in before ++ s.0 ∷ [] = map_push (λ (u : TableParts). u.schema) before t in
    let blocks_more : blocks_of (before ++ t ∷ []) ≡ blocks_of before ++ blocks_in p.0 = flat_map-push (λ (u : TableParts). blocks_in u.parts) before t in
    let apart : AllByRecursion (λ (u : Schema). same_schema u s.0 ≡ false) (schemas_in before) = each-map (λ (u : TableParts). u.schema) (λ (u : Schema). same_schema u s.0 ≡ false) before (position-none (λ (u : TableParts). same_name u.schema.name s.0.name) before t0.1) in
    let next_parts : AreNext most next (blocks_of before) s.0 p.0 = t1.0 in
    let are : AreParts s.0 p.0 = record { each = next_parts.each; apart = next_parts.apart; few = t1.1 } in
    let more : AreTables most next (before ++ t ∷ []) = record {
      schemas = subst (All IsSchema) (sym schemas_more) (All-push IsSchema (schemas_in before) s.0 good.schemas t0.0);
      named = subst (IsDistinct same_schema) (sym schemas_more) (IsDistinct-push same_schema (schemas_in before) s.0 good.named apart);
      parts = All-push (λ (u : TableParts). AreParts u.schema u.parts) before t good.parts are;
      below = subst (All (λ n. n < next)) (sym blocks_more) (All-append (λ n. n < next) (blocks_of before) (blocks_in p.0) good.below next_parts.below);
      distinct = subst (IsDistinct nat_eq) (sym blocks_more) next_parts.distinct;
      few = All-push (λ (u : TableParts). rows_shown u.parts ≤ most) before t good.few next_parts.rows;
    } in
    subst (λ (y : TableParts × List ℕ). AreTables most next (before ++ y.0 ∷ []) × Takes bytes (schema_bytes y.0.schema ++ (u64_bytes (length y.0.parts) ++ flat_map part_bytes y.0.parts)) y.1) (ok_is (t, p.1) x b.2) (more, both)

table_again : (most next : ℕ) (all before : List TableParts) (t : TableParts) (after : List TableParts) (rest : List ℕ) → next < 2 ^ 64 → AreTables most next all → all ≡ before ++ t ∷ after → table_from most next before (table_bytes t ++ rest) ≡ Ok (t, rest)
unfolding table_from table_bytes
table_again most next all before t after rest fits good e =
    let s = t.schema in
    let schemas_split : schemas_in all ≡ schemas_in before ++ s ∷ schemas_in after = ap schemas_in e ∙ map-append (λ (u : TableParts). u.schema) before (t ∷ after) in
    let blocks_split : blocks_of all ≡ (blocks_of before ++ blocks_in t.parts) ++ blocks_of after = ap blocks_of e ∙ flat_map-append (λ (u : TableParts). blocks_in u.parts) before (t ∷ after) ∙ sym (append_assoc (blocks_of before) (blocks_in t.parts) (blocks_of after)) in
    let sound : IsSchema s = All-amid IsSchema (schemas_in all) (schemas_in before) s (schemas_in after) schemas_split good.schemas in
    let parts : AreParts s t.parts = All-amid (λ (u : TableParts). AreParts u.schema u.parts) all before t after e good.parts in
    let rows : rows_shown t.parts ≤ most = All-amid (λ (u : TableParts). rows_shown u.parts ≤ most) all before t after e good.few in
    let apart = each-from_map (λ (u : TableParts). u.schema) (λ (u : Schema). same_schema u s ≡ false) before (distinct_before same_schema (schemas_in before) s (schemas_in after) (subst (IsDistinct same_schema) schemas_split good.named)) in
    let rule : may_be_table before s.name ≡ true = and_from (is_table_name s.name) (not (is_some (position (λ (u : TableParts). same_name u.schema.name s.name) before))) (table_test s.name sound.name) (not_from_false (is_some (position (λ (u : TableParts). same_name u.schema.name s.name) before)) (position-absent (λ (u : TableParts). same_name u.schema.name s.name) before apart)) in
    let below : All (λ n. n < next) (blocks_in t.parts) = part_all (λ n. n < next) (blocks_of before) (blocks_in t.parts) (blocks_of after) (subst (All (λ n. n < next)) blocks_split good.below) in
    let distinct : IsDistinct nat_eq (blocks_of before ++ blocks_in t.parts) = front_distinct nat_eq (blocks_of before ++ blocks_in t.parts) (blocks_of after) (subst (IsDistinct nat_eq) blocks_split good.distinct) in
    let behind = u64_bytes (length t.parts) ++ (flat_map part_bytes t.parts ++ rest) in
    let g1 : (u64_bytes (length t.parts) ++ flat_map part_bytes t.parts) ++ rest ≡ behind = append_assoc (u64_bytes (length t.parts)) (flat_map part_bytes t.parts) rest in
    let g0 : (schema_bytes s ++ (u64_bytes (length t.parts) ++ flat_map part_bytes t.parts)) ++ rest ≡ schema_bytes s ++ behind = append_assoc (schema_bytes s) (u64_bytes (length t.parts) ++ flat_map part_bytes t.parts) rest ∙ ap (λ l. schema_bytes s ++ l) g1 in
    let one = schema_again before s behind sound rule in
    let two = parts_again most next (blocks_of before) s t.parts rest fits sound.few parts.few (record { each = parts.each; apart = parts.apart; below = below; distinct = distinct; rows = rows }) in
    let step1 : Schema × List ℕ → Read TableParts = λ schema. parts_from most next (blocks_of before) schema.0 schema.1 >>= λ parts. Ok (record { schema = schema.0; parts = parts.0 }, parts.1) in
    ap (table_from most next before) g0
    ∙ bind_again (schema_from before (schema_bytes s ++ behind)) step1 (s, behind) (t, rest) one
    (bind_again (parts_from most next (blocks_of before) s behind) (λ parts. Ok (record { schema = s; parts = parts.0 }, parts.1)) (t.parts, rest) (t, rest) two refl)
  where
    part_all : (P : ℕ → Type 0) (xs ys zs : List ℕ) → All P ((xs ++ ys) ++ zs) → All P ys
    part_all P xs ys zs h = λ k d lt.
        let place : length xs + k < length ((xs ++ ys) ++ zs) = omega (arith, length-append (xs ++ ys) zs, length-append xs ys) in
        let is : get_or ((xs ++ ys) ++ zs) (length xs + k) d ≡ get_or ys k d = get_or_append_left (xs ++ ys) zs d (length xs + k) (omega (arith, length-append xs ys)) ∙ get_or-append-add xs ys k d in
        subst P is (h (length xs + k) d place)

-- what is read is the manifest that the bytes spell
pub manifest_takes : (n : ℕ) (bytes : List ℕ) (m : Manifest) → AreBytes bytes → manifest_from n bytes ≡ Ok m → SpellsManifest n bytes m
unfolding manifest_from manifest_bytes
manifest_takes n bytes m known e =
    let a = bind_ok (kept (may_be_next n) bytes (number_at w64 bytes)) (λ next. kept (λ k. leb k MAX_TABLES) next.1 (number_at w16 next.1) >>= λ count. items (table_from (n * BLOCKS_PER_TRANSACTION) next.0) count.0 [] count.1 >>= λ tables. cond (eqb (length tables.1) 0) (Ok (record { next_block = next.0; shape = tables.0 })) (Err (length tables.1))) m e in
    let next = a.0 in
    let b = bind_ok (kept (λ k. leb k MAX_TABLES) next.1 (number_at w16 next.1)) (λ count. items (table_from (n * BLOCKS_PER_TRANSACTION) next.0) count.0 [] count.1 >>= λ tables. cond (eqb (length tables.1) 0) (Ok (record { next_block = next.0; shape = tables.0 })) (Err (length tables.1))) m a.2 in
    let count = b.0 in
    let c = bind_ok (items (table_from (n * BLOCKS_PER_TRANSACTION) next.0) count.0 [] count.1) (λ tables. cond (eqb (length tables.1) 0) (Ok (record { next_block = next.0; shape = tables.0 })) (Err (length tables.1))) m b.2 in
    let tables = c.0 in
    let made : Manifest = record { next_block = next.0; shape = tables.0 } in
    let g = test_ok (eqb (length tables.1) 0) (length tables.1) made m c.2 in
    let k0 = kept_ok (may_be_next n) bytes (number_at w64 bytes) next a.1 in
    let k1 = kept_ok (λ k. leb k MAX_TABLES) next.1 (number_at w16 next.1) count b.1 in
    let t0 = number_takes w64 (2 ^ 64) wide64 bytes next.0 next.1 known k0.0 in
    let t1 = number_takes w16 (2 ^ 16) wide16 next.1 count.0 count.1 t0.0.rest_fits k1.0 in
    let t2 = items_take (table_from (n * BLOCKS_PER_TRANSACTION) next.0) table_bytes (AreTables (n * BLOCKS_PER_TRANSACTION) next.0) (table_takes (n * BLOCKS_PER_TRANSACTION) next.0) count.0 count.1 tables (no_tables (n * BLOCKS_PER_TRANSACTION) next.0) t1.0.rest_fits c.1 in
    let good : AreTables (n * BLOCKS_PER_TRANSACTION) next.0 tables.0 = t2.0 in
    let nothing : tables.1 ≡ [] = nil_from_length tables.1 (eqb-true (length tables.1) 0 g.0) in
    let e12 = Takes-then next.1 (u16_bytes count.0) count.1 (flat_map table_bytes tables.0) tables.1 t1.0 t2.2 in
    let e02 = Takes-then bytes (u64_bytes next.0) next.1 (u16_bytes count.0 ++ flat_map table_bytes tables.0) tables.1 t0.0 e12 in
    let text = u64_bytes next.0 ++ (u16_bytes count.0 ++ flat_map table_bytes tables.0) in
    let whole : bytes ≡ u64_bytes next.0 ++ (u16_bytes (length tables.0) ++ flat_map table_bytes tables.0) = e02.parts ∙ ap (λ r. text ++ r) nothing ∙ append-nil text ∙ ap (λ k. u64_bytes next.0 ++ (u16_bytes k ++ flat_map table_bytes tables.0)) (sym t2.1) in
    let few : length (schemas_in tables.0) ≤ MAX_TABLES = omega (arith, length-map tables.0 (λ (u : TableParts). u.schema), t2.1, leb-true count.0 MAX_TABLES k1.1) in
    let sound : IsManifest n made = record {
      next = leb-true next.0 (n * BLOCKS_PER_TRANSACTION) k0.1;
      next_fits = t0.1;
      schemas = record { few = few; each = good.schemas; distinct = good.named };
      parts = good.parts;
      below = good.below;
      distinct = good.distinct;
      few = good.few;
    } in
    let spelled : SpellsManifest n bytes made = record { sound = sound; whole = whole } in
    subst (SpellsManifest n bytes) g.1 spelled

-- what is spelled is read
pub manifest_again : (n : ℕ) (bytes : List ℕ) (m : Manifest) → SpellsManifest n bytes m → manifest_from n bytes ≡ Ok m
unfolding manifest_from manifest_bytes
manifest_again n bytes m spelled =
    let sound : IsManifest n m = spelled.sound in
    let schemas : AreSchemas (schemas_in m.shape) = sound.schemas in
    let good : AreTables (n * BLOCKS_PER_TRANSACTION) m.next_block m.shape = record { schemas = schemas.each; named = schemas.distinct; parts = sound.parts; below = sound.below; distinct = sound.distinct; few = sound.few } in
    let few : length m.shape ≤ MAX_TABLES = (let most : length (schemas_in m.shape) ≤ MAX_TABLES = schemas.few in omega (arith, length-map m.shape (λ (u : TableParts). u.schema))) in
    let r2 = flat_map table_bytes m.shape in
    let r1 = u16_bytes (length m.shape) ++ r2 in
    let r0 = u64_bytes m.next_block ++ r1 in
    let one : kept (may_be_next n) r0 (number_at w64 r0) ≡ Ok (m.next_block, r1) = kept_again (may_be_next n) r0 (number_at w64 r0) (m.next_block, r1) (number_again w64 (2 ^ 64) wide64 m.next_block r1 sound.next_fits) (le-leb m.next_block (n * BLOCKS_PER_TRANSACTION) sound.next) in
    let two : kept (λ k. leb k MAX_TABLES) r1 (number_at w16 r1) ≡ Ok (length m.shape, r2) = kept_again (λ k. leb k MAX_TABLES) r1 (number_at w16 r1) (length m.shape, r2) (number_again w16 (2 ^ 16) wide16 (length m.shape) r2 (let most : length m.shape ≤ 1024 = few in omega arith)) (le-leb (length m.shape) MAX_TABLES few) in
    let three : items (table_from (n * BLOCKS_PER_TRANSACTION) m.next_block) (length m.shape) [] r2 ≡ Ok (m.shape, []) = ap (items (table_from (n * BLOCKS_PER_TRANSACTION) m.next_block) (length m.shape) []) (sym (append-nil r2)) ∙ items_again (table_from (n * BLOCKS_PER_TRANSACTION) m.next_block) table_bytes m.shape (λ before t after more e. table_again (n * BLOCKS_PER_TRANSACTION) m.next_block m.shape before t after more sound.next_fits good e) [] in
    let step2 : ℕ × List ℕ → Result Manifest ℕ = λ count. items (table_from (n * BLOCKS_PER_TRANSACTION) m.next_block) count.0 [] count.1 >>= λ tables. cond (eqb (length tables.1) 0) (Ok (record { next_block = m.next_block; shape = tables.0 })) (Err (length tables.1)) in
    let step1 : ℕ × List ℕ → Result Manifest ℕ = λ next. kept (λ k. leb k MAX_TABLES) next.1 (number_at w16 next.1) >>= λ count. items (table_from (n * BLOCKS_PER_TRANSACTION) next.0) count.0 [] count.1 >>= λ tables. cond (eqb (length tables.1) 0) (Ok (record { next_block = next.0; shape = tables.0 })) (Err (length tables.1)) in
    ap (manifest_from n) spelled.whole
    ∙ bind_again (kept (may_be_next n) r0 (number_at w64 r0)) step1 (m.next_block, r1) m one
    (bind_again (kept (λ k. leb k MAX_TABLES) r1 (number_at w16 r1)) step2 (length m.shape, r2) m two
    (bind_again (items (table_from (n * BLOCKS_PER_TRANSACTION) m.next_block) (length m.shape) [] r2) (λ tables. cond (eqb (length tables.1) 0) (Ok (record { next_block = m.next_block; shape = tables.0 })) (Err (length tables.1))) (m.shape, []) m three refl))

-- ---- the laws

spelling_fits : (n k : ℕ) (m : Manifest) → IsManifest n m → IsManifest (n + k) m
spelling_fits n k m h = record {
  next = most;
  next_fits = h.next_fits;
  schemas = h.schemas;
  parts = h.parts;
  below = h.below;
  distinct = h.distinct;
  few = All-weaker (λ (t : TableParts). rows_shown t.parts ≤ n * BLOCKS_PER_TRANSACTION) (λ (t : TableParts). rows_shown t.parts ≤ (n + k) * BLOCKS_PER_TRANSACTION)
      (λ t le. omega (arith, le)) m.shape h.few;
}
  where
    most : m.next_block ≤ (n + k) * BLOCKS_PER_TRANSACTION
    most = (let le : m.next_block ≤ n * BLOCKS_PER_TRANSACTION = h.next in omega arith)

ok_same : (a b : Manifest) → ◌≡◌ {A = Result Manifest ℕ} (Ok a) (Ok b) → a ≡ b
ok_same a b e = cc

pub one_manifest : (n k : ℕ) (bytes : List ℕ) (a b : Manifest) → SpellsManifest n bytes a → SpellsManifest k bytes b → a ≡ b
one_manifest n k bytes a b p q =
    let swap : k + n ≡ n + k = omega arith in
    let first : SpellsManifest (n + k) bytes a = record { sound = spelling_fits n k a p.sound; whole = p.whole } in
    let second : SpellsManifest (n + k) bytes b = record { sound = subst (λ (j : ℕ). IsManifest j b) swap (spelling_fits k n b q.sound); whole = q.whole } in
    ok_same a b (sym (manifest_again (n + k) bytes a first) ∙ manifest_again (n + k) bytes b second)

-- where reading fails, nothing is spelled
pub not_spelled : (n : ℕ) (bytes : List ℕ) (left : ℕ) (m : Manifest) → manifest_from n bytes ≡ Err left → SpellsManifest n bytes m → ⊥
not_spelled n bytes left m e spelled = cc_no (sym e ∙ manifest_again n bytes m spelled)
  where
    cc_no : ◌≡◌ {A = Result Manifest ℕ} (Err left) (Ok m) → ⊥
    cc_no h = cc

err_same : (a b : ℕ) → ◌≡◌ {A = Result Manifest ℕ} (Err a) (Err b) → a ≡ b
err_same a b e = cc

pub one_place : (n : ℕ) (bytes : List ℕ) (at other : ℕ) → IsDamagedAt n bytes at → IsDamagedAt n bytes other → at ≡ other
one_place n bytes at other p q = p.2 ∙ ap (λ left. length bytes - left) (err_same p.0 q.0 (sym p.1 ∙ q.1)) ∙ sym q.2

pub damaged_spells_none : (n : ℕ) (bytes : List ℕ) (at : ℕ) (m : Manifest) → IsDamagedAt n bytes at → SpellsManifest n bytes m → ⊥
damaged_spells_none n bytes at m damaged spelled = not_spelled n bytes damaged.0 m damaged.1 spelled

pub one_text : (n k : ℕ) (a b : List ℕ) (m : Manifest) → SpellsManifest n a m → SpellsManifest k b m → a ≡ b
one_text n k a b m p q = p.whole ∙ sym q.whole
