-- Columns and schemas: what is read is spelled so, and what is spelled so is read.
use Rattle.std.proofs.Common.{◌≡◌, ℕ, ◌+◌, ◌^◌, ◌<◌, ◌≤◌, eqb, List, [], ◌∷◌, ◌++◌, length, Ok, Some, All, refl, sym, ap, subst, ◌∙◌, append_assoc, arith}
use Rattle.std.specs.List.{flat_map}
use Rattle.std.specs.Int.{w16}
use Rattle.std.proofs.lemmas.Bool.{eqb-true}
use Rattle.std.proofs.lemmas.List.Elements.{All-push, All-nil}
use Rattle.qd_base.specs.declared.schema.Col.{Col}
use Rattle.qd_base.specs.declared.schema.ColType.{ColType}
use Rattle.qd_base.specs.declared.schema.ColType.TheVariants as kind
use Rattle.qd_base.specs.declared.schema.PartUnit.{PartUnit}
use Rattle.qd_base.specs.declared.schema.PartUnit.TheVariants as units
use Rattle.qd_base.specs.declared.schema.Schema.{Schema}
use Rattle.qd_fields.specs.Spelling.{u16_bytes, name_bytes, keys_bytes, code_of_kind, code_of_unit, column_bytes, schema_bytes, FitsColumn, FitsKeys, FitsSchema}
use Rattle.qd_fields.specs.Layout.{Read, ◌>>=◌, coded, items, each, number_at, byte_at, name_at, listed, kind_of_code, unit_of_code, column_at, keys_at, schema_at}
use Rattle.qd_fields.proofs.Steps.{AreBytes, bind_ok, bind_again, ok_is, coded_ok, coded_again, Takes, Takes-then, wide16, number_takes, number_again, byte_takes, name_takes, name_again, find_passes, items_take, items_again, All-amid}

-- ---- codes

kind_code : (code : ℕ) (k : ColType) → kind_of_code code ≡ Some k → code ≡ code_of_kind k
kind_code code k e = sym (eqb-true (code_of_kind k) code (find_passes (λ j. eqb (code_of_kind j) code) (kind.Long ∷ kind.Bool ∷ kind.Symbol ∷ kind.Varchar ∷ kind.Time ∷ []) k e))

code_kind : (k : ColType) → kind_of_code (code_of_kind k) ≡ Some k
code_kind kind.Long = refl
code_kind kind.Bool = refl
code_kind kind.Symbol = refl
code_kind kind.Varchar = refl
code_kind kind.Time = refl

unit_code : (code : ℕ) (u : PartUnit) → unit_of_code code ≡ Some u → code ≡ code_of_unit u
unit_code code u e = sym (eqb-true (code_of_unit u) code (find_passes (λ j. eqb (code_of_unit j) code) (units.Hour ∷ units.Day ∷ units.Month ∷ units.Year ∷ []) u e))

code_unit : (u : PartUnit) → unit_of_code (code_of_unit u) ≡ Some u
code_unit units.Hour = refl
code_unit units.Day = refl
code_unit units.Month = refl
code_unit units.Year = refl

-- ---- columns

pub column_takes : (bytes : List ℕ) (x : Col × List ℕ) → AreBytes bytes → column_at bytes ≡ Ok x → FitsColumn x.0 × Takes bytes (column_bytes x.0) x.1
unfolding column_at column_bytes
column_takes bytes x known e =
    let a = bind_ok (coded kind_of_code bytes (byte_at bytes)) (λ k. name_at k.1 >>= λ n. Ok (record { name = n.0; kind = k.0 }, n.1)) x e in
    let b = bind_ok (name_at a.0.1) (λ n. Ok (record { name = n.0; kind = a.0.0 }, n.1)) x a.2 in
    let code = coded_ok kind_of_code bytes (byte_at bytes) a.0 a.1 in
    let first = byte_takes bytes code.0 a.0.1 known code.1 in
    let second = name_takes a.0.1 b.0.0 b.0.1 first.0.rest_fits b.1 in
    let both = Takes-then bytes (code.0 ∷ []) a.0.1 (name_bytes b.0.0) b.0.1 first.0 second.0 in
    let whole : Takes bytes (code_of_kind a.0.0 ∷ name_bytes b.0.0) b.0.1 = subst (λ (k : ℕ). Takes bytes (k ∷ name_bytes b.0.0) b.0.1) (kind_code code.0 a.0.0 code.2) both in
    let col : Col = record { name = b.0.0; kind = a.0.0 } in
    subst (λ (y : Col × List ℕ). FitsColumn y.0 × Takes bytes (code_of_kind y.0.kind ∷ name_bytes y.0.name) y.1) (ok_is (col, b.0.1) x b.2) (second.1, whole)

pub column_again : (c : Col) (rest : List ℕ) → column_at (column_bytes c ++ rest) ≡ Ok (c, rest)
unfolding column_at column_bytes
column_again c rest =
    let bytes = code_of_kind c.kind ∷ (name_bytes c.name ++ rest) in
    let one : coded kind_of_code bytes (byte_at bytes) ≡ Ok (c.kind, name_bytes c.name ++ rest) = coded_again kind_of_code bytes (byte_at bytes) (code_of_kind c.kind) c.kind (name_bytes c.name ++ rest) refl (code_kind c.kind) in
    bind_again (coded kind_of_code bytes (byte_at bytes)) (λ k. name_at k.1 >>= λ n. Ok (record { name = n.0; kind = k.0 }, n.1)) (c.kind, name_bytes c.name ++ rest) (c, rest) one (bind_again (name_at (name_bytes c.name ++ rest)) (λ n. Ok (record { name = n.0; kind = c.kind }, n.1)) (c.name, rest) (c, rest) (name_again c.name rest) refl)

-- ---- lists behind their numbers

module _ {A : Type 0} (f : List ℕ → Read A) (spell : A → List ℕ) (Fits : A → Type 0) where
  listed_takes : ((bytes : List ℕ) (x : A × List ℕ) → AreBytes bytes → f bytes ≡ Ok x → Fits x.0 × Takes bytes (spell x.0) x.1) → (bytes : List ℕ) (y : List A × List ℕ) → AreBytes bytes → listed f bytes ≡ Ok y → All Fits y.0 × (length y.0 < 2 ^ 16) × Takes bytes (u16_bytes (length y.0) ++ flat_map spell y.0) y.1
  listed_takes step bytes y known e =
      let a = bind_ok (number_at w16 bytes) (λ n. items (each f) n.0 [] n.1) y e in
      let first = number_takes w16 (2 ^ 16) wide16 bytes a.0.0 a.0.1 known a.1 in
      let all = items_take (each f) spell (All Fits) (λ before rest x good fit h. let s = step rest x fit h in (All-push Fits before x.0 good s.0, s.1)) a.0.0 a.0.1 y (All-nil Fits) first.0.rest_fits a.2 in
      let both = Takes-then bytes (u16_bytes a.0.0) a.0.1 (flat_map spell y.0) y.1 first.0 all.2 in
      (all.0, omega (arith, all.1, first.1), subst (λ (k : ℕ). Takes bytes (u16_bytes k ++ flat_map spell y.0) y.1) (sym all.1) both)

-- all of the items are read, where each of them is
listed_again : {A : Type 0} (f : List ℕ → Read A) (spell : A → List ℕ) (all : List A) (rest : List ℕ) → length all < 2 ^ 16 → ((before : List A) (x : A) (after : List A) (more : List ℕ) → all ≡ before ++ x ∷ after → f (spell x ++ more) ≡ Ok (x, more)) → listed f (u16_bytes (length all) ++ (flat_map spell all ++ rest)) ≡ Ok (all, rest)
listed_again {A} f spell all rest few step =
    let behind = flat_map spell all ++ rest in
    let one : number_at w16 (u16_bytes (length all) ++ behind) ≡ Ok (length all, behind) = number_again w16 (2 ^ 16) wide16 (length all) behind few in
    bind_again (number_at w16 (u16_bytes (length all) ++ behind)) (λ n. items (each f) n.0 [] n.1) (length all, behind) (all, rest) one (items_again (each f) spell all step rest)

-- ---- keys

pub keys_takes : (bytes : List ℕ) (x : List ℕ × List ℕ) → AreBytes bytes → keys_at bytes ≡ Ok x → FitsKeys x.0 × Takes bytes (keys_bytes x.0) x.1
keys_takes bytes x known e =
    let t = listed_takes (number_at w16) u16_bytes (λ k. k < 2 ^ 16) (λ l y fit h. let n = number_takes w16 (2 ^ 16) wide16 l y.0 y.1 fit h in (n.1, n.0)) bytes x known e in
    (record { few = t.1; each = t.0 }, t.2)

pub keys_again : (keys rest : List ℕ) → FitsKeys keys → keys_at (keys_bytes keys ++ rest) ≡ Ok (keys, rest)
keys_again keys rest fits =
    ap keys_at (append_assoc (u16_bytes (length keys)) (flat_map u16_bytes keys) rest)
    ∙ listed_again (number_at w16) u16_bytes keys rest fits.few (λ before k after more e. number_again w16 (2 ^ 16) wide16 k more (All-amid (λ j. j < 2 ^ 16) keys before k after e fits.each))

-- ---- schemas

pub schema_takes : (bytes : List ℕ) (x : Schema × List ℕ) → AreBytes bytes → schema_at bytes ≡ Ok x → FitsSchema x.0 × Takes bytes (schema_bytes x.0) x.1
unfolding schema_at schema_bytes
schema_takes bytes x known e =
    let a = bind_ok (name_at bytes) (λ name. listed column_at name.1 >>= λ cols. number_at w16 cols.1 >>= λ time. coded unit_of_code time.1 (byte_at time.1) >>= λ u. listed (number_at w16) u.1 >>= λ keys. Ok (record { name = name.0; cols = cols.0; time_col = time.0; unit = u.0; keys = keys.0 }, keys.1)) x e in
    let name = a.0 in
    let b = bind_ok (listed column_at name.1) (λ cols. number_at w16 cols.1 >>= λ time. coded unit_of_code time.1 (byte_at time.1) >>= λ u. listed (number_at w16) u.1 >>= λ keys. Ok (record { name = name.0; cols = cols.0; time_col = time.0; unit = u.0; keys = keys.0 }, keys.1)) x a.2 in
    let cols = b.0 in
    let c = bind_ok (number_at w16 cols.1) (λ time. coded unit_of_code time.1 (byte_at time.1) >>= λ u. listed (number_at w16) u.1 >>= λ keys. Ok (record { name = name.0; cols = cols.0; time_col = time.0; unit = u.0; keys = keys.0 }, keys.1)) x b.2 in
    let time = c.0 in
    let d = bind_ok (coded unit_of_code time.1 (byte_at time.1)) (λ u. listed (number_at w16) u.1 >>= λ keys. Ok (record { name = name.0; cols = cols.0; time_col = time.0; unit = u.0; keys = keys.0 }, keys.1)) x c.2 in
    let u = d.0 in
    let f = bind_ok (listed (number_at w16) u.1) (λ keys. Ok (record { name = name.0; cols = cols.0; time_col = time.0; unit = u.0; keys = keys.0 }, keys.1)) x d.2 in
    let keys = f.0 in
    let t0 = name_takes bytes name.0 name.1 known a.1 in
    let t1 = listed_takes column_at column_bytes FitsColumn column_takes name.1 cols t0.0.rest_fits b.1 in
    let t2 = number_takes w16 (2 ^ 16) wide16 cols.1 time.0 time.1 t1.2.rest_fits c.1 in
    let code = coded_ok unit_of_code time.1 (byte_at time.1) u d.1 in
    let t3 = byte_takes time.1 code.0 u.1 t2.0.rest_fits code.1 in
    let t3' : Takes time.1 (code_of_unit u.0 ∷ []) u.1 = subst (λ (k : ℕ). Takes time.1 (k ∷ []) u.1) (unit_code code.0 u.0 code.2) t3.0 in
    let t4 = listed_takes (number_at w16) u16_bytes (λ k. k < 2 ^ 16) (λ l y fit h. let t = number_takes w16 (2 ^ 16) wide16 l y.0 y.1 fit h in (t.1, t.0)) u.1 keys t3'.rest_fits f.1 in
    let s : Schema = record { name = name.0; cols = cols.0; time_col = time.0; unit = u.0; keys = keys.0 } in
    let keys_text = u16_bytes (length keys.0) ++ flat_map u16_bytes keys.0 in
    let cols_text = u16_bytes (length cols.0) ++ flat_map column_bytes cols.0 in
    let e34 = Takes-then time.1 (code_of_unit u.0 ∷ []) u.1 keys_text keys.1 t3' t4.2 in
    let e24 = Takes-then cols.1 (u16_bytes time.0) time.1 (code_of_unit u.0 ∷ keys_text) keys.1 t2.0 e34 in
    let e14 = Takes-then name.1 cols_text cols.1 (u16_bytes time.0 ++ (code_of_unit u.0 ∷ keys_text)) keys.1 t1.2 e24 in
    let e04 = Takes-then bytes (name_bytes name.0) name.1 (cols_text ++ (u16_bytes time.0 ++ (code_of_unit u.0 ∷ keys_text))) keys.1 t0.0 e14 in
    let grouped : name_bytes name.0 ++ (cols_text ++ (u16_bytes time.0 ++ (code_of_unit u.0 ∷ keys_text))) ≡ schema_bytes s = ap (λ l. name_bytes name.0 ++ l) (append_assoc (u16_bytes (length cols.0)) (flat_map column_bytes cols.0) (u16_bytes time.0 ++ (code_of_unit u.0 ∷ keys_text))) in
    let fits : FitsSchema s = record { name = t0.1; columns = t1.1; each_column = t1.0; time = t2.1; keys = t4.1; each_key = t4.0 } in
    subst (λ (y : Schema × List ℕ). FitsSchema y.0 × Takes bytes (schema_bytes y.0) y.1) (ok_is (s, keys.1) x f.2) (fits, subst (λ (l : List ℕ). Takes bytes l keys.1) grouped e04)

pub schema_again : (s : Schema) (rest : List ℕ) → FitsSchema s → schema_at (schema_bytes s ++ rest) ≡ Ok (s, rest)
unfolding schema_at schema_bytes
schema_again s rest fits =
    let keys_text = u16_bytes (length s.keys) ++ flat_map u16_bytes s.keys in
    let r4 = u16_bytes (length s.keys) ++ (flat_map u16_bytes s.keys ++ rest) in
    let r3 = code_of_unit s.unit ∷ r4 in
    let r2 = u16_bytes s.time_col ++ r3 in
    let r1 = u16_bytes (length s.cols) ++ (flat_map column_bytes s.cols ++ r2) in
    let r0 = name_bytes s.name ++ r1 in
    let g4 : keys_text ++ rest ≡ r4 = append_assoc (u16_bytes (length s.keys)) (flat_map u16_bytes s.keys) rest in
    let tail = u16_bytes s.time_col ++ (code_of_unit s.unit ∷ keys_text) in
    let g2 : tail ++ rest ≡ r2 = append_assoc (u16_bytes s.time_col) (code_of_unit s.unit ∷ keys_text) rest ∙ ap (λ l. u16_bytes s.time_col ++ (code_of_unit s.unit ∷ l)) g4 in
    let g1 : (u16_bytes (length s.cols) ++ (flat_map column_bytes s.cols ++ tail)) ++ rest ≡ r1 = append_assoc (u16_bytes (length s.cols)) (flat_map column_bytes s.cols ++ tail) rest ∙ ap (λ l. u16_bytes (length s.cols) ++ l) (append_assoc (flat_map column_bytes s.cols) tail rest ∙ ap (λ l. flat_map column_bytes s.cols ++ l) g2) in
    let g0 : (name_bytes s.name ++ (u16_bytes (length s.cols) ++ (flat_map column_bytes s.cols ++ tail))) ++ rest ≡ r0 = append_assoc (name_bytes s.name) (u16_bytes (length s.cols) ++ (flat_map column_bytes s.cols ++ tail)) rest ∙ ap (λ l. name_bytes s.name ++ l) g1 in
    let one : name_at r0 ≡ Ok (s.name, r1) = name_again s.name r1 in
    let two : listed column_at r1 ≡ Ok (s.cols, r2) = listed_again column_at column_bytes s.cols r2 fits.columns (λ before c after more e. column_again c more) in
    let three : number_at w16 r2 ≡ Ok (s.time_col, r3) = number_again w16 (2 ^ 16) wide16 s.time_col r3 fits.time in
    let four : coded unit_of_code r3 (byte_at r3) ≡ Ok (s.unit, r4) = coded_again unit_of_code r3 (byte_at r3) (code_of_unit s.unit) s.unit r4 refl (code_unit s.unit) in
    let five : listed (number_at w16) r4 ≡ Ok (s.keys, rest) = listed_again (number_at w16) u16_bytes s.keys rest fits.keys (λ before k after more e. number_again w16 (2 ^ 16) wide16 k more (All-amid (λ j. j < 2 ^ 16) s.keys before k after e fits.each_key)) in
    let step4 : PartUnit × List ℕ → Read Schema = λ u. listed (number_at w16) u.1 >>= λ keys. Ok (record { name = s.name; cols = s.cols; time_col = s.time_col; unit = u.0; keys = keys.0 }, keys.1) in
    let step3 : ℕ × List ℕ → Read Schema = λ time. coded unit_of_code time.1 (byte_at time.1) >>= λ u. listed (number_at w16) u.1 >>= λ keys. Ok (record { name = s.name; cols = s.cols; time_col = time.0; unit = u.0; keys = keys.0 }, keys.1) in
    let step2 : List Col × List ℕ → Read Schema = λ cols. number_at w16 cols.1 >>= λ time. coded unit_of_code time.1 (byte_at time.1) >>= λ u. listed (number_at w16) u.1 >>= λ keys. Ok (record { name = s.name; cols = cols.0; time_col = time.0; unit = u.0; keys = keys.0 }, keys.1) in
    let step1 : List ℕ × List ℕ → Read Schema = λ name. listed column_at name.1 >>= λ cols. number_at w16 cols.1 >>= λ time. coded unit_of_code time.1 (byte_at time.1) >>= λ u. listed (number_at w16) u.1 >>= λ keys. Ok (record { name = name.0; cols = cols.0; time_col = time.0; unit = u.0; keys = keys.0 }, keys.1) in
    ap schema_at g0
    ∙ bind_again (name_at r0) step1 (s.name, r1) (s, rest) one
    (bind_again (listed column_at r1) step2 (s.cols, r2) (s, rest) two
    (bind_again (number_at w16 r2) step3 (s.time_col, r3) (s, rest) three
    (bind_again (coded unit_of_code r3 (byte_at r3)) step4 (s.unit, r4) (s, rest) four
    (bind_again (listed (number_at w16) r4) (λ keys. Ok (record { name = s.name; cols = s.cols; time_col = s.time_col; unit = s.unit; keys = keys.0 }, keys.1)) (s.keys, rest) (s, rest) five refl))))
