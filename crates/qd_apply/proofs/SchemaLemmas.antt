-- Schemas put one behind another.
use Rattle.std.proofs.Common.{◌≡◌, ℕ, zero, suc, ◌+◌, ◌<◌, Bool, false, not, cond, List, [], ◌∷◌, ◌++◌, Some, None, is_some, length, take, get_or, refl, sym, ap, ◌∙◌, arith, subst}
use Rattle.std.specs.List.{AllByRecursion, IsDistinct, position, position_or_len}
use Rattle.std.proofs.lemmas.Bool.{le-ltb}
use Rattle.std.proofs.lemmas.List.{get_or-map, length-map, take_more}
use Rattle.std.proofs.lemmas.List.Elements.{All-from_recursion}
use Rattle.qd_base.specs.declared.op.Op.TheVariants as op
use Rattle.qd_base.specs.declared.schema.Schema.{Schema}
use Rattle.qd_base.specs.Lawful.{AreSchemas}
use Rattle.qd_base.specs.Schemas.{same_name, Fits}
use Rattle.qd_manifest.specs.declared.shape.TableParts.{TableParts}
use Rattle.qd_manifest.specs.Spelling.{schemas_in}

-- in a list without equals, none of the items before one is equal to it
before_apart : {X : Type 0} (e : X → X → Bool) (xs : List X) (i : ℕ) (d : X) → IsDistinct e xs → i < length xs → AllByRecursion (λ x. e x (get_or xs i d) ≡ false) (take i xs)
unfolding IsDistinct
before_apart e [] i d h lt = absurd (omega arith)
before_apart e (x ∷ xs) zero d h lt = tt
before_apart e (x ∷ xs) (suc i) d h lt = (All-from_recursion (λ y. e x y ≡ false) xs h.0 i d (omega (arith, lt)), before_apart e xs i d h.1 (omega (arith, lt)))

none_len : {X : Type 0} (p : X → Bool) (xs : List X) → AllByRecursion (λ x. p x ≡ false) xs → position_or_len p xs ≡ length xs
none_len p [] h = refl
none_len p (x ∷ xs) h = ap (λ b. cond (not b) (1 + position_or_len p xs) 0) h.0 ∙ (let e = none_len p xs h.1 in omega (arith, e))

none_there : {X : Type 0} (p : X → Bool) (xs : List X) → AllByRecursion (λ x. p x ≡ false) xs → position p xs ≡ None
none_there p xs h = ap (λ b. cond b (Some (position_or_len p xs)) None) (le-ltb (position_or_len p xs) (length xs) (let e = none_len p xs h in omega (arith, e)))

-- the next schema's name is new
pub next_fits : (schemas : List Schema) (i : ℕ) (s : Schema) → AreSchemas schemas → i < length schemas → s ≡ get_or schemas i s → Fits (take i schemas) (op.Create s)
next_fits schemas i s are lt is =
    let apart : AllByRecursion (λ (x : Schema). same_name x.name (get_or schemas i s).name ≡ false) (take i schemas) = before_apart (λ (a : Schema) (b : Schema). same_name a.name b.name) schemas i s are.distinct lt in
    let named = subst (λ (y : Schema). AllByRecursion (λ (x : Schema). same_name x.name y.name ≡ false) (take i schemas)) (sym is) apart in
    ap is_some (none_there (λ (x : Schema). same_name x.name s.name) (take i schemas) named)

pub schema_next : (shape : List TableParts) (i : ℕ) (t : TableParts) → i < length shape → t ≡ get_or shape i t → t.schema ≡ get_or (schemas_in shape) i t.schema
schema_next shape i t lt is = ap (λ (x : TableParts). x.schema) is ∙ sym (get_or-map (λ (x : TableParts). x.schema) shape i t t.schema lt)

pub schemas_more : (schemas : List Schema) (i : ℕ) (s : Schema) → i < length schemas → s ≡ get_or schemas i s → take i schemas ++ s ∷ [] ≡ take (i + 1) schemas
schemas_more schemas i s lt is = sym (take_more schemas i s lt ∙ ap (λ (x : Schema). take i schemas ++ x ∷ []) (sym is))

pub schemas_count : (shape : List TableParts) → length (schemas_in shape) ≡ length shape
schemas_count shape = length-map shape (λ (t : TableParts). t.schema)
