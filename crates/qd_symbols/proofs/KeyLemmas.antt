-- Keys of bytes and the texts that they are.
use Rattle.std.proofs.Common.{◌≡◌, ℕ, ◌+◌, ◌<◌, ◌≤◌, ◌^◌, subst, length-append, Bool, true, false, cond, ltb, List, [], ◌∷◌, ◌++◌, Option, Some, None, length, map, get_or, refl, sym, ap, ◌∙◌, arith, Vec}
use Rattle.std.specs.List.{list_any, position_or_len, position}
use Rattle.std.specs.declared.alloc.Global.{Global}
use Rattle.std.proofs.lemmas.List.{length-map}
use Rattle.std.proofs.lemmas.Bool.{ltb-true, ltb-false, le-ltb}
use Rattle.qd_base.specs.Dictionary.{same_text, id_in, id_for, with_text, AreDistinct}
use Rattle.qd_base.proofs.Texts.{any_stands, position-map, id_not_there, with_text-new, distinct-with_text}
use Rattle.qd_symbols.specs.Keys.{texts_of_keys, AreTexts}

abbrev pub Key : Type 0
Key = Vec ℕ Global

-- a key's index is its text's id
pub id_in-keys : (keys : List Key) (text : List ℕ) → position (λ (k : Key). same_text text k.items) keys ≡ id_in (texts_of_keys keys) text
id_in-keys keys text =
    let size = length-map keys (λ (k : Key). k.items) in
    let place = position-map (same_text text) (λ (k : Key). k.items) keys in
    ap (λ n. cond (ltb n (length keys)) (Some n) None) (sym place) ∙ ap (λ m. cond (ltb (id_for (texts_of_keys keys) text) m) (Some (id_for (texts_of_keys keys) text)) None) (sym size)

pub id_for-keys : (keys : List Key) (text : List ℕ) → position_or_len (λ (k : Key). same_text text k.items) keys ≡ id_for (texts_of_keys keys) text
id_for-keys keys text = sym (position-map (same_text text) (λ (k : Key). k.items) keys)

map-push : {S T : Type 0} (f : T → S) (xs : List T) (y : T) → map f (xs ++ y ∷ []) ≡ map f xs ++ f y ∷ []
map-push f [] y = refl
map-push f (x ∷ xs) y = ap (λ l. f x ∷ l) (map-push f xs y)

-- the texts after a key is inserted that isn't there
pub texts-inserted : (keys : List Key) (key : Key) (text : List ℕ) → key.items ≡ text → id_in (texts_of_keys keys) text ≡ None → texts_of_keys (cond (list_any (λ (k : Key). same_text key.items k.items) keys) keys (keys ++ key ∷ [])) ≡ with_text (texts_of_keys keys) text
texts-inserted keys key text is none =
    let at_end : id_for (texts_of_keys keys) text ≡ length (texts_of_keys keys) = id_not_there (texts_of_keys keys) text none in
    let size = length-map keys (λ (k : Key). k.items) in
    let place : position_or_len (λ (k : Key). same_text text k.items) keys ≡ length keys = id_for-keys keys text ∙ at_end ∙ size in
    let absent : list_any (λ (k : Key). same_text key.items k.items) keys ≡ false = ap (λ t. list_any (λ (k : Key). same_text t k.items) keys) is ∙ any_stands (λ (k : Key). same_text text k.items) keys ∙ le-ltb _ _ (omega arith) in
    ap (λ b. texts_of_keys (cond b keys (keys ++ key ∷ []))) absent ∙ map-push (λ (k : Key). k.items) keys key ∙ ap (λ t. texts_of_keys keys ++ t ∷ []) is ∙ sym (with_text-new (texts_of_keys keys) text (omega arith))

-- and they are texts of a dictionary still
pub are_texts-inserted : (keys : List Key) (key : Key) (text : List ℕ) → key.items ≡ text → id_in (texts_of_keys keys) text ≡ None → length keys < 2 ^ 63 → AreTexts (texts_of_keys keys) → AreTexts (texts_of_keys (cond (list_any (λ (k : Key). same_text key.items k.items) keys) keys (keys ++ key ∷ [])))
are_texts-inserted keys key text is none small known =
    let old = texts_of_keys keys in
    let new = texts-inserted keys key text is none in
    let at_end = id_not_there old text none in
    let pushed : with_text old text ≡ old ++ text ∷ [] = with_text-new old text (omega (arith, at_end)) in
    let size = length-map keys (λ (k : Key). k.items) in
    let count : length (with_text old text) ≤ 2 ^ 63 = rw pushed (omega (arith, length-append old (text ∷ []), size)) in
    subst AreTexts (sym new) (record { distinct = distinct-with_text old text known.distinct; few = count })
