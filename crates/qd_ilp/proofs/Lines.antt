-- Reading the parts of a line, step by step.
use Rattle.std.proofs.Common.{◌≡◌, ◌≢◌, ℕ, suc, ◌+◌, ◌-◌, ◌<◌, ◌≤◌, Bool, true, false, List, [], ◌∷◌, ◌++◌, length, drop, refl, sym, ap, ◌∙◌, Option, Some, None, append_assoc, arith}
use Rattle.std.specs.Prelude.{not, ◌||◌, ◌==◌, if◌then◌else◌}
use Rattle.std.proofs.lemmas.Bool.{ne_eqb}
use Rattle.qd_ilp.specs.declared.stop.Stop.{Stop}
use Rattle.qd_ilp.specs.declared.stop.Stop.TheVariants as stop
use Rattle.qd_ilp.specs.declared.value.Span.{Span}
use Rattle.qd_ilp.specs.Cut.{◌>>=◌, Fails, begins, cut, word, closed}
use Rattle.qd_ilp.specs.Value.{Value, Tag, Text, bare, is_empty}
use Rattle.qd_ilp.specs.Line.{Item, value_at, item_at, items_at}
use Rattle.qd_ilp.specs.Kept.{Puts, bytes_in}
use Rattle.qd_ilp.proofs.Kepts.{puts_in, empty_span}

-- what a pair of lists is, from its parts
abbrev pair : {A B : Type 0} → A → B → A × B
pair a b = (a, b)

some_pair : {A B : Type 0} (a a' : A) (b b' : B) → a ≡ a' → b ≡ b' → Some (pair a b) ≡ Some (pair a' b')
some_pair a a' b b' p q = ap (λ x. Some (pair x b)) p ∙ ap (λ y. Some (pair a' y)) q

pub empty_is : (w : List ℕ) → is_empty w ≡ (length w == 0)
empty_is [] = refl
empty_is (x ∷ xs) = sym (ne_eqb (length (x ∷ xs)) 0 (λ h. absurd (omega (arith, h))))

pub tag_none : (text before now : List ℕ) (span : Span) → Puts before now span (cut false text).0 → span.start ≡ span.end → value_at true text ≡ None
unfolding value_at
tag_none text before now span puts same = rw ((empty_span before now (cut false text).0 span puts).0 same) refl

pub tag_is : (text before now rest : List ℕ) (span : Span) → Puts before now span (cut false text).0 → rest ≡ (cut false text).1 → span.start ≢ span.end → value_at true text ≡ Some (Tag (bytes_in now span), rest)
unfolding value_at
tag_is text before now rest span puts behind differ =
    rw ((empty_span before now (cut false text).0 span puts).1 differ) (some_pair _ _ _ _ (ap Tag (sym (puts_in before now (cut false text).0 span puts))) (sym behind))

pub text_fault : (text quoted : List ℕ) (e : Stop) → begins 34 text ≡ true → quoted ≡ drop 1 text → Fails e (closed false quoted) → Fails e (value_at false text)
unfolding value_at
text_fault text quoted stop.Memory quote here fails = tt
text_fault text quoted stop.Syntax quote here fails = rw (quote, ← here, fails) refl

pub text_is : (text quoted before now t rest : List ℕ) (span : Span) → begins 34 text ≡ true → quoted ≡ drop 1 text → closed false quoted ≡ Some (t, rest) → Puts before now span t → value_at false text ≡ Some (Text (bytes_in now span), rest)
unfolding value_at
text_is text quoted before now t rest span quote here found puts = rw (quote, ← here, found) (some_pair _ _ _ _ (ap Text (sym (puts_in before now t span puts))) refl)

pub word_none : (text w rest : List ℕ) → begins 34 text ≡ false → word text ≡ (w, rest) → (length w == 0) ≡ true → value_at false text ≡ None
unfolding value_at
word_none text w rest quote found empty = rw (quote, found, empty_is w, empty) refl

pub word_is : (text w rest : List ℕ) (v : Value) → begins 34 text ≡ false → word text ≡ (w, rest) → (length w == 0) ≡ false → v ≡ bare w → value_at false text ≡ Some (v, rest)
unfolding value_at
word_is text w rest v quote found empty value = rw (quote, found, empty_is w, empty) (some_pair _ _ _ _ (sym value) refl)

-- a name, an equals sign and a value
pub item_unnamed : (tag : Bool) (text before now : List ℕ) (span : Span) → Puts before now span (cut false text).0 → span.start ≡ span.end → item_at tag text ≡ None
unfolding item_at
item_unnamed tag text before now span puts same = rw ((empty_span before now (cut false text).0 span puts).0 same) refl

unset_at : {A : Type 0} (empty equals : Bool) (o : Option A) → equals ≡ false → (if empty || not equals then None else o) ≡ None
unset_at true equals o h = refl
unset_at false equals o h = rw h refl

pub item_unset : (tag : Bool) (text rest : List ℕ) → rest ≡ (cut false text).1 → begins 61 rest ≡ false → item_at tag text ≡ None
unfolding item_at
item_unset tag text rest behind none = let none' : begins 61 (cut false text).1 ≡ false = ap (begins 61) (sym behind) ∙ none in unset_at (is_empty (cut false text).0) (begins 61 (cut false text).1) _ none'

abbrev named : Bool → List ℕ → List ℕ → Option (Item × List ℕ)
named tag name text = value_at tag text >>= λ v. Some (record { name = name; value = v.0 }, v.1)

pub item_goes : (tag : Bool) (text before now rest more : List ℕ) (span : Span) → Puts before now span (cut false text).0 → rest ≡ (cut false text).1 → span.start ≢ span.end → begins 61 rest ≡ true → more ≡ drop 1 rest → item_at tag text ≡ named tag (cut false text).0 more
unfolding item_at
item_goes tag text before now rest more span puts behind differ equals here =
    let equals' : begins 61 (cut false text).1 ≡ true = ap (begins 61) (sym behind) ∙ equals in
    let here' : drop 1 (cut false text).1 ≡ more = ap (drop 1) (sym behind) ∙ sym here in
    rw ((empty_span before now (cut false text).0 span puts).1 differ, equals', here') refl

pub item_fault : (tag : Bool) (name text more : List ℕ) (e : Stop) → item_at tag text ≡ named tag name more → Fails e (value_at tag more) → Fails e (item_at tag text)
item_fault tag name text more stop.Memory goes fails = tt
item_fault tag name text more stop.Syntax goes fails = goes ∙ ap (λ (o : Option (Value × List ℕ)). o >>= λ v. Some (let p : Item × List ℕ = (record { name = name; value = v.0 }, v.1) in p)) fails

pub item_is : (tag : Bool) (name name' text more rest : List ℕ) (v : Value) → item_at tag text ≡ named tag name more → value_at tag more ≡ Some (v, rest) → name' ≡ name → item_at tag text ≡ Some (record { name = name'; value = v }, rest)
item_is tag name name' text more rest v goes value same =
    goes ∙ ap (λ (o : Option (Value × List ℕ)). o >>= λ v. Some (let p : Item × List ℕ = (record { name = name; value = v.0 }, v.1) in p)) value
    ∙ ap (λ (n : List ℕ). let o : Option (Item × List ℕ) = Some (record { name = n; value = v }, rest) in o) (sym same)

-- items that were read before those that are read now
abbrev pub with_items : List Item → Option (List Item × List ℕ) → Option (List Item × List ℕ)
with_items front read = read >>= λ r. Some (front ++ r.0, r.1)

items_regroup : (front : List Item) (i : Item) (read : Option (List Item × List ℕ)) → with_items front (read >>= λ r. Some (i ∷ r.0, r.1)) ≡ with_items (front ++ i ∷ []) read
items_regroup front i (Some r) = ap (λ (l : List Item). let o : Option (List Item × List ℕ) = Some (l, r.1) in o) (sym (append_assoc front (i ∷ []) r.0))
items_regroup front i None = refl

front_none : (read : Option (List Item × List ℕ)) → with_items [] read ≡ read
front_none (Some r) = refl
front_none None = refl

pub items_none : (tag : Bool) (n : ℕ) (text : List ℕ) → with_items [] (items_at tag (n - 0) text) ≡ items_at tag n text
items_none tag n text =
    let same : n - 0 ≡ n = omega arith in
    front_none (items_at tag (n - 0) text) ∙ ap (λ (k : ℕ). items_at tag k text) same

pub items_goes_on : (tag : Bool) (front : List Item) (most k : ℕ) (text behind more : List ℕ) (i : Item) (total : Option (List Item × List ℕ)) → k < most → item_at tag text ≡ Some (i, behind) → begins 44 behind ≡ true → more ≡ drop 1 behind
    → with_items front (items_at tag (most - k) text) ≡ total → with_items (front ++ i ∷ []) (items_at tag (most - (k + 1)) more) ≡ total
unfolding items_at
items_goes_on tag front most k text behind more i total lt item comma here so_far =
    let n : most - k ≡ suc (most - (k + 1)) = omega arith in
    let one : with_items front (items_at tag (most - k) text) ≡ with_items (front ++ i ∷ []) (items_at tag (most - (k + 1)) more) = rw (n, item, comma, ← here) (items_regroup front i (items_at tag (most - (k + 1)) more)) in
    sym one ∙ so_far

pub items_end : (tag : Bool) (front : List Item) (most k : ℕ) (text behind : List ℕ) (i : Item) (total : Option (List Item × List ℕ)) → k < most → item_at tag text ≡ Some (i, behind) → begins 44 behind ≡ false
    → with_items front (items_at tag (most - k) text) ≡ total → total ≡ Some (front ++ i ∷ [], behind)
unfolding items_at
items_end tag front most k text behind i total lt item comma so_far =
    let n : most - k ≡ suc (most - (k + 1)) = omega arith in
    let one : with_items front (items_at tag (most - k) text) ≡ Some (front ++ i ∷ [], behind) = rw (n, item, comma) refl in
    sym so_far ∙ one

pub items_fault : (tag : Bool) (front : List Item) (most k : ℕ) (text : List ℕ) (e : Stop) (total : Option (List Item × List ℕ)) → k < most → Fails e (item_at tag text) → with_items front (items_at tag (most - k) text) ≡ total → Fails e total
unfolding items_at
items_fault tag front most k text stop.Memory total lt fails so_far = tt
items_fault tag front most k text stop.Syntax total lt fails so_far =
    let n : most - k ≡ suc (most - (k + 1)) = omega arith in
    let one : with_items front (items_at tag (most - k) text) ≡ None = rw (n, fails) refl in
    sym so_far ∙ one

pub items_over : (tag : Bool) (front : List Item) (most k : ℕ) (text : List ℕ) (total : Option (List Item × List ℕ)) → most ≤ k → with_items front (items_at tag (most - k) text) ≡ total → total ≡ None
unfolding items_at
items_over tag front most k text total le so_far =
    let n : most - k ≡ 0 = omega arith in
    let one : with_items front (items_at tag (most - k) text) ≡ None = rw n refl in
    sym so_far ∙ one
