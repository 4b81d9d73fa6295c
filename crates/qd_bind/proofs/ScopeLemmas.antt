-- The columns of a name: those of the left side, then those of the right one.
use Rattle.std.proofs.Common.{◌≡◌, ℕ, ◌+◌, ◌<◌, Bool, true, false, ◌&&◌, if◌then◌else◌, List, [], ◌∷◌, ◌++◌, map, length, drop, get_or, Option, Some, None, refl, sym, ap, ap₂, ◌∙◌, append-nil, arith, drop-cons}
use Rattle.std.proofs.lemmas.List.{length-map}
use Rattle.qd_base.specs.declared.schema.Col.{Col}
use Rattle.qd_base.specs.Schemas.{same_name}
use Rattle.qd_sql_ast.specs.declared.tree.Name.{Name}
use Rattle.qd_sql_ast.specs.declared.tree.Column.{Column}
use Rattle.qd_meaning.specs.Scopes as scopes
use Rattle.qd_meaning.specs.Scopes.{ScopeColumn, scope_column, is_named, found_from}
use Rattle.qd_base.specs.declared.code.Code.TheVariants as code
use Rattle.qd_meaning.specs.declared.refusal.Refusal.{Refusal}
use Rattle.qd_meaning.specs.Refusals.{least, unless}
use Rattle.qd_meaning.specs.Binding.{named_column, column_or_null}
use Rattle.qd_bind.specs.Scoped.{Found, summary, join, is_some_item, named_from, ambiguous_by, ambiguous, named}
use Rattle.qd_bind.specs.Seen.{typed}

-- ---- one side

pub plain_named : (source : List ℕ) (first : Name) (n : ℕ) (cols : List Col) → found_from (is_named first None) n (map (scope_column source) cols) ≡ named_from first.text n cols
plain_named source first n [] = refl
plain_named source first n (c ∷ cs) =
    ap (λ (rest : List (ℕ × Col)). if same_name c.name first.text then (n, c) ∷ rest else rest) (plain_named source first (n + 1) cs)

pub own_named : (source : List ℕ) (first second : Name) (n : ℕ) (cols : List Col) → same_name source first.text ≡ true
    → found_from (is_named first (Some second)) n (map (scope_column source) cols) ≡ named_from second.text n cols
own_named source first second n [] e = refl
own_named source first second n (c ∷ cs) e =
    ap₂ (λ (b : Bool) (rest : List (ℕ × Col)). if b && same_name c.name second.text then (n, c) ∷ rest else rest) e (own_named source first second (n + 1) cs e)

pub other_named : (source : List ℕ) (first second : Name) (n : ℕ) (cols : List Col) → same_name source first.text ≡ false
    → found_from (is_named first (Some second)) n (map (scope_column source) cols) ≡ []
other_named source first second n [] e = refl
other_named source first second n (c ∷ cs) e =
    ap₂ (λ (b : Bool) (rest : List (ℕ × Col)). if b && same_name c.name second.text then (n, c) ∷ rest else rest) e (other_named source first second (n + 1) cs e)

pub join_none : (h : Found) → join h None ≡ h
join_none None = refl
join_none (Some h) = refl

-- ---- both sides

found-append : (test : ScopeColumn → Bool) (n : ℕ) (xs ys : scopes.Scope) → found_from test n (xs ++ ys) ≡ found_from test n xs ++ found_from test (n + length xs) ys
found-append test n [] ys = ap (λ m. found_from test m ys) (omega arith)
found-append test n (x ∷ xs) ys =
    ap (λ (rest : List (ℕ × Col)). if test x then (n, x.col) ∷ rest else rest) (found-append test (n + 1) xs ys)
    ∙ lift (test x) (n, x.col) (found_from test (n + 1) xs) (found_from test (n + 1 + length xs) ys)
    ∙ ap (λ m. (if test x then (n, x.col) ∷ found_from test (n + 1) xs else found_from test (n + 1) xs) ++ found_from test m ys) (omega arith)
  where
    lift : (b : Bool) (y : ℕ × Col) (us ws : List (ℕ × Col)) → (if b then y ∷ (us ++ ws) else us ++ ws) ≡ (if b then y ∷ us else us) ++ ws
    lift true y us ws = refl
    lift false y us ws = refl

some-behind : (rest : List (ℕ × Col)) (y : ℕ × Col) (ys : List (ℕ × Col)) → is_some_item (rest ++ y ∷ ys) ≡ true
some-behind [] y ys = refl
some-behind (x ∷ xs) y ys = refl

summary-append : (us ws : List (ℕ × Col)) → summary (us ++ ws) ≡ join (summary us) (summary ws)
summary-append [] ws = refl
summary-append (x ∷ rest) [] = ap (λ (xs : List (ℕ × Col)). summary (x ∷ xs)) (append-nil rest)
summary-append (x ∷ rest) (y ∷ ys) = ap (λ (b : Bool). let f : Found = Some (x.0, x.1, b) in f) (some-behind rest y ys)

pub both_sides : (c : Column) (left right : scopes.Scope)
    → join (summary (found_from (is_named c.first c.second) 0 left)) (summary (found_from (is_named c.first c.second) (length left) right)) ≡ summary (scopes.found (left ++ right) c)
both_sides c left right =
    sym (summary-append (found_from (is_named c.first c.second) 0 left) (found_from (is_named c.first c.second) (length left) right))
    ∙ ap summary (ap (λ m. found_from (is_named c.first c.second) 0 left ++ found_from (is_named c.first c.second) m right) (omega arith) ∙ sym (found-append (is_named c.first c.second) 0 left right))

pub one_side : (c : Column) (left : scopes.Scope) → summary (found_from (is_named c.first c.second) 0 left) ≡ summary (scopes.found (left ++ []) c)
one_side c left = ap (λ (xs : scopes.Scope). summary (scopes.found xs c)) (sym (append-nil left))

-- ---- what a name stands for

pub resolved_none : (c : Column) (found : List (ℕ × Col)) → None ≡ summary found → (None ≡ (scopes.resolved_to c found).column) × (least (unless false code.UnknownColumn c.first.at) ≡ least (scopes.resolved_to c found).faults)
resolved_none c [] e = (refl, refl)
resolved_none c (x ∷ rest) e = absurd (cc)

ambiguous-seen : (second : Option Name) (first : Name) → ambiguous_by second first.at true ≡ least (scopes.unqualified first second)
ambiguous-seen None first = refl
ambiguous-seen (Some second) first = refl

unambiguous : (second : Option Name) (place : ℕ) → ambiguous_by second place false ≡ None
unambiguous None place = refl
unambiguous (Some second) place = refl

some-same : (a b : ℕ × Col × Bool) → Some a ≡ Some b → a ≡ b
some-same a b e = cc

pub resolved_some : (c : Column) (found : List (ℕ × Col)) (h : ℕ × Col × Bool) → Some h ≡ summary found
    → (Some (h.0, h.1) ≡ (scopes.resolved_to c found).column) × (ambiguous c h.2 ≡ least (scopes.resolved_to c found).faults)
resolved_some c [] h e = absurd (cc)
resolved_some c (x ∷ []) h e =
    let s = some-same h (x.0, x.1, false) e in
    (ap (λ (k : ℕ × Col × Bool). let o : Option (ℕ × Col) = Some (k.0, k.1) in o) s, ap (λ (k : ℕ × Col × Bool). ambiguous c k.2) s ∙ unambiguous c.second c.first.at)
resolved_some c (x ∷ y ∷ rest) h e =
    let s = some-same h (x.0, x.1, true) e in
    (ap (λ (k : ℕ × Col × Bool). let o : Option (ℕ × Col) = Some (k.0, k.1) in o) s, ap (λ (k : ℕ × Col × Bool). ambiguous c k.2) s ∙ ambiguous-seen c.second c.first)

pub named_seen : (r : scopes.Resolved) (o : Option (ℕ × Col)) → o ≡ r.column → named o (least r.faults) ≡ typed (named_column r)
named_seen r o e = ap (λ (x : Option (ℕ × Col)). named x (least r.faults)) e ∙ same r.column r.faults
  where
    same : (o : Option (ℕ × Col)) (faults : List Refusal) → named o (least faults) ≡ typed (column_or_null o faults)
    same None faults = refl
    same (Some c) faults = refl

pub length_side : (source : List ℕ) (cols : List Col) → length (map (scope_column source) cols) ≡ length cols
length_side source cols = length-map cols (scope_column source)
