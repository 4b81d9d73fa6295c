-- What a text is, by cases on how its reading went.
use Rattle.std.proofs.Common.{◌≡◌, ℕ, Bool, true, false, List, [], ◌∷◌, length, Option, Some, None, unwrap_or, Result, Ok, Err, refl, sym, ap, ◌∙◌, subst, inl, inr, ◌⊎◌, if◌then◌else◌}
use Rattle.qd_base.specs.declared.code.Code.{Code}
use Rattle.qd_base.specs.declared.code.Code.TheVariants as code
use Rattle.qd_sql_lexer.specs.declared.token.Kind.TheVariants as kind
use Rattle.qd_sql_lexer.specs.Tokens.{Lexeme, tokens}
use Rattle.qd_sql_ast.specs.declared.stop.Halt.TheVariants as halt
use Rattle.qd_sql_ast.specs.declared.tree.Stmt.{Stmt}
use Rattle.qd_sql_ast.specs.Steps.{Read, ◌>>=◌, if_taken, end, sign}
use Rattle.qd_sql.specs.declared.stmt.SqlFault.{SqlFault}
use Rattle.qd_sql.specs.declared.stmt.SqlFault.TheVariants as fault
use Rattle.qd_sql.specs.Statement.{statement, ended, whole_text, is_unbuilt, far_number, in_range, judged, statement_of, IsRead, IsStatement, IsRefused, IsTooDeep}
use Rattle.qd_sql.specs.Laws.{Stands, Cause}

-- an answer is one of three
abbrev OneOf : Result Stmt SqlFault → Type 0
OneOf r = ((s : Stmt) × (r ≡ Ok s)) ⊎ (((why : Code) × (place : ℕ) × (r ≡ Err (fault.Refused why place))) ⊎ (r ≡ Err fault.TooDeep))

range_is : (s : Stmt) (far : Option ℕ) → OneOf (in_range s far)
range_is s None = inl (s, refl)
range_is s (Some place) = inr (inl (code.NumberRange, place, refl))

judged_is : (len : ℕ) (ts : List Lexeme) (r : Read Stmt) → OneOf (judged len ts r)
judged_is len ts (Ok x) = range_is x.0 (far_number ts)
judged_is len ts (Err halt.TooDeep) = inr (inr refl)
judged_is len ts (Err (halt.At place)) = inr (inl (code.SqlSyntax, unwrap_or place len, refl))

answer_is : (len : ℕ) (ts : List Lexeme) (b : Bool) → OneOf (if b then Err (fault.Refused code.NotBuilt 0) else judged len ts (whole_text ts))
answer_is len ts true = inr (inl (code.NotBuilt, 0, refl))
answer_is len ts false = judged_is len ts (whole_text ts)

pub answered : (text : List ℕ) → ((s : Stmt) × IsStatement text s) ⊎ (((why : Code) × (place : ℕ) × IsRefused text why place) ⊎ IsTooDeep text)
answered text = answer_is (length text) (tokens text) (is_unbuilt (tokens text))

-- nothing is left behind a text that was read
end_of : (ts : List Lexeme) (x : Unit {0} × List Lexeme) → end ts ≡ Ok x → x.1 ≡ []
unfolding end
end_of [] x e = cc
end_of (t ∷ ts) x e = absurd (cc)

taken_end : (ts : List Lexeme) (o : Option (ℕ × List Lexeme)) (x : Unit {0} × List Lexeme) → if_taken o (λ y. end y.1) (end ts) ≡ Ok x → x.1 ≡ []
taken_end ts None x e = end_of ts x e
taken_end ts (Some y) x e = end_of y.1 x e

ended_of : (ts : List Lexeme) (x : Unit {0} × List Lexeme) → ended ts ≡ Ok x → x.1 ≡ []
unfolding ended
ended_of ts x e = taken_end ts (sign kind.Semicolon ts) x e

then_end : (s : Stmt) (r : Read (Unit {0})) (x : Stmt × List Lexeme) → ((y : Unit {0} × List Lexeme) → r ≡ Ok y → y.1 ≡ []) → (r >>= λ done. Ok (s, done.1)) ≡ Ok x → x.1 ≡ []
then_end s (Ok y) x ends e = let h = ends y refl in cc
then_end s (Err why) x ends e = absurd (cc)

read_ends : (r : Read Stmt) (x : Stmt × List Lexeme) → (r >>= λ found. ended found.1 >>= λ done. Ok (found.0, done.1)) ≡ Ok x → x.1 ≡ []
read_ends (Ok found) x e = then_end found.0 (ended found.1) x (λ y h. ended_of found.1 y h) e
read_ends (Err why) x e = absurd (cc)

whole_ends : (ts : List Lexeme) (x : Stmt × List Lexeme) → whole_text ts ≡ Ok x → x.1 ≡ []
unfolding whole_text
whole_ends ts x e = read_ends (statement ts) x e

whole_reads : (ts : List Lexeme) (x : Stmt × List Lexeme) → whole_text ts ≡ Ok x → IsRead ts x.0
whole_reads ts x e = e ∙ ap (λ rest. Ok (x.0, rest)) (whole_ends ts x e)

-- where a statement is read, it and its numbers decide
range_of : (x s : Stmt) (far : Option ℕ) → in_range x far ≡ Ok s → (x ≡ s) × (far ≡ None)
range_of x s None e = (cc, refl)
range_of x s (Some place) e = absurd (cc)

stands_from : (text : List ℕ) (s : Stmt) (b : Bool) (r : Read Stmt) → is_unbuilt (tokens text) ≡ b → whole_text (tokens text) ≡ r
    → (if b then Err (fault.Refused code.NotBuilt 0) else judged (length text) (tokens text) r) ≡ Ok s → Stands text s
stands_from text s true r unbuilt read e = absurd (cc)
stands_from text s false (Ok x) unbuilt read e =
    let h : (x.0 ≡ s) × (far_number (tokens text) ≡ None) = range_of x.0 s (far_number (tokens text)) e in
    record { built = unbuilt; read = whole_reads (tokens text) x read ∙ ap (λ y. Ok (y, [])) h.0; in_range = h.1 }
stands_from text s false (Err halt.TooDeep) unbuilt read e = absurd (cc)
stands_from text s false (Err (halt.At at)) unbuilt read e = absurd (cc)

pub stands : (text : List ℕ) (s : Stmt) → IsStatement text s → Stands text s
stands text s e = stands_from text s (is_unbuilt (tokens text)) (whole_text (tokens text)) refl refl e

judged_by : (text : List ℕ) (b : Bool) (r : Read Stmt) → is_unbuilt (tokens text) ≡ b → whole_text (tokens text) ≡ r
    → statement_of text ≡ (if b then Err (fault.Refused code.NotBuilt 0) else judged (length text) (tokens text) r)
judged_by text b r unbuilt read = rw (unbuilt, read) refl

pub is_statement : (text : List ℕ) (s : Stmt) → Stands text s → IsStatement text s
is_statement text s h = judged_by text false (Ok (s, [])) h.built h.read ∙ ap (in_range s) h.in_range

-- where a text is refused, its first cause decides
far_cause : (text : List ℕ) (x : Stmt) (why : Code) (place : ℕ) (far : Option ℕ) → is_unbuilt (tokens text) ≡ false → IsRead (tokens text) x → far_number (tokens text) ≡ far
    → in_range x far ≡ Err (fault.Refused why place) → Cause text why place
far_cause text x why place None unbuilt read far e = absurd (cc)
far_cause text x why place (Some at) unbuilt read far e =
    let w : code.NumberRange ≡ why = cc in
    let p : at ≡ place = cc in
    subst (λ c. Cause text c place) w (unbuilt, (x, read), far ∙ ap Some p)

cause_from : (text : List ℕ) (why : Code) (place : ℕ) (b : Bool) (r : Read Stmt) → is_unbuilt (tokens text) ≡ b → whole_text (tokens text) ≡ r
    → (if b then Err (fault.Refused code.NotBuilt 0) else judged (length text) (tokens text) r) ≡ Err (fault.Refused why place) → Cause text why place
cause_from text why place true r unbuilt read e =
    let w : code.NotBuilt ≡ why = cc in
    let p : place ≡ 0 = cc in
    subst (λ c. Cause text c place) w (unbuilt, p)
cause_from text why place false (Ok x) unbuilt read e = far_cause text x.0 why place (far_number (tokens text)) unbuilt (whole_reads (tokens text) x read) refl e
cause_from text why place false (Err halt.TooDeep) unbuilt read e = absurd (cc)
cause_from text why place false (Err (halt.At at)) unbuilt read e =
    let w : code.SqlSyntax ≡ why = cc in
    let p : place ≡ unwrap_or at (length text) = cc in
    subst (λ c. Cause text c place) w (unbuilt, (at, read, p))

pub has_cause : (text : List ℕ) (why : Code) (place : ℕ) → IsRefused text why place → Cause text why place
has_cause text why place e = cause_from text why place (is_unbuilt (tokens text)) (whole_text (tokens text)) refl refl e

pub is_refused : (text : List ℕ) (why : Code) (place : ℕ) → Cause text why place → IsRefused text why place
is_refused text code.NotBuilt place (unbuilt, p) = rw (unbuilt, p) refl
is_refused text code.SqlSyntax place (built, (at, read, p)) = judged_by text false (Err (halt.At at)) built read ∙ ap (λ n. Err (fault.Refused code.SqlSyntax n)) (sym p)
is_refused text code.NumberRange place (built, (s, read), far) = judged_by text false (Ok (s, [])) built read ∙ ap (in_range s) far
is_refused text other place h = absurd h

-- one answer, and no more
pub one_statement : (text : List ℕ) (a b : Stmt) → IsStatement text a → IsStatement text b → a ≡ b
one_statement text a b p q = let e : Ok a ≡ Ok b = sym p ∙ q in cc

pub one_refusal : (text : List ℕ) (a b : Code) (i j : ℕ) → IsRefused text a i → IsRefused text b j → (a ≡ b) × (i ≡ j)
one_refusal text a b i j p q = let e : Err (fault.Refused a i) ≡ Err (fault.Refused b j) = sym p ∙ q in (cc, cc)

pub never_both : (text : List ℕ) (s : Stmt) (why : Code) (place : ℕ) → IsStatement text s → IsRefused text why place → ⊥
never_both text s why place p q = let e : Ok s ≡ Err (fault.Refused why place) = sym p ∙ q in absurd (cc)
