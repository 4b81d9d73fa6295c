-- What a text is by the grammar, from how its tokens are judged.
use Rattle.std.proofs.Common.{◌≡◌, ℕ, Bool, true, false, List, [], ◌∷◌, ◌++◌, length, Option, Some, None, unwrap_or, Result, Ok, Err, refl, sym, ap, ap₂, ◌∙◌, subst, inl, inr, ◌⊎◌, if◌then◌else◌, append_assoc, append-nil, ◌<◌, ◌≤◌, nat_le, arith}
use Rattle.std.proofs.lemmas.Bool.Decides.{nat_tests}
use Rattle.qd_base.specs.declared.code.Code.TheVariants as code
use Rattle.qd_sql_lexer.specs.Tokens.{Lexeme, tokens}
use Rattle.qd_sql_ast.specs.declared.stop.Halt.TheVariants as halt
use Rattle.qd_sql_ast.specs.declared.tree.Stmt.{Stmt}
use Rattle.qd_sql_ast.specs.Steps.{Read, same_kind}
use Rattle.qd_sql.specs.declared.stmt.SqlFault.{SqlFault}
use Rattle.qd_sql.specs.declared.stmt.SqlFault.TheVariants as fault
use Rattle.qd_sql.specs.Statement.{whole_text, is_unbuilt, far_number, in_range, judged as judged_text, IsRead, IsStatement, IsRefused, IsTooDeep}
use Rattle.qd_sql.proofs.Answered.{answered as answers, stands, is_statement, has_cause, is_refused}
use Rattle.qd_sql.specs.Laws.{Cause}
use Rattle.qd_base.specs.declared.code.Code.{Code}
use Rattle.qd_base.specs.declared.limits.TheConstants.{MAX_NESTING}
use Rattle.qd_sql_ast.specs.Nesting.{brackets_in}
use Rattle.qd_sql_laws.specs.Grammar.{ReadsShallowSql, ReadsSql, CanGoOnShallow, CanGoOn}
use Rattle.qd_sql_laws.specs.Laws.{IsByGrammar, place_of, GoesNoFurther, StopsAt}
use Rattle.qd_sql_laws.proofs.Judging.{heads, tails, Judges}
use Rattle.qd_sql_lexer.specs.declared.token.Kind.TheVariants as kind
use Rattle.qd_sql_laws.proofs.Sorts.{Good, AllGood, not_both}
use Rattle.qd_sql_laws.proofs.Shallow.{shallow_low, low_shallow}
use Rattle.qd_sql_laws.proofs.WholeExact.{whole_clean, Whole, judged, deepen, one_deep}

-- what is refused is no statement
refused_none : (ts : List Lexeme) (o : Option ℕ) (s : Stmt) → Judges Whole ts (Err (halt.At o)) → ReadsSql ts s → ⊥
refused_none ts None s (goes, none) h = none s h
refused_none ts (Some at) s (front, t, behind, e, p, goes, unlike) h =
    unlike (behind, s, subst (λ z. ReadsSql z s) (e ∙ sym (append_assoc front (t ∷ []) behind)) h)

-- each result
read_at : (ts : List Lexeme) (r : Read Stmt) → whole_text ts ≡ r → Judges Whole ts r
read_at ts r e = subst (Judges Whole ts) e (judged ts)

-- what is read is a statement by the grammar, and the other way round
pub by_grammar : (text : List ℕ) (s : Stmt) → IsStatement text s → IsByGrammar text s
by_grammar text s e =
    let h = stands text s e in
    record { built = h.built; read = (read_at (tokens text) (Ok (s, [])) h.read).1; in_range = h.in_range }

whole_at : (ts : List Lexeme) (r : Read Stmt) (s : Stmt) → whole_text ts ≡ r → Judges Whole ts r → ReadsShallowSql ts s → whole_text ts ≡ Ok (s, [])
whole_at ts (Ok x) s e (p, h, one) k = e ∙ ap₂ (λ a b. Ok (a, b)) (sym (one s (deepen ts s k))) p
whole_at ts (Err halt.TooDeep) s e none k = absurd (none s k)
whole_at ts (Err (halt.At o)) s e h k = absurd (refused_none ts o s h (deepen ts s k))

pub tokens_read : (ts : List Lexeme) (s : Stmt) → IsRead ts s → ReadsShallowSql ts s
tokens_read ts s e = (read_at ts (Ok (s, [])) e).1

pub read_tokens : (ts : List Lexeme) (s : Stmt) → ReadsShallowSql ts s → IsRead ts s
read_tokens ts s h = whole_at ts (whole_text ts) s refl (judged ts) h

pub is_by_grammar : (text : List ℕ) (s : Stmt) → IsByGrammar text s → IsStatement text s
is_by_grammar text s h =
    is_statement text s (record { built = h.built; read = whole_at (tokens text) (whole_text (tokens text)) s refl (judged (tokens text)) h.read; in_range = h.in_range })

pub only_statement : (text : List ℕ) (a b : Stmt) → IsStatement text a → ReadsSql (tokens text) b → b ≡ a
only_statement text a b e h = (read_at (tokens text) (Ok (a, [])) (stands text a e).read).2 b h

pub no_statement : (text : List ℕ) (place : ℕ) (s : Stmt) → IsRefused text code.SqlSyntax place → ReadsSql (tokens text) s → ⊥
no_statement text place s e h = refused_none (tokens text) (has_cause text code.SqlSyntax place e).1.0 s (read_at (tokens text) (Err (halt.At (has_cause text code.SqlSyntax place e).1.0)) (has_cause text code.SqlSyntax place e).1.1) h

-- where nesting was too deep
abbrev answered : List ℕ → Bool → Read Stmt → Result Stmt SqlFault
answered text b r = if b then Err (fault.Refused code.NotBuilt 0) else judged_text (length text) (tokens text) r

range_not_deep : (s : Stmt) (far : Option ℕ) → in_range s far ≡ Err fault.TooDeep → ⊥
range_not_deep s None e = cc
range_not_deep s (Some place) e = cc

deep_at : (text : List ℕ) (b : Bool) (r : Read Stmt) (s : Stmt) → answered text b r ≡ Err fault.TooDeep → Judges Whole (tokens text) r → ReadsShallowSql (tokens text) s → ⊥
deep_at text true r s e h k = cc
deep_at text false (Ok x) s e h k = range_not_deep x.0 (far_number (tokens text)) e
deep_at text false (Err halt.TooDeep) s e none k = none s k
deep_at text false (Err (halt.At o)) s e h k = refused_none (tokens text) o s h (deepen (tokens text) s k)

pub too_deep : (text : List ℕ) (s : Stmt) → IsTooDeep text → ReadsShallowSql (tokens text) s → ⊥
too_deep text s e k = deep_at text (is_unbuilt (tokens text)) (whole_text (tokens text)) s e (judged (tokens text)) k

pub deep_text : (text : List ℕ) (s : Stmt) → IsTooDeep text → ReadsSql (tokens text) s → MAX_NESTING < brackets_in s
deep_text text s e h = by (nat_le (brackets_in s) MAX_NESTING) refl
  where
    by : (b : Bool) → nat_le (brackets_in s) MAX_NESTING ≡ b → MAX_NESTING < brackets_in s
    by true low = absurd (too_deep text s e (low_shallow (tokens text) s (h, (grind (arith, nat_tests)))))
    by false high = grind (arith, nat_tests)

-- a statement that nests too deep is neither read nor refused
not_read : (text : List ℕ) (s t : Stmt) → ReadsSql (tokens text) s → MAX_NESTING < brackets_in s → IsRead (tokens text) t → ⊥
not_read text s t h deep read =
    let low = shallow_low (tokens text) t (tokens_read (tokens text) t read) in
    let same : t ≡ s = one_deep (tokens text) t s low.0 h in
    let k : brackets_in s ≤ MAX_NESTING = subst (λ (x : Stmt). brackets_in x ≤ MAX_NESTING) same low.1 in
    absurd (omega (arith, deep, k))

no_cause : (text : List ℕ) (s : Stmt) (why : Code) (place : ℕ) → is_unbuilt (tokens text) ≡ false → ReadsSql (tokens text) s → MAX_NESTING < brackets_in s → IsRefused text why place → Cause text why place → ⊥
no_cause text s code.NotBuilt place built h deep e (unbuilt, p) = absurd (not_both (is_unbuilt (tokens text)) unbuilt built)
no_cause text s code.SqlSyntax place built h deep e cause = no_statement text place s e h
no_cause text s code.NumberRange place built h deep e (b, (t, read), far) = not_read text s t h deep read
no_cause text s other place built h deep e cause = absurd cause

pub text_deep : (text : List ℕ) (s : Stmt) → is_unbuilt (tokens text) ≡ false → ReadsSql (tokens text) s → MAX_NESTING < brackets_in s → IsTooDeep text
text_deep text s built h deep = by (answers text)
  where
    by : ((t : Stmt) × IsStatement text t) ⊎ (((why : Code) × (place : ℕ) × IsRefused text why place) ⊎ IsTooDeep text) → IsTooDeep text
    by (inl (t, e)) = absurd (not_read text s t h deep (stands text t e).read)
    by (inr (inl (why, place, e))) = absurd (no_cause text s why place built h deep e (has_cause text why place e))
    by (inr (inr e)) = e

-- the place of a refusal
stops_at : (ts : List Lexeme) (len place : ℕ) (o : Option ℕ) → place ≡ unwrap_or o len → Judges Whole ts (Err (halt.At o)) → StopsAt ts len place
stops_at ts len place None e (goes, none) = record { front = ts; behind = []; whole = sym (append-nil ts); place_is = e; goes_on = goes; no_further = none }
stops_at ts len place (Some at) e (front, t, behind, p, q, goes, unlike) = record {
  front = front;
  behind = t ∷ behind;
  whole = p;
  place_is = e ∙ q;
  goes_on = goes;
  no_further = unlike;
}

pub stops : (text : List ℕ) (place : ℕ) → IsRefused text code.SqlSyntax place → (is_unbuilt (tokens text) ≡ false) × StopsAt (tokens text) (length text) place
stops text place e =
    let c = has_cause text code.SqlSyntax place e in
    (c.0, stops_at (tokens text) (length text) place c.1.0 c.1.2 (read_at (tokens text) (Err (halt.At c.1.0)) c.1.1))

-- a beginning of what begins a statement begins one
shorter : (front : List Lexeme) (t : Lexeme) (behind more : List Lexeme) (s : Stmt) → ReadsShallowSql ((front ++ t ∷ behind) ++ more) s → CanGoOn (front ++ t ∷ [])
shorter front t behind more s h = (
  behind ++ more,
  s,
  subst (λ z. ReadsSql z s)
      (ap (λ z. z ++ more) (sym (append_assoc front (t ∷ []) behind)) ∙ append_assoc (front ++ t ∷ []) behind more)
      (deepen ((front ++ t ∷ behind) ++ more) s h),
)

-- two places of one list
Places : List Lexeme → List Lexeme → Lexeme → Lexeme → Type 0
Places one two t u =
    (one ≡ two) × (t ≡ u) ⊎ (((more : List Lexeme) × (one ≡ two ++ u ∷ more)) ⊎ ((more : List Lexeme) × (two ≡ one ++ t ∷ more)))

further : (v w : Lexeme) (one two : List Lexeme) (t u : Lexeme) → v ≡ w → Places one two t u → Places (v ∷ one) (w ∷ two) t u
unfolding Places
further v w one two t u e (inl (p, q)) = inl (ap₂ (λ a b. a ∷ b) e p, q)
further v w one two t u e (inr (inl (more, p))) = inr (inl (more, ap₂ (λ a b. a ∷ b) e p))
further v w one two t u e (inr (inr (more, p))) = inr (inr (more, ap₂ (λ a b. a ∷ b) (sym e) p))

places : (one two : List Lexeme) (t u : Lexeme) (as_one as_two : List Lexeme) → one ++ t ∷ as_one ≡ two ++ u ∷ as_two → Places one two t u
unfolding Places
places [] [] t u as_one as_two e = inl (refl, sym (heads t u as_one as_two e))
places [] (w ∷ two) t u as_one as_two e = inr (inr (two, ap (λ z. z ∷ two) (heads t w as_one (two ++ u ∷ as_two) e)))
places (v ∷ one) [] t u as_one as_two e = inr (inl (one, ap (λ z. z ∷ one) (sym (heads v u (one ++ t ∷ as_one) as_two e))))
places (v ∷ one) (w ∷ two) t u as_one as_two e =
    further v w one two t u (sym (heads v w (one ++ t ∷ as_one) (two ++ u ∷ as_two) e))
    (places one two t u as_one as_two (tails v w (one ++ t ∷ as_one) (two ++ u ∷ as_two) e))

-- what stops at a place is refused there, or nests too deep
same_place : (front front₂ : List Lexeme) (t t₂ : Lexeme) → Places front front₂ t t₂ → CanGoOnShallow front → (CanGoOn (front ++ t ∷ []) → ⊥) → CanGoOnShallow front₂ → (CanGoOn (front₂ ++ t₂ ∷ []) → ⊥) → t ≡ t₂
unfolding Places
same_place front front₂ t t₂ (inl (p, q)) goes none goes₂ none₂ = q
same_place front front₂ t t₂ (inr (inl (more, p))) (rest, s, h) none goes₂ none₂ = absurd (none₂ (shorter front₂ t₂ more rest s (subst (λ z. ReadsShallowSql (z ++ rest) s) p h)))
same_place front front₂ t t₂ (inr (inr (more, p))) goes none (rest, s, h) none₂ = absurd (none (shorter front t more rest s (subst (λ z. ReadsShallowSql (z ++ rest) s) p h)))

goes_to_end : (ts front : List Lexeme) → ts ≡ front ++ [] → ts ≡ front
goes_to_end ts front p = p ∙ append-nil front

found_at : (text : List ℕ) (place : ℕ) (front behind : List Lexeme) (r : Read Stmt) → is_unbuilt (tokens text) ≡ false → whole_text (tokens text) ≡ r → Judges Whole (tokens text) r
    → tokens text ≡ front ++ behind → place ≡ place_of behind (length text) → CanGoOnShallow front → GoesNoFurther front behind → IsRefused text code.SqlSyntax place ⊎ IsTooDeep text
found_at text place front [] (Ok x) built read (e, h, one) whole p goes none = absurd (none x.0 (subst (λ z. ReadsSql z x.0) (goes_to_end (tokens text) front whole) (deepen (tokens text) x.0 h)))
found_at text place front (t ∷ behind) (Ok x) built read (e, h, one) whole p goes none =
    absurd (none (shorter front t behind [] x.0 (subst (λ z. ReadsShallowSql z x.0) (whole ∙ sym (append-nil (front ++ t ∷ behind))) h)))
found_at text place front behind (Err halt.TooDeep) built read h whole p goes none = inr (ap₂ (answered text) built read)
found_at text place front [] (Err (halt.At None)) built read h whole p goes none = inl (is_refused text code.SqlSyntax place (built, (None, read, p)))
found_at text place front (t ∷ behind) (Err (halt.At None)) built read ((more, s, h), none₂) whole p goes none =
    absurd (none (shorter front t behind more s (subst (λ z. ReadsShallowSql (z ++ more) s) whole h)))
found_at text place front [] (Err (halt.At (Some at))) built read (front₂, t₂, behind₂, e, q, goes₂, none₂) whole p (more, s, h) none =
    absurd (none₂ (shorter front₂ t₂ behind₂ more s (subst (λ z. ReadsShallowSql (z ++ more) s) (sym (goes_to_end (tokens text) front whole) ∙ e) h)))
found_at text place front (t ∷ behind) (Err (halt.At (Some at))) built read (front₂, t₂, behind₂, e, q, goes₂, none₂) whole p goes none =
    let same = same_place front front₂ t t₂ (places front front₂ t t₂ behind behind₂ (sym whole ∙ e)) goes none goes₂ none₂ in
    inl (is_refused text code.SqlSyntax place (built, (Some at, read, p ∙ ap (λ z. z.at) same ∙ sym q)))

pub refused_at : (text : List ℕ) (place : ℕ) → is_unbuilt (tokens text) ≡ false → StopsAt (tokens text) (length text) place → IsRefused text code.SqlSyntax place ⊎ IsTooDeep text
refused_at text place built h =
    found_at text place h.front h.behind (whole_text (tokens text)) built refl (judged (tokens text)) h.whole h.place_is h.goes_on h.no_further

-- a bad token begins nothing
good_at : (front : List Lexeme) (t : Lexeme) (more : List Lexeme) → AllGood ((front ++ t ∷ []) ++ more) → Good t
good_at [] t more h = h.0
good_at (f ∷ front) t more h = good_at front t more h.1

pub bad_token : (front : List Lexeme) (t : Lexeme) → same_kind t.kind kind.Bad ≡ true → CanGoOn (front ++ t ∷ []) → ⊥
bad_token front t bad (more, s, h) = let g : same_kind t.kind kind.Bad ≡ false = good_at front t more (whole_clean ((front ++ t ∷ []) ++ more) s h) in not_both (same_kind t.kind kind.Bad) bad g
