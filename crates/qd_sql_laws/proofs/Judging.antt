-- How a reading of tokens is judged against a rule: a relation between what is read and lists of tokens. A rule has two
-- forms: with brackets that nest within the limit (false), and at any depth (true). What is found is found within the
-- limit, and what is refused is refused at any depth.
use Rattle.std.proofs.Common.{◌≡◌, Bool, true, false, List, [], ◌∷◌, ◌++◌, Option, Some, None, Ok, Err, refl, sym, ap, ◌∙◌, append_assoc}
use Rattle.qd_sql_lexer.specs.Tokens.{Lexeme}
use Rattle.qd_sql_ast.specs.declared.stop.Halt.TheVariants as halt
use Rattle.qd_sql_ast.specs.declared.tree.Stmt.{Stmt}
use Rattle.qd_sql_ast.specs.Steps.{Read}
use Rattle.qd_sql_laws.proofs.Sorts.{Sort, Has}

abbrev pub Rule : Type 0 → Type 1
Rule A = Bool → A → List Lexeme → Type 0

-- these tokens begin some list of the rule
abbrev pub Begins : Bool → Rule Stmt → List Lexeme → Type 0
Begins d K front = (more : List Lexeme) × (b : Stmt) × K d b (front ++ more)

abbrev pub Judges : Rule Stmt → List Lexeme → Read Stmt → Type 0
Judges K ts (Ok x) = (x.1 ≡ []) × K false x.0 ts × ((b : Stmt) → K true b ts → b ≡ x.0)
Judges K ts (Err halt.TooDeep) = (b : Stmt) → K false b ts → ⊥
Judges K ts (Err (halt.At None)) = Begins false K ts × ((b : Stmt) → K true b ts → ⊥)
Judges K ts (Err (halt.At (Some at))) =
    (front : List Lexeme) × (t : Lexeme) × (behind : List Lexeme) × (ts ≡ front ++ t ∷ behind) × (at ≡ t.at) × Begins false K front × (Begins true K (front ++ t ∷ []) → ⊥)

abbrev pub first_of : List Lexeme → Option Lexeme
first_of [] = None
first_of (t ∷ ts) = Some t

pub same_first : (front : List Lexeme) (t : Lexeme) (one two : List Lexeme) → first_of (front ++ t ∷ one) ≡ first_of (front ++ t ∷ two)
same_first [] t one two = refl
same_first (f ∷ front) t one two = refl

-- a list begins with none of these sorts
abbrev pub Clear : List Sort → List Lexeme → Type 0
Clear ss us = (t : Lexeme) → first_of us ≡ Some t → Has ss t → ⊥

-- the first tokens of equal lists, and what is behind them
pub heads : (t u : Lexeme) (ts us : List Lexeme) → t ∷ ts ≡ u ∷ us → u ≡ t
heads t u ts us e = cc

pub tails : (t u : Lexeme) (ts us : List Lexeme) → t ∷ ts ≡ u ∷ us → ts ≡ us
tails t u ts us e = cc

-- two rules that agree on lists with the same first token are judged alike
pub alike : (K L : Rule Stmt) (ts : List Lexeme) (r : Read Stmt) → ((b : Stmt) (us : List Lexeme) → L false b us → K false b us)
    → ((d : Bool) (b : Stmt) (us : List Lexeme) → first_of us ≡ first_of ts → K d b us → L d b us) → Judges L ts r → Judges K ts r
alike K L ts (Ok x) to from (e, l, one) = (e, to x.0 ts l, λ b k. one b (from true b ts refl k))
alike K L ts (Err halt.TooDeep) to from none = λ b k. none b (from false b ts refl k)
alike K L ts (Err (halt.At None)) to from ((more, b, l), none) = ((more, b, to b (ts ++ more) l), λ c k. none c (from true c ts refl k))
alike K L ts (Err (halt.At (Some at))) to from (front, t, behind, e, p, (more, b, l), unlike) = (
  front,
  t,
  behind,
  e,
  p,
  (more, b, to b (front ++ more) l),
  λ (rest, c, k).
      unlike (
        rest,
        c,
        from true c ((front ++ t ∷ []) ++ rest)
            (ap first_of (append_assoc front (t ∷ []) rest) ∙ same_first front t rest behind ∙ sym (ap first_of e)) k,
      ),
)

-- what is read behind a token
pub behind_one : (K : Rule Stmt) (t : Lexeme) (ts : List Lexeme) (r : Read Stmt) → Judges (λ d b us. K d b (t ∷ us)) ts r → Judges K (t ∷ ts) r
behind_one K t ts (Ok x) h = h
behind_one K t ts (Err halt.TooDeep) h = h
behind_one K t ts (Err (halt.At None)) h = h
behind_one K t ts (Err (halt.At (Some at))) (front, u, behind, e, p, (more, b, l), unlike) = (t ∷ front, u, behind, ap (λ us. t ∷ us) e, p, (more, b, l), unlike)

-- two rules that agree on these tokens, and on what goes on where they stop
pub alike_at : (K L : Rule Stmt) (ts : List Lexeme) (r : Read Stmt) → ((b : Stmt) (us : List Lexeme) → L false b us → K false b us)
    → ((d : Bool) (b : Stmt) → K d b ts → L d b ts)
    → ((front : List Lexeme) (t : Lexeme) (behind : List Lexeme) → ts ≡ front ++ t ∷ behind → (Begins true L (front ++ t ∷ []) → ⊥) → Begins true K (front ++ t ∷ []) → ⊥)
    → Judges L ts r → Judges K ts r
alike_at K L ts (Ok x) to from stops (e, l, one) = (e, to x.0 ts l, λ b k. one b (from true b k))
alike_at K L ts (Err halt.TooDeep) to from stops none = λ b k. none b (from false b k)
alike_at K L ts (Err (halt.At None)) to from stops ((more, b, l), none) = ((more, b, to b (ts ++ more) l), λ c k. none c (from true c k))
alike_at K L ts (Err (halt.At (Some at))) to from stops (front, t, behind, e, p, (more, b, l), unlike) =
    (front, t, behind, e, p, (more, b, to b (front ++ more) l), stops front t behind e unlike)
