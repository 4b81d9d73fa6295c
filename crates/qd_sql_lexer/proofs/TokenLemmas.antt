-- The tokens of a text go on behind each piece of it.
use Rattle.std.proofs.Common.{◌≡◌, ℕ, zero, suc, ◌+◌, ◌-◌, ◌<◌, ◌≤◌, List, [], ◌∷◌, ◌++◌, length, drop, Option, Some, None, refl, sym, ap, ◌∙◌, arith, subst}
use Rattle.std.proofs.lemmas.List.{drop-drop, length-drop, drop_all}
use Rattle.qd_sql_lexer.specs.declared.token.Kind.{Kind}
use Rattle.qd_sql_lexer.specs.Tokens.{Lexeme, Piece, cut_at, with_piece, tokens_from}

-- bytes of the piece before are passed over
pub tokens_from-drop : (n at : ℕ) (text : List ℕ) → tokens_from n at text ≡ tokens_from 0 (at + n) (drop n text)
unfolding tokens_from
tokens_from-drop zero at text = ap (λ k. tokens_from 0 k text) (omega arith)
tokens_from-drop (suc n) at [] = refl
tokens_from-drop (suc n) at (b ∷ rest) = tokens_from-drop n (at + 1) rest ∙ ap (λ k. tokens_from 0 k (drop n rest)) (omega arith)

behind : (n at b : ℕ) (rest : List ℕ) → 1 ≤ n → tokens_from (n - 1) (at + 1) rest ≡ tokens_from 0 (at + n) (drop n (b ∷ rest))
behind zero at b rest some = absurd (omega arith)
behind (suc n) at b rest some =
    let less : suc n - 1 ≡ n = omega arith in
    ap (λ k. tokens_from k (at + 1) rest) less ∙ tokens_from-drop n (at + 1) rest ∙ ap (λ k. tokens_from 0 k (drop n rest)) (omega arith)

-- the piece at the front, and what is behind it
pub tokens_from-piece : (at : ℕ) (text : List ℕ) → 0 < length text → 1 ≤ (cut_at text).len
    → tokens_from 0 at text ≡ with_piece at (cut_at text) (tokens_from 0 (at + (cut_at text).len) (drop (cut_at text).len text))
unfolding tokens_from
tokens_from-piece at [] some len = absurd (omega arith)
tokens_from-piece at (b ∷ rest) some len = ap (with_piece at (cut_at (b ∷ rest))) (behind (cut_at (b ∷ rest)).len at b rest len)

with_kind : (at len : ℕ) (content : List ℕ) (kind : Option Kind) (rest : List Lexeme)
    → with_piece at (record { kind = kind; len = len; content = content }) rest ≡ with_piece at (record { kind = kind; len = len; content = content }) [] ++ rest
with_kind at len content None rest = refl
with_kind at len content (Some k) rest = refl

-- it stands in front of what is behind it
pub with_piece-append : (at : ℕ) (p : Piece) (rest : List Lexeme) → with_piece at p rest ≡ with_piece at p [] ++ rest
with_piece-append at p rest = with_kind at p.len p.content p.kind rest

-- the piece that stands at an offset
at_cut : (at : ℕ) (text : List ℕ) → at < length text → 1 ≤ (cut_at (drop at text)).len
    → tokens_from 0 at (drop at text) ≡ with_piece at (cut_at (drop at text)) [] ++ tokens_from 0 (at + (cut_at (drop at text)).len) (drop (at + (cut_at (drop at text)).len) text)
at_cut at text within some =
    let p = cut_at (drop at text) in
    tokens_from-piece at (drop at text) (omega (arith, length-drop at text)) some
    ∙ with_piece-append at p (tokens_from 0 (at + p.len) (drop p.len (drop at text)))
    ∙ ap (λ rest. with_piece at p [] ++ tokens_from 0 (at + p.len) rest) (drop-drop p.len at text)

pub tokens_from-at : (at : ℕ) (text : List ℕ) (p : Piece) → at < length text → p ≡ cut_at (drop at text) → 1 ≤ p.len
    → tokens_from 0 at (drop at text) ≡ with_piece at p [] ++ tokens_from 0 (at + p.len) (drop (at + p.len) text)
tokens_from-at at text p within is some =
    subst (λ q. 1 ≤ q.len → tokens_from 0 at (drop at text) ≡ with_piece at q [] ++ tokens_from 0 (at + q.len) (drop (at + q.len) text)) (sym is) (at_cut at text within) some

-- nothing is left behind the end
pub tokens_from-end : (at : ℕ) (text : List ℕ) → length text ≤ at → tokens_from 0 at (drop at text) ≡ []
unfolding tokens_from
tokens_from-end at text behind = ap (tokens_from 0 at) (drop_all at text behind)
