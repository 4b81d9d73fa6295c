-- A text is cut in one way only.
use Rattle.std.proofs.Common.{◌≡◌, ◌≢◌, ℕ, zero, suc, ◌+◌, ◌<◌, ◌≤◌, List, [], ◌∷◌, length, drop, refl, sym, ap, ◌∙◌, arith}
use Rattle.qd_sql_lexer.specs.Tokens.{Lexeme, cut_at, with_piece, tokens_from, Cuts}
use Rattle.std.proofs.lemmas.List.{length-drop}
use Rattle.qd_sql_lexer.proofs.TokenLemmas.{tokens_from-piece}
use Rattle.qd_sql_lexer.proofs.Lengths.{cut_len}

some_bytes : (text : List ℕ) → text ≢ [] → 0 < length text
some_bytes [] some = absurd (some refl)
some_bytes (b ∷ rest) some = omega arith

-- the piece at the front, where its length is known
at_front : (n at : ℕ) (text : List ℕ) → text ≢ [] → 0 < n → n ≡ (cut_at text).len
    → tokens_from 0 at text ≡ with_piece at (cut_at text) (tokens_from 0 (at + n) (drop n text))
at_front n at text some positive is =
    tokens_from-piece at text (some_bytes text some) (omega arith)
    ∙ ap (λ k. with_piece at (cut_at text) (tokens_from 0 (at + k) (drop k text))) (sym is)

pub only_from : (lens : List ℕ) (at : ℕ) (text : List ℕ) (ts : List Lexeme) → Cuts lens at text ts → ts ≡ tokens_from 0 at text
unfolding tokens_from
only_from [] at text ts (empty, none) = none ∙ sym (ap (tokens_from 0 at) empty)
only_from (n ∷ lens) at text ts (more, some, positive, is, made, rest) =
    made ∙ ap (with_piece at (cut_at text)) (only_from lens (at + n) (drop n text) more rest) ∙ sym (at_front n at text some positive is)

-- cut from here on
cuts_on : (at b : ℕ) (rest : List ℕ) (lens : List ℕ)
    → Cuts lens (at + (cut_at (b ∷ rest)).len) (drop (cut_at (b ∷ rest)).len (b ∷ rest)) (tokens_from 0 (at + (cut_at (b ∷ rest)).len) (drop (cut_at (b ∷ rest)).len (b ∷ rest)))
    → Cuts ((cut_at (b ∷ rest)).len ∷ lens) at (b ∷ rest) (tokens_from 0 at (b ∷ rest))
cuts_on at b rest lens behind =
    let n = (cut_at (b ∷ rest)).len in
    let some : 1 ≤ n = cut_len b rest in
    let full : b ∷ rest ≢ [] = λ e. cc in
    (tokens_from 0 (at + n) (drop n (b ∷ rest)), full, some, refl, tokens_from-piece at (b ∷ rest) (omega arith) some, behind)

pub each_from : (fuel at : ℕ) (text : List ℕ) → length text ≤ fuel → (lens : List ℕ) × Cuts lens at text (tokens_from 0 at text)
unfolding tokens_from
each_from fuel at [] h = ([], (refl, refl))
each_from zero at (b ∷ rest) h = absurd (omega arith)
each_from (suc fuel) at (b ∷ rest) h =
    let n = (cut_at (b ∷ rest)).len in
    let some : 1 ≤ n = cut_len b rest in
    let less : length (drop n (b ∷ rest)) ≤ fuel = omega (arith, length-drop n (b ∷ rest)) in
    let found : (lens : List ℕ) × Cuts lens (at + n) (drop n (b ∷ rest)) (tokens_from 0 (at + n) (drop n (b ∷ rest))) = each_from fuel (at + n) (drop n (b ∷ rest)) less in
    (n ∷ found.0, cuts_on at b rest found.0 found.1)
