-- What bytes spell is one script.
use Rattle.std.proofs.Common.{◌≡◌, ℕ, zero, suc, ◌+◌, ◌<◌, ◌≤◌, inl, inr, Bool, true, false, MatchBool, List, [], ◌∷◌, ◌++◌, length, refl, sym, ap, ◌∙◌, subst, arith, length-append}
use Rattle.httparse.specs.Grammar.{print_request}
use Rattle.qd_base.specs.declared.request.Reply.{Reply}
use Rattle.qd_base.specs.declared.request.Request.TheVariants as request
use Rattle.qd_base.specs.Script.{Script, Turn, Asks, Ending, Waiting, Ended, Malformed}
use Rattle.qd_http.specs.Responses.{bare_reply, http_reply}
use Rattle.qd_http.specs.Steps.{EndsHere, Https, HttpSteps, https_spell, is_last, turn_of}
use Rattle.qd_http.proofs.HeadLemmas.{head_long}
use Rattle.qd_http.proofs.SortLemmas.{HasRequest, Sort, never_both, request_is_some, request_is_whole, request_more, request_one, sort_of}

-- ---- one

ends_one : (ts us : List Turn) (e f : Ending) → EndsHere ts e → EndsHere us f → (ts ≡ us) × (e ≡ f)
ends_one ts us e f x y = (x.0 ∙ sym y.0, x.1 ∙ sym y.1)

match_both : (b c : Bool) {P Q R S T : Type 0} → b ≡ c → (P → R → T) → (Q → S → T) → MatchBool b P Q → MatchBool c R S → T
match_both true true e here on x y = here x y
match_both true false e here on x y = absurd (cc)
match_both false true e here on x y = absurd (cc)
match_both false false e here on x y = on x y

pub one_reading : (at : ℕ) (bytes : List ℕ) (ts us : List Turn) (e f : Ending) → HttpSteps at bytes ts e → HttpSteps at bytes us f → (ts ≡ us) × (e ≡ f)
one_reading at bytes [] [] (Waiting rest place how) (Waiting rest' place' how') x y = (refl, cc (x.0, x.1, x.2, y.0, y.1, y.2))
one_reading at bytes [] [] (Waiting rest place how) Ended x y = absurd y
one_reading at bytes [] [] (Waiting rest place how) (Malformed place' how') x y = absurd (never_both bytes x.3 y.2)
one_reading at bytes [] [] Ended f x y = absurd x
one_reading at bytes [] [] (Malformed place how) (Waiting rest place' how') x y = absurd (never_both bytes y.3 x.2)
one_reading at bytes [] [] (Malformed place how) Ended x y = absurd y
one_reading at bytes [] [] (Malformed place how) (Malformed place' how') x y = (refl, cc (x.0, x.1, y.0, y.1))
one_reading at bytes [] (u ∷ us) (Waiting rest place how) f x y = absurd (request_is_whole bytes (y.0, y.1, y.2, y.3) x.3)
one_reading at bytes [] (u ∷ us) Ended f x y = absurd x
one_reading at bytes [] (u ∷ us) (Malformed place how) f x y = absurd (request_is_some bytes (y.0, y.1, y.2, y.3) x.2)
one_reading at bytes (t ∷ ts) [] e (Waiting rest place how) x y = absurd (request_is_whole bytes (x.0, x.1, x.2, x.3) y.3)
one_reading at bytes (t ∷ ts) [] e Ended x y = absurd y
one_reading at bytes (t ∷ ts) [] e (Malformed place how) x y = absurd (request_is_some bytes (x.0, x.1, x.2, x.3) y.2)
one_reading at bytes (t ∷ ts) (u ∷ us) e f x y =
    let same = request_one bytes x.0 y.0 x.1 y.1 x.2 y.2 x.3 y.3 in
    let turns : t ≡ u = x.4 ∙ (ap (λ h. turn_of h x.1) same.0 ∙ (ap (λ b. turn_of y.0 b) same.1 ∙ sym y.4)) in
    let place : at + (length (print_request y.0) + length y.1) ≡ at + (length (print_request x.0) + length x.1) =
    ap (λ h. at + (length (print_request h) + length y.1)) (sym same.0) ∙ ap (λ (b : List ℕ). at + (length (print_request x.0) + length b)) (sym same.1) in
    let behind = match_both (is_last x.0) (is_last y.0) (ap is_last same.0)
    (ends_one ts us e f)
    (λ more more'. one_reading (at + (length (print_request x.0) + length x.1)) x.2 ts us e f more
    (subst (λ b. HttpSteps (at + (length (print_request x.0) + length x.1)) b us f) (sym same.2) (subst (λ n. HttpSteps n y.2 us f) place more')))
    x.5 y.5 in
    (cc (turns, behind.0), behind.1)

-- ---- some

-- the steps of bytes
abbrev pub HasSteps : ℕ → List ℕ → Type 0
HasSteps at bytes = (ts : List Turn) × (e : Ending) × HttpSteps at bytes ts e

steps_behind : (at : ℕ) (bytes : List ℕ) (h : HasRequest bytes) (last : Bool) → is_last h.0 ≡ last → HasSteps (at + (length (print_request h.0) + length h.1)) h.2 → HasSteps at bytes
steps_behind at bytes h true is more =
    (turn_of h.0 h.1 ∷ Asks request.End (http_reply request.End) ∷ [], Ended, (h.0, h.1, h.2, h.3, refl, subst (λ b. MatchBool b (EndsHere (Asks request.End (http_reply request.End) ∷ []) Ended) (HttpSteps (at + (length (print_request h.0) + length h.1)) h.2 (Asks request.End (http_reply request.End) ∷ []) Ended)) (sym is) (refl, refl)))
steps_behind at bytes h false is more =
    (turn_of h.0 h.1 ∷ more.0, more.1, (h.0, h.1, h.2, h.3, refl, subst (λ b. MatchBool b (EndsHere more.0 more.1) (HttpSteps (at + (length (print_request h.0) + length h.1)) h.2 more.0 more.1)) (sym is) more.2))

steps_sorted : (at : ℕ) (bytes : List ℕ) → Sort bytes → ((at' : ℕ) (rest : List ℕ) → length rest < length bytes → HasSteps at' rest) → HasSteps at bytes
steps_sorted at bytes (inl u) next = ([], Waiting bytes at bare_reply, (refl, refl, refl, u))
steps_sorted at bytes (inr (inl none)) next = ([], Malformed at bare_reply, (refl, refl, none))
steps_sorted at bytes (inr (inr h)) next =
    let reads = h.3.begins.reads in
    let less : length h.2 < length bytes = omega (arith, ap length reads.1, length-append (print_request h.0) (h.1 ++ h.2), length-append h.1 h.2, head_long h.0 reads.0) in
    steps_behind at bytes h (is_last h.0) refl (next (at + (length (print_request h.0) + length h.1)) h.2 less)

steps_within : (n at : ℕ) (bytes : List ℕ) → length bytes ≤ n → HasSteps at bytes
steps_within zero at bytes within = steps_sorted at bytes (sort_of bytes) (λ at' rest less. absurd (omega arith))
steps_within (suc n) at bytes within = steps_sorted at bytes (sort_of bytes) (λ at' rest less. steps_within n at' rest (omega arith))

pub has_steps : (at : ℕ) (bytes : List ℕ) → HasSteps at bytes
has_steps at bytes = steps_within (length bytes) at bytes (omega arith)

-- ---- scripts

some_by : (f : Https) (more : List ℕ) (closing : Bool) → f.closing ≡ closing → (s : Script) × https_spell f more s
some_by f more true is =
    let turns : List Turn = Asks request.End (http_reply request.End) ∷ [] in
    (record { turns = turns; ending = Ended }, subst (λ b. MatchBool b (EndsHere turns Ended) (HttpSteps f.start (f.waiting ++ more) turns Ended)) (sym is) (refl, refl))
some_by f more false is =
    let h = has_steps f.start (f.waiting ++ more) in
    (record { turns = h.0; ending = h.1 }, subst (λ b. MatchBool b (EndsHere h.0 h.1) (HttpSteps f.start (f.waiting ++ more) h.0 h.1)) (sym is) h.2)

pub some_script : (f : Https) (more : List ℕ) → (s : Script) × https_spell f more s
some_script f more = some_by f more f.closing refl

pub one_script : (f : Https) (more : List ℕ) (s t : Script) → https_spell f more s → https_spell f more t → s ≡ t
one_script f more s t h k =
    let one = match_both f.closing f.closing refl (ends_one s.turns t.turns s.ending t.ending) (one_reading f.start (f.waiting ++ more) s.turns t.turns s.ending t.ending) h k in
    ap (λ (x : List Turn). record { turns = x; ending = s.ending }) one.0 ∙ ap (λ (e : Ending). record { turns = t.turns; ending = e }) one.1

-- ---- a cut

not_ended : (rest : List ℕ) (place : ℕ) (how : Reply → List ℕ) → Waiting rest place how ≡ Ended → ⊥
not_ended rest place how e = cc

pub cut_anywhere : (at place : ℕ) (a b rest : List ℕ) (how : Reply → List ℕ) (ts us : List Turn) (e : Ending)
    → HttpSteps at a ts (Waiting rest place how) → HttpSteps place (rest ++ b) us e → HttpSteps at (a ++ b) (ts ++ us) e
cut_anywhere at place a b rest how [] us e x y = subst (λ n. HttpSteps n (a ++ b) us e) x.1 (subst (λ r. HttpSteps place (r ++ b) us e) x.0 y)
cut_anywhere at place a b rest how (t ∷ ts) us e x y =
    let size = length (print_request x.0) + length x.1 in
    (x.0, x.1, x.2 ++ b, request_more a b x.0 x.1 x.2 x.3, x.4, behind (is_last x.0) x.5 (λ more. cut_anywhere (at + size) place x.2 b rest how ts us e more y))
  where
    behind : (last : Bool) → MatchBool last (EndsHere ts (Waiting rest place how)) (HttpSteps (at + (length (print_request x.0) + length x.1)) x.2 ts (Waiting rest place how))
        → (HttpSteps (at + (length (print_request x.0) + length x.1)) x.2 ts (Waiting rest place how) → HttpSteps (at + (length (print_request x.0) + length x.1)) (x.2 ++ b) (ts ++ us) e)
        → MatchBool last (EndsHere (ts ++ us) e) (HttpSteps (at + (length (print_request x.0) + length x.1)) (x.2 ++ b) (ts ++ us) e)
    behind true h next = absurd (not_ended rest place how h.1)
    behind false h next = next h
