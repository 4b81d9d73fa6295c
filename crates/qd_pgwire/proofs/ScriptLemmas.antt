-- What bytes spell is one script.
use Rattle.std.proofs.Common.{◌≡◌, ℕ, zero, suc, ◌+◌, ◌<◌, ◌≤◌, Bool, true, false, MatchBool, List, [], ◌∷◌, ◌++◌, length, drop, refl, sym, ap, ◌∙◌, subst, arith}
use Rattle.std.proofs.lemmas.List.{drop-append-le, length-drop}
use Rattle.qd_base.specs.declared.request.Reply.{Reply}
use Rattle.qd_base.specs.Script.{Script, Turn, Ending, Waiting, Ended, Malformed}
use Rattle.qd_pgwire.specs.declared.found.Kind.{Kind}
use Rattle.qd_pgwire.specs.declared.found.Mode.{Mode}
use Rattle.qd_pgwire.specs.declared.found.Found.{Found}
use Rattle.qd_pgwire.specs.declared.found.Found.TheVariants as found
use Rattle.qd_pgwire.specs.Messages.{first, text_in}
use Rattle.qd_pgwire.specs.Replies.{pg_reply}
use Rattle.qd_pgwire.specs.Steps.{EndsHere, Pgs, PgSteps, is_last, mode_after, pg_spell, turn_of}
use Rattle.qd_pgwire.proofs.FindLemmas.{least_of, text_more, whole_lies, whole_more}

-- ---- one

ends_one : (ts us : List Turn) (e f : Ending) → EndsHere ts e → EndsHere us f → (ts ≡ us) × (e ≡ f)
ends_one ts us e f x y = (x.0 ∙ sym y.0, x.1 ∙ sym y.1)

match_both : (b c : Bool) {P Q R S T : Type 0} → b ≡ c → (P → R → T) → (Q → S → T) → MatchBool b P Q → MatchBool c R S → T
match_both true true e here on x y = here x y
match_both true false e here on x y = absurd (cc)
match_both false true e here on x y = absurd (cc)
match_both false false e here on x y = on x y

short_or_wrong : (f : Found) → f ≡ found.Short → f ≡ found.Wrong → ⊥
short_or_wrong f x y = cc

short_or_whole : (f : Found) (k : Kind) (size : ℕ) → f ≡ found.Short → f ≡ found.Whole k size → ⊥
short_or_whole f k size x y = cc

wrong_or_whole : (f : Found) (k : Kind) (size : ℕ) → f ≡ found.Wrong → f ≡ found.Whole k size → ⊥
wrong_or_whole f k size x y = cc

pub same_kind : (f : Found) (k l : Kind) (n o : ℕ) → f ≡ found.Whole k n → f ≡ found.Whole l o → (k ≡ l) × (n ≡ o)
same_kind f k l n o x y = (cc, cc)

pub one_reading : (m : Mode) (at : ℕ) (bytes : List ℕ) (ts us : List Turn) (e f : Ending) → PgSteps m at bytes ts e → PgSteps m at bytes us f → (ts ≡ us) × (e ≡ f)
one_reading m at bytes [] [] (Waiting rest place how) (Waiting rest' place' how') x y = (refl, cc (x.0, x.1, x.2, y.0, y.1, y.2))
one_reading m at bytes [] [] (Waiting rest place how) Ended x y = absurd y
one_reading m at bytes [] [] (Waiting rest place how) (Malformed place' how') x y = absurd (short_or_wrong (first m bytes) x.3 y.2)
one_reading m at bytes [] [] Ended f x y = absurd x
one_reading m at bytes [] [] (Malformed place how) (Waiting rest place' how') x y = absurd (short_or_wrong (first m bytes) y.3 x.2)
one_reading m at bytes [] [] (Malformed place how) Ended x y = absurd y
one_reading m at bytes [] [] (Malformed place how) (Malformed place' how') x y = (refl, cc (x.0, x.1, y.0, y.1))
one_reading m at bytes [] (u ∷ us) (Waiting rest place how) f x y = absurd (short_or_whole (first m bytes) y.0 y.1 x.3 y.2)
one_reading m at bytes [] (u ∷ us) Ended f x y = absurd x
one_reading m at bytes [] (u ∷ us) (Malformed place how) f x y = absurd (wrong_or_whole (first m bytes) y.0 y.1 x.2 y.2)
one_reading m at bytes (t ∷ ts) [] e (Waiting rest place how) x y = absurd (short_or_whole (first m bytes) x.0 x.1 y.3 x.2)
one_reading m at bytes (t ∷ ts) [] e Ended x y = absurd y
one_reading m at bytes (t ∷ ts) [] e (Malformed place how) x y = absurd (wrong_or_whole (first m bytes) x.0 x.1 y.2 x.2)
one_reading m at bytes (t ∷ ts) (u ∷ us) e f x y =
    let same = same_kind (first m bytes) x.0 y.0 x.1 y.1 x.2 y.2 in
    let turns : t ≡ u = x.3 ∙ (ap (λ k. turn_of m k (text_in x.1 bytes)) same.0 ∙ (ap (λ n. turn_of m y.0 (text_in n bytes)) same.1 ∙ sym y.3)) in
    let behind = match_both (is_last x.0) (is_last y.0) (ap is_last same.0)
    (ends_one ts us e f)
    (λ more more'. one_reading (mode_after m x.0) (at + x.1) (drop x.1 bytes) ts us e f more
    (subst (λ k. PgSteps (mode_after m k) (at + x.1) (drop x.1 bytes) us f) (sym same.0) (subst (λ n. PgSteps (mode_after m y.0) (at + n) (drop n bytes) us f) (sym same.1) more')))
    x.4 y.4 in
    (cc (turns, behind.0), behind.1)

-- ---- some

-- the steps of bytes
abbrev pub HasSteps : Mode → ℕ → List ℕ → Type 0
HasSteps m at bytes = (ts : List Turn) × (e : Ending) × PgSteps m at bytes ts e

steps_behind : (m : Mode) (at : ℕ) (bytes : List ℕ) (k : Kind) (size : ℕ) → first m bytes ≡ found.Whole k size → (last : Bool) → is_last k ≡ last → HasSteps (mode_after m k) (at + size) (drop size bytes) → HasSteps m at bytes
steps_behind m at bytes k size found_ true is more =
    (turn_of m k (text_in size bytes) ∷ [], Ended, (k, size, found_, refl, subst (λ b. MatchBool b (EndsHere [] Ended) (PgSteps (mode_after m k) (at + size) (drop size bytes) [] Ended)) (sym is) (refl, refl)))
steps_behind m at bytes k size found_ false is more =
    (turn_of m k (text_in size bytes) ∷ more.0, more.1, (k, size, found_, refl, subst (λ b. MatchBool b (EndsHere more.0 more.1) (PgSteps (mode_after m k) (at + size) (drop size bytes) more.0 more.1)) (sym is) more.2))

steps_found : (m : Mode) (at : ℕ) (bytes : List ℕ) (f : Found) → first m bytes ≡ f → ((n : Mode) (at' : ℕ) (rest : List ℕ) → length rest < length bytes → HasSteps n at' rest) → HasSteps m at bytes
steps_found m at bytes found.Short is next = ([], Waiting bytes at pg_reply, (refl, refl, refl, is))
steps_found m at bytes found.Wrong is next = ([], Malformed at pg_reply, (refl, refl, is))
steps_found m at bytes (found.Whole k size) is next =
    let lies = whole_lies m bytes k size is in
    let less : length (drop size bytes) < length bytes = omega (arith, length-drop size bytes, least_of k size bytes lies, lies.1) in
    steps_behind m at bytes k size is (is_last k) refl (next (mode_after m k) (at + size) (drop size bytes) less)

steps_within : (n : ℕ) (m : Mode) (at : ℕ) (bytes : List ℕ) → length bytes ≤ n → HasSteps m at bytes
steps_within zero m at bytes within = steps_found m at bytes (first m bytes) refl (λ o at' rest less. absurd (omega arith))
steps_within (suc n) m at bytes within = steps_found m at bytes (first m bytes) refl (λ o at' rest less. steps_within n o at' rest (omega arith))

pub has_steps : (m : Mode) (at : ℕ) (bytes : List ℕ) → HasSteps m at bytes
has_steps m at bytes = steps_within (length bytes) m at bytes (omega arith)

-- ---- scripts

pub some_script : (f : Pgs) (more : List ℕ) → (s : Script) × pg_spell f more s
some_script f more =
    let h = has_steps f.mode f.start (f.waiting ++ more) in
    (record { turns = h.0; ending = h.1 }, h.2)

pub one_script : (f : Pgs) (more : List ℕ) (s t : Script) → pg_spell f more s → pg_spell f more t → s ≡ t
one_script f more s t h k =
    let one = one_reading f.mode f.start (f.waiting ++ more) s.turns t.turns s.ending t.ending h k in
    ap (λ (x : List Turn). record { turns = x; ending = s.ending }) one.0 ∙ ap (λ (e : Ending). record { turns = t.turns; ending = e }) one.1

-- ---- a cut

not_ended : (rest : List ℕ) (place : ℕ) (how : Reply → List ℕ) → Waiting rest place how ≡ Ended → ⊥
not_ended rest place how e = cc

-- the whole text goes on behind the first piece in some state
abbrev pub GoesOn : Mode → (at place : ℕ) (a rest : List ℕ) → List Turn → Type 0
GoesOn m at place a rest ts = (n : Mode) × ((b : List ℕ) (us : List Turn) (e : Ending) → PgSteps n place (rest ++ b) us e → PgSteps m at (a ++ b) (ts ++ us) e)

-- a message that has come whole is there when more comes, with what is behind it
pub turn_more : (m : Mode) (at : ℕ) (a b : List ℕ) (t : Turn) (ts : List Turn) (e : Ending) (k : Kind) (size : ℕ) → first m a ≡ found.Whole k size → t ≡ turn_of m k (text_in size a) → is_last k ≡ false
    → PgSteps (mode_after m k) (at + size) (drop size a ++ b) ts e → PgSteps m at (a ++ b) (t ∷ ts) e
turn_more m at a b t ts e k size is turn open_ behind =
    let lies = whole_lies m a k size is in (
      k,
      size,
      whole_more m a b k size is,
      turn ∙ ap (turn_of m k) (sym (text_more size a b lies.1)),
      subst (λ (l : Bool). MatchBool l (EndsHere ts e) (PgSteps (mode_after m k) (at + size) (drop size (a ++ b)) ts e)) (sym open_)
          (subst (λ (d : List ℕ). PgSteps (mode_after m k) (at + size) d ts e) (sym (drop-append-le size a b lies.1)) behind),
    )

cut_turn : (m : Mode) (at place : ℕ) (a rest : List ℕ) (how : Reply → List ℕ) (t : Turn) (ts : List Turn) (k : Kind) (size : ℕ) → first m a ≡ found.Whole k size → t ≡ turn_of m k (text_in size a)
    → (last : Bool) → is_last k ≡ last → MatchBool last (EndsHere ts (Waiting rest place how)) (PgSteps (mode_after m k) (at + size) (drop size a) ts (Waiting rest place how))
    → (PgSteps (mode_after m k) (at + size) (drop size a) ts (Waiting rest place how) → GoesOn (mode_after m k) (at + size) place (drop size a) rest ts)
    → GoesOn m at place a rest (t ∷ ts)
cut_turn m at place a rest how t ts k size found_ turn true is ends next = absurd (not_ended rest place how ends.1)
cut_turn m at place a rest how t ts k size found_ turn false is more next =
    let c = next more in
    (c.0, λ b us e y. turn_more m at a b t (ts ++ us) e k size found_ turn is (c.1 b us e y))

pub cut_anywhere : (m : Mode) (at place : ℕ) (a rest : List ℕ) (how : Reply → List ℕ) (ts : List Turn) → PgSteps m at a ts (Waiting rest place how) → GoesOn m at place a rest ts
cut_anywhere m at place a rest how [] x =
    (m, λ b us e y. subst (λ n. PgSteps m n (a ++ b) us e) x.1 (subst (λ (r : List ℕ). PgSteps m place (r ++ b) us e) x.0 y))
cut_anywhere m at place a rest how (t ∷ ts) x =
    cut_turn m at place a rest how t ts x.0 x.1 x.2 x.3 (is_last x.0) refl x.4 (λ more. cut_anywhere (mode_after m x.0) (at + x.1) place (drop x.1 a) rest how ts more)
