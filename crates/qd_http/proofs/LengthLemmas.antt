-- How long the text of a statement may be: a target is too short to have one that is too long.
use Rattle.std.proofs.Common.{◌≡◌, ℕ, zero, suc, ◌+◌, ◌-◌, ◌*◌, ◌||◌, ◌<◌, ◌≤◌, ◌==◌, Bool, true, false, if◌then◌else◌, List, [], ◌∷◌, ◌++◌, length, take, drop, map, refl, sym, ap, subst, arith, inl, inr, length-append, Option, Some, None}
use Rattle.std.specs.Str.{bytes_eq}
use Rattle.std.specs.Str.Lossy.{after_first_chunk, replacement_bytes, utf8_invalid_len, utf8_lossy, utf8_lossy_within, utf8_valid_len}
use Rattle.std.specs.Prelude.{codes}
use Rattle.std.specs.List.{position_or_len}
use Rattle.std.proofs.lemmas.Bool.{cases_eq}
use Rattle.std.proofs.lemmas.List.{length-drop, length-map, length-take}
use Rattle.form_urlencoded.specs.Form.{decode, plus_to_space, raw_pairs, split_once}
use Rattle.form_urlencoded.proofs.FormLemmas.{raw_pairs-nil, raw_pairs_first, raw_pairs_skip}
use Rattle.percent_encoding.proofs.PercentLemmas.{length-percent_decode}
use Rattle.qd_http.specs.declared.wanted.Refusal.TheVariants as refusal
use Rattle.qd_http.specs.declared.wanted.Wanted.TheVariants as wanted
use Rattle.qd_http.specs.Targets.{first_in, first_named, path_of, query_of, statement_with, text_of, wanted_of, write_with}

at_most : (b : Bool) (xs ys : List ℕ) (n : ℕ) → length xs ≤ n → length ys ≤ n → length (if b then xs else ys) ≤ n
at_most true xs ys n p q = p
at_most false xs ys n p q = q

lossy_within : (k : ℕ) (bytes : List ℕ) → length (utf8_lossy_within k bytes) ≤ length bytes + 3 * k
lossy_within zero bytes = omega arith
lossy_within (suc k) bytes =
    let n = utf8_valid_len bytes in
    let rest = after_first_chunk bytes in
    let skip = length-drop (n + utf8_invalid_len (drop n bytes)) bytes in
    let more = lossy_within k rest in
    let front = length-take n bytes in
    let parts = length-append (take n bytes) (replacement_bytes ++ utf8_lossy_within k rest) in
    at_most (utf8_valid_len bytes == length bytes) bytes (take n bytes ++ (replacement_bytes ++ utf8_lossy_within k rest)) (length bytes + 3 * suc k) (omega arith) (omega (arith, skip, more, front, parts))

lossy_long : (bytes : List ℕ) → length (utf8_lossy bytes) ≤ 4 * length bytes
unfolding utf8_lossy
lossy_long bytes = omega (arith, lossy_within (length bytes) bytes)

-- a text has at most four times as many bytes as are written for it
text_long : (bytes : List ℕ) → length (text_of bytes) ≤ 4 * length bytes
text_long bytes =
    omega (arith, lossy_long (decode bytes), (length-percent_decode (map plus_to_space bytes)).0, length-map bytes plus_to_space)

-- the values of pairs are no longer than n
AreShort : ℕ → List (List ℕ × List ℕ) → Type 0
AreShort n [] = Unit {0}
AreShort n (pair ∷ pairs) = (length pair.1 ≤ n) × AreShort n pairs

short_nil : (n : ℕ) → AreShort n []
unfolding AreShort
short_nil n = tt

before_short : (s : ℕ) (bytes : List ℕ) → length (split_once s bytes).0 ≤ length bytes
before_short s bytes = omega (arith, length-take (position_or_len (λ b. b == s) bytes) bytes)

after_short : (s : ℕ) (bytes : List ℕ) → length (split_once s bytes).1 ≤ length bytes - 1
after_short s bytes = omega (arith, length-drop (position_or_len (λ b. b == s) bytes + 1) bytes)

pairs_short : (k n : ℕ) (bytes : List ℕ) → length bytes ≤ k → length bytes ≤ n → AreShort n (raw_pairs bytes)
unfolding AreShort
pairs_short zero n [] within small = subst (AreShort n) (sym raw_pairs-nil) tt
pairs_short zero n (b ∷ bytes) within small = absurd (omega arith)
pairs_short (suc k) n [] within small = subst (AreShort n) (sym raw_pairs-nil) tt
pairs_short (suc k) n (b ∷ bytes) within small =
    let all = b ∷ bytes in
    let front = (split_once 38 all).0 in
    let rest = pairs_short k n (split_once 38 all).1 (omega (arith, after_short 38 all)) (omega (arith, after_short 38 all)) in
    elim (cases_eq (length front) 0) [
      | inl none ↦ subst (AreShort n) (sym (raw_pairs_skip all none)) rest
      | inr some ↦ subst (AreShort n) (sym (raw_pairs_first all (omega (arith, positive (length front) some)))) (omega (arith, before_short 38 all, after_short 61 front), rest)
    ]
  where
    positive : (m : ℕ) → (m ≡ 0 → ⊥) → 0 < m
    positive zero h = absurd (h refl)
    positive (suc m) h = omega arith

first_short : (name : List ℕ) (n : ℕ) (pairs : List (List ℕ × List ℕ)) (text : List ℕ) → AreShort n pairs → first_in name pairs ≡ Some text → length text ≤ 4 * n
unfolding AreShort
first_short name n [] text short is = absurd (cc)
first_short name n (pair ∷ pairs) text short is = found (bytes_eq (text_of pair.0) name) is (first_short name n pairs text short.1)
  where
    found : (b : Bool) → (if b then Some (text_of pair.1) else first_in name pairs) ≡ Some text → (first_in name pairs ≡ Some text → length text ≤ 4 * n) → length text ≤ 4 * n
    found true is next = let same : text_of pair.1 ≡ text = cc in omega (arith, ap length same, text_long pair.1, short.0)
    found false is next = next is

-- where a statement is asked, it is that of the query
no_write : (unit : Option (List ℕ)) (text : List ℕ) → write_with unit ≡ wanted.Statement text → ⊥
no_write None text e = cc
no_write (Some unit) text e = either (bytes_eq unit (codes "n") || bytes_eq unit (codes "ns")) e
  where
    either : (b : Bool) → (if b then wanted.Write else wanted.Refused refusal.Query) ≡ wanted.Statement text → ⊥
    either true e = cc
    either false e = cc

statement_is : (query : Option (List ℕ)) (text : List ℕ) → statement_with query ≡ wanted.Statement text → query ≡ Some text
statement_is None text e = absurd (cc)
statement_is (Some query) text e = let same : query ≡ text = cc in ap (λ t. Some t) same

chosen : (write post exec get apply post' : Bool) (unit query : Option (List ℕ)) (text : List ℕ)
    → (if write then (if post then write_with unit else wanted.Refused refusal.Method)
    else (if exec then (if get then statement_with query else wanted.Refused refusal.Method)
    else (if apply then (if post' then wanted.Apply else wanted.Refused refusal.Method) else wanted.Refused refusal.Path))) ≡ wanted.Statement text → query ≡ Some text
chosen true true exec get apply post' unit query text e = absurd (no_write unit text e)
chosen true false exec get apply post' unit query text e = absurd (cc)
chosen false post true true apply post' unit query text e = statement_is query text e
chosen false post true false apply post' unit query text e = absurd (cc)
chosen false post false get true true unit query text e = absurd (cc)
chosen false post false get true false unit query text e = absurd (cc)
chosen false post false get false post' unit query text e = absurd (cc)

-- a statement has at most four times as many bytes as its target
pub statement_short : (method target text : List ℕ) → wanted_of method target ≡ wanted.Statement text → length text ≤ 4 * length target
statement_short method target text is =
    let path = path_of target in
    let query = query_of target in
    let found : first_named (codes "query") query ≡ Some text =
    chosen (bytes_eq path (codes "/write")) (bytes_eq method (codes "POST")) (bytes_eq path (codes "/exec")) (bytes_eq method (codes "GET")) (bytes_eq path (codes "/apply")) (bytes_eq method (codes "POST"))
    (first_named (codes "precision") query) (first_named (codes "query") query) text is in
    omega (arith, first_short (codes "query") (length query) (raw_pairs query) text (pairs_short (length query) (length query) query (omega arith) (omega arith)) found, after_short 63 target)
