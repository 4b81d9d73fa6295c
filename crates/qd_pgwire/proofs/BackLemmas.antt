-- Messages are read as they were written.
use Rattle.std.proofs.Common.{◌≡◌, ℕ, ◌+◌, ◌-◌, ◌≤◌, true, false, List, [], ◌∷◌, ◌++◌, length, take, refl, ap, ◌∙◌, arith, length-append, append_assoc, Some}
use Rattle.std.specs.Prelude.{◌&&◌, ◌||◌, ◌==◌, not, nat_le, nat_lt, if◌then◌else◌, flat_map, slice_index}
use Rattle.std.specs.List.{list_any}
use Rattle.std.proofs.lemmas.Bool.{le-leb, le-ltb, lt-ltb}
use Rattle.std.proofs.lemmas.List.{take_at}
use Rattle.std.proofs.lemmas.Nat.{from_be_bytes-to_be_bytes_4}
use Rattle.qd_base.specs.declared.limits.TheConstants.{MAX_QUERY_BYTES}
use Rattle.qd_pgwire.specs.declared.limits.TheConstants.{MAX_MESSAGE_LENGTH, MAX_START_LENGTH, PROTOCOL_CODE}
use Rattle.qd_pgwire.specs.declared.found.Kind.{Kind}
use Rattle.qd_pgwire.specs.declared.found.Kind.TheVariants as kind
use Rattle.qd_pgwire.specs.declared.found.Mode.TheVariants as mode
use Rattle.qd_pgwire.specs.declared.found.Found.{Found}
use Rattle.qd_pgwire.specs.declared.found.Found.TheVariants as found
use Rattle.qd_pgwire.specs.Messages.{between, first, is_string, kind_of, message, message_with, named, names_parameters, start_with, startup, string, text_in, u32_at, u32_bytes, whole_of}

-- the length of a message is read back
length_back : (type : ℕ) (body rest : List ℕ) → length body ≤ 65537 → u32_at 1 (message type body ++ rest) ≡ 4 + length body
length_back type body rest short = from_be_bytes-to_be_bytes_4 (4 + length body) (omega arith)

-- and its body
body_back : (type : ℕ) (body rest : List ℕ) → between 5 (1 + (4 + length body)) (message type body ++ rest) ≡ body
body_back type body rest =
    let cut : 1 + (4 + length body) - 5 ≡ length body = omega arith in
    ap (λ n. take n (body ++ rest)) cut ∙ take_at body rest (length body) refl

long_enough : (type : ℕ) (body rest : List ℕ) → length (message type body ++ rest) ≡ 5 + (length body + length rest)
long_enough type body rest = omega (arith, length-append body rest)

pub message_back : (type : ℕ) (body rest : List ℕ) (k : Kind) → kind_of type ≡ Some k → length body ≤ 65537 → first mode.Ready (message type body ++ rest) ≡ whole_of k (5 + length body) body
message_back type body rest k is short =
    let bytes = message type body ++ rest in
    let long = long_enough type body rest in
    let size : u32_at 1 bytes ≡ 4 + length body = length_back type body rest short in
    let all : 1 + (4 + length body) ≡ 5 + length body = omega arith in
    ap (λ b. if b then found.Short else message_with (kind_of type) (u32_at 1 bytes) bytes) (le-ltb (length bytes) 5 (omega (arith, long)))
    ∙ (ap (λ o. message_with o (u32_at 1 bytes) bytes) is
    ∙ (ap (λ n. message_with (Some k) n bytes) size
    ∙ (ap (λ b. if b || nat_lt MAX_MESSAGE_LENGTH (4 + length body) then found.Wrong else (if nat_lt (length bytes) (1 + (4 + length body)) then found.Short else whole_of k (1 + (4 + length body)) (between 5 (1 + (4 + length body)) bytes))) (le-ltb (4 + length body) 4 (omega arith))
    ∙ (ap (λ b. if b then found.Wrong else (if nat_lt (length bytes) (1 + (4 + length body)) then found.Short else whole_of k (1 + (4 + length body)) (between 5 (1 + (4 + length body)) bytes))) (le-ltb MAX_MESSAGE_LENGTH (4 + length body) (omega arith))
    ∙ (ap (λ b. if b then found.Short else whole_of k (1 + (4 + length body)) (between 5 (1 + (4 + length body)) bytes)) (le-ltb (length bytes) (1 + (4 + length body)) (omega (arith, long)))
    ∙ (ap (whole_of k (1 + (4 + length body))) (body_back type body rest)
    ∙ ap (λ n. whole_of k n body) all))))))

-- a start of the protocol, with these bytes as its parameters
start_back : (body rest : List ℕ) → length body ≤ 9992
    → first mode.Starting ((u32_bytes (8 + length body) ++ u32_bytes PROTOCOL_CODE ++ body) ++ rest) ≡ found.Whole (kind.Start (names_parameters (8 + length body))) (8 + length body)
start_back body rest short =
    let bytes : List ℕ = (u32_bytes (8 + length body) ++ u32_bytes PROTOCOL_CODE ++ body) ++ rest in
    let len : ℕ = 8 + length body in
    let is : Found = found.Whole (kind.Start (names_parameters len)) len in
    let long : length bytes ≡ len + length rest = omega (arith, length-append body rest) in
    let size : u32_at 0 bytes ≡ len = from_be_bytes-to_be_bytes_4 len (omega arith) in
    ap (λ b. if b then found.Short else start_with (u32_at 0 bytes) PROTOCOL_CODE (length bytes)) (le-ltb (length bytes) 8 (omega (arith, long)))
    ∙ (ap (λ n. start_with n PROTOCOL_CODE (length bytes)) size
    ∙ (ap (λ b. if b && nat_le len MAX_START_LENGTH then (if nat_lt (length bytes) len then found.Short else is) else found.Wrong) (le-leb 8 len (omega arith))
    ∙ (ap (λ b. if b then (if nat_lt (length bytes) len then found.Short else is) else found.Wrong) (le-leb len MAX_START_LENGTH (omega arith))
    ∙ ap (λ b. if b then found.Short else is) (le-ltb (length bytes) len (omega (arith, long))))))

pub start_back_none : (rest : List ℕ) → first mode.Starting (startup [] ++ rest) ≡ found.Whole (kind.Start false) 9
start_back_none rest = start_back (0 ∷ []) rest (omega arith)

-- a parameter has two zero bytes
named_long : (p : List ℕ × List ℕ) (ps : List (List ℕ × List ℕ)) → 2 ≤ length (named (p ∷ ps))
named_long p ps =
    let more : List ℕ = flat_map (λ q. string q.0 ++ string q.1) ps in
    omega (arith, length-append ((string p.0 ++ string p.1) ++ more) (0 ∷ []), length-append (string p.0 ++ string p.1) more, length-append (string p.0) (string p.1), length-append p.0 (0 ∷ []))

pub start_back_some : (p : List ℕ × List ℕ) (ps : List (List ℕ × List ℕ)) (rest : List ℕ) → length (named (p ∷ ps)) ≤ 9992
    → first mode.Starting (startup (p ∷ ps) ++ rest) ≡ found.Whole (kind.Start true) (8 + length (named (p ∷ ps)))
start_back_some p ps rest short =
    start_back (named (p ∷ ps)) rest short
    ∙ ap (λ b. found.Whole (kind.Start b) (8 + length (named (p ∷ ps)))) (lt-ltb 9 (8 + length (named (p ∷ ps))) (omega (arith, named_long p ps)))

-- a text and its zero byte
last_back : (text : List ℕ) → slice_index (string text) (length text) ≡ 0
last_back [] = refl
last_back (b ∷ text) = last_back text

string_back : (text : List ℕ) → list_any (λ b. b == 0) text ≡ false → is_string (string text) ≡ true
string_back text plain =
    let long : length (string text) ≡ length text + 1 = length-append text (0 ∷ []) in
    let place : length (string text) - 1 ≡ length text = omega (arith, long) in
    let some : nat_lt 0 (length (string text)) ≡ true = lt-ltb 0 (length (string text)) (omega (arith, long)) in
    let zero_ : slice_index (string text) (length (string text) - 1) ≡ 0 = ap (slice_index (string text)) place ∙ last_back text in
    let front : take (length (string text) - 1) (string text) ≡ text = ap (λ n. take n (string text)) place ∙ take_at text (0 ∷ []) (length text) refl in
    ap (λ b. b && (slice_index (string text) (length (string text) - 1) == 0) && not (list_any (λ b. b == 0) (take (length (string text) - 1) (string text)))) some
    ∙ (ap (λ n. (n == 0) && not (list_any (λ b. b == 0) (take (length (string text) - 1) (string text)))) zero_
    ∙ (ap (λ (t : List ℕ). not (list_any (λ b. b == 0) t)) front ∙ ap not plain))

pub query_back : (text rest : List ℕ) → list_any (λ b. b == 0) text ≡ false → length text ≤ MAX_QUERY_BYTES → first mode.Ready (message 81 (string text) ++ rest) ≡ found.Whole kind.Query (6 + length text)
query_back text rest plain short =
    let long : length (string text) ≡ length text + 1 = length-append text (0 ∷ []) in
    let size : 5 + length (string text) ≡ 6 + length text = omega (arith, long) in
    message_back 81 (string text) rest kind.Query refl (omega (arith, long))
    ∙ (ap (λ b. if b then found.Whole kind.Query (5 + length (string text)) else found.Wrong) (string_back text plain)
    ∙ ap (λ n. found.Whole kind.Query n) size)

pub text_back : (text rest : List ℕ) → text_in (6 + length text) (message 81 (string text) ++ rest) ≡ text
text_back text rest =
    let cut : 6 + length text - 1 - 5 ≡ length text = omega arith in
    ap (λ n. take n (string text ++ rest)) cut ∙ (ap (take (length text)) (append_assoc text (0 ∷ []) rest) ∙ take_at text (0 ∷ rest) (length text) refl)
