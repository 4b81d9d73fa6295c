-- The head of a request as the grammar prints it: it ends with its empty line, and its fields take bytes.
use Rattle.std.proofs.Common.{◌≡◌, ℕ, ◌+◌, ◌*◌, ◌/◌, ◌<◌, ◌≤◌, List, [], ◌∷◌, ◌++◌, length, flat_map, refl, sym, ap, ◌∙◌, subst, arith, append_assoc, length-append, All}
use Rattle.std.proofs.lemmas.Bool.{ne_eqb}
use Rattle.std.proofs.lemmas.List.{append-nil}
use Rattle.std.specs.Prelude.{codes}
use Rattle.std.proofs.lemmas.List.Sums.{AllPass-from_list_all}
use Rattle.std.proofs.lemmas.List.Elements.{All-head, All-tail, All-cons, All-nil, All-append}
use Rattle.httparse.specs.Grammar.{is_uri_byte, is_value_byte, LineEnd, crlf, lf, print_end, print_blank, print_version, Field, print_field, IsField, RequestHead, print_request, IsRequestHead, ReadsRequest, HasNoRequest, NeverHasRequest}
use Rattle.httparse.specs.Spans.{RequestOverflows}
use Rattle.httparse.proofs.GrammarLemmas.{cons-append, print_request-append}
use Rattle.qd_http.specs.declared.lines.Lines.TheVariants as lines
use Rattle.qd_http.specs.Reading.{EndsWithHead, lines_after, lines_from, lines_of}
use Rattle.qd_http.proofs.LineLemmas.{IsNoFeed, line, lines_from-append, lines_of-push, no_feed, stays_before}
use Rattle.qd_http.proofs.EndLemmas.{unique_end}

-- ---- what stands before the empty line

lines_before : RequestHead → List ℕ
lines_before h = print_blank h.blank ++ ((h.method ++ ((32 ∷ (h.target ++ 32 ∷ print_version h.minor)) ++ print_end h.line_end)) ++ flat_map print_field h.fields)

print_is : (h : RequestHead) → print_request h ≡ lines_before h ++ print_end h.last
unfolding lines_before
print_is h =
    sym (append-nil (print_request h)) ∙ (print_request-append h [] ∙ regroup (print_blank h.blank) h.method h.target (print_version h.minor) (print_end h.line_end) (flat_map print_field h.fields) (print_end h.last))
  where
    regroup : (a b c d e f g : List ℕ) → a ++ (b ++ 32 ∷ (c ++ 32 ∷ (d ++ (e ++ ((f ++ g) ++ []))))) ≡ (a ++ ((b ++ ((32 ∷ (c ++ 32 ∷ d)) ++ e)) ++ f)) ++ g
    regroup a b c d e f g = simp (append_assoc, append-nil, cons-append)

version_free : (minor : ℕ) → minor ≤ 1 → All IsNoFeed (print_version minor)
version_free minor small =
    let word = no_feed is_uri_byte refl (codes "HTTP/1.") (AllPass-from_list_all is_uri_byte (codes "HTTP/1.") refl) in
    All-append IsNoFeed (codes "HTTP/1.") ((48 + minor) ∷ []) word (All-cons IsNoFeed (48 + minor) [] (ne_eqb (48 + minor) 10 (λ e. absurd (omega arith))) (All-nil IsNoFeed))

start_free : (h : RequestHead) → IsRequestHead h → All IsNoFeed (32 ∷ (h.target ++ 32 ∷ print_version h.minor))
start_free h valid =
    All-cons IsNoFeed 32 (h.target ++ 32 ∷ print_version h.minor) refl (All-append IsNoFeed h.target (32 ∷ print_version h.minor) (no_feed is_uri_byte refl h.target valid.target.1) (All-cons IsNoFeed 32 (print_version h.minor) refl (version_free h.minor valid.minor)))

fields_stay : (fields : List Field) → All IsField fields → lines_from lines.AfterLine (flat_map print_field fields) ≡ lines.AfterLine
fields_stay [] all = refl
fields_stay (f ∷ fields) all =
    let valid = All-head IsField f fields all in
    let free : All IsNoFeed (58 ∷ f.raw) = All-cons IsNoFeed 58 f.raw refl (no_feed is_value_byte refl f.raw valid.raw) in
    let one = line lines.AfterLine (λ e. cc) f.name (58 ∷ f.raw) f.end valid.name.0 valid.name.1 free in
    lines_from-append lines.AfterLine (print_field f) (flat_map print_field fields)
    ∙ ap (λ s. lines_from s (flat_map print_field fields)) (ap (λ t. lines_from lines.AfterLine t) (append_assoc f.name (58 ∷ f.raw) (print_end f.end)) ∙ one)
    ∙ fields_stay fields (All-tail IsField f fields all)

before_is : (h : RequestHead) → IsRequestHead h → lines_of (lines_before h) ≡ lines.AfterLine
unfolding lines_before
before_is h valid =
    let first = h.method ++ ((32 ∷ (h.target ++ 32 ∷ print_version h.minor)) ++ print_end h.line_end) in
    let fields = flat_map print_field h.fields in
    lines_from-append lines.Before (print_blank h.blank) (first ++ fields)
    ∙ ap (λ s. lines_from s (first ++ fields)) (stays_before h.blank)
    ∙ lines_from-append lines.Before first fields
    ∙ ap (λ s. lines_from s fields) (line lines.Before (λ e. cc) h.method (32 ∷ (h.target ++ 32 ∷ print_version h.minor)) h.line_end valid.method.0 valid.method.1 (start_free h valid))
    ∙ fields_stay h.fields valid.fields

-- ---- the empty line

ends_with : (front : List ℕ) (last : LineEnd) → lines_of front ≡ lines.AfterLine → EndsWithHead (front ++ print_end last)
ends_with front lf is = record {
  before = front;
  last = 10;
  is = refl;
  open_ = λ e. cc;
  done = lines_of-push front 10 ∙ ap (λ s. lines_after s 10) is;
}
ends_with front crlf is =
    let return : lines_of (front ++ 13 ∷ []) ≡ lines.AfterReturn = lines_of-push front 13 ∙ ap (λ s. lines_after s 13) is in
    let same : front ++ 13 ∷ 10 ∷ [] ≡ (front ++ 13 ∷ []) ++ 10 ∷ [] = sym (append_assoc front (13 ∷ []) (10 ∷ [])) in record {
      before = front ++ 13 ∷ [];
      last = 10;
      is = same;
      open_ = λ e. cc;
      done = ap lines_of same ∙ (lines_of-push (front ++ 13 ∷ []) 10 ∙ ap (λ s. lines_after s 10) return);
    }

-- a head ends with its empty line, and before that it doesn't
pub head_ends : (h : RequestHead) → IsRequestHead h → EndsWithHead (print_request h)
head_ends h valid = subst EndsWithHead (sym (print_is h)) (ends_with (lines_before h) h.last (before_is h valid))

-- bytes up to an empty line are the whole head, where they begin with one
pub reads_whole : (bytes more : List ℕ) (h : RequestHead) (rest : List ℕ) → EndsWithHead bytes → ReadsRequest (bytes ++ more) h rest → (bytes ≡ print_request h) × (more ≡ rest)
reads_whole bytes more h rest ends x = unique_end bytes (print_request h) more rest ends (head_ends h x.0) x.1

pub reads_all : (bytes more : List ℕ) (h : RequestHead) (rest : List ℕ) → EndsWithHead bytes → ReadsRequest (bytes ++ more) h rest → ReadsRequest bytes h []
reads_all bytes more h rest ends x = (x.0, (reads_whole bytes more h rest ends x).0 ∙ sym (append-nil (print_request h)))

-- ---- how many fields a head may have

end_long : (end : LineEnd) → 1 ≤ length (print_end end)
end_long crlf = omega arith
end_long lf = omega arith

field_long : (f : Field) → IsField f → 3 ≤ length (print_field f)
field_long f valid =
    omega (arith, length-append (f.name ++ 58 ∷ f.raw) (print_end f.end), length-append f.name (58 ∷ f.raw), valid.name.0, end_long f.end)

fields_long : (fields : List Field) → All IsField fields → 3 * length fields ≤ length (flat_map print_field fields)
fields_long [] all = omega arith
fields_long (f ∷ fields) all =
    omega (arith, length-append (print_field f) (flat_map print_field fields), field_long f (All-head IsField f fields all), fields_long fields (All-tail IsField f fields all))

-- each field has three bytes at least
pub head_long : (h : RequestHead) → IsRequestHead h → 3 * length h.fields < length (print_request h)
unfolding lines_before
head_long h valid =
    let first = h.method ++ ((32 ∷ (h.target ++ 32 ∷ print_version h.minor)) ++ print_end h.line_end) in
    let fields = flat_map print_field h.fields in
    omega (arith, ap length (print_is h), length-append (lines_before h) (print_end h.last), length-append (print_blank h.blank) (first ++ fields), length-append first fields, fields_long h.fields valid.fields, end_long h.last)

-- ---- bytes that are no head

pub never_without : (bytes : List ℕ) → EndsWithHead bytes → HasNoRequest bytes → NeverHasRequest bytes
never_without bytes ends none more h rest x = none h [] (reads_all bytes more h rest ends x)

pub never_too_many : (bytes : List ℕ) (room : ℕ) → EndsWithHead bytes → length bytes / 3 ≤ room → RequestOverflows room bytes → NeverHasRequest bytes
never_too_many bytes room ends enough over more h rest x =
    let many : room < length h.fields = over more h rest x in
    let same : length bytes ≡ length (print_request h) = ap length (reads_whole bytes more h rest ends x).0 in
    omega (arith, head_long h x.0)

-- a target is shorter than its head
pub target_short : (h : RequestHead) → length h.target ≤ length (print_request h)
unfolding lines_before
target_short h =
    let text = 32 ∷ (h.target ++ 32 ∷ print_version h.minor) in
    let first = h.method ++ (text ++ print_end h.line_end) in
    let fields = flat_map print_field h.fields in
    omega (
      arith,
      ap length (print_is h),
      length-append (lines_before h) (print_end h.last),
      length-append (print_blank h.blank) (first ++ fields),
      length-append first fields,
      length-append h.method (text ++ print_end h.line_end),
      length-append text (print_end h.line_end),
      length-append h.target (32 ∷ print_version h.minor),
    )
