-- What the bytes that wait are, by how far they have been read.
use Rattle.std.proofs.Common.{◌≡◌, ◌≢◌, ℕ, ◌+◌, ◌<◌, ◌≤◌, inl, inr, min, List, [], ◌++◌, length, take, drop, sym, ap, ◌∙◌, subst, arith, append_assoc, length-append, Some}
use Rattle.std.proofs.lemmas.List.{length-take, take-append-drop, take-append-le, take_all, take_min, drop_at, drop-drop}
use Rattle.httparse.specs.Grammar.{RequestHead, print_request, ReadsRequest, NeverHasRequest}
use Rattle.httparse.proofs.GrammarLemmas.{ReadsRequest-append, request_unique}
use Rattle.qd_http.specs.declared.lines.Lines.TheVariants as lines
use Rattle.qd_http.specs.declared.lines.Search.{Search}
use Rattle.qd_http.specs.declared.head.Order.{Order}
use Rattle.qd_http.specs.declared.head.Head.TheVariants as read
use Rattle.qd_http.specs.declared.reader.Stage.{Stage}
use Rattle.qd_http.specs.declared.reader.Stage.TheVariants as stage
use Rattle.qd_http.specs.declared.limits.TheConstants.{MAX_HEAD_BYTES}
use Rattle.qd_http.specs.Heads.{BeginsHead, BeginsNoHead}
use Rattle.qd_http.specs.Steps.{BeginsNone, BeginsRequest, IsUnfinished}
use Rattle.qd_http.specs.Reading.{EndsWithHead, HasOrder, IsAt, IsOverfull, IsSearch, ReadsHead, lines_from, lines_of}
use Rattle.qd_http.proofs.LineLemmas.{lines_from-append, stays_done}
use Rattle.qd_http.proofs.EndLemmas.{done_with_empty_line, empty_line_there, empty_more, split_le}
use Rattle.qd_http.proofs.HeadLemmas.{head_ends}

-- ---- a search

-- a front of a front
take_within : (n m : ℕ) (xs : List ℕ) → n ≤ length (take m xs) → take n (take m xs) ≡ take n xs
take_within n m xs within =
    sym (take-append-le n (take m xs) (drop m xs) within) ∙ ap (take n) (take-append-drop m xs)

search_more : (s : Search) (m : ℕ) (bytes piece : List ℕ) → IsSearch s (take m bytes) → IsSearch s (take m (bytes ++ piece))
search_more s m bytes piece h =
    let old = length-take m bytes in
    let new = length-take m (bytes ++ piece) in
    let all = length-append bytes piece in
    let here : s.seen ≤ length bytes = omega (arith, h.within) in
    let there : s.seen ≤ length (take m (bytes ++ piece)) = omega (arith, h.within) in
    let same : take s.seen (take m (bytes ++ piece)) ≡ take s.seen (take m bytes) =
    take_within s.seen m (bytes ++ piece) there ∙ (take-append-le s.seen bytes piece here ∙ sym (take_within s.seen m bytes h.within)) in
    record { within = there; state = h.state ∙ ap lines_of (sym same); open_ = h.open_ }

begins_more : (bytes piece : List ℕ) (head : RequestHead) (rest : List ℕ) → BeginsHead bytes head rest → BeginsHead (bytes ++ piece) head (rest ++ piece)
begins_more bytes piece head rest h = record { reads = ReadsRequest-append bytes head rest piece h.reads; short = h.short; few = h.few }

-- what was known of the bytes that wait stands when a piece comes
pub at_more : (s : Stage) (bytes piece : List ℕ) → IsAt s bytes → IsAt s (bytes ++ piece)
at_more (stage.Head search) bytes piece h = search_more search MAX_HEAD_BYTES bytes piece h
at_more stage.Overfull bytes piece h = record { head = h.head; rest = h.rest ++ piece; reads = ReadsRequest-append bytes h.head h.rest piece h.reads; many = h.many }
at_more (stage.Body order) bytes piece h = record { head = h.head; rest = h.rest ++ piece; begins = begins_more bytes piece h.head h.rest h.begins; is = h.is }
at_more stage.Closing bytes piece h = tt

-- ---- no end yet

done_with : (front rest : List ℕ) → lines_of front ≡ lines.Done → lines_of (front ++ rest) ≡ lines.Done
done_with front rest done = lines_from-append lines.Before front rest ∙ (ap (λ s. lines_from s rest) done ∙ stays_done rest)

-- a head is in bytes that it fits in
pub done_with_head : (bytes : List ℕ) (m : ℕ) (head : RequestHead) (rest : List ℕ) → ReadsRequest bytes head rest → length (print_request head) ≤ m → lines_of (take m bytes) ≡ lines.Done
done_with_head bytes m head rest x fits =
    let long : length (print_request head) ≤ length (take m bytes) = omega (arith, length-take m bytes, ap length x.1, length-append (print_request head) rest) in
    let h = split_le (print_request head) rest (take m bytes) (drop m bytes) (sym x.1 ∙ sym (take-append-drop m bytes)) long in
    ap lines_of h.1 ∙ done_with (print_request head) h.0 (head_ends head x.0).done

no_head_yet : (bytes : List ℕ) → lines_of (take MAX_HEAD_BYTES bytes) ≢ lines.Done → BeginsNoHead bytes
no_head_yet bytes open_ head rest h = open_ (done_with_head bytes MAX_HEAD_BYTES head rest h.reads h.short)

-- where the end of the head is not in the bytes looked at, it is waited for, as long as it may come
pub open_waits : (bytes : List ℕ) → lines_of (take MAX_HEAD_BYTES bytes) ≢ lines.Done → length bytes ≤ MAX_HEAD_BYTES → IsUnfinished bytes
open_waits bytes open_ room = inl (record {
  none = no_head_yet bytes open_;
  room = room;
  possible = λ h. open_ (ap lines_of (take_all MAX_HEAD_BYTES bytes room) ∙ done_with_empty_line bytes h.0);
})

pub open_ends : (bytes : List ℕ) → lines_of (take MAX_HEAD_BYTES bytes) ≢ lines.Done → MAX_HEAD_BYTES < length bytes → BeginsNone bytes
open_ends bytes open_ full = inl (record { none = no_head_yet bytes open_; hopeless = inl full })

-- a search that has looked at all of the bytes
pub seen_all : (s : Search) (bytes : List ℕ) → IsSearch s bytes → s.seen ≡ length bytes → lines_of bytes ≢ lines.Done
seen_all s bytes h all done = h.open_ (h.state ∙ (ap lines_of (take_all s.seen bytes (omega arith)) ∙ done))

-- ---- too many fields

no_head_overfull : (bytes : List ℕ) → IsOverfull bytes → BeginsNoHead bytes
no_head_overfull bytes h head rest x =
    let same = (request_unique bytes h.head head h.rest rest h.reads x.reads).0 in
    let count : length h.head.fields ≡ length head.fields = ap (λ (r : RequestHead). length r.fields) same in
    absurd (omega (arith, h.many, x.few))

pub overfull_waits : (bytes : List ℕ) → IsOverfull bytes → length bytes ≤ MAX_HEAD_BYTES → IsUnfinished bytes
overfull_waits bytes h room = inl (record {
  none = no_head_overfull bytes h;
  room = room;
  possible = λ none. none.1 [] h.head (h.rest ++ []) (ReadsRequest-append bytes h.head h.rest [] h.reads);
})

pub overfull_ends : (bytes : List ℕ) → IsOverfull bytes → MAX_HEAD_BYTES < length bytes → BeginsNone bytes
overfull_ends bytes h full = inl (record { none = no_head_overfull bytes h; hopeless = inl full })

-- ---- a head that was read

read_more : (front tail : List ℕ) (head : RequestHead) → ReadsRequest front head [] → ReadsRequest (front ++ tail) head tail
read_more front tail head x = ReadsRequest-append front head [] tail x

front_short : (front : List ℕ) (head : RequestHead) → ReadsRequest front head [] → length front ≤ MAX_HEAD_BYTES → length (print_request head) ≤ MAX_HEAD_BYTES
front_short front head x short = omega (arith, ap length x.1, length-append (print_request head) [])

-- no head with these bytes at the front
pub wrong_ends : (front tail : List ℕ) → EndsWithHead front → length front ≤ MAX_HEAD_BYTES → ReadsHead front read.Wrong → BeginsNone (front ++ tail)
wrong_ends front tail ends short (inl h) =
    let never : NeverHasRequest (front ++ tail) = λ more head rest x. h.1 (tail ++ more) head rest (subst (λ t. ReadsRequest t head rest) (append_assoc front tail more) x) in
    inl (record {
      none = λ head rest x. h.1 tail head rest x.reads;
      hopeless = inr (empty_more front tail (empty_line_there front ends.done), never);
    })
wrong_ends front tail ends short (inr h) =
    inr (record {
      head = h.0;
      rest = tail;
      begins = record { reads = read_more front tail h.0 h.1; short = front_short front h.0 h.1 short; few = h.2.0 };
      untold = h.2.1;
    })

pub overfull_at : (front tail : List ℕ) → ReadsHead front read.Overfull → IsOverfull (front ++ tail)
overfull_at front tail (inl h) = absurd (cc (h.0))
overfull_at front tail (inr h) = record { head = h.0; rest = tail; reads = read_more front tail h.0 h.1; many = h.2 }

pub whole_at : (front tail : List ℕ) (order : Order) → length front ≤ MAX_HEAD_BYTES → ReadsHead front (read.Whole order) → HasOrder order (front ++ tail)
whole_at front tail order short (inl h) = absurd (cc (h.0))
whole_at front tail order short (inr h) =
    record { head = h.0; rest = tail; begins = record { reads = read_more front tail h.0 h.1; short = front_short front h.0 h.1 short; few = h.2.0 }; is = h.2.1 }

-- ---- a body

pub body_missing : (bytes : List ℕ) (order : Order) → HasOrder order bytes → length bytes < order.head + order.body → IsUnfinished bytes
body_missing bytes order h less = inr (record {
  head = h.head;
  rest = h.rest;
  size = order.body;
  begins = h.begins;
  told = h.is.body;
  missing = omega (arith, ap length h.begins.reads.1, length-append (print_request h.head) h.rest, h.is.size);
})

-- the request of an order whose body has come
pub body_whole : (bytes : List ℕ) (order : Order) (h : HasOrder order bytes) → order.head + order.body ≤ length bytes
    → BeginsRequest bytes h.head (take order.body (drop order.head bytes)) (drop (order.head + order.body) bytes) × (length (take order.body (drop order.head bytes)) ≡ order.body)
body_whole bytes order h enough =
    let rest_is : drop order.head bytes ≡ h.rest = ap (drop order.head) h.begins.reads.1 ∙ drop_at (print_request h.head) h.rest order.head (sym h.is.size) in
    let long : length bytes ≡ length (print_request h.head) + length h.rest = ap length h.begins.reads.1 ∙ length-append (print_request h.head) h.rest in
    let body = take order.body (drop order.head bytes) in
    let size : length body ≡ order.body = length-take order.body (drop order.head bytes) ∙ omega (arith, ap length rest_is, h.is.size) in
    let split : body ++ drop (order.head + order.body) bytes ≡ h.rest =
    ap (λ t. body ++ t) (sym (drop-drop order.body order.head bytes)) ∙ (take-append-drop order.body (drop order.head bytes) ∙ rest_is) in (
      record {
        begins = record { reads = subst (λ t. ReadsRequest bytes h.head t) (sym split) h.begins.reads; short = h.begins.short; few = h.begins.few };
        whole = h.is.body ∙ ap (λ n. Some n) (sym size);
      },
      size,
    )

-- ---- the bytes that are looked at

-- as many as a head may have
pub window : (bytes : List ℕ) (n : ℕ) → n ≡ min (length bytes) MAX_HEAD_BYTES → take n bytes ≡ take MAX_HEAD_BYTES bytes
window bytes n is =
    let same : n ≡ min MAX_HEAD_BYTES (length bytes) = omega arith in
    ap (λ k. take k bytes) same ∙ take_min MAX_HEAD_BYTES bytes

-- the front of them stands at the front of all
pub front_of : (bytes looked : List ℕ) (n : ℕ) → looked ≡ take MAX_HEAD_BYTES bytes → (tail : List ℕ) × (bytes ≡ take n looked ++ tail) × (length (take n looked) ≤ MAX_HEAD_BYTES)
front_of bytes looked n is =
    let rest = drop MAX_HEAD_BYTES bytes in (
      drop n looked ++ rest,
      sym (take-append-drop MAX_HEAD_BYTES bytes) ∙ (ap (λ t. t ++ rest) (sym is ∙ sym (take-append-drop n looked)) ∙ append_assoc (take n looked) (drop n looked) rest),
      omega (arith, length-take n looked, length-take MAX_HEAD_BYTES bytes, ap length is),
    )
